-- What the body of update does next.
use Rattle.std.specs.Prelude.{Bool, true, false}
use Rattle.data_gates.specs.declared.update.Rest.{Rest}
use Rattle.data_gates.specs.declared.update.Rest.TheVariants as R

-- an operation of the body is next
abbrev pub holds : Rest → Bool
holds R.Home = true
holds R.Words = true
holds R.Count = true
holds (R.Shown refusal) = false
