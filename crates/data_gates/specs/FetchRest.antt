-- What the body of fetch does next.
use Rattle.std.specs.Prelude.{Bool, true, false}
use Rattle.data_gates.specs.declared.fetch.Rest.{Rest}
use Rattle.data_gates.specs.declared.fetch.Rest.TheVariants as R

-- an operation of the body is next
abbrev pub loads : Rest → Bool
loads R.Home = true
loads R.Words = true
loads (R.Shown refusal) = false
