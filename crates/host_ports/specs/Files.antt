-- What the host on files tells of its ports. For `FileHost`.
use Rattle.std.specs.Prelude.{◌≡◌, ℕ, zero, suc, List, slice_index_or, slice_set, Ok, IsErr}
use Rattle.std.specs.declared.result.Result.{Result}
use Rattle.std.specs.declared.option.Option.TheVariants.{None}
use Rattle.host_ports.specs.Ports.{Port, one_more}

-- no bytes, and how many pulls and pushes of that port have failed
abbrev pub counted_port : List ℕ → List ℕ → ℕ → Port
counted_port pulls pushes port = record { left = None; taken = None; pulls = slice_index_or pulls port 0; pushes = slice_index_or pushes port 0 }

-- what becomes of a write that took so many bytes of a piece of so many: nothing taken of a piece that isn't empty is an error
abbrev pub TakesSome : {E : Type 0} → ℕ → ℕ → Result ℕ E → Type 0
TakesSome (suc offered) zero result = IsErr result
TakesSome offered n result = result ≡ Ok n

-- the counts, of which that of a port is one higher
abbrev pub counted_at : List ℕ → ℕ → List ℕ
counted_at counts port = slice_set counts port (one_more (slice_index_or counts port 0))
