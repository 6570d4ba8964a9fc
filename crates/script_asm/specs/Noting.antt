-- Where names stand, line after line. Only private functions speak of it.
use Rattle.std.specs.Prelude.{ℕ, List, Bool, true, false, Option, Some, None}
use Rattle.std.specs.Borrow.{Bor}
use Rattle.std.specs.Str.{bytes_eq}
use Rattle.indexmap.specs.IndexMap.{IndexMap, get_by}
use Rattle.script_asm.specs.declared.named.Named.{Named}
use Rattle.script_asm.specs.Operand.{Word}

-- where the map says that a name stands
abbrev pub place_in : {S : Type 0} → IndexMap (Bor (List ℕ)) Named S → Word → Option Named
place_in m w = get_by (λ k. bytes_eq w k.now) m

-- where a name stands after one more line: where it stood, or else here, if the line has the name
abbrev pub noted : Option Named → Bool → Named → Option Named
noted (Some old) has here = Some old
noted None true here = Some here
noted None false here = None
