-- What the body of makeknown does next.
use Rattle.std.specs.Prelude.{◌≡◌, Bool, true, false}
use Rattle.rings.specs.Brackets.{in_order}
use Rattle.words_layout.specs.Coding.{alias_in_range}
use Rattle.words_layout.specs.declared.coding.Alias.{Alias}
use Rattle.policy.specs.Known.{alias_brackets}
use Rattle.tree_gates.specs.declared.make_known.Rest.{Rest}
use Rattle.tree_gates.specs.declared.make_known.Rest.TheVariants as R

-- an operation of the body is next
abbrev pub loads : Rest → Bool
loads R.Entry = true
loads (R.Refused rule) = false
loads (R.Learns a) = false

-- an entry that has a spelling, with its brackets in order
abbrev pub IsEntry : Alias → Type 0
IsEntry a = (alias_in_range a ≡ true) × (in_order (alias_brackets a) ≡ true)
