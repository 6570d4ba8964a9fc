-- What the state shows an instruction when it takes effect.
use Rattle.std.specs.Prelude.{ℕ, ◌+◌, ◌%◌, ◌^◌, List, if◌then◌else◌, nat_lt, length, Option, Some, None}
use Rattle.std.specs.List.{filter}
use Rattle.lists.specs.Lists.{below}
use Rattle.labels.specs.Label.{ClassEntry, label_of, at_or_below}
use Rattle.words_layout.specs.declared.coding.Alias.{Alias}
use Rattle.policy.specs.Known.{Known, rights_of, alias_brackets, known_by}
use Rattle.policy.specs.Verdict.{verdict}
use Rattle.policy.specs.declared.rule.Rule.{Rule}
use Rattle.policy.specs.declared.rule.Rule.TheVariants.{NoEntry}

-- how many components of an eventcount were looked at, and their sum
pub record Tally : Type 0 where
  pub seen : ℕ
  pub sum : ℕ

-- what the state shows
pub data Outcome : Type 0 where
  Refused : Rule → Outcome
  Value : ℕ → Outcome
  Learns : Known → Outcome  -- a segment for the known table
  Words : (pad : ℕ) → List ℕ → Outcome  -- words for the pad, from that place on
  Printed : (place value : ℕ) → Outcome  -- a console line
  Looked : Option Tally → Outcome  -- one look more, and the tally so far; none where it starts again
  Counted : (sum : ℕ) → Outcome  -- the last look, and the sum of all

-- what an entry shows by a verdict on it
abbrev pub judged : Option Rule → Known → Outcome
judged None k = Learns k
judged (Some rule) k = Refused rule

-- what an entry of a mentor of class m shows a subject of class d in a ring, by the mode
abbrev pub shown : List ClassEntry → ℕ → ℕ → ℕ → ℕ → Option Alias → Outcome
shown table d ring m mode None = Refused NoEntry
shown table d ring m mode (Some a) =
    judged (verdict (label_of table d) ring (label_of table a.class) (alias_brackets a) mode) (known_by m a (rights_of mode))

-- the classes whose components make up the eventcount of a segment of class x, in class order
abbrev pub components : List ClassEntry → ℕ → List ℕ
components table x = filter (λ c. at_or_below table c x) (below (length table))

-- What the look at the next of n components shows: the sum at the last one, unless more is wanted.
abbrev pub tallied : (n wanted : ℕ) → Tally → ℕ → Outcome
tallied n wanted t value = let sum = (t.sum + value) % 2 ^ 64 in
    if nat_lt (t.seen + 1) n then Looked (Some (record { seen = t.seen + 1; sum = sum }))
    else (if nat_lt sum wanted then Looked None else Counted sum)
