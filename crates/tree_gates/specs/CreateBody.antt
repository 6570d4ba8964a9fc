-- What is left of the body of create.
use Rattle.std.specs.Prelude.{ℕ, Option, Some, None}
use Rattle.words_layout.specs.Words.{NextSerial, EntryOf, plus_one}
use Rattle.words_layout.specs.Coding.{entry_of, pack_entry}
use Rattle.policy.specs.Known.{new_alias}
use Rattle.policy.specs.Outcome.{Outcome, Refused, Value}
use Rattle.policy.specs.declared.rule.Rule.{Rule}
use Rattle.turns.specs.Bodies.{Outer}
use Rattle.tree_gates.specs.Tree.{create_body, create_entry, create_serial}
use Rattle.tree_gates.specs.declared.create_body.Rest.{Rest}
use Rattle.tree_gates.specs.declared.create_body.Rest.TheVariants as R
use Rattle.tree_gates.specs.declared.create_body.CreateBody.{CreateBody}

-- the whole body
abbrev pub create_whole : CreateBody → Outer Outcome
create_whole s = create_body s.seg s.entry s.class s.brackets s.size

-- the entry is stored last
abbrev pub set_entry : CreateBody → Outer Outcome
set_entry s = Outer.Store (EntryOf s.seg s.entry) (pack_entry (new_alias s.class s.brackets s.size s.serial)) (Outer.Shows (Value s.serial))

-- what the body comes to: a refusal, or the serial of the new segment
abbrev pub create_shows : ℕ → Option Rule → Outcome
create_shows n (Some rule) = Refused rule
create_shows n None = Value n

-- what is left, by what is next
abbrev pub create_rest : CreateBody → Rest → Outer Outcome
create_rest s R.Home = create_whole s
create_rest s R.Entry = Outer.Load (EntryOf s.seg s.entry) (λ w. create_entry s.seg s.entry s.class s.brackets s.size (entry_of w))
create_rest s R.Serial = Outer.Load NextSerial (λ n. create_serial s.seg s.entry s.class s.brackets s.size n)
create_rest s R.SetSerial = Outer.Store NextSerial (plus_one s.serial) (set_entry s)
create_rest s R.SetEntry = set_entry s
create_rest s (R.Shown refusal) = Outer.Shows (create_shows s.serial refusal)

-- what is left of the body
abbrev pub create_left : CreateBody → Outer Outcome
create_left s = create_rest s s.rest
