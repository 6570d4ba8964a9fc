-- What the steps of delete are: the child's entries one after the other.
use Rattle.std.proofs.Common.{ℕ, suc, ◌+◌, ◌-◌, ◌<◌, ◌≡◌, refl, ◌∙◌, Option, Some, None, arith}
use Rattle.std.specs.Prelude.{◌==◌, if◌then◌else◌, is_some}
use Rattle.std.proofs.lemmas.Bool.{eq-eqb, ne_eqb}
use Rattle.words_layout.specs.Segments.{seg}
use Rattle.words_layout.specs.Words.{EntryOf}
use Rattle.words_layout.specs.Coding.{entry_of}
use Rattle.words_layout.specs.declared.segment.SegId.{SegId}
use Rattle.words_layout.specs.declared.coding.Alias.{Alias}
use Rattle.policy.specs.Outcome.{Refused, Value}
use Rattle.policy.specs.Outcome.{Outcome}
use Rattle.policy.specs.declared.rule.Rule.TheVariants.{NotEmpty}
use Rattle.turns.specs.Bodies.{Outer}
use Rattle.gate_parts.specs.Bodies.{behind}
use Rattle.tree_gates.specs.Tree.{check_entries, delete_child, delete_entry}

-- while an entry of the child is left, it is loaded
pub check_next : (child : SegId) (i : ℕ) (after : Outer Outcome) → i < 8 →
    check_entries child i (8 - i) after ≡ Outer.Load (EntryOf child i) (λ w. if is_some (entry_of w) then Outer.Shows (Refused NotEmpty) else check_entries child (i + 1) (8 - (i + 1)) after)
check_next child i after some = let e : 8 - i ≡ suc (8 - (i + 1)) = omega arith in rw e refl

-- one that isn't empty ends the body
pub taken_told : (child : SegId) (i answer : ℕ) (after : Outer Outcome) (a : Alias) → i < 8 → entry_of answer ≡ Some a →
    behind (check_entries child i (8 - i) after) answer ≡ Outer.Shows (Refused NotEmpty)
taken_told child i answer after a some e = rw (check_next child i after some) (rw e refl)

-- behind an empty one the next one follows
pub empty_told : (child : SegId) (i answer : ℕ) (after : Outer Outcome) → i < 8 → entry_of answer ≡ None →
    behind (check_entries child i (8 - i) after) answer ≡ check_entries child (i + 1) (8 - (i + 1)) after
empty_told child i answer after some e = rw (check_next child i after some) (rw e refl)

-- and behind the last one the rest of the body
pub last_told : (child : SegId) (i answer : ℕ) (after : Outer Outcome) → i + 1 ≡ 8 → entry_of answer ≡ None →
    behind (check_entries child i (8 - i) after) answer ≡ after
last_told child i answer after last e =
    let over : 8 - (i + 1) ≡ 0 = omega arith in
    empty_told child i answer after (omega arith) e ∙ rw over refl

-- an entry with a child of the own class: its entries follow
pub own_told : (d : ℕ) (u : SegId) (e : ℕ) (a : Alias) → a.class ≡ d →
    delete_entry d u e (Some a) ≡ check_entries (seg d a.serial) 0 8 (Outer.Enter (seg d a.serial) (delete_child (seg d a.serial) u e))
own_told d u e a own = rw (eq-eqb a.class d own) refl

-- one with a child of a higher class: the entry is emptied
pub higher_told : (d : ℕ) (u : SegId) (e : ℕ) (a : Alias) → (a.class ≡ d → ⊥) → delete_entry d u e (Some a) ≡ Outer.Store (EntryOf u e) 0 (Outer.Shows (Value 0))
higher_told d u e a other = rw (ne_eqb a.class d other) refl
