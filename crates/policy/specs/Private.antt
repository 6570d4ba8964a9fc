-- The private tests of the gates, in order: by the caller's ring, the known segment, the operands and the class table.
use Rattle.std.specs.Prelude.{ℕ, ◌+◌, ◌/◌, ◌%◌, ◌≤◌, Bool, not, ◌||◌, List, [], ◌∷◌, ◌==◌, nat_le, nat_lt, length}
use Rattle.labels.specs.Label.{ClassEntry, at_or_below}
use Rattle.rings.specs.Brackets.{Brackets, in_order, may_read, may_write}
use Rattle.policy.specs.Known.{Known, modifies, signals}
use Rattle.policy.specs.Verdict.{◌⇒◌}
use Rattle.policy.specs.declared.rule.Rule.{Rule}
use Rattle.policy.specs.declared.rule.Rule.TheVariants.{RingRead, RingWrite, NotModify, BadEntry, BadMode, KstFull, BadClass, Compat, BadBrackets, BadSize, Bounds}

-- the ring may not read
abbrev pub ring_read_test : ℕ → Known → Bool × Rule
ring_read_test ring k = not (may_read k.brackets ring) ⇒ RingRead

-- the entry is above 7
abbrev pub entry_test : ℕ → Bool × Rule
entry_test entry = nat_lt 7 entry ⇒ BadEntry

-- count words from offset on, and as many of the pad: none of them past the end
abbrev pub bounds_test : Known → ℕ → ℕ → ℕ → Bool × Rule
bounds_test k offset count pad =
    count == 0 || nat_lt 64 count || nat_lt k.size (offset + count) || nat_lt 64 (pad + count) ⇒ Bounds

-- all the words are within the segment and the pad
pub record InBounds (k : Known) (offset count pad : ℕ) : Type 0 where
  pub some : 1 ≤ count
  pub segment : offset + count ≤ k.size
  pub in_pad : pad + count ≤ 64

-- before reading
abbrev pub read_tests : ℕ → Known → List (Bool × Rule)
read_tests ring k = ring_read_test ring k ∷ []

-- before changing
abbrev pub change_tests : ℕ → Known → List (Bool × Rule) → List (Bool × Rule)
change_tests ring k more = (not (modifies k.rights) ⇒ NotModify) ∷ (not (may_write k.brackets ring) ⇒ RingWrite) ∷ more

-- before makeknown; full says that no known place is empty
abbrev pub make_known_tests : ℕ → ℕ → ℕ → Bool → Known → List (Bool × Rule)
make_known_tests ring entry mode full k =
    ring_read_test ring k ∷ entry_test entry ∷ (not (mode == 1 || mode == 2 || mode == 3) ⇒ BadMode) ∷ (full ⇒ KstFull) ∷ []

-- brackets as a number, 64 r1 + 8 r2 + r3
abbrev pub brackets_of : ℕ → Brackets
brackets_of n = record { r1 = n / 64; r2 = n / 8 % 8; r3 = n % 8 }

-- before create
abbrev pub create_tests : List ClassEntry → ℕ → ℕ → ℕ → ℕ → ℕ → Known → List (Bool × Rule)
create_tests table ring entry class brackets size k = change_tests ring k (
    entry_test entry ∷
    (nat_le (length table) class ⇒ BadClass) ∷
    (not (at_or_below table k.class class) ⇒ Compat) ∷
    (nat_lt 511 brackets || not (in_order (brackets_of brackets)) ⇒ BadBrackets) ∷
    (size == 0 || nat_lt 64 size ⇒ BadSize) ∷ [])

-- before delete
abbrev pub delete_tests : ℕ → ℕ → Known → List (Bool × Rule)
delete_tests ring entry k = change_tests ring k (entry_test entry ∷ [])

-- before swapin: the root has no words
abbrev pub swap_in_tests : ℕ → Known → List (Bool × Rule)
swap_in_tests ring k = change_tests ring k ((k.size == 0 ⇒ BadSize) ∷ [])

-- before swapout
abbrev pub swap_out_tests : ℕ → Known → List (Bool × Rule)
swap_out_tests ring k = change_tests ring k []

-- before fetch
abbrev pub fetch_tests : ℕ → ℕ → ℕ → ℕ → Known → List (Bool × Rule)
fetch_tests ring offset count pad k = ring_read_test ring k ∷ bounds_test k offset count pad ∷ []

-- before update
abbrev pub update_tests : ℕ → ℕ → ℕ → ℕ → Known → List (Bool × Rule)
update_tests ring offset count pad k = change_tests ring k (bounds_test k offset count pad ∷ [])

-- to signal is enough to advance
abbrev pub advance_tests : ℕ → Known → List (Bool × Rule)
advance_tests ring k = (not (modifies k.rights || signals k.rights) ⇒ NotModify) ∷ (not (may_write k.brackets ring) ⇒ RingWrite) ∷ []

-- before ticket
abbrev pub ticket_tests : ℕ → Known → List (Bool × Rule)
ticket_tests ring k = change_tests ring k []
