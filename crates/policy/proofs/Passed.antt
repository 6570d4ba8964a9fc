-- What holds where the private tests of a gate pass.
use Rattle.std.proofs.Common.{ℕ, ◌+◌, ◌≡◌, ◌≤◌, ◌<◌, ◌⊎◌, inl, inr, Bool, true, false, refl, arith, List, [], ◌∷◌, length, Option, Some, None}
use Rattle.std.specs.Prelude.{not, ◌||◌, ◌==◌, nat_lt, nat_le, if◌then◌else◌}
use Rattle.std.proofs.lemmas.Bool.{eqb-true, eqb-false, ltb-false, leb-false}
use Rattle.labels.specs.Label.{ClassEntry, at_or_below}
use Rattle.rings.specs.Brackets.{in_order, may_read, may_write}
use Rattle.policy.specs.Known.{Known, usable, signals, modifies}
use Rattle.policy.specs.Verdict.{first_broken, ◌⇒◌}
use Rattle.policy.specs.Private.{make_known_tests, create_tests, delete_tests, swap_in_tests, fetch_tests, update_tests, brackets_of, InBounds}
use Rattle.policy.specs.declared.rule.Rule.{Rule}
use Rattle.policy.specs.declared.rule.Rule.TheVariants.{RingRead, RingWrite, NotModify, BadEntry, BadMode, KstFull, BadClass, Compat, BadBrackets, BadSize, Bounds}

-- what may be used is what is known
pub usable_known : (known : Option Known) (k : Known) → usable known ≡ Some k → known ≡ Some k
usable_known None k e = cc
usable_known (Some j) k e = by_signal (signals j.rights) e
  where
    by_signal : (b : Bool) → (if b then None else Some j) ≡ Some k → Some j ≡ Some k
    by_signal true e = cc
    by_signal false e = e

-- where tests of a list pass, each of them does
second_passed : (a b : Bool) (r s : Rule) → first_broken ((a ⇒ r) ∷ (b ⇒ s) ∷ []) ≡ None → b ≡ false
second_passed true b r s none = cc
second_passed false true r s none = cc
second_passed false false r s none = refl

third_passed : (a b c : Bool) (r s t : Rule) → first_broken ((a ⇒ r) ∷ (b ⇒ s) ∷ (c ⇒ t) ∷ []) ≡ None → c ≡ false
third_passed true b c r s t none = cc
third_passed false true c r s t none = cc
third_passed false false true r s t none = cc
third_passed false false false r s t none = refl

four_pass : (a b c d : Bool) → first_broken ((a, RingRead) ∷ (b, BadEntry) ∷ (c, BadMode) ∷ (d, KstFull) ∷ []) ≡ None → (b ≡ false) × (c ≡ false)
four_pass true b c d e = cc
four_pass false true c d e = cc
four_pass false false true d e = cc
four_pass false false false d e = (refl, refl)

seven_pass : (a b c d e f g : Bool) →
    first_broken ((a, NotModify) ∷ (b, RingWrite) ∷ (c, BadEntry) ∷ (d, BadClass) ∷ (e, Compat) ∷ (f, BadBrackets) ∷ (g, BadSize) ∷ []) ≡ None →
    (c ≡ false) × (d ≡ false) × (f ≡ false) × (g ≡ false)
seven_pass true b c d e f g h = cc
seven_pass false true c d e f g h = cc
seven_pass false false true d e f g h = cc
seven_pass false false false true e f g h = cc
seven_pass false false false false true f g h = cc
seven_pass false false false false false true g h = cc
seven_pass false false false false false false true h = cc
seven_pass false false false false false false false h = (refl, refl, refl, refl)

modes_by : (m : ℕ) (x y z : Bool) → (m == 1) ≡ x → (m == 2) ≡ y → (m == 3) ≡ z → not (x || y || z) ≡ false → (m ≡ 1) ⊎ (m ≡ 2) ⊎ (m ≡ 3)
modes_by m true y z a b c h = inl (eqb-true m 1 a)
modes_by m false true z a b c h = inr (inl (eqb-true m 2 b))
modes_by m false false true a b c h = inr (inr (eqb-true m 3 c))
modes_by m false false false a b c h = cc

-- the tests of makeknown: the entry is one of eight, and the mode 1, 2 or 3
make_known_passes : (ring entry mode : ℕ) (full : Bool) (k : Known) → first_broken (make_known_tests ring entry mode full k) ≡ None →
    (nat_lt 7 entry ≡ false) × (not (mode == 1 || mode == 2 || mode == 3) ≡ false)
make_known_passes ring entry mode full k e = four_pass (not (may_read k.brackets ring)) (nat_lt 7 entry) (not (mode == 1 || mode == 2 || mode == 3)) full e

pub make_known_entry : (ring entry mode : ℕ) (full : Bool) (k : Known) → first_broken (make_known_tests ring entry mode full k) ≡ None → entry < 8
make_known_entry ring entry mode full k e = let h : entry ≤ 7 = ltb-false 7 entry (make_known_passes ring entry mode full k e).0 in omega arith

pub make_known_mode : (ring entry mode : ℕ) (full : Bool) (k : Known) → first_broken (make_known_tests ring entry mode full k) ≡ None → (mode ≡ 1) ⊎ (mode ≡ 2) ⊎ (mode ≡ 3)
make_known_mode ring entry mode full k e = modes_by mode (mode == 1) (mode == 2) (mode == 3) refl refl refl (make_known_passes ring entry mode full k e).1

-- the test of delete: the entry is one of eight
pub delete_entry : (ring entry : ℕ) (k : Known) → first_broken (delete_tests ring entry k) ≡ None → entry < 8
delete_entry ring entry k e =
    let h : entry ≤ 7 = ltb-false 7 entry (third_passed (not (modifies k.rights)) (not (may_write k.brackets ring)) (nat_lt 7 entry) NotModify RingWrite BadEntry e) in omega arith

size_by : (n : ℕ) (x y : Bool) → (n == 0) ≡ x → nat_lt 64 n ≡ y → (x || y) ≡ false → (1 ≤ n) × (n ≤ 64)
size_by n true y a b h = cc
size_by n false true a b h = cc
size_by n false false a b h = let some = eqb-false n 0 a in (omega arith, ltb-false 64 n b)

brackets_by : (n : ℕ) (x y : Bool) → nat_lt 511 n ≡ x → in_order (brackets_of n) ≡ y → (x || not y) ≡ false → (n ≤ 511) × (in_order (brackets_of n) ≡ true)
brackets_by n true y a b h = cc
brackets_by n false false a b h = cc
brackets_by n false true a b h = (ltb-false 511 n a, b)

-- the tests of create: an entry, a class of the table, brackets in order, and a size
create_passes : (table : List ClassEntry) (ring entry class brackets size : ℕ) (k : Known) → first_broken (create_tests table ring entry class brackets size k) ≡ None →
    (nat_lt 7 entry ≡ false) × (nat_le (length table) class ≡ false) × ((nat_lt 511 brackets || not (in_order (brackets_of brackets))) ≡ false) × ((size == 0 || nat_lt 64 size) ≡ false)
create_passes table ring entry class brackets size k e =
    seven_pass (not (modifies k.rights)) (not (may_write k.brackets ring)) (nat_lt 7 entry) (nat_le (length table) class) (not (at_or_below table k.class class))
    (nat_lt 511 brackets || not (in_order (brackets_of brackets))) (size == 0 || nat_lt 64 size) e

pub create_entry : (table : List ClassEntry) (ring entry class brackets size : ℕ) (k : Known) → first_broken (create_tests table ring entry class brackets size k) ≡ None → entry < 8
create_entry table ring entry class brackets size k e = let h : entry ≤ 7 = ltb-false 7 entry (create_passes table ring entry class brackets size k e).0 in omega arith

pub create_class : (table : List ClassEntry) (ring entry class brackets size : ℕ) (k : Known) → first_broken (create_tests table ring entry class brackets size k) ≡ None → class < length table
create_class table ring entry class brackets size k e = leb-false (length table) class (create_passes table ring entry class brackets size k e).1

pub create_brackets : (table : List ClassEntry) (ring entry class brackets size : ℕ) (k : Known) → first_broken (create_tests table ring entry class brackets size k) ≡ None →
    (brackets ≤ 511) × (in_order (brackets_of brackets) ≡ true)
create_brackets table ring entry class brackets size k e = brackets_by brackets (nat_lt 511 brackets) (in_order (brackets_of brackets)) refl refl (create_passes table ring entry class brackets size k e).2

pub create_size : (table : List ClassEntry) (ring entry class brackets size : ℕ) (k : Known) → first_broken (create_tests table ring entry class brackets size k) ≡ None → (1 ≤ size) × (size ≤ 64)
create_size table ring entry class brackets size k e = size_by size (size == 0) (nat_lt 64 size) refl refl (create_passes table ring entry class brackets size k e).3

none_of : (a b c d : Bool) → (a || b || c || d) ≡ false → (a ≡ false) × (b ≡ false) × (c ≡ false) × (d ≡ false)
none_of true b c d e = cc
none_of false true c d e = cc
none_of false false true d e = cc
none_of false false false true e = cc
none_of false false false false e = (refl, refl, refl, refl)

within : (k : Known) (offset count pad : ℕ) → (count == 0 || nat_lt 64 count || nat_lt k.size (offset + count) || nat_lt 64 (pad + count)) ≡ false → InBounds k offset count pad
within k offset count pad e =
    let parts = none_of (count == 0) (nat_lt 64 count) (nat_lt k.size (offset + count)) (nat_lt 64 (pad + count)) e in
    let some : count ≡ 0 → ⊥ = eqb-false count 0 parts.0 in
    record { some = omega (arith, some); segment = ltb-false k.size (offset + count) parts.2; in_pad = ltb-false 64 (pad + count) parts.3 }

-- the tests of fetch and update: the words are within the segment and the pad
pub fetch_bounds : (ring offset count pad : ℕ) (k : Known) → first_broken (fetch_tests ring offset count pad k) ≡ None → InBounds k offset count pad
fetch_bounds ring offset count pad k none = within k offset count pad (second_passed (not (may_read k.brackets ring)) (count == 0 || nat_lt 64 count || nat_lt k.size (offset + count) || nat_lt 64 (pad + count)) RingRead Bounds none)

pub update_bounds : (ring offset count pad : ℕ) (k : Known) → first_broken (update_tests ring offset count pad k) ≡ None → InBounds k offset count pad
update_bounds ring offset count pad k none = within k offset count pad (third_passed (not (modifies k.rights)) (not (may_write k.brackets ring)) (count == 0 || nat_lt 64 count || nat_lt k.size (offset + count) || nat_lt 64 (pad + count)) NotModify RingWrite Bounds none)

-- the test of swapin: the segment has a word
pub swap_in_size : (ring : ℕ) (k : Known) → first_broken (swap_in_tests ring k) ≡ None → 1 ≤ k.size
swap_in_size ring k none =
    let e : (k.size == 0) ≡ false = third_passed (not (modifies k.rights)) (not (may_write k.brackets ring)) (k.size == 0) NotModify RingWrite BadSize none in
    let f : k.size ≡ 0 → ⊥ = eqb-false k.size 0 e in omega (arith, f)
