-- The fault that is found is the first one, and the only one that is the first.
use Rattle.std.proofs.Common.{◌≡◌, ℕ, suc, ◌+◌, ◌-◌, ◌<◌, ◌≤◌, Bool, true, false, cond, not, ◌&&◌, leb, List, [], ◌∷◌, length, get_or, position, slice_get, Option, Some, None, IsTrue, refl, sym, ap, ◌∙◌, inl, inr, ◌⊎◌, arith}
use Rattle.std.specs.List.{list_all, position_or_len}
use Rattle.std.specs.Option.{option_map_or}
use Rattle.std.proofs.lemmas.Bool.{cases_lt, cases_order, lt-ltb, le-ltb, le-leb, both_ways, not-true, and_parts, leb-true}
use Rattle.std.proofs.lemmas.Option.{slice_get-get_or, slice_get_cases}
use Rattle.std.proofs.lemmas.List.Quantifiers.{position-Some}
use Rattle.std.proofs.lemmas.List.Sums.{AllPass-from_list_all}
use Rattle.script_lang.specs.declared.instr.Instr.{Instr}
use Rattle.script_lang.specs.declared.instr.Instr.TheVariants.{Halt}
use Rattle.script_lang.specs.Program.{target_ok, program_ok}
use Rattle.script_lang.specs.Fault.{has_bad_target, ends_well, IsLeastBadTarget, IsBadEnd, IsFirstFault, or_bad_end, first_fault}

abbrev is_bad : ℕ → Instr → Bool
is_bad n i = not (target_ok n i)

abbrev first_bad : List Instr → Option ℕ
first_bad list = position (is_bad (length list)) list

-- ---- places of a list

holds_within : (p : Instr → Bool) (xs : List Instr) (k : ℕ) → option_map_or p (slice_get xs k) false ≡ true → k < length xs
holds_within p xs k e = elim (slice_get_cases xs k).1 [
  | inl found ↦ found.1
  | inr past ↦ absurd (let e2 : option_map_or p None false ≡ true = rw past.1 at e in cc)
]

holds_at : (p : Instr → Bool) (xs : List Instr) (k : ℕ) → k < length xs → option_map_or p (slice_get xs k) false ≡ p (get_or xs k Halt)
holds_at p xs k lt = rw (slice_get-get_or xs k Halt lt) refl

all_from_none : (p : Instr → Bool) (xs : List Instr) → length xs ≤ position_or_len (λ i. not (p i)) xs → list_all p xs ≡ true
all_from_none p [] past = refl
all_from_none p (x ∷ xs) past =
    elim (p x) as (λ b. suc (length xs) ≤ cond (not (not b)) (1 + position_or_len (λ i. not (p i)) xs) 0 → (b && list_all p xs) ≡ true) [
      | true ↦ λ le. all_from_none p xs (omega arith)
      | false ↦ λ le. absurd (omega arith)
    ] past

none_past : (p : Instr → Bool) (xs : List Instr) → position p xs ≡ None → length xs ≤ position_or_len p xs
none_past p xs e = elim (cases_lt (position_or_len p xs) (length xs)) [
  | inl lt ↦ absurd (let some : position p xs ≡ Some (position_or_len p xs) = rw (lt-ltb (position_or_len p xs) (length xs) lt) refl in cc)
  | inr past ↦ past
]

-- ---- both cases of the first bad target

found_bad : (list : List Instr) (at : ℕ) → first_bad list ≡ Some at → IsLeastBadTarget list at
found_bad list at e =
    let is = position-Some (is_bad (length list)) list at Halt e in
    record {
      here = holds_at (is_bad (length list)) list at is.0 ∙ is.1;
      before = λ k lt. holds_at (is_bad (length list)) list k (omega (arith, is.0, lt)) ∙ is.2 k lt;
    }

found_none : (list : List Instr) → first_bad list ≡ None → list_all (λ i. target_ok (length list) i) list ≡ true
found_none list e = all_from_none (target_ok (length list)) list (none_past (is_bad (length list)) list e)

none_bad : (list : List Instr) (at : ℕ) → list_all (λ i. target_ok (length list) i) list ≡ true → has_bad_target list at ≡ true → ⊥
none_bad list at all bad =
    let lt = holds_within (is_bad (length list)) list at bad in
    let here : is_bad (length list) (get_or list at Halt) ≡ true = sym (holds_at (is_bad (length list)) list at lt) ∙ bad in
    let good = AllPass-from_list_all (target_ok (length list)) list all at Halt lt in
    both_ways (target_ok (length list) (get_or list at Halt)) (not-true (target_ok (length list) (get_or list at Halt)) here) good

same_least : (list : List Instr) (i k : ℕ) → IsLeastBadTarget list i → IsLeastBadTarget list k → i ≡ k
same_least list i k a b = elim (cases_order i k) [
  | inl same ↦ same
  | inr (inl lt) ↦ absurd (both_ways (has_bad_target list i) (b.before i lt) a.here)
  | inr (inr lt) ↦ absurd (both_ways (has_bad_target list k) (a.before k lt) b.here)
]

-- ---- the two sides

bad_end_is : (list : List Instr) (at : ℕ) (b : Bool) → ends_well list ≡ b → list_all (λ i. target_ok (length list) i) list ≡ true → cond b None (Some (length list - 1)) ≡ Some at → IsBadEnd list at
bad_end_is list at true is all e = absurd cc
bad_end_is list at false is all e = record { targets = all; last = cc; end = is }

fault_found : (list : List Instr) (at : ℕ) (o : Option ℕ) → first_bad list ≡ o → or_bad_end o list ≡ Some at → IsLeastBadTarget list at ⊎ IsBadEnd list at
fault_found list at (Some i) is e = inl (found_bad list at (is ∙ e))
fault_found list at None is e = inr (bad_end_is list at (ends_well list) refl (found_none list is) e)

pub fault_is : (list : List Instr) (at : ℕ) → first_fault list ≡ Some at → IsFirstFault list at
unfolding first_fault
fault_is list at e = elim (cases_lt 256 (length list)) [
  | inl long ↦ inl (long, let e2 : Some 256 ≡ Some at = rw (lt-ltb 256 (length list) long) at e in cc)
  | inr short ↦ inr (short, fault_found list at (first_bad list) refl (rw (le-ltb 256 (length list) short) at e))
]

one_found : (list : List Instr) (at : ℕ) (o : Option ℕ) → first_bad list ≡ o → IsLeastBadTarget list at ⊎ IsBadEnd list at → or_bad_end o list ≡ Some at
one_found list at (Some i) is (inl least) = ap (λ (n : ℕ). Some n) (same_least list i at (found_bad list i is) least)
one_found list at (Some i) is (inr end) = absurd (none_bad list i end.targets (found_bad list i is).here)
one_found list at None is (inl least) = absurd (none_bad list at (found_none list is) least.here)
one_found list at None is (inr end) = rw end.end (ap (λ (n : ℕ). Some n) (sym end.last))

pub fault_only : (list : List Instr) (at : ℕ) → IsFirstFault list at → first_fault list ≡ Some at
unfolding first_fault
fault_only list at (inl long) = rw (lt-ltb 256 (length list) long.0) (ap (λ (n : ℕ). Some n) (sym long.1))
fault_only list at (inr short) = rw (le-ltb 256 (length list) short.0) (one_found list at (first_bad list) refl short.1)

-- ---- no fault

some_end : (list : List Instr) → ends_well list ≡ true → 1 ≤ length list
some_end [] e = absurd cc
some_end (x ∷ xs) e = omega arith

good_end : (list : List Instr) (b : Bool) → ends_well list ≡ b → cond b None (Some (length list - 1)) ≡ None → ends_well list ≡ true
good_end list true is e = is
good_end list false is e = absurd cc

good_list : (list : List Instr) (o : Option ℕ) → first_bad list ≡ o → length list ≤ 256 → or_bad_end o list ≡ None → program_ok list ≡ true
good_list list (Some i) is short e = absurd cc
good_list list None is short e =
    let end = good_end list (ends_well list) refl e in
    rw (le-leb 1 (length list) (some_end list end), le-leb (length list) 256 short, found_none list is, end) refl

-- a list without a fault is a program
pub is_program : (list : List Instr) → first_fault list ≡ None → IsTrue (program_ok list)
unfolding first_fault
is_program list e = elim (cases_lt 256 (length list)) [
  | inl long ↦ absurd (let e2 : Some 256 ≡ None = rw (lt-ltb 256 (length list) long) at e in cc)
  | inr short ↦ good_list list (first_bad list) refl short (rw (le-ltb 256 (length list) short) at e)
]

-- a program has no fault
pub has_no_fault : (list : List Instr) (at : ℕ) → IsTrue (program_ok list) → first_fault list ≡ Some at → ⊥
has_no_fault list at ok e =
    let parts = and_parts (leb 1 (length list) && leb (length list) 256 && list_all (λ i. target_ok (length list) i) list) (ends_well list) ok in
    let more = and_parts (leb 1 (length list) && leb (length list) 256) (list_all (λ i. target_ok (length list) i) list) parts.0 in
    let short = leb-true (length list) 256 (and_parts (leb 1 (length list)) (leb (length list) 256) more.0).1 in
    elim (fault_is list at e) [
      | inl long ↦ absurd (omega (arith, long.0, short))
      | inr short_list ↦ elim short_list.1 [
        | inl least ↦ none_bad list at more.1 least.here
        | inr end ↦ both_ways (ends_well list) end.end parts.1
      ]
    ]
