-- Places that are filled, emptied, or all full.
use Rattle.std.proofs.Common.{ℕ, ◌<◌, ◌≤◌, Bool, true, false, cond, List, length, get_or, set, ◌≡◌, refl, sym, ap, ◌∙◌, Option, Some, None, Result, Ok, Err, ◌↔◌, subst, arith}
use Rattle.std.specs.Prelude.{is_none, nat_lt, IsTrue, IsErr, IfOk, MatchResult}
use Rattle.std.specs.List.{position_or_len}
use Rattle.std.proofs.lemmas.Bool.{ltb-false}
use Rattle.std.proofs.lemmas.List.{get_or_past, get_or-set_same, get_or-set_other, set-get_or, set_past}
use Rattle.std.proofs.lemmas.List.Sums.{fails_before_first}
use Rattle.std.proofs.lemmas.List.Quantifiers.{position-Some}
use Rattle.policy.specs.Known.{Known}
use Rattle.policy.specs.declared.rule.Rule.{Rule}
use Rattle.policy.specs.declared.rule.Rule.TheVariants.{KstFull}
use Rattle.known_segs.specs.Places.{place_at, free_place, IsFull, FillsLeast, Empties}

-- a number past the end names an empty place
pub past_is_empty : (ps : List (Option Known)) (segno : ℕ) → length ps ≤ segno → place_at ps segno ≡ None
past_is_empty ps segno h = get_or_past ps segno None h

-- emptying it changes nothing
pub past_stays : (ps : List (Option Known)) (segno : ℕ) → length ps ≤ segno → ps ≡ set ps segno None
past_stays ps segno h = sym (set_past ps segno None h)

pub empties_past : (ps : List (Option Known)) (segno : ℕ) → length ps ≤ segno → Empties ps segno ps
empties_past ps segno h = record { emptied = past_is_empty ps segno h; others = λ k apart. refl }

-- emptying a place
pub empties : (ps : List (Option Known)) (segno : ℕ) → segno < length ps → Empties ps segno (set ps segno None)
empties ps segno h = record { emptied = get_or-set_same ps segno None None h; others = λ k apart. get_or-set_other ps segno k None None apart }

none_there : (k : Option Known) → is_none k ≡ true → k ≡ None
none_there None e = refl
none_there (Some k) e = cc

-- filling the least empty place
pub fills : (ps : List (Option Known)) (item : Known) (i : ℕ) → length ps ≡ 16 → free_place ps ≡ Some i → FillsLeast ps item i (set ps i (Some item))
fills ps item i long e =
    let p = position-Some (λ k. is_none k) ps i None e in record {
      within = omega (arith, p.0);
      empty = none_there (place_at ps i) p.1;
      least = λ k below none. let some : is_none (place_at ps k) ≡ false = p.2 k below in let t : is_none (place_at ps k) ≡ true = ap (λ o. is_none o) none in absurd (cc);
      filled = get_or-set_same ps i (Some item) None p.0;
      others = λ k apart. get_or-set_other ps i k (Some item) None apart;
    }

no_front : (b : Bool) (n : ℕ) → cond b (Some n) None ≡ None → b ≡ false
no_front true n e = cc
no_front false n e = refl

-- where no empty place is found, none is empty
pub full_without : (ps : List (Option Known)) → length ps ≡ 16 → free_place ps ≡ None → IsFull ps
full_without ps long e k below none =
    let past : length ps ≤ position_or_len (λ o. is_none o) ps = ltb-false _ _ (no_front (nat_lt (position_or_len (λ o. is_none o) ps) (length ps)) (position_or_len (λ o. is_none o) ps) e) in
    let some : is_none (place_at ps k) ≡ false = fails_before_first (λ o. is_none o) ps k None (omega arith) in
    let t : is_none (place_at ps k) ≡ true = ap (λ o. is_none o) none in
    absurd (cc)

-- and where one is found, one is empty
pub not_full_with : (ps : List (Option Known)) (i : ℕ) → length ps ≡ 16 → free_place ps ≡ Some i → IsFull ps → ⊥
not_full_with ps i long e full =
    let p = position-Some (λ k. is_none k) ps i None e in
    full i (omega (arith, p.0)) (none_there (place_at ps i) p.1)

-- the test whether none is empty
pub full_where_none : (ps : List (Option Known)) → length ps ≡ 16 → IsTrue (is_none (free_place ps)) ↔ IsFull ps
full_where_none ps long = by (free_place ps) refl
  where
    by : (o : Option ℕ) → free_place ps ≡ o → IsTrue (is_none o) ↔ IsFull ps
    by None e = (λ _. full_without ps long e, λ _. refl)
    by (Some i) e = (λ t. absurd (cc), λ full. absurd (not_full_with ps i long e full))

-- an answer of the least place, or that there is none, is right
abbrev pub Answered : Result ℕ Rule → List (Option Known) → Known → List (Option Known) → Type 0
Answered r old item new = MatchResult r
    (λ place. (free_place old ≡ Some place) × (new ≡ set old place (Some item)))
    (λ rule. (rule ≡ KstFull) × (free_place old ≡ None) × (new ≡ old))

pub put_right : (r : Result ℕ Rule) (old : List (Option Known)) (item : Known) (new : List (Option Known)) → length old ≡ 16 → Answered r old item new →
    IfOk r (λ place. FillsLeast old item place new)
put_right (Ok place) old item new long h =
    let P : List (Option Known) → Type 0 = λ ps. FillsLeast old item place ps in subst P (sym h.1) (fills old item place long h.0)
put_right (Err rule) old item new long h = tt

pub put_full : (r : Result ℕ Rule) (old : List (Option Known)) (item : Known) (new : List (Option Known)) → length old ≡ 16 → Answered r old item new → IsErr r ↔ IsFull old
put_full (Ok place) old item new long h = (λ e. absurd (cc), λ full. absurd (not_full_with old place long h.0 full))
put_full (Err rule) old item new long h = (λ _. full_without old long h.1, λ _. refl)
