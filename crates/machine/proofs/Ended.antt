-- Where no process of a class is live.
use Rattle.std.proofs.Common.{ℕ, suc, ◌<◌, ◌≤◌, Bool, true, false, cond, List, [], ◌∷◌, length, ◌≡◌, ◌⊎◌, inl, inr, refl, ap, ◌∙◌, Option}
use Rattle.std.specs.Prelude.{◌==◌}
use Rattle.std.specs.List.{list_all}
use Rattle.std.proofs.lemmas.Bool.{and_from, eqb-true, cases_lt}
use Rattle.std.proofs.lemmas.List.{get_or_past}
use Rattle.std.proofs.lemmas.List.Folds.{sum_by-zero}
use Rattle.process.specs.Standing.{Standing}
use Rattle.machine.specs.Processing.{Processing, holds_live, live_count, lives_in}
use Rattle.machine.specs.Banks.{no_processing, vp_in, vp_at, State}
use Rattle.machine.specs.Steps.{HasEnded}
use Rattle.machine.proofs.Slots.{no_lives}

counts_not : (b : Bool) → b ≡ false → (cond b 1 0 == 0) ≡ true
counts_not true h = absurd (cc)
counts_not false h = refl

all_not : (slots : List (Option Standing)) → ((i : ℕ) → lives_in slots i ≡ false) → list_all (λ x. cond (holds_live x) 1 0 == 0) slots ≡ true
all_not [] h = refl
all_not (x ∷ xs) h = and_from (cond (holds_live x) 1 0 == 0) (list_all (λ y. cond (holds_live y) 1 0 == 0) xs) (counts_not (holds_live x) (h 0)) (all_not xs (λ i. h (suc i)))

-- where no slot holds a live process none is counted
pub none_counted : (slots : List (Option Standing)) → ((i : ℕ) → lives_in slots i ≡ false) → live_count slots ≡ 0
none_counted slots h = eqb-true (live_count slots) 0 (sum_by-zero (λ x. cond (holds_live x) 1 0) slots ∙ all_not slots h)

module _ {W : Type 0} (m : State W) (class : ℕ) where
  ended_at : ((p : ℕ) → p < length m.banks → live_count (vp_at m.banks p class).slots ≡ 0) → (p slot : ℕ) → (p < length m.banks) ⊎ (length m.banks ≤ p) →
      lives_in (vp_at m.banks p class).slots slot ≡ false
  ended_at h p slot (inl lt) = no_lives (vp_at m.banks p class).slots slot (h p lt)
  ended_at h p slot (inr past) = ap (λ (bank : List Processing). lives_in (vp_in bank class).slots slot) (get_or_past m.banks p [] past) ∙ no_lives no_processing.slots slot refl

  -- where no bank counts a live process of the class
  pub has_ended : ((p : ℕ) → p < length m.banks → live_count (vp_at m.banks p class).slots ≡ 0) → HasEnded m class
  has_ended h p slot = ended_at h p slot (cases_lt p (length m.banks))

  -- and the other way round
  pub not_ended : (p : ℕ) → (live_count (vp_at m.banks p class).slots ≡ 0 → ⊥) → HasEnded m class → ⊥
  not_ended p h all = h (none_counted (vp_at m.banks p class).slots (all p))
