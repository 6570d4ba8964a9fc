-- Whether a virtual processor of a bank has a live process.
use Rattle.std.proofs.Common.{◌≡◌, ℕ, zero, suc, ◌+◌, ◌<◌, true, false, List, [], ◌∷◌, length, refl, sym, subst, arith}
use Rattle.std.proofs.lemmas.Bool.{lt-ltb, le-ltb}
use Rattle.std.proofs.lemmas.List.Folds.{list_any_at}
use native.Mathlib.Decide.{ℕ_discrete}
use Rattle.machine.specs.Processing.{Processing, live_count}
use Rattle.machine.specs.Banks.{no_processing, vp_in}
use Rattle.round_laws.specs.Live.{vp_live, bank_live}

pub lives_at : (bank : List Processing) (c : ℕ) → c < length bank → (live_count (vp_in bank c).slots ≡ 0 → ⊥) → bank_live bank ≡ true
lives_at bank c low some = list_any_at vp_live bank c no_processing low (lt-ltb 0 (live_count (vp_in bank c).slots) (positive (live_count (vp_in bank c).slots) some))
  where
    positive : (n : ℕ) → (n ≡ 0 → ⊥) → 0 < n
    positive zero h = absurd (h refl)
    positive (suc n) h = omega arith

pub none_lives : (bank : List Processing) → ((c : ℕ) → c < length bank → live_count (vp_in bank c).slots ≡ 0) → bank_live bank ≡ false
none_lives [] h = refl
none_lives (v ∷ bank) h =
    let here : vp_live v ≡ false = le-ltb 0 (live_count v.slots) (let e = h 0 (omega arith) in omega arith) in
    rw here (none_lives bank (λ c low. h (suc c) (omega arith)))

pub one_more : (bank : List Processing) (k : ℕ) → ((c : ℕ) → c < k → live_count (vp_in bank c).slots ≡ 0) → live_count (vp_in bank k).slots ≡ 0 → (c : ℕ) → c < k + 1 → live_count (vp_in bank c).slots ≡ 0
one_more bank k h here c low = at (ℕ_discrete c k)
  where
    at : Dec (c ≡ k) → live_count (vp_in bank c).slots ≡ 0
    at (yes e) = subst (λ (i : ℕ). live_count (vp_in bank i).slots ≡ 0) (sym e) here
    at (no apart) = h c (omega arith)
