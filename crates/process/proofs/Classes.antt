-- The classes of a set of bits that tell which classes are at or below one.
use Rattle.std.proofs.Common.{ℕ, zero, suc, ◌+◌, ◌-◌, ◌*◌, ◌%◌, ◌^◌, ◌≢◌, ◌∷◌, ◌++◌, ◌<◌, ◌≤◌, ◌≡◌, refl, sym, ap, ◌∙◌, Bool, true, false, subst, arith, List, []}
use Rattle.std.specs.Prelude.{◌==◌}
use Rattle.std.specs.List.{filter}
use Rattle.std.specs.Int.{bit_at}
use Rattle.std.specs.Prelude.{bit_or}
use Rattle.std.proofs.Common.{below_more as each_below_more, w16}
use Rattle.std.proofs.lemmas.Nat.Bits.{bit_at-zero, bit_at_set_same, bit_at_set_other}
use Rattle.lists.specs.Lists.{below}
use Rattle.evc_gates.proofs.Bits.{kept_more, left_out}

-- the bits below n tell which numbers pass the test, and there are no others
pub record Tells (bits n : ℕ) (q : ℕ → Bool) : Type 0 where
  pub done : (k : ℕ) → k < n → (bit_at bits k == 1) ≡ q k
  pub rest : (k : ℕ) → n ≤ k → bit_at bits k ≡ 0

pub tells_none : (q : ℕ → Bool) → Tells 0 0 q
tells_none q = record { done = λ k lt. absurd (omega arith); rest = λ k le. bit_at-zero k }

pub tells_more : (bits n : ℕ) (q : ℕ → Bool) → n < 16 → q n ≡ true → Tells bits n q → Tells (bit_or bits (1 * 2 ^ n % 2 ^ 16)) (n + 1) q
tells_more bits n q within holds h = record {
  done = each_below_more (λ k. (bit_at (bit_or bits (1 * 2 ^ n % 2 ^ 16)) k == 1) ≡ q k) n (λ k lt. let other : k ≢ n = omega arith in ap (λ (b : ℕ). b == 1) (bit_at_set_other w16 bits n within k other) ∙ h.done k lt) (ap (λ (b : ℕ). b == 1) (bit_at_set_same w16 bits n within) ∙ sym holds);
  rest = λ k le. let other : k ≢ n = omega arith in bit_at_set_other w16 bits n within k other ∙ h.rest k (omega arith);
}

pub tells_no_more : (bits n : ℕ) (q : ℕ → Bool) → q n ≡ false → Tells bits n q → Tells bits (n + 1) q
tells_no_more bits n q fails h = record {
  done = each_below_more (λ k. (bit_at bits k == 1) ≡ q k) n h.done (ap (λ (b : ℕ). b == 1) (h.rest n (omega arith)) ∙ sym fails);
  rest = λ k le. h.rest k (omega arith);
}

-- tests that agree below n keep the same of the numbers below n
agree : (p q : ℕ → Bool) (n : ℕ) → ((k : ℕ) → k < n → p k ≡ q k) → filter p (below n) ≡ filter q (below n)
agree p q zero h = refl
agree p q (suc n) h =
    let one : suc n ≡ n + 1 = omega arith in
    let before : filter p (below n) ≡ filter q (below n) = agree p q n (λ k lt. h k (omega arith)) in
    subst (λ (m : ℕ). filter p (below m) ≡ filter q (below m)) (sym one) (at (q n) refl before)
  where
    at : (b : Bool) → q n ≡ b → filter p (below n) ≡ filter q (below n) → filter p (below (n + 1)) ≡ filter q (below (n + 1))
    at true e before = kept_more p n (h n (omega arith) ∙ e) ∙ (ap (λ (xs : List ℕ). xs ++ n ∷ []) before ∙ sym (kept_more q n e))
    at false e before = left_out p n (h n (omega arith) ∙ e) ∙ (before ∙ sym (left_out q n e))

-- a test that nothing from n on passes keeps nothing more
past : (p : ℕ → Bool) (n more : ℕ) → ((k : ℕ) → n ≤ k → p k ≡ false) → filter p (below (n + more)) ≡ filter p (below n)
past p n zero h = let e : n + 0 ≡ n = omega arith in ap (λ (m : ℕ). filter p (below m)) e
past p n (suc more) h =
    let e : n + suc more ≡ n + more + 1 = omega arith in
    subst (λ (m : ℕ). filter p (below m) ≡ filter p (below n)) (sym e) (left_out p (n + more) (h (n + more) (omega arith)) ∙ past p n more h)

pub bits_tell : (bits n : ℕ) (q : ℕ → Bool) → n ≤ 16 → Tells bits n q →
    filter (λ c. bit_at bits c == 1) (below 16) ≡ filter q (below n)
bits_tell bits n q few h =
    let p : ℕ → Bool = λ c. bit_at bits c == 1 in
    let none : (k : ℕ) → n ≤ k → p k ≡ false = λ k le. ap (λ (b : ℕ). b == 1) (h.rest k le) in
    let whole : n + (16 - n) ≡ 16 = omega arith in
    subst (λ (m : ℕ). filter p (below m) ≡ filter p (below n)) whole (past p n (16 - n) none) ∙ agree p q n h.done
