-- A set of rights contains one right exactly where the bit of that right is set.
use Rattle.std.proofs.Common.{ℕ, ◌*◌, ◌<◌, zero, suc, ◌≡◌, refl, ap, ◌∙◌, arith}
use Rattle.std.specs.Prelude.{◌==◌}
use Rattle.std.specs.Int.{bit_at}
use Rattle.std.specs.Int.RustNames.{bit_and}
use Rattle.std.proofs.lemmas.Nat.Bits.{and_pow, bit_at-lt}

by_two : (v : ℕ) → v < 2 → (v * 2 == 2) ≡ (v == 1)
by_two zero h = refl
by_two (suc zero) h = refl
by_two (suc (suc v)) h = absurd (omega arith)

by_four : (v : ℕ) → v < 2 → (v * 4 == 4) ≡ (v == 1)
by_four zero h = refl
by_four (suc zero) h = refl
by_four (suc (suc v)) h = absurd (omega arith)

pub contains_two : (n : ℕ) → (bit_and n 2 == 2) ≡ (bit_at n 1 == 1)
contains_two n = ap (λ v. v == 2) (and_pow n 1) ∙ by_two (bit_at n 1) (bit_at-lt n 1)

pub contains_four : (n : ℕ) → (bit_and n 4 == 4) ≡ (bit_at n 2 == 1)
contains_four n = ap (λ v. v == 4) (and_pow n 2) ∙ by_four (bit_at n 2) (bit_at-lt n 2)
