-- A remainder by a small divisor, from the divisor's inverse.
use Rattle.std.proofs.Common.{◌≡◌, ℕ, zero, suc, ◌+◌, ◌*◌, ◌/◌, ◌%◌, ◌^◌, ◌<◌, ◌≤◌, arith, mod-lt}

-- with the inverse in parts of 2 ^ 40
pub remainder_is : (n by : ℕ) → 0 < by → by ≤ 16 → n < 2 ^ 31 → ((1099511627776 / by + 1) * n % 2 ^ 64 % 1099511627776) * by / 1099511627776 ≡ n % by
remainder_is n zero some few small = absurd (omega arith)
remainder_is n (suc zero) some few small = omega (arith, small)
remainder_is n (suc (suc zero)) some few small = omega (arith, small)
remainder_is n (suc (suc (suc zero))) some few small = omega (arith, small)
remainder_is n (suc (suc (suc (suc zero)))) some few small = omega (arith, small)
remainder_is n (suc (suc (suc (suc (suc zero))))) some few small = omega (arith, small)
remainder_is n (suc (suc (suc (suc (suc (suc zero)))))) some few small = omega (arith, small)
remainder_is n (suc (suc (suc (suc (suc (suc (suc zero))))))) some few small = omega (arith, small)
remainder_is n (suc (suc (suc (suc (suc (suc (suc (suc zero)))))))) some few small = omega (arith, small)
remainder_is n (suc (suc (suc (suc (suc (suc (suc (suc (suc zero))))))))) some few small = omega (arith, small)
remainder_is n (suc (suc (suc (suc (suc (suc (suc (suc (suc (suc zero)))))))))) some few small = omega (arith, small)
remainder_is n (suc (suc (suc (suc (suc (suc (suc (suc (suc (suc (suc zero))))))))))) some few small = omega (arith, small)
remainder_is n (suc (suc (suc (suc (suc (suc (suc (suc (suc (suc (suc (suc zero)))))))))))) some few small = omega (arith, small)
remainder_is n (suc (suc (suc (suc (suc (suc (suc (suc (suc (suc (suc (suc (suc zero))))))))))))) some few small = omega (arith, small)
remainder_is n (suc (suc (suc (suc (suc (suc (suc (suc (suc (suc (suc (suc (suc (suc zero)))))))))))))) some few small = omega (arith, small)
remainder_is n (suc (suc (suc (suc (suc (suc (suc (suc (suc (suc (suc (suc (suc (suc (suc zero))))))))))))))) some few small = omega (arith, small)
remainder_is n (suc (suc (suc (suc (suc (suc (suc (suc (suc (suc (suc (suc (suc (suc (suc (suc zero)))))))))))))))) some few small = omega (arith, small)
remainder_is n (suc (suc (suc (suc (suc (suc (suc (suc (suc (suc (suc (suc (suc (suc (suc (suc (suc k))))))))))))))))) some few small = absurd (omega (arith, few))

-- and no number passes its limit on the way
pub product_fits : (a by : ℕ) → by ≤ 16 → a % 1099511627776 * by < 2 ^ 64
product_fits a by few = grind (arith, few)

-- with whatever the inverse is called, and the remainder is below the divisor
pub remainder_by : (n by inverse : ℕ) → 0 < by → by ≤ 16 → inverse ≡ 1099511627776 / by + 1 → n < 2 ^ 31 → inverse * n % 2 ^ 64 % 1099511627776 * by / 1099511627776 ≡ n % by
remainder_by n by inverse some few is small = rw is (remainder_is n by some few small)

pub remainder_below : (n by : ℕ) → 0 < by → by ≤ 16 → n % by < 256
remainder_below n by some few = let below : n % by < by = mod-lt n some in omega (arith, below, few)
