-- The large configuration is valid.
use Rattle.std.proofs.Common.{◌≡◌, ℕ, zero, suc, ◌<◌, ◌≤◌, ◌^◌, true, ◌&&◌, length, refl, ap, arith, lit<, lit≤}
use Rattle.std.proofs.lemmas.Bool.{lt-ltb}
use Rattle.labels.specs.Label.{class_at}
use Rattle.text_lines.specs.Name.{is_name}
use Rattle.config_text.specs.Valid.{IsValid, processes_of}
use Rattle.workload.specs.Large.{large_config, large_table}
use Rattle.workload.proofs.Tables.{is_table}

-- what holds of each of the first four numbers, and of each of the first eight
of_four : (P : ℕ → Type 0) → P 0 → P 1 → P 2 → P 3 → (k : ℕ) → k < 4 → P k
of_four P a b c d zero lt = a
of_four P a b c d (suc zero) lt = b
of_four P a b c d (suc (suc zero)) lt = c
of_four P a b c d (suc (suc (suc zero))) lt = d
of_four P a b c d (suc (suc (suc (suc k)))) lt = absurd (omega (arith, lt))

of_eight : (P : ℕ → Type 0) → ((k : ℕ) → k < 4 → P k) → P 4 → P 5 → P 6 → P 7 → (k : ℕ) → k < 8 → P k
of_eight P low a b c d zero lt = low 0 (lit< tt)
of_eight P low a b c d (suc zero) lt = low 1 (lit< tt)
of_eight P low a b c d (suc (suc zero)) lt = low 2 (lit< tt)
of_eight P low a b c d (suc (suc (suc zero))) lt = low 3 (lit< tt)
of_eight P low a b c d (suc (suc (suc (suc zero)))) lt = a
of_eight P low a b c d (suc (suc (suc (suc (suc zero))))) lt = b
of_eight P low a b c d (suc (suc (suc (suc (suc (suc zero)))))) lt = c
of_eight P low a b c d (suc (suc (suc (suc (suc (suc (suc zero))))))) lt = d
of_eight P low a b c d (suc (suc (suc (suc (suc (suc (suc (suc k)))))))) lt = absurd (omega (arith, lt))

named : (c : ℕ) → c < length large_table → is_name (class_at large_table c).name ≡ true
named = let P : ℕ → Type 0 = λ c. is_name (class_at large_table c).name ≡ true in of_eight P (of_four P refl refl refl refl) refl refl refl refl

-- four processes of each class on each processor
four_each : (n p c : ℕ) → p < 4 → c < 8 → processes_of (large_config n) p c ≤ 4
unfolding large_config
four_each n p c at_p at_c =
    let Q : ℕ → ℕ → Type 0 = λ q d. processes_of (large_config n) q d ≤ 4 in
    of_four (λ q. (d : ℕ) → d < 8 → Q q d)
    (of_eight (Q 0) (of_four (Q 0) (lit≤ tt) (lit≤ tt) (lit≤ tt) (lit≤ tt)) (lit≤ tt) (lit≤ tt) (lit≤ tt) (lit≤ tt))
    (of_eight (Q 1) (of_four (Q 1) (lit≤ tt) (lit≤ tt) (lit≤ tt) (lit≤ tt)) (lit≤ tt) (lit≤ tt) (lit≤ tt) (lit≤ tt))
    (of_eight (Q 2) (of_four (Q 2) (lit≤ tt) (lit≤ tt) (lit≤ tt) (lit≤ tt)) (lit≤ tt) (lit≤ tt) (lit≤ tt) (lit≤ tt))
    (of_eight (Q 3) (of_four (Q 3) (lit≤ tt) (lit≤ tt) (lit≤ tt) (lit≤ tt)) (lit≤ tt) (lit≤ tt) (lit≤ tt) (lit≤ tt))
    p at_p c at_c

pub large_valid : (n : ℕ) → n < 2 ^ 64 → IsValid (large_config n)
unfolding large_config
large_valid n lt = record {
  table = is_table;
  names = named;
  pools = refl;
  header = refl;
  cycle = refl;
  few_scripts = lit≤ tt;
  scripts = refl;
  few_gates = lit≤ tt;
  gates = refl;
  processes = refl;
  few_processes = four_each n;
  items = ap (λ b. b && true && true) (lt-ltb n 18446744073709551616 lt);
  few_events = lit≤ tt;
}
