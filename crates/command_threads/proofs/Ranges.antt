-- The cycle and the rounds of a valid configuration.
use Rattle.std.proofs.Common.{◌≡◌, ℕ, ◌<◌, ◌≤◌, Bool, true, false, length, get_or, refl, sym, arith}
use Rattle.std.specs.List.{All, list_all}
use Rattle.std.proofs.lemmas.Bool.{and_parts, leb-true, ltb-true, false≢true}
use Rattle.std.proofs.lemmas.List.Elements.{All-from_get_or}
use Rattle.std.proofs.lemmas.List.Folds.{list_all_at}
use Rattle.std.specs.Prelude.{◌&&◌, nat_le}
use Rattle.config_text.specs.declared.config.Config.{Config as ConfigText}
use Rattle.config_text.specs.Valid.{IsValid, within, is_class}

cycle_tests : (k : ConfigText) → IsValid k → (within 1 16 (length k.cycle) ≡ true) × (list_all (is_class k) k.cycle ≡ true)
cycle_tests k valid = and_parts (within 1 16 (length k.cycle)) (list_all (is_class k) k.cycle) valid.cycle

pub some_cycle : (k : ConfigText) → IsValid k → 0 < length k.cycle
some_cycle k valid =
    let h = and_parts (nat_le 1 (length k.cycle)) (nat_le (length k.cycle) 16) (cycle_tests k valid).0 in
    let some : 1 ≤ length k.cycle = leb-true 1 (length k.cycle) h.0 in
    omega arith

pub short_cycle : (k : ConfigText) → IsValid k → length k.cycle ≤ 16
short_cycle k valid =
    let h = and_parts (nat_le 1 (length k.cycle)) (nat_le (length k.cycle) 16) (cycle_tests k valid).0 in
    leb-true (length k.cycle) 16 h.1

not_both : (b : Bool) → b ≡ true → b ≡ false → ⊥
not_both true p q = absurd (false≢true (sym q))
not_both false p q = absurd (false≢true p)

is_true : (b : Bool) → (b ≡ false → ⊥) → b ≡ true
is_true true not_false = refl
is_true false not_false = absurd (not_false refl)

-- each class of the cycle is one of the table
pub cycle_below : (k : ConfigText) → IsValid k → All (λ c. c < length k.table) k.cycle
cycle_below k valid = All-from_get_or (λ c. c < length k.table) k.cycle 0 each
  where
    each : (i : ℕ) → i < length k.cycle → get_or k.cycle i 0 < length k.table
    each i inside = ltb-true (get_or k.cycle i 0) (length k.table) (is_true (is_class k (get_or k.cycle i 0)) (λ q. not_both (list_all (is_class k) k.cycle) (cycle_tests k valid).1 (list_all_at (is_class k) k.cycle i 0 inside q)))

-- at most 4,096 rounds are configured
pub few_rounds : (k : ConfigText) → IsValid k → k.rounds ≤ 4096
few_rounds k valid =
    let a = and_parts (within 1 4 k.processors && within 1 4096 k.rounds && within 1 256 k.quantum) (nat_le k.console 4096) valid.header in
    let b = and_parts (within 1 4 k.processors && within 1 4096 k.rounds) (within 1 256 k.quantum) a.0 in
    let c = and_parts (within 1 4 k.processors) (within 1 4096 k.rounds) b.0 in
    leb-true k.rounds 4096 (and_parts (nat_le 1 k.rounds) (nat_le k.rounds 4096) c.1).1
