-- The flags, one class more at a time.
use Rattle.std.proofs.Common.{◌≡◌, ℕ, ◌+◌, ◌<◌, ◌≤◌, ◌⊎◌, inl, inr, Bool, false, List, length, set, replicate, ◌∙◌, arith}
use Rattle.std.proofs.lemmas.Bool.{cases_eq, cases_lt}
use Rattle.std.proofs.lemmas.List.{length-set, get_or-set_same, get_or-set_other, get_or-replicate, get_or_past, length-replicate}
use Rattle.labels.specs.Label.{ClassEntry, at_or_below}
use Rattle.low_run.specs.Flags.{AreLow, is_low}

-- the flags stand for the classes below n, and no other one stands
pub record LowUpTo (table : List ClassEntry) (class : ℕ) (flags : List Bool) (n : ℕ) : Type 0 where
  pub sixteen : length flags ≡ 16
  pub low : (c : ℕ) → c < n → is_low flags c ≡ at_or_below table c class
  pub others : (c : ℕ) → n ≤ c → is_low flags c ≡ false

module _ (table : List ClassEntry) (class : ℕ) where
  blank : (c : ℕ) → (c < 16) ⊎ (16 ≤ c) → is_low (replicate 16 false) c ≡ false
  blank c (inl lt) = get_or-replicate 16 c false false lt
  blank c (inr ge) = get_or_past (replicate 16 false) c false ge

  pub none_yet : LowUpTo table class (replicate 16 false) 0
  none_yet = record {
    sixteen = length-replicate 16 false;
    low = λ c lt. absurd (omega (arith, lt));
    others = λ c ge. blank c (cases_lt c 16);
  }

  module _ (flags : List Bool) (n : ℕ) (b : Bool) (h : LowUpTo table class flags n) (lt : n < 16) (is : b ≡ at_or_below table n class) where
    there : n < length flags
    there = omega (arith, h.sixteen, lt)

    low_now : (c : ℕ) → c < n + 1 → (c ≡ n) ⊎ (c ≡ n → ⊥) → is_low (set flags n b) c ≡ at_or_below table c class
    low_now c le (inl e) = rw e (get_or-set_same flags n b false there ∙ is)
    low_now c le (inr other) = get_or-set_other flags n c b false other ∙ h.low c (omega (arith, le, other))

    pub one_more : LowUpTo table class (set flags n b) (n + 1)
    one_more = record {
      sixteen = length-set flags n b ∙ h.sixteen;
      low = λ c le. low_now c le (cases_eq c n);
      others = λ c ge. get_or-set_other flags n c b false (λ e. absurd (omega (arith, ge, e))) ∙ h.others c (omega (arith, ge));
    }

  pub are_low : (flags : List Bool) (n : ℕ) → LowUpTo table class flags n → length table ≤ n → n ≤ length table → AreLow table class flags
  are_low flags n h ge le = record {
    low = λ c lt. h.low c (omega (arith, lt, ge));
    others = λ c past. h.others c (omega (arith, past, le));
  }
