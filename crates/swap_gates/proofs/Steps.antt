-- The words that a swap moves, one after the other.
use Rattle.std.proofs.Common.{ℕ, suc, ◌+◌, ◌-◌, ◌<◌, ◌≤◌, ◌≡◌, refl, ◌∙◌, true, ap, arith, Option}
use Rattle.std.proofs.lemmas.Bool.{lt-ltb, le-leb, eq-eqb, ne_eqb}
use Rattle.std.specs.Prelude.{◌==◌, if◌then◌else◌}
use Rattle.words_layout.specs.Words.{GuardedWord, FrameWord}
use Rattle.words_layout.specs.Coding.{home_in_range, page_in_range}
use Rattle.words_layout.specs.declared.coding.Home.TheVariants as H
use Rattle.policy.specs.Outcome.{Outcome}
use Rattle.turns.specs.Bodies.{Inner}
use Rattle.gate_parts.specs.Bodies.{behind_inner}
use Rattle.swap_gates.specs.Swap.{find_free, zero_words, copy_words}

-- while a place of a pool is left, its tenant is loaded
pub find_next : (tenant : ℕ → GuardedWord) (i n : ℕ) (found : ℕ → Inner Outcome) (none : Inner Outcome) → i < n →
    find_free tenant i (n - i) found none ≡ Inner.Load (tenant i) (λ w. if w == 0 then found i else find_free tenant (i + 1) (n - (i + 1)) found none)
find_next tenant i n found none some =
    let e : n - i ≡ suc (n - (i + 1)) = omega arith in rw e refl

-- while a word is left, it is stored as 0
pub zero_next : (f i n : ℕ) (rest : Inner Outcome) → i < n →
    zero_words f i (n - i) rest ≡ Inner.Store (FrameWord f i) 0 (zero_words f (i + 1) (n - (i + 1)) rest)
zero_next f i n rest some =
    let e : n - i ≡ suc (n - (i + 1)) = omega arith in rw e refl

-- while a word is left, it is loaded and stored
pub copy_next : (from to : ℕ → GuardedWord) (i n : ℕ) (rest : Inner Outcome) → i < n →
    copy_words from to i (n - i) rest ≡ Inner.Load (from i) (λ w. Inner.Store (to i) w (copy_words from to (i + 1) (n - (i + 1)) rest))
copy_next from to i n rest some =
    let e : n - i ≡ suc (n - (i + 1)) = omega arith in rw e refl

-- a pool that is at its end has no free place
pub find_over : (tenant : ℕ → GuardedWord) (i n : ℕ) (found : ℕ → Inner Outcome) (none : Inner Outcome) → n ≤ i → find_free tenant i (n - i) found none ≡ none
find_over tenant i n found none over = let e : n - i ≡ 0 = omega arith in rw e refl

pub zero_over : (f i n : ℕ) (rest : Inner Outcome) → n ≤ i → zero_words f i (n - i) rest ≡ rest
zero_over f i n rest over = let e : n - i ≡ 0 = omega arith in rw e refl

pub copy_over : (from to : ℕ → GuardedWord) (i n : ℕ) (rest : Inner Outcome) → n ≤ i → copy_words from to i (n - i) rest ≡ rest
copy_over from to i n rest over = let e : n - i ≡ 0 = omega arith in rw e refl

-- a body that begins at place 0 has all to do
pub find_start : (tenant : ℕ → GuardedWord) (n : ℕ) (found : ℕ → Inner Outcome) (none : Inner Outcome) → find_free tenant 0 (n - 0) found none ≡ find_free tenant 0 n found none
find_start tenant n found none = let e : n - 0 ≡ n = omega arith in rw e refl

-- what follows the load of a tenant
pub find_found : (tenant : ℕ → GuardedWord) (i n answer : ℕ) (found : ℕ → Inner Outcome) (none : Inner Outcome) → i < n → answer ≡ 0 →
    behind_inner (find_free tenant i (n - i) found none) answer ≡ found i
find_found tenant i n answer found none some free = rw (find_next tenant i n found none some, free) refl

pub find_taken : (tenant : ℕ → GuardedWord) (i n answer : ℕ) (found : ℕ → Inner Outcome) (none : Inner Outcome) → i < n → (answer ≡ 0 → ⊥) →
    behind_inner (find_free tenant i (n - i) found none) answer ≡ find_free tenant (i + 1) (n - (i + 1)) found none
find_taken tenant i n answer found none some taken = rw (find_next tenant i n found none some, ne_eqb answer 0 taken) refl

pub find_last : (tenant : ℕ → GuardedWord) (i n answer : ℕ) (found : ℕ → Inner Outcome) (none : Inner Outcome) → i + 1 ≡ n → (answer ≡ 0 → ⊥) →
    behind_inner (find_free tenant i (n - i) found none) answer ≡ none
find_last tenant i n answer found none last taken =
    find_taken tenant i n answer found none (omega arith) taken ∙ find_over tenant (i + 1) n found none (omega arith)

-- what follows the store of a zero
pub zero_told : (f i n answer : ℕ) (rest : Inner Outcome) → i < n → behind_inner (zero_words f i (n - i) rest) answer ≡ zero_words f (i + 1) (n - (i + 1)) rest
zero_told f i n answer rest some = rw (zero_next f i n rest some) refl

pub zero_last : (f i n answer : ℕ) (rest : Inner Outcome) → i + 1 ≡ n → behind_inner (zero_words f i (n - i) rest) answer ≡ rest
zero_last f i n answer rest last = zero_told f i n answer rest (omega arith) ∙ zero_over f (i + 1) n rest (omega arith)

-- what follows the load of a word
pub copy_told : (from to : ℕ → GuardedWord) (i n answer : ℕ) (rest : Inner Outcome) → i < n →
    behind_inner (copy_words from to i (n - i) rest) answer ≡ Inner.Store (to i) answer (copy_words from to (i + 1) (n - (i + 1)) rest)
copy_told from to i n answer rest some = rw (copy_next from to i n rest some) refl

-- a home in the layout's limits has a spelling
pub resident_spelled : (f size : ℕ) (page : Option ℕ) → f < 16 → page_in_range page ≡ true → 1 ≤ size → size ≤ 64 → home_in_range (H.Resident f page size) ≡ true
resident_spelled f size page a b c d = rw (lt-ltb f 16 a, b, le-leb 1 size c, le-leb size 64 d) refl

pub stored_spelled : (g size : ℕ) → g < 32 → 1 ≤ size → size ≤ 64 → home_in_range (H.Stored g size) ≡ true
stored_spelled g size b c d = rw (lt-ltb g 32 b, le-leb 1 size c, le-leb size 64 d) refl
