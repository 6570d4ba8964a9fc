-- What the code of fetch does is its row.
use Rattle.std.proofs.Common.{ℕ, zero, suc, ◌+◌, ◌-◌, ◌<◌, ◌≡◌, List, [], ◌∷◌, ◌++◌, length, refl, ap, Option, Some, None, Bool, true, false, arith, length-append}
use Rattle.words_layout.specs.Words.{WordOp, Guarded, FrameWord}
use Rattle.policy.specs.Outcome.{Outcome, Words}
use Rattle.turns.specs.Bodies.{Loads}
use Rattle.turns.specs.Doing.{going, Told, Act}
use Rattle.turns.specs.Parts.{guard_class, look_in_body, look_checked}
use Rattle.turns.specs.Stands.{step_op, step_told, looking}
use Rattle.turns.proofs.Looking.{body_asks, body_told, looking_checked}
use Rattle.data_gates.specs.Data.{load_words, fetch_body}
use Rattle.turns.specs.declared.guard.Guard.{Guard as Guarding}
use Rattle.turns.specs.declared.look.LookPart.{LookPart}

-- while a word is left, it is loaded next
pub words_left : (f at n : ℕ) (got : List ℕ) (pad : ℕ) → 0 < n →
    load_words f at n got pad ≡ Loads.Load (FrameWord f at) (λ w. load_words f (at + 1) (n - 1) (got ++ w ∷ []) pad)
words_left f at zero got pad some = absurd (omega arith)
words_left f at (suc n) got pad some = let e : suc n - 1 ≡ n = omega arith in rw e refl

-- while a word is left, it is asked for
pub word_asked : (d : ℕ) (act : Act Outcome) (g : Guarding) (p : LookPart) (whole : Loads Outcome) (shown : Outcome) (f at n : ℕ) (got : List ℕ) (pad : ℕ) →
    look_in_body p ≡ true → 0 < n → step_op d act (looking g p whole (load_words f at n got pad) shown) ≡ WordOp.Load (guard_class g) (Guarded (FrameWord f at))
word_asked d act g p whole shown f at n got pad on some =
    rw (words_left f at n got pad some) (body_asks d act g p whole _ _ shown on)

-- the word that was loaded is kept, and where another one is left, it is next
pub word_told : (act : Act Outcome) (g : Guarding) (p : LookPart) (whole : Loads Outcome) (shown shows : Outcome) (f at n : ℕ) (got : List ℕ) (pad answer : ℕ) →
    look_in_body p ≡ true → 0 < n →
    step_told act (looking g p whole (load_words f at n got pad) shown) answer ≡ going (looking g p whole (load_words f (at + 1) (n - 1) (got ++ answer ∷ []) pad) shows)
word_told act g p whole shown shows f at n got pad answer on some =
    rw (words_left f at n got pad some) (body_told act g p whole _ _ shown shows answer on)
