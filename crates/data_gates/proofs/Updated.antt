-- The words that update stores, one after the other.
use Rattle.std.proofs.Common.{ℕ, zero, suc, ◌+◌, ◌-◌, ◌<◌, ◌≤◌, ◌≡◌, List, [], ◌∷◌, ◌++◌, length, take, drop, refl, ap, ◌∙◌, true, false, arith, get_or}
use Rattle.std.specs.Prelude.{slice_index}
use Rattle.std.proofs.lemmas.List.{drop_more}
use Rattle.lists.specs.Lists.{part_of}
use Rattle.words_layout.specs.Words.{WordOp, Guarded, FrameWord}
use Rattle.words_layout.specs.declared.segment.SegId.{SegId}
use Rattle.policy.specs.Outcome.{Outcome}
use Rattle.turns.specs.Bodies.{Inner}
use Rattle.turns.specs.Doing.{going, Act}
use Rattle.turns.specs.Parts.{turn_is_held}
use Rattle.turns.specs.Stands.{step_op, step_told, turning}
use Rattle.turns.specs.declared.turn.TurnPart.{TurnPart}
use Rattle.turns.proofs.Turning.{held_asks, store_told}
use Rattle.data_gates.specs.Data.{store_words}

-- a part of a list that isn't empty
pub part_cons : (xs : List ℕ) (i n : ℕ) → 0 < n → i < length xs → part_of xs i n ≡ slice_index xs i ∷ part_of xs (i + 1) (n - 1)
part_cons xs i zero some inside = absurd (omega arith)
part_cons xs i (suc n) some inside = let e : suc n - 1 ≡ n = omega arith in rw (e, drop_more xs i 0 inside) refl

-- while a word is left, its store is asked for
pub word_asked : (d : ℕ) (act : Act Outcome) (u : SegId) (p : TurnPart) (whole rest : Inner Outcome) (shown : Outcome) (f at i n : ℕ) (words : List ℕ) →
    turn_is_held p ≡ true → 0 < n → i < length words →
    step_op d act (turning u p whole (store_words f at (part_of words i n) rest) shown) ≡ WordOp.Store (Guarded (FrameWord f at)) (slice_index words i)
word_asked d act u p whole rest shown f at i n words on some inside =
    rw (part_cons words i n some inside) (held_asks d act u p whole _ shown on)

-- behind it the next word follows
pub word_told : (act : Act Outcome) (u : SegId) (p : TurnPart) (whole rest : Inner Outcome) (shown shows : Outcome) (f offset pad count stored answer : ℕ) (words : List ℕ) →
    turn_is_held p ≡ true → stored < count → pad + stored < length words →
    step_told act (turning u p whole (store_words f (offset + stored) (part_of words (pad + stored) (count - stored)) rest) shown) answer
    ≡ going (turning u p whole (store_words f (offset + (stored + 1)) (part_of words (pad + (stored + 1)) (count - (stored + 1))) rest) shows)
word_told act u p whole rest shown shows f offset pad count stored answer words on some inside =
    let a : offset + (stored + 1) ≡ offset + stored + 1 = omega arith in
    let b : pad + (stored + 1) ≡ pad + stored + 1 = omega arith in
    let e : count - (stored + 1) ≡ count - stored - 1 = omega arith in
    rw (a, b, e, part_cons words (pad + stored) (count - stored) (omega arith) inside) (store_told act u p whole _ _ _ shown shows answer on)
