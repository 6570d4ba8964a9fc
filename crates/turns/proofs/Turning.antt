-- What a segment's turn at its part is of the whole instruction.
use Rattle.std.proofs.Common.{ℕ, ◌≡◌, ◌⊎◌, inl, inr, Bool, true, false, refl}
use Rattle.std.proofs.lemmas.Bool.{eq-eqb}
use Rattle.words_layout.specs.Words.{WordOp, GuardedWord, Guarded}
use Rattle.words_layout.specs.declared.segment.SegId.{SegId}
use Rattle.turns.specs.Bodies.{Inner}
use Rattle.turns.specs.Doing.{Doing, Fresh, InnerThird, Told, going, poll, done, Act, SegmentTurn, inner_op}
use Rattle.turns.specs.Parts.{turn_is_held, turn_asks, turn_closed, TurnRow}
use Rattle.turns.specs.Stands.{step_op, step_told, turning}
use Rattle.turns.specs.declared.guard.Guard.{Guard as Guarding}
use Rattle.turns.specs.declared.guard.Guard.TheVariants.{Class, Segment}
use Rattle.turns.specs.declared.turn.TurnPart.{TurnPart}
use Rattle.turns.specs.declared.turn.TurnPart.TheVariants as T
use Rattle.turns.specs.declared.turn.TurnStep.{TurnStep}
use Rattle.turns.specs.declared.turn.TurnStep.TheVariants as TS

-- outside its body a turn asks what the instruction asks
pub turning_asks : {R : Type 0} (d : ℕ) (u : SegId) (g : Guarding) (p : TurnPart) (whole rest : Inner R) (shown : R) → g ≡ Segment d u → turn_is_held p ≡ false →
    step_op d (SegmentTurn u whole) (turning u p whole rest shown) ≡ turn_asks g p
turning_asks d u g T.First whole rest shown is out = rw is refl
turning_asks d u g T.Second whole rest shown is out = rw is refl
turning_asks d u g (T.Third t) whole rest shown is out = rw is refl
turning_asks d u g (T.Held t) whole rest shown is out = cc
turning_asks d u g (T.Last t) whole rest shown is out = rw is refl

-- in its body the instruction asks for the body's operation
pub held_asks : {R : Type 0} (d : ℕ) (act : Act R) (u : SegId) (p : TurnPart) (whole rest : Inner R) (shown : R) → turn_is_held p ≡ true →
    step_op d act (turning u p whole rest shown) ≡ inner_op d u rest
held_asks d act u T.First whole rest shown on = cc
held_asks d act u T.Second whole rest shown on = cc
held_asks d act u (T.Third t) whole rest shown on = cc
held_asks d act u (T.Held t) whole rest shown on = refl
held_asks d act u (T.Last t) whole rest shown on = cc

-- and the answer goes to the rest of the body
pub load_told : {R : Type 0} (act : Act R) (u : SegId) (p : TurnPart) (whole : Inner R) (w : GuardedWord) (onward : ℕ → Inner R) (shown shows : R) (answer : ℕ) → turn_is_held p ≡ true →
    step_told act (turning u p whole (Inner.Load w onward) shown) answer ≡ going (turning u p whole (onward answer) shows)
load_told act u T.First whole w onward shown shows answer on = cc
load_told act u T.Second whole w onward shown shows answer on = cc
load_told act u (T.Third t) whole w onward shown shows answer on = cc
load_told act u (T.Held t) whole w onward shown shows answer on = refl
load_told act u (T.Last t) whole w onward shown shows answer on = cc

pub store_told : {R : Type 0} (act : Act R) (u : SegId) (p : TurnPart) (whole : Inner R) (w : GuardedWord) (v : ℕ) (rest : Inner R) (shown shows : R) (answer : ℕ) → turn_is_held p ≡ true →
    step_told act (turning u p whole (Inner.Store w v rest) shown) answer ≡ going (turning u p whole rest shows)
store_told act u T.First whole w v rest shown shows answer on = cc
store_told act u T.Second whole w v rest shown shows answer on = cc
store_told act u (T.Third t) whole w v rest shown shows answer on = cc
store_told act u (T.Held t) whole w v rest shown shows answer on = refl
store_told act u (T.Last t) whole w v rest shown shows answer on = cc

pub add_told : {R : Type 0} (act : Act R) (u : SegId) (p : TurnPart) (whole : Inner R) (w : GuardedWord) (v : ℕ) (onward : ℕ → Inner R) (shown shows : R) (answer : ℕ) → turn_is_held p ≡ true →
    step_told act (turning u p whole (Inner.Add w v onward) shown) answer ≡ going (turning u p whole (onward answer) shows)
add_told act u T.First whole w v onward shown shows answer on = cc
add_told act u T.Second whole w v onward shown shows answer on = cc
add_told act u (T.Third t) whole w v onward shown shows answer on = cc
add_told act u (T.Held t) whole w v onward shown shows answer on = refl
add_told act u (T.Last t) whole w v onward shown shows answer on = cc

-- behind its body a turn has what the body shows
pub turning_closed : {R : Type 0} (u : SegId) (p : TurnPart) (whole rest : Inner R) (shown shows : R) → turn_is_held p ≡ true →
    turning u (turn_closed p) whole rest shown ≡ turning u p whole (Inner.Shows shown) shows
turning_closed u T.First whole rest shown shows on = cc
turning_closed u T.Second whole rest shown shows on = cc
turning_closed u (T.Third t) whole rest shown shows on = cc
turning_closed u (T.Held t) whole rest shown shows on = refl
turning_closed u (T.Last t) whole rest shown shows on = cc

-- what an answer outside the body tells the instruction, by what it tells the turn
abbrev pub turn_told_by : {R : Type 0} → SegId → TurnPart → (whole : Inner R) → (shown : R) → TurnStep → Told R
turn_told_by u q whole shown TS.Going = going (turning u q whole whole shown)
turn_told_by u q whole shown TS.Poll = poll (turning u q whole whole shown)
turn_told_by u q whole shown TS.Held = going (turning u q whole whole shown)
turn_told_by u q whole shown TS.Finished = done shown

pub turning_told : {R : Type 0} (u : SegId) (p q : TurnPart) (whole rest : Inner R) (shown : R) (answer : ℕ) (step : TurnStep) → TurnRow p answer step q →
    step_told (SegmentTurn u whole) (turning u p whole rest shown) answer ≡ turn_told_by u q whole shown step
turning_told u p q whole rest shown answer TS.Going row = elim row [ inl r ↦ rw (r.0, r.1) refl | inr r ↦ rw (r.0, r.1) refl ]
turning_told u p q whole rest shown answer TS.Poll row = rw (row.1.0, row.1.1, row.1.2) refl
turning_told u p q whole rest shown answer TS.Held row = rw (row.0, row.1, eq-eqb answer answer refl) refl
turning_told u p q whole rest shown answer TS.Finished row = rw row.1.0 refl
