-- What a look at its part is of the whole instruction.
use Rattle.std.proofs.Common.{ℕ, ◌≡◌, ◌⊎◌, inl, inr, Bool, true, false, refl}
use Rattle.std.proofs.lemmas.Bool.{eq-eqb}
use Rattle.std.specs.Prelude.{◌==◌, if◌then◌else◌}
use Rattle.words_layout.specs.Words.{WordOp, GuardedWord, Guarded}
use Rattle.turns.specs.Bodies.{Loads}
use Rattle.turns.specs.Doing.{Doing, Fresh, Told, going, poll, done, Act, Look}
use Rattle.turns.specs.Parts.{guard_class, guard_name, look_in_body, look_asks, look_checked, LookRow}
use Rattle.turns.specs.Stands.{step_op, step_told, looking}
use Rattle.turns.specs.declared.guard.Guard.{Guard as Guarding}
use Rattle.turns.specs.declared.look.LookPart.{LookPart}
use Rattle.turns.specs.declared.look.LookPart.TheVariants as L
use Rattle.turns.specs.declared.look.LookStep.{LookStep}
use Rattle.turns.specs.declared.look.LookStep.TheVariants as LS

-- outside its body a look asks what the instruction asks
pub looking_asks : {R : Type 0} (d : ℕ) (g : Guarding) (p : LookPart) (whole rest : Loads R) (shown : R) → look_in_body p ≡ false →
    step_op d (Look (guard_class g) (guard_name g) whole) (looking g p whole rest shown) ≡ look_asks g p
looking_asks d g L.First whole rest shown out = refl
looking_asks d g (L.Second s) whole rest shown out = refl
looking_asks d g (L.Body s) whole rest shown out = cc
looking_asks d g (L.Last s) whole rest shown out = refl

-- in its body the instruction asks for the body's load
pub body_asks : {R : Type 0} (d : ℕ) (act : Act R) (g : Guarding) (p : LookPart) (whole : Loads R) (w : GuardedWord) (onward : ℕ → Loads R) (shown : R) →
    look_in_body p ≡ true → step_op d act (looking g p whole (Loads.Load w onward) shown) ≡ WordOp.Load (guard_class g) (Guarded w)
body_asks d act g L.First whole w onward shown on = cc
body_asks d act g (L.Second s) whole w onward shown on = cc
body_asks d act g (L.Body s) whole w onward shown on = refl
body_asks d act g (L.Last s) whole w onward shown on = cc

-- and the answer goes to the rest of the body
pub body_told : {R : Type 0} (act : Act R) (g : Guarding) (p : LookPart) (whole : Loads R) (w : GuardedWord) (onward : ℕ → Loads R) (shown shows : R) (answer : ℕ) →
    look_in_body p ≡ true → step_told act (looking g p whole (Loads.Load w onward) shown) answer ≡ going (looking g p whole (onward answer) shows)
body_told act g L.First whole w onward shown shows answer on = cc
body_told act g (L.Second s) whole w onward shown shows answer on = cc
body_told act g (L.Body s) whole w onward shown shows answer on = refl
body_told act g (L.Last s) whole w onward shown shows answer on = cc

-- behind its body a look has what the body shows
pub looking_checked : {R : Type 0} (g : Guarding) (p : LookPart) (whole rest : Loads R) (shown shows : R) → look_in_body p ≡ true →
    looking g (look_checked p) whole rest shown ≡ looking g p whole (Loads.Shows shown) shows
looking_checked g L.First whole rest shown shows on = cc
looking_checked g (L.Second s) whole rest shown shows on = cc
looking_checked g (L.Body s) whole rest shown shows on = refl
looking_checked g (L.Last s) whole rest shown shows on = cc

-- what an answer outside the body tells the instruction, by what it tells the look
abbrev pub told_by : {R : Type 0} → Guarding → LookPart → (whole : Loads R) → (shown : R) → LookStep → Told R
told_by g q whole shown LS.Going = going (looking g q whole whole shown)
told_by g q whole shown LS.Body = going (looking g q whole whole shown)
told_by g q whole shown LS.Poll = poll Fresh
told_by g q whole shown LS.Accepted = done shown

pub looking_told : {R : Type 0} (g : Guarding) (p q : LookPart) (whole rest : Loads R) (shown : R) (answer : ℕ) (step : LookStep) → LookRow p answer step q →
    step_told (Look (guard_class g) (guard_name g) whole) (looking g p whole rest shown) answer ≡ told_by g q whole shown step
looking_told g p q whole rest shown answer LS.Going row = rw (row.0, row.1) refl
looking_told g p q whole rest shown answer LS.Body row = rw (row.0, row.1, eq-eqb answer answer refl) refl
looking_told g p q whole rest shown answer LS.Poll row = elim row.0.1.0 [ inl e ↦ rw (e, row.0.1.1) refl | inr e ↦ rw (e, row.0.1.1) refl ]
looking_told g p q whole rest shown answer LS.Accepted row = rw (row.0, eq-eqb answer answer refl) refl
