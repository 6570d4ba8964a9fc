-- What the code of a gate stands for: an act, and how far it is.
use Rattle.std.specs.Prelude.{ℕ, Option, Some, None}
use Rattle.words_layout.specs.Words.{WordOp}
use Rattle.words_layout.specs.declared.segment.SegId.{SegId}
use Rattle.turns.specs.Bodies.{Loads, Inner, Outer}
use Rattle.turns.specs.Doing.{Doing, Fresh, LookSecond, LookBody, OuterSecond, OuterThird, OuterBody, InnerSecond, InnerThird, InnerBody, Leaving, Told, done, doing_op, doing_told, Act, Once, act_op, act_told}
use Rattle.turns.specs.Parts.{guard_class, guard_name}
use Rattle.turns.specs.declared.guard.Guard.{Guard as Guarding}
use Rattle.turns.specs.declared.look.LookPart.{LookPart}
use Rattle.turns.specs.declared.look.LookPart.TheVariants as L
use Rattle.turns.specs.declared.turn.TurnPart.{TurnPart}
use Rattle.turns.specs.declared.turn.TurnPart.TheVariants as T
use Rattle.turns.specs.declared.nested.NestedPart.{NestedPart}
use Rattle.turns.specs.declared.nested.NestedPart.TheVariants as N

-- a refusal by a private test: one step, which touches no word
abbrev pub refusing : {R : Type 0} → R → Act R
refusing shown = Once WordOp.Nothing (λ answer. done shown)

-- the next operation of an act of a process of class d
abbrev pub step_op : {R : Type 0} → ℕ → Act R → Doing R → WordOp
step_op d act Fresh = act_op act
step_op d act doing = doing_op d doing

-- what the answer tells it
abbrev pub step_told : {R : Type 0} → Act R → Doing R → ℕ → Told R
step_told act Fresh answer = act_told act answer
step_told act doing answer = doing_told doing answer

-- an instruction with a look at its part: whole is the look's body, rest what is left of it, and shown what it came to
abbrev pub looking : {R : Type 0} → Guarding → LookPart → (whole rest : Loads R) → (shown : R) → Doing R
looking g L.First whole rest shown = Fresh
looking g (L.Second s) whole rest shown = LookSecond (guard_class g) (guard_name g) s whole
looking g (L.Body s) whole rest shown = LookBody (guard_class g) (guard_name g) s rest
looking g (L.Last s) whole rest shown = LookBody (guard_class g) (guard_name g) s (Loads.Shows shown)

-- likewise with a turn of a segment that stands alone
abbrev pub turning : {R : Type 0} → SegId → TurnPart → (whole rest : Inner R) → (shown : R) → Doing R
turning u T.First whole rest shown = Fresh
turning u T.Second whole rest shown = InnerSecond None u whole
turning u (T.Third t) whole rest shown = InnerThird None u t whole
turning u (T.Held t) whole rest shown = InnerBody None u t rest
turning u (T.Last t) whole rest shown = InnerBody None u t (Inner.Shows shown)

-- likewise with a segment's turn within its class's, whose ticket is n
abbrev pub within : {R : Type 0} → (n : ℕ) → SegId → TurnPart → (whole rest : Inner R) → (shown : R) → Doing R
within n u T.First whole rest shown = OuterBody n (Outer.Enter u whole)
within n u T.Second whole rest shown = InnerSecond (Some n) u whole
within n u (T.Third t) whole rest shown = InnerThird (Some n) u t whole
within n u (T.Held t) whole rest shown = InnerBody (Some n) u t rest
within n u (T.Last t) whole rest shown = InnerBody (Some n) u t (Inner.Shows shown)

-- likewise with a turn of the class, in whose body there may be one of segment u: the bodies of both, and what is left of them
abbrev pub nesting : {R : Type 0} → SegId → NestedPart → (whole rest : Outer R) → (inner left : Inner R) → (shown : R) → Doing R
nesting u (N.Outer T.First) whole rest inner left shown = Fresh
nesting u (N.Outer T.Second) whole rest inner left shown = OuterSecond whole
nesting u (N.Outer (T.Third t)) whole rest inner left shown = OuterThird t whole
nesting u (N.Outer (T.Held t)) whole rest inner left shown = OuterBody t rest
nesting u (N.Outer (T.Last t)) whole rest inner left shown = OuterBody t (Outer.Shows shown)
nesting u (N.Inner n p) whole rest inner left shown = within n u p inner left shown
nesting u (N.Leaving t) whole rest inner left shown = Leaving t
