-- A gate in its turns: how far it is, by the part of its turns and by what is left of its body.
use Rattle.std.specs.Prelude.{ℕ, ◌≡◌, Bool, true, ◌||◌, ◌==◌, Option}
use Rattle.words_layout.specs.declared.segment.SegId.{SegId}
use Rattle.policy.specs.Outcome.{Outcome, Refused}
use Rattle.turns.specs.Bodies.{Outer}
use Rattle.policy.specs.declared.answers.Reply.{Reply}
use Rattle.policy.specs.declared.answers.Outcome.{Outcome as Answer}
use Rattle.turns.specs.Doing.{Doing, Fresh, Told, Act, ClassTurn}
use Rattle.turns.specs.Stands.{nesting, refusing}
use Rattle.turns.specs.declared.turn.TurnPart.{TurnPart}
use Rattle.turns.specs.declared.turn.TurnPart.TheVariants as T
use Rattle.turns.specs.declared.nested.NestedPart.{NestedPart}
use Rattle.turns.specs.declared.nested.NestedPart.TheVariants as N
use Rattle.gate_parts.specs.Replies.{answers, reply_kept}
use Rattle.gate_parts.specs.Bodies.{is_in_class, is_in_segment, is_ended, is_ended_in, next_of, within, shown_of}
use Rattle.gate_parts.specs.declared.next.Next.{Next}
use Rattle.gate_parts.specs.declared.work.InTurns.{InTurns}
use Rattle.gate_parts.specs.declared.work.Work.{Work}
use Rattle.gate_parts.specs.declared.work.Work.TheVariants as W

-- how far a gate is, by the segment and the part of its turns, its whole body and what is left of it
abbrev pub far : SegId → NestedPart → (whole left : Outer Outcome) → Doing Outcome
far u p whole left = nesting u p whole left (within left) (within left) (shown_of left)

-- what is next, by the part of the class's turn
abbrev pub fits_outer : TurnPart → Next → Bool
fits_outer (T.Held t) next = is_in_class next
fits_outer (T.Last t) next = is_ended next
fits_outer _ next = true

-- and by the part of the segment's
abbrev pub fits_inner : TurnPart → Next → Bool
fits_inner (T.Held t) next = is_in_segment next
fits_inner (T.Last t) next = is_ended_in next
fits_inner _ next = is_in_segment next || is_ended_in next

-- What is next fits the part of the turns: an operation while a body is going on, and none behind it.
abbrev pub fits : NestedPart → Next → Bool
fits (N.Outer p) next = fits_outer p next
fits (N.Inner n p) next = fits_inner p next
fits (N.Leaving t) next = true

-- how far a begun gate is, by its whole body and by what is left of it
abbrev pub far_by : {B : Type 0} → (whole left : B → Outer Outcome) → InTurns B → Doing Outcome
far_by whole left gate = far gate.turns.seg gate.turns.part (whole gate.body) (left gate.body)

-- what is next of it fits its turns
abbrev pub fits_by : {B : Type 0} → (left : B → Outer Outcome) → InTurns B → Bool
fits_by left gate = fits gate.turns.part (next_of (left gate.body))

-- a gate's act, by its whole body
abbrev pub act_by : {B : Type 0} → (whole : B → Outer Outcome) → Work B → Act Outcome
act_by whole (W.Refused rule) = refusing (Refused rule)
act_by whole (W.Begun gate) = ClassTurn (whole gate.body)

-- how far a gate is
abbrev pub doing_by : {B : Type 0} → (whole left : B → Outer Outcome) → Work B → Doing Outcome
doing_by whole left (W.Refused rule) = Fresh
doing_by whole left (W.Begun gate) = far_by whole left gate

-- its turns are of class d
abbrev pub of_class : {B : Type 0} → ℕ → Work B → Bool
of_class d (W.Refused rule) = true
of_class d (W.Begun gate) = gate.turns.class == d

-- what is next of it fits its turns
abbrev pub runs : {B : Type 0} → (left : B → Outer Outcome) → Work B → Bool
runs left (W.Refused rule) = true
runs left (W.Begun gate) = fits_by left gate

-- A step of a gate: what it is answered, how far it is then, and the reply that is kept are those of what the step told.
pub record Stepped (told : Told Outcome) (before after : Option Reply) (outcome : Answer) (doing : Doing Outcome) : Type 0 where
  pub outcome_is : outcome ≡ answers told before
  pub doing_is : doing ≡ told.doing
  pub kept_is : after ≡ reply_kept told before
