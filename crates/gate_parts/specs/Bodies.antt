-- The body of a gate by what is left of it: what is next, and what follows an answer. It stands in the turn of a class, and from
-- where it enters it in the turn of a segment.
use Rattle.std.specs.Prelude.{ℕ, ◌≡◌, Bool, true, false, ◌||◌, Option, Some, None}
use Rattle.words_layout.specs.Limits.{IsIdentity}
use Rattle.words_layout.specs.declared.segment.SegId.{SegId}
use Rattle.words_layout.specs.Words.{WordOp}
use Rattle.policy.specs.Outcome.{Outcome, Refused, Value}
use Rattle.policy.specs.declared.rule.Rule.{Rule}
use Rattle.turns.specs.Bodies.{Inner, Outer}
use Rattle.turns.specs.Doing.{inner_op, outer_op}
use Rattle.gate_parts.specs.declared.next.Next.{Next}
use Rattle.gate_parts.specs.declared.next.Next.TheVariants.{InClass, InSegment, Ended, EndedIn}

-- what follows the answer to a body's next operation
abbrev pub behind_inner : Inner Outcome → ℕ → Inner Outcome
behind_inner (Inner.Load w onward) answer = onward answer
behind_inner (Inner.Store w v rest) answer = rest
behind_inner (Inner.Add w v onward) answer = onward answer
behind_inner (Inner.Shows shown) answer = Inner.Shows shown

-- likewise in the class's turn, and within it in the segment's
abbrev pub behind : Outer Outcome → ℕ → Outer Outcome
behind (Outer.Load w onward) answer = onward answer
behind (Outer.Store w v rest) answer = rest
behind (Outer.Enter u body) answer = Outer.Enter u (behind_inner body answer)
behind (Outer.Shows shown) answer = Outer.Shows shown

-- the next operation, in whichever turn it stands
abbrev pub body_op : ℕ → Outer Outcome → WordOp
body_op d (Outer.Load w onward) = outer_op d (Outer.Load w onward)
body_op d (Outer.Store w v rest) = outer_op d (Outer.Store w v rest)
body_op d (Outer.Enter u body) = inner_op d u body
body_op d (Outer.Shows shown) = outer_op d (Outer.Shows shown)

-- what is next in a segment's turn
abbrev pub next_inner : SegId → Inner Outcome → Next
next_inner u (Inner.Load w onward) = InSegment u
next_inner u (Inner.Store w v rest) = InSegment u
next_inner u (Inner.Add w v onward) = InSegment u
next_inner u (Inner.Shows shown) = EndedIn u

-- what is next of a body
abbrev pub next_of : Outer Outcome → Next
next_of (Outer.Load w onward) = InClass
next_of (Outer.Store w v rest) = InClass
next_of (Outer.Enter u body) = next_inner u body
next_of (Outer.Shows shown) = Ended

-- an operation is next in the class's turn
abbrev pub is_in_class : Next → Bool
is_in_class InClass = true
is_in_class (InSegment u) = false
is_in_class Ended = false
is_in_class (EndedIn u) = false

-- an operation is next in a segment's turn
abbrev pub is_in_segment : Next → Bool
is_in_segment InClass = false
is_in_segment (InSegment u) = true
is_in_segment Ended = false
is_in_segment (EndedIn u) = false

-- the class's turn is to be left
abbrev pub is_ended : Next → Bool
is_ended InClass = false
is_ended (InSegment u) = false
is_ended Ended = true
is_ended (EndedIn u) = false

-- the segment's turn is to be left
abbrev pub is_ended_in : Next → Bool
is_ended_in InClass = false
is_ended_in (InSegment u) = false
is_ended_in Ended = false
is_ended_in (EndedIn u) = true

-- an operation is next
abbrev pub acts : Next → Bool
acts next = is_in_class next || is_in_segment next

-- a segment whose turn is next is within the limits of the layout
abbrev pub SegmentFits : Next → Type 0
SegmentFits InClass = Unit {0}
SegmentFits (InSegment u) = IsIdentity u
SegmentFits Ended = Unit {0}
SegmentFits (EndedIn u) = IsIdentity u

-- what is left in the segment's turn
abbrev pub within : Outer Outcome → Inner Outcome
within (Outer.Load w onward) = Inner.Shows (Value 0)
within (Outer.Store w v rest) = Inner.Shows (Value 0)
within (Outer.Enter u body) = body
within (Outer.Shows shown) = Inner.Shows shown

-- what a body that is at its end shows
abbrev pub shown_within : Inner Outcome → Outcome
shown_within (Inner.Load w onward) = Value 0
shown_within (Inner.Store w v rest) = Value 0
shown_within (Inner.Add w v onward) = Value 0
shown_within (Inner.Shows shown) = shown

-- likewise in whichever turn it stands
abbrev pub shown_of : Outer Outcome → Outcome
shown_of left = shown_within (within left)

-- what a body comes to: a refusal, or done with value 0
abbrev pub came_to : Option Rule → Outcome
came_to (Some rule) = Refused rule
came_to None = Value 0

-- an answer is taken: what follows it is left, and the whole body stays
abbrev pub Takes : {B : Type 0} → (whole left : B → Outer Outcome) → (before : B) → ℕ → (after : B) → Type 0
Takes whole left before answer after = (left after ≡ behind (left before) answer) × (whole after ≡ whole before)
