-- How far a process is in a turn of a guard of its class.
use Rattle.std.specs.Prelude.{ℕ, Bool, true, false, if◌then◌else◌, Option, Some, None}
use Rattle.words_layout.specs.declared.segment.SegId.{SegId}
use Rattle.words_layout.specs.Segments.{same_seg}
use Rattle.words_layout.specs.Words.{Guard, OfClass, OfSegment}
use Rattle.turns.specs.Doing.{Doing, OuterSecond, OuterThird, OuterBody, InnerSecond, InnerThird, InnerBody, Leaving}

-- It is outside; it has begun and has no ticket; it waits with its ticket; or it is past its third part with its ticket.
pub data Stage : Type 0 where
  Outside : Stage
  Begun : Stage
  Waits : (t : ℕ) → Stage
  Has : (t : ℕ) → Stage

-- the stage of the class's turn around a segment's
abbrev pub within_stage : Option ℕ → Stage
within_stage None = Outside
within_stage (Some t) = Has t

-- seen from a guard: the stage of a turn of the class
abbrev pub at_class : Guard → Stage → Stage
at_class OfClass x = x
at_class (OfSegment v) x = Outside

-- seen from a guard: the stage of a turn of segment u, that stands alone or within a turn of the class
abbrev pub at_segment : Guard → Option ℕ → SegId → Stage → Stage
at_segment OfClass within u x = within_stage within
at_segment (OfSegment v) within u x = if same_seg v u then x else Outside

-- how far a process is in a turn of the guard
abbrev pub stage : {R : Type 0} → Guard → Doing R → Stage
stage g (OuterSecond body) = at_class g Begun
stage g (OuterThird t body) = at_class g (Waits t)
stage g (OuterBody t rest) = at_class g (Has t)
stage g (InnerSecond within u body) = at_segment g within u Begun
stage g (InnerThird within u t body) = at_segment g within u (Waits t)
stage g (InnerBody within u t rest) = at_segment g within u (Has t)
stage g (Leaving t) = at_class g (Has t)
stage g _ = Outside

-- a process is inside a turn from its Add to the started word until its Add to the finished word
abbrev pub inside : Stage → Bool
inside Outside = false
inside _ = true
