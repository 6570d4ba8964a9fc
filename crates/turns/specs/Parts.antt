-- The look and the turn by themselves, on the part and the number held, for the gates that drive them.
use Rattle.std.specs.Prelude.{ℕ, ◌<◌, ◌≡◌, ◌⊎◌, Bool, true, false, ◌==◌, if◌then◌else◌}
use Rattle.words_layout.specs.Sizes.{most_classes}
use Rattle.words_layout.specs.Limits.{IsIdentity}
use Rattle.words_layout.specs.Words.{Guard, OfClass, OfSegment, Started, Tickets, Finished, WordOp}
use Rattle.words_layout.specs.Segments.{seg}
use Rattle.words_layout.specs.declared.segment.SegId.{SegId}
use Rattle.turns.specs.declared.guard.Guard.{Guard as Guarding}
use Rattle.turns.specs.declared.guard.Guard.TheVariants.{Class, Segment}
use Rattle.turns.specs.declared.look.LookPart.{LookPart}
use Rattle.turns.specs.declared.look.LookPart.TheVariants as L
use Rattle.turns.specs.declared.look.LookStep.{LookStep}
use Rattle.turns.specs.declared.look.LookStep.TheVariants as LS
use Rattle.turns.specs.declared.turn.TurnPart.{TurnPart}
use Rattle.turns.specs.declared.turn.TurnPart.TheVariants as T
use Rattle.turns.specs.declared.turn.TurnStep.{TurnStep}
use Rattle.turns.specs.declared.turn.TurnStep.TheVariants as TS

-- the class of the words of a guard
abbrev pub guard_class : Guarding → ℕ
guard_class (Class c) = c
guard_class (Segment c u) = c

-- what the guard is within its class
abbrev pub guard_name : Guarding → Guard
guard_name (Class c) = OfClass
guard_name (Segment c u) = OfSegment u

-- the segment of a guard, or the root's identity for a class
abbrev pub guard_seg : Guarding → SegId
guard_seg (Class c) = seg 0 0
guard_seg (Segment c u) = u

-- a guard within the limits of the layout
abbrev pub IsGuard : Guarding → Type 0
IsGuard g = (guard_class g < most_classes) × IsIdentity (guard_seg g)

-- a look that has taken no step
abbrev pub look_first : LookPart
look_first = L.First

-- the look is at its body
abbrev pub look_in_body : LookPart → Bool
look_in_body (L.Body s) = true
look_in_body _ = false

-- the operation of each part but the body
abbrev pub look_asks : Guarding → LookPart → WordOp
look_asks g L.First = WordOp.Load (guard_class g) (Started (guard_name g))
look_asks g (L.Second s) = WordOp.Load (guard_class g) (Finished (guard_name g))
look_asks g (L.Body s) = WordOp.Nothing
look_asks g (L.Last s) = WordOp.Load (guard_class g) (Started (guard_name g))

-- the part that follows the answer
abbrev pub look_goes : LookPart → ℕ → LookPart
look_goes L.First answer = L.Second answer
look_goes (L.Second s) answer = if answer == s then L.Body s else L.First
look_goes (L.Body s) answer = L.Body s
look_goes (L.Last s) answer = L.First

-- what the answer tells
abbrev pub look_tells : LookPart → ℕ → LookStep
look_tells L.First answer = LS.Going
look_tells (L.Second s) answer = if answer == s then LS.Body else LS.Poll
look_tells (L.Body s) answer = LS.Going
look_tells (L.Last s) answer = if answer == s then LS.Accepted else LS.Poll

-- The rows of a look: by what it tells, the part before the answer and the part after it.
abbrev pub LookRow : LookPart → ℕ → LookStep → LookPart → Type 0
LookRow p answer LS.Going q = (p ≡ L.First) × (q ≡ L.Second answer)
LookRow p answer LS.Body q = (p ≡ L.Second answer) × (q ≡ L.Body answer)
LookRow p answer LS.Poll q = ((s : ℕ) × (((p ≡ L.Second s) ⊎ (p ≡ L.Last s)) × ((answer == s) ≡ false))) × (q ≡ L.First)
LookRow p answer LS.Accepted q = (p ≡ L.Last answer) × (q ≡ L.First)

-- behind the body
abbrev pub look_checked : LookPart → LookPart
look_checked (L.Body s) = L.Last s
look_checked p = p

-- a turn that has taken no step
abbrev pub turn_first : TurnPart
turn_first = T.First

-- the turn is at its body
abbrev pub turn_is_held : TurnPart → Bool
turn_is_held (T.Held t) = true
turn_is_held _ = false

-- the operation of each part but the body
abbrev pub turn_asks : Guarding → TurnPart → WordOp
turn_asks g T.First = WordOp.Add (Started (guard_name g)) 1
turn_asks g T.Second = WordOp.Add (Tickets (guard_name g)) 1
turn_asks g (T.Third t) = WordOp.Load (guard_class g) (Finished (guard_name g))
turn_asks g (T.Held t) = WordOp.Nothing
turn_asks g (T.Last t) = WordOp.Add (Finished (guard_name g)) 1

-- the part that follows the answer
abbrev pub turn_goes : TurnPart → ℕ → TurnPart
turn_goes T.First answer = T.Second
turn_goes T.Second answer = T.Third answer
turn_goes (T.Third t) answer = if answer == t then T.Held t else T.Third t
turn_goes (T.Held t) answer = T.Held t
turn_goes (T.Last t) answer = T.First

-- what the answer tells
abbrev pub turn_tells : TurnPart → ℕ → TurnStep
turn_tells T.First answer = TS.Going
turn_tells T.Second answer = TS.Going
turn_tells (T.Third t) answer = if answer == t then TS.Held else TS.Poll
turn_tells (T.Held t) answer = TS.Going
turn_tells (T.Last t) answer = TS.Finished

-- The rows of a turn: by what it tells, the part before the answer and the part after it.
abbrev pub TurnRow : TurnPart → ℕ → TurnStep → TurnPart → Type 0
TurnRow p answer TS.Going q = ((p ≡ T.First) × (q ≡ T.Second)) ⊎ ((p ≡ T.Second) × (q ≡ T.Third answer))
TurnRow p answer TS.Poll q = (t : ℕ) × ((p ≡ T.Third t) × ((answer == t) ≡ false) × (q ≡ T.Third t))
TurnRow p answer TS.Held q = (p ≡ T.Third answer) × (q ≡ T.Held answer)
TurnRow p answer TS.Finished q = (t : ℕ) × ((p ≡ T.Last t) × (q ≡ T.First))

-- behind the body
abbrev pub turn_closed : TurnPart → TurnPart
turn_closed (T.Held t) = T.Last t
turn_closed p = p
