-- What an unfinished instruction may yet show, whatever it loads; and what a step of it tells.
use Rattle.std.specs.Prelude.{ℕ, ◌≡◌, Bool, true, false, Option, Some, None}
use Rattle.policy.specs.Outcome.{Outcome, Refused, Value, Learns, Words}
use Rattle.turns.specs.Bodies.{Loads, Inner, Outer}
use Rattle.turns.specs.Doing.{Doing, LookSecond, LookBody, OuterSecond, OuterThird, OuterBody, InnerSecond, InnerThird, InnerBody, Leaving}

-- whatever it loads, the body of a look shows what P says
abbrev pub LoadsShow : (Outcome → Type 0) → Loads Outcome → Type 0
LoadsShow P (Loads.Load w onward) = (answer : ℕ) → LoadsShow P (onward answer)
LoadsShow P (Loads.Shows shown) = P shown

-- likewise the body of a segment's turn
abbrev pub InnerShows : (Outcome → Type 0) → Inner Outcome → Type 0
InnerShows P (Inner.Load w onward) = (answer : ℕ) → InnerShows P (onward answer)
InnerShows P (Inner.Store w v rest) = InnerShows P rest
InnerShows P (Inner.Add w v onward) = (answer : ℕ) → InnerShows P (onward answer)
InnerShows P (Inner.Shows shown) = P shown

-- likewise the body of a class's turn; Nests says whether a segment's turn may stand in it
abbrev pub OuterShows : (Outcome → Type 0) → (Nests : Type 0) → Outer Outcome → Type 0
OuterShows P Nests (Outer.Load w onward) = (answer : ℕ) → OuterShows P Nests (onward answer)
OuterShows P Nests (Outer.Store w v rest) = OuterShows P Nests rest
OuterShows P Nests (Outer.Enter u body) = Nests × InnerShows P body
OuterShows P Nests (Outer.Shows shown) = P shown

-- a look between its first part and its end
abbrev pub IsLooking : (Outcome → Type 0) → Doing Outcome → Type 0
IsLooking P (LookSecond class g s body) = LoadsShow P body
IsLooking P (LookBody class g s rest) = LoadsShow P rest
IsLooking P _ = ⊥

-- a segment's turn within a class's is one that nests
abbrev pub StandsIn : Type 0 → Option ℕ → Type 0
StandsIn Nests None = Unit {0}
StandsIn Nests (Some t) = Nests

-- a turn between its first part and its end
abbrev pub IsTurning : (Outcome → Type 0) → (Nests : Type 0) → Doing Outcome → Type 0
IsTurning P Nests (OuterSecond body) = OuterShows P Nests body
IsTurning P Nests (OuterThird t body) = OuterShows P Nests body
IsTurning P Nests (OuterBody t rest) = OuterShows P Nests rest
IsTurning P Nests (InnerSecond within u body) = StandsIn Nests within × InnerShows P body
IsTurning P Nests (InnerThird within u t body) = StandsIn Nests within × InnerShows P body
IsTurning P Nests (InnerBody within u t rest) = StandsIn Nests within × InnerShows P rest
IsTurning P Nests (Leaving t) = Nests
IsTurning P Nests _ = ⊥

-- it took effect within, and the Add to C is left
abbrev pub is_leaving : Doing Outcome → Bool
is_leaving (Leaving t) = true
is_leaving _ = false

-- a refusal, or a number
abbrev pub IsReply : Outcome → Type 0
IsReply (Refused rule) = Unit {0}
IsReply (Value value) = Unit {0}
IsReply _ = ⊥

-- a refusal, a number, or a segment for the known table
abbrev pub IsLearning : Outcome → Type 0
IsLearning (Refused rule) = Unit {0}
IsLearning (Value value) = Unit {0}
IsLearning (Learns k) = Unit {0}
IsLearning _ = ⊥

-- a refusal, or words for the pad from that place on
abbrev pub IsFetch : ℕ → Outcome → Type 0
IsFetch pad (Refused rule) = Unit {0}
IsFetch pad (Words at words) = at ≡ pad
IsFetch pad _ = ⊥
