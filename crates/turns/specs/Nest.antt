-- A class's turn in whose body the whole turn of a segment may stand, on the parts and the numbers held.
use Rattle.std.specs.Prelude.{ℕ, ◌≡◌, ◌⊎◌, Bool, true, false}
use Rattle.words_layout.specs.Words.{WordOp, Finished, OfClass}
use Rattle.words_layout.specs.declared.segment.SegId.{SegId}
use Rattle.turns.specs.Parts.{turn_is_held, turn_closed, turn_asks, TurnRow}
use Rattle.turns.specs.declared.guard.Guard.TheVariants.{Class, Segment}
use Rattle.turns.specs.declared.turn.TurnPart.{TurnPart}
use Rattle.turns.specs.declared.turn.TurnPart.TheVariants as T
use Rattle.turns.specs.declared.turn.TurnStep.TheVariants as TS
use Rattle.turns.specs.declared.nested.NestedPart.{NestedPart}
use Rattle.turns.specs.declared.nested.NestedPart.TheVariants.{Outer, Inner, Leaving}
use Rattle.turns.specs.declared.nested.Held.{Held}
use Rattle.turns.specs.declared.nested.Held.TheVariants as H
use Rattle.turns.specs.declared.nested.NestedStep.{NestedStep}
use Rattle.turns.specs.declared.nested.NestedStep.TheVariants as NS

-- turns that have taken no step
abbrev pub nested_first : NestedPart
nested_first = Outer T.First

-- the class's turn is held, and no segment's turn is begun
abbrev pub in_outer : NestedPart → Bool
in_outer (Outer p) = turn_is_held p
in_outer _ = false

-- the segment's turn is held too
abbrev pub in_inner : NestedPart → Bool
in_inner (Inner t p) = turn_is_held p
in_inner _ = false

-- whether it is the class's turn whose body is going on
abbrev pub is_class : Held → Bool
is_class H.Class = true
is_class _ = false

-- whether it is the segment's
abbrev pub is_segment : Held → Bool
is_segment H.Segment = true
is_segment _ = false

-- the segment's turn is begun
abbrev pub nested_entered : NestedPart → NestedPart
nested_entered (Outer (T.Held t)) = Inner t T.First
nested_entered q = q

-- behind the body that is going on
abbrev pub nested_closed : NestedPart → NestedPart
nested_closed (Outer p) = Outer (turn_closed p)
nested_closed (Inner t p) = Inner t (turn_closed p)
nested_closed q = q

-- the operation of each part but a body
abbrev pub nested_asks : ℕ → SegId → NestedPart → WordOp
nested_asks d u (Outer p) = turn_asks (Class d) p
nested_asks d u (Inner t p) = turn_asks (Segment d u) p
nested_asks d u (Leaving t) = WordOp.Add (Finished OfClass) 1

-- The rows: by what the answer tells, the part before it and the part after it.
abbrev pub OuterRow : NestedPart → ℕ → (TurnPart → ℕ → TurnPart → Type 0) → NestedPart → Type 0
OuterRow p answer row q = (a : TurnPart) × (b : TurnPart) × ((p ≡ Outer a) × (q ≡ Outer b) × row a answer b)

-- the rows of the segment's turn within, by what they tell
abbrev pub InnerRow : NestedPart → ℕ → (TurnPart → ℕ → TurnPart → Type 0) → NestedPart → Type 0
InnerRow p answer row q = (t : ℕ) × (a : TurnPart) × (b : TurnPart) × ((p ≡ Inner t a) × (q ≡ Inner t b) × row a answer b)

-- the rows of both turns: the part before the answer and the part after it
abbrev pub NestedRow : NestedPart → ℕ → NestedStep → NestedPart → Type 0
NestedRow p answer NS.Going q = OuterRow p answer (λ a n b. TurnRow a n TS.Going b) q ⊎ InnerRow p answer (λ a n b. TurnRow a n TS.Going b) q
NestedRow p answer NS.Poll q = OuterRow p answer (λ a n b. TurnRow a n TS.Poll b) q ⊎ InnerRow p answer (λ a n b. TurnRow a n TS.Poll b) q
NestedRow p answer NS.Held q = OuterRow p answer (λ a n b. TurnRow a n TS.Held b) q
NestedRow p answer NS.Entered q = InnerRow p answer (λ a n b. TurnRow a n TS.Held b) q
NestedRow p answer NS.Effect q = (t : ℕ) × (s : ℕ) × ((p ≡ Inner t (T.Last s)) × (q ≡ Leaving t))
NestedRow p answer NS.Finished q = (t : ℕ) × ((p ≡ Outer (T.Last t)) × (q ≡ Outer T.First))
NestedRow p answer NS.Over q = (t : ℕ) × ((p ≡ Leaving t) × (q ≡ Outer T.First))
