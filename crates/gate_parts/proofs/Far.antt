-- What the steps of a gate in its turns are of the whole instruction.
use Rattle.std.proofs.Common.{ℕ, ◌≡◌, ◌⊎◌, inl, inr, Bool, true, false, refl, ap, ◌∙◌, Option, Some, None}
use Rattle.std.specs.Prelude.{◌||◌}
use Rattle.std.proofs.lemmas.Bool.{eq-eqb}
use Rattle.words_layout.specs.declared.segment.SegId.{SegId}
use Rattle.policy.specs.Outcome.{Outcome}
use Rattle.turns.specs.Bodies.{Inner, Outer}
use Rattle.turns.specs.Doing.{Doing, Fresh, Goes, Ends, Told, going, poll, Act, ClassTurn, inner_op, outer_op, inner_told, outer_told, OuterBody, InnerBody}
use Rattle.turns.specs.Nest.{in_outer, in_inner, nested_entered, nested_closed, nested_asks, NestedRow}
use Rattle.turns.specs.Stands.{step_op, step_told, nesting}
use Rattle.turns.specs.declared.turn.TurnPart.TheVariants as T
use Rattle.turns.specs.declared.nested.NestedPart.{NestedPart}
use Rattle.turns.specs.declared.nested.NestedPart.TheVariants as N
use Rattle.turns.specs.declared.nested.NestedStep.{NestedStep}
use Rattle.turns.specs.declared.nested.NestedStep.TheVariants as NS
use Rattle.turns.proofs.Nesting.{nesting_asks}
use Rattle.gate_parts.specs.Bodies.{behind, body_op, next_of, is_in_class, is_in_segment, is_ended, is_ended_in, within, shown_of}
use Rattle.gate_parts.specs.InTurns.{far, fits}
use Rattle.gate_parts.specs.declared.next.Next.{Next}
use Rattle.gate_parts.specs.declared.next.Next.TheVariants.{InClass, InSegment, Ended, EndedIn}

-- the class's turn is held while its body is going on
held_outer : (p : NestedPart) → in_outer p ≡ true → (t : ℕ) × (p ≡ N.Outer (T.Held t))
held_outer (N.Outer T.First) on = cc
held_outer (N.Outer T.Second) on = cc
held_outer (N.Outer (T.Third t)) on = cc
held_outer (N.Outer (T.Held t)) on = (t, refl)
held_outer (N.Outer (T.Last t)) on = cc
held_outer (N.Inner n p) on = cc
held_outer (N.Leaving t) on = cc

-- likewise the segment's
held_inner : (p : NestedPart) → in_inner p ≡ true → (n : ℕ) × (t : ℕ) × (p ≡ N.Inner n (T.Held t))
held_inner (N.Outer p) on = cc
held_inner (N.Inner n T.First) on = cc
held_inner (N.Inner n T.Second) on = cc
held_inner (N.Inner n (T.Third t)) on = cc
held_inner (N.Inner n (T.Held t)) on = (n, t, refl)
held_inner (N.Inner n (T.Last t)) on = cc
held_inner (N.Leaving t) on = cc

class_op : (d : ℕ) (left : Outer Outcome) → is_in_class (next_of left) ≡ true → outer_op d left ≡ body_op d left
class_op d (Outer.Load w onward) on = refl
class_op d (Outer.Store w v rest) on = refl
class_op d (Outer.Enter u (Inner.Load w onward)) on = cc
class_op d (Outer.Enter u (Inner.Store w v rest)) on = cc
class_op d (Outer.Enter u (Inner.Add w v onward)) on = cc
class_op d (Outer.Enter u (Inner.Shows shown)) on = cc
class_op d (Outer.Shows shown) on = cc

segment_op : (d : ℕ) (u : SegId) (left : Outer Outcome) → is_in_segment (next_of left) ≡ true → inner_op d u (within left) ≡ body_op d left
segment_op d u (Outer.Load w onward) on = cc
segment_op d u (Outer.Store w v rest) on = cc
segment_op d u (Outer.Enter v (Inner.Load w onward)) on = refl
segment_op d u (Outer.Enter v (Inner.Store w x rest)) on = refl
segment_op d u (Outer.Enter v (Inner.Add w x onward)) on = refl
segment_op d u (Outer.Enter v (Inner.Shows shown)) on = cc
segment_op d u (Outer.Shows shown) on = cc

-- in the body of the class's turn the body's operation is asked for
pub class_asked : (d : ℕ) (act : Act Outcome) (u : SegId) (p : NestedPart) (whole left : Outer Outcome) → in_outer p ≡ true → fits p (next_of left) ≡ true →
    step_op d act (far u p whole left) ≡ body_op d left
class_asked d act u p whole left on fit =
    let h = held_outer p on in
    let f : is_in_class (next_of left) ≡ true = rw h.1 at fit in
    rw h.1 (class_op d left f)

-- likewise in that of the segment's
pub segment_asked : (d : ℕ) (act : Act Outcome) (u : SegId) (p : NestedPart) (whole left : Outer Outcome) → in_inner p ≡ true → fits p (next_of left) ≡ true →
    step_op d act (far u p whole left) ≡ body_op d left
segment_asked d act u p whole left on fit =
    let h = held_inner p on in
    let f : is_in_segment (next_of left) ≡ true = rw h.2 at fit in
    rw h.2 (segment_op d u left f)

-- an operation is next while a body is going on
pub class_acts : (p : NestedPart) (next : Next) → in_outer p ≡ true → fits p next ≡ true → is_in_class next ≡ true
class_acts p next on fit = let h = held_outer p on in rw h.1 at fit

pub segment_acts : (p : NestedPart) (next : Next) → in_inner p ≡ true → fits p next ≡ true → is_in_segment next ≡ true
segment_acts p next on fit = let h = held_inner p on in rw h.2 at fit

-- outside the bodies the turns ask what the instruction asks
pub turns_asked : (d : ℕ) (u : SegId) (p : NestedPart) (whole left : Outer Outcome) → (in_outer p || in_inner p) ≡ false →
    step_op d (ClassTurn whole) (far u p whole left) ≡ nested_asks d u p
turns_asked d u p whole left out = nesting_asks d u p whole left (within left) (within left) (shown_of left) out

class_behind : (t answer : ℕ) (left : Outer Outcome) → is_in_class (next_of left) ≡ true → outer_told t left answer ≡ going (OuterBody t (behind left answer))
class_behind t answer (Outer.Load w onward) on = refl
class_behind t answer (Outer.Store w v rest) on = refl
class_behind t answer (Outer.Enter u (Inner.Load w onward)) on = cc
class_behind t answer (Outer.Enter u (Inner.Store w v rest)) on = cc
class_behind t answer (Outer.Enter u (Inner.Add w v onward)) on = cc
class_behind t answer (Outer.Enter u (Inner.Shows shown)) on = cc
class_behind t answer (Outer.Shows shown) on = cc

segment_behind : (n : Option ℕ) (u : SegId) (t answer : ℕ) (left : Outer Outcome) → is_in_segment (next_of left) ≡ true →
    inner_told n u t (within left) answer ≡ going (InnerBody n u t (within (behind left answer)))
segment_behind n u t answer (Outer.Load w onward) on = cc
segment_behind n u t answer (Outer.Store w v rest) on = cc
segment_behind n u t answer (Outer.Enter v (Inner.Load w onward)) on = refl
segment_behind n u t answer (Outer.Enter v (Inner.Store w x rest)) on = refl
segment_behind n u t answer (Outer.Enter v (Inner.Add w x onward)) on = refl
segment_behind n u t answer (Outer.Enter v (Inner.Shows shown)) on = cc
segment_behind n u t answer (Outer.Shows shown) on = cc

-- the answer goes to the rest of the body
pub class_told : (act : Act Outcome) (u : SegId) (p : NestedPart) (whole left after : Outer Outcome) (answer : ℕ) → in_outer p ≡ true → fits p (next_of left) ≡ true →
    after ≡ behind left answer → step_told act (far u p whole left) answer ≡ going (far u p whole after)
class_told act u p whole left after answer on fit is =
    let h = held_outer p on in
    let f : is_in_class (next_of left) ≡ true = rw h.1 at fit in
    rw (is, h.1) (class_behind h.0 answer left f)

pub segment_told : (act : Act Outcome) (u : SegId) (p : NestedPart) (whole left after : Outer Outcome) (answer : ℕ) → in_inner p ≡ true → fits p (next_of left) ≡ true →
    after ≡ behind left answer → step_told act (far u p whole left) answer ≡ going (far u p whole after)
segment_told act u p whole left after answer on fit is =
    let h = held_inner p on in
    let f : is_in_segment (next_of left) ≡ true = rw h.2 at fit in
    rw (is, h.2) (segment_behind (Some h.0) u h.1 answer left f)

-- what is next in a segment's turn
in_turn : (v : SegId) (body : Inner Outcome) → (is_in_segment (next_of (Outer.Enter v body)) || is_ended_in (next_of (Outer.Enter v body))) ≡ true
in_turn v (Inner.Load w onward) = refl
in_turn v (Inner.Store w x rest) = refl
in_turn v (Inner.Add w x onward) = refl
in_turn v (Inner.Shows shown) = refl

stays_by : (left : Outer Outcome) (answer : ℕ) → is_in_segment (next_of left) ≡ true → (is_in_segment (next_of (behind left answer)) || is_ended_in (next_of (behind left answer))) ≡ true
stays_by (Outer.Load w onward) answer on = cc
stays_by (Outer.Store w v rest) answer on = cc
stays_by (Outer.Enter v (Inner.Load w onward)) answer on = in_turn v (onward answer)
stays_by (Outer.Enter v (Inner.Store w x rest)) answer on = in_turn v rest
stays_by (Outer.Enter v (Inner.Add w x onward)) answer on = in_turn v (onward answer)
stays_by (Outer.Enter v (Inner.Shows shown)) answer on = cc
stays_by (Outer.Shows shown) answer on = cc

-- behind an operation of the segment's turn the body is still in it
pub stays : (p : NestedPart) (left after : Outer Outcome) (answer : ℕ) → in_inner p ≡ true → fits p (next_of left) ≡ true → after ≡ behind left answer →
    (is_in_segment (next_of after) || is_ended_in (next_of after)) ≡ true
stays p left after answer on fit is = rw is (stays_by left answer (segment_acts p (next_of left) on fit))

ended_shows : (left : Outer Outcome) → is_ended (next_of left) ≡ true → Outer.Shows (shown_of left) ≡ left
ended_shows (Outer.Load w onward) on = cc
ended_shows (Outer.Store w v rest) on = cc
ended_shows (Outer.Enter u (Inner.Load w onward)) on = cc
ended_shows (Outer.Enter u (Inner.Store w v rest)) on = cc
ended_shows (Outer.Enter u (Inner.Add w v onward)) on = cc
ended_shows (Outer.Enter u (Inner.Shows shown)) on = cc
ended_shows (Outer.Shows shown) on = refl

ended_within : (left : Outer Outcome) → is_ended_in (next_of left) ≡ true → Inner.Shows (shown_of left) ≡ within left
ended_within (Outer.Load w onward) on = cc
ended_within (Outer.Store w v rest) on = cc
ended_within (Outer.Enter u (Inner.Load w onward)) on = cc
ended_within (Outer.Enter u (Inner.Store w v rest)) on = cc
ended_within (Outer.Enter u (Inner.Add w v onward)) on = cc
ended_within (Outer.Enter u (Inner.Shows shown)) on = refl
ended_within (Outer.Shows shown) on = cc

enters_by : (v : SegId) (left : Outer Outcome) → (next_of left ≡ InSegment v) ⊎ (next_of left ≡ EndedIn v) → Outer.Enter v (within left) ≡ left
enters_by v (Outer.Load w onward) next = elim next [ inl e ↦ cc | inr e ↦ cc ]
enters_by v (Outer.Store w x rest) next = elim next [ inl e ↦ cc | inr e ↦ cc ]
enters_by v (Outer.Enter u (Inner.Load w onward)) next = elim next [ inl e ↦ cc | inr e ↦ cc ]
enters_by v (Outer.Enter u (Inner.Store w x rest)) next = elim next [ inl e ↦ cc | inr e ↦ cc ]
enters_by v (Outer.Enter u (Inner.Add w x onward)) next = elim next [ inl e ↦ cc | inr e ↦ cc ]
enters_by v (Outer.Enter u (Inner.Shows shown)) next = elim next [ inl e ↦ cc | inr e ↦ cc ]
enters_by v (Outer.Shows shown) next = elim next [ inl e ↦ cc | inr e ↦ cc ]

-- where a body is at its end, its turn may be left
pub class_closed : (u : SegId) (p : NestedPart) (whole left : Outer Outcome) → in_outer p ≡ true → is_ended (next_of left) ≡ true →
    far u (nested_closed p) whole left ≡ far u p whole left
class_closed u p whole left on ended = let h = held_outer p on in rw h.1 (ap (λ x. OuterBody h.0 x) (ended_shows left ended))

pub segment_closed : (u : SegId) (p : NestedPart) (whole left : Outer Outcome) → in_inner p ≡ true → is_ended_in (next_of left) ≡ true →
    far u (nested_closed p) whole left ≡ far u p whole left
segment_closed u p whole left on ended = let h = held_inner p on in rw h.2 (ap (λ x. InnerBody (Some h.0) u h.1 x) (ended_within left ended))

-- and where the segment's turn is next, it may be begun
pub segment_entered : (u v : SegId) (p : NestedPart) (whole left : Outer Outcome) → in_outer p ≡ true → (next_of left ≡ InSegment v) ⊎ (next_of left ≡ EndedIn v) →
    far v (nested_entered p) whole left ≡ far u p whole left
segment_entered u v p whole left on next = let h = held_outer p on in rw h.1 (ap (λ x. OuterBody h.0 x) (enters_by v left next))

-- what is next then fits
pub class_fits : (p : NestedPart) (next : Next) → in_outer p ≡ true → is_in_class next ≡ true → fits p next ≡ true
class_fits p next on acts = let h = held_outer p on in rw h.1 acts

pub closed_fits : (p : NestedPart) (next : Next) → in_outer p ≡ true → is_ended next ≡ true → fits (nested_closed p) next ≡ true
closed_fits p next on ended = let h = held_outer p on in rw h.1 ended

pub entered_fits : (p : NestedPart) (next : Next) → in_outer p ≡ true → (is_in_segment next || is_ended_in next) ≡ true → fits (nested_entered p) next ≡ true
entered_fits p next on stays = let h = held_outer p on in rw h.1 stays

pub segment_fits : (p : NestedPart) (next : Next) → in_inner p ≡ true → is_in_segment next ≡ true → fits p next ≡ true
segment_fits p next on acts = let h = held_inner p on in rw h.2 acts

pub left_fits : (p : NestedPart) (next : Next) → in_inner p ≡ true → is_ended_in next ≡ true → fits (nested_closed p) next ≡ true
left_fits p next on ended = let h = held_inner p on in rw h.2 ended

-- what an answer outside the bodies tells the instruction, by what it tells the turns
abbrev pub told_far : SegId → NestedPart → (whole left : Outer Outcome) → NestedStep → Told Outcome
told_far u q whole left NS.Going = going (far u q whole left)
told_far u q whole left NS.Poll = poll (far u q whole left)
told_far u q whole left NS.Held = going (far u q whole whole)
told_far u q whole left NS.Entered = going (far u q whole left)
told_far u q whole left NS.Effect = record { takes = Some (shown_of left); doing = far u q whole left; ending = Goes }
told_far u q whole left NS.Finished = record { takes = Some (shown_of left); doing = far u q whole left; ending = Ends }
told_far u q whole left NS.Over = record { takes = None; doing = far u q whole left; ending = Ends }

pub turns_told : (u : SegId) (p q : NestedPart) (whole left : Outer Outcome) (answer : ℕ) (step : NestedStep) → NestedRow p answer step q →
    step_told (ClassTurn whole) (far u p whole left) answer ≡ told_far u q whole left step
turns_told u p q whole left answer NS.Going row = elim row [
  | inl o ↦ rw (o.2.0, o.2.1) (elim o.2.2 [ inl r ↦ rw (r.0, r.1) refl | inr r ↦ rw (r.0, r.1) refl ])
  | inr i ↦ rw (i.3.0, i.3.1) (elim i.3.2 [ inl r ↦ rw (r.0, r.1) refl | inr r ↦ rw (r.0, r.1) refl ])
]
turns_told u p q whole left answer NS.Poll row = elim row [
  | inl o ↦ rw (o.2.0, o.2.1) (rw (o.2.2.1.0, o.2.2.1.1, o.2.2.1.2) refl)
  | inr i ↦ rw (i.3.0, i.3.1) (rw (i.3.2.1.0, i.3.2.1.1, i.3.2.1.2) refl)
]
turns_told u p q whole left answer NS.Held row = rw (row.2.0, row.2.1) (rw (row.2.2.0, row.2.2.1, eq-eqb answer answer refl) refl)
turns_told u p q whole left answer NS.Entered row = rw (row.3.0, row.3.1) (rw (row.3.2.0, row.3.2.1, eq-eqb answer answer refl) refl)
turns_told u p q whole left answer NS.Effect row = rw (row.2.0, row.2.1) refl
turns_told u p q whole left answer NS.Finished row = rw (row.1.0, row.1.1) refl
turns_told u p q whole left answer NS.Over row = rw (row.1.0, row.1.1) refl

-- what is next fits the turns behind their step too
abbrev pub FitsBehind : NestedPart → Next → NestedStep → Type 0
FitsBehind q next NS.Going = fits q next ≡ true
FitsBehind q next NS.Poll = fits q next ≡ true
FitsBehind q next NS.Held = in_outer q ≡ true
FitsBehind q next NS.Entered = (in_inner q ≡ true) × ((is_in_segment next || is_ended_in next) ≡ true)
FitsBehind q next NS.Effect = (fits q next ≡ true) × (is_ended_in next ≡ true)
FitsBehind q next NS.Finished = (fits q next ≡ true) × (is_ended next ≡ true)
FitsBehind q next NS.Over = fits q next ≡ true

pub turns_fit : (p q : NestedPart) (next : Next) (answer : ℕ) (step : NestedStep) → NestedRow p answer step q → fits p next ≡ true → FitsBehind q next step
turns_fit p q next answer NS.Going row fit = elim row [
  | inl o ↦ rw o.2.1 (elim o.2.2 [ inl r ↦ rw r.1 refl | inr r ↦ rw r.1 refl ])
  | inr i ↦ let f = rw i.3.0 at fit in rw i.3.1 (elim i.3.2 [ inl r ↦ (let g = rw r.0 at f in rw r.1 g) | inr r ↦ (let g = rw r.0 at f in rw r.1 g) ])
]
turns_fit p q next answer NS.Poll row fit = elim row [
  | inl o ↦ rw (o.2.1, o.2.2.1.2) refl
  | inr i ↦ let f = rw i.3.0 at fit in let g = rw i.3.2.1.0 at f in rw (i.3.1, i.3.2.1.2) g
]
turns_fit p q next answer NS.Held row fit = rw (row.2.1, row.2.2.1) refl
turns_fit p q next answer NS.Entered row fit = let f = rw row.3.0 at fit in let g = rw row.3.2.0 at f in (rw (row.3.1, row.3.2.1) refl, g)
turns_fit p q next answer NS.Effect row fit = let f = rw row.2.0 at fit in (rw row.2.1 refl, f)
turns_fit p q next answer NS.Finished row fit = let f = rw row.1.0 at fit in (rw row.1.1 refl, f)
turns_fit p q next answer NS.Over row fit = rw row.1.1 refl
