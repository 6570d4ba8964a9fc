-- Looks and turns step by step: how far an instruction is, its next operation, and what the answer does.
use Rattle.std.specs.Prelude.{ℕ, ◌==◌, if◌then◌else◌, Option, Some, None}
use Rattle.words_layout.specs.declared.segment.SegId.{SegId}
use Rattle.words_layout.specs.Words.{Guard, OfClass, OfSegment, Guarded, Started, Tickets, Finished, WordOp}
use Rattle.turns.specs.Bodies.{Loads, Inner, Outer}

-- The numbers held are s of a look and t of a turn; rest is what is left of the body. The turn of a segment stands alone, or
-- within its class's turn, whose ticket is then held besides.
pub data Doing (R : Type 0) : Type 0 where
  Fresh : Doing R  -- no step of it was taken
  LookSecond : (class : ℕ) → Guard → (s : ℕ) → Loads R → Doing R  -- the started word was s
  LookBody : (class : ℕ) → Guard → (s : ℕ) → (rest : Loads R) → Doing R  -- the finished word was s
  OuterSecond : Outer R → Doing R  -- 1 was added to S
  OuterThird : (t : ℕ) → Outer R → Doing R  -- the ticket is t
  OuterBody : (t : ℕ) → (rest : Outer R) → Doing R  -- C was t
  InnerSecond : (within : Option ℕ) → SegId → Inner R → Doing R  -- 1 was added to the started word
  InnerThird : (within : Option ℕ) → SegId → (t : ℕ) → Inner R → Doing R  -- the ticket is t
  InnerBody : (within : Option ℕ) → SegId → (t : ℕ) → (rest : Inner R) → Doing R  -- the finished word was t
  Leaving : (t : ℕ) → Doing R  -- it took effect within; the Add to C is left

-- whether a step goes on, polls, or ends the instruction
pub data Ending : Type 0 where
  Goes : Ending
  Polls : Ending
  Ends : Ending

-- What an answer does: what takes effect by it, if anything does, how far the instruction then is, and how the step ends.
pub record Told (R : Type 0) : Type 0 where
  pub takes : Option R
  pub doing : Doing R
  pub ending : Ending

-- nothing takes effect, and it goes on
abbrev pub going : {R : Type 0} → Doing R → Told R
going x = record { takes = None; doing = x; ending = Goes }

-- nothing takes effect, and it waits
abbrev pub poll : {R : Type 0} → Doing R → Told R
poll x = record { takes = None; doing = x; ending = Polls }

-- it takes effect and ends
abbrev pub done : {R : Type 0} → R → Told R
done shown = record { takes = Some shown; doing = Fresh; ending = Ends }

-- the operation of a look, behind its second part
abbrev pub look_op : {R : Type 0} → ℕ → Guard → Loads R → WordOp
look_op class g (Loads.Load w onward) = WordOp.Load class (Guarded w)
look_op class g (Loads.Shows shown) = WordOp.Load class (Started g)

-- the operation of a turn of class d, behind its third part
abbrev pub outer_op : {R : Type 0} → ℕ → Outer R → WordOp
outer_op d (Outer.Load w onward) = WordOp.Load d (Guarded w)
outer_op d (Outer.Store w v rest) = WordOp.Store (Guarded w) v
outer_op d (Outer.Enter u body) = WordOp.Add (Started (OfSegment u)) 1
outer_op d (Outer.Shows shown) = WordOp.Add (Finished OfClass) 1

-- the operation of a turn of a segment, behind its third part
abbrev pub inner_op : {R : Type 0} → ℕ → SegId → Inner R → WordOp
inner_op d u (Inner.Load w onward) = WordOp.Load d (Guarded w)
inner_op d u (Inner.Store w v rest) = WordOp.Store (Guarded w) v
inner_op d u (Inner.Add w v onward) = WordOp.Add (Guarded w) v
inner_op d u (Inner.Shows shown) = WordOp.Add (Finished (OfSegment u)) 1

-- the next operation of an instruction of a process of class d, of which some step was taken
abbrev pub doing_op : {R : Type 0} → ℕ → Doing R → WordOp
doing_op d Fresh = WordOp.Nothing
doing_op d (LookSecond class g s body) = WordOp.Load class (Finished g)
doing_op d (LookBody class g s rest) = look_op class g rest
doing_op d (OuterSecond body) = WordOp.Add (Tickets OfClass) 1
doing_op d (OuterThird t body) = WordOp.Load d (Finished OfClass)
doing_op d (OuterBody t rest) = outer_op d rest
doing_op d (InnerSecond within u body) = WordOp.Add (Tickets (OfSegment u)) 1
doing_op d (InnerThird within u t body) = WordOp.Load d (Finished (OfSegment u))
doing_op d (InnerBody within u t rest) = inner_op d u rest
doing_op d (Leaving t) = WordOp.Add (Finished OfClass) 1

-- a look in its body or at its last part
abbrev pub look_told : {R : Type 0} → ℕ → Guard → ℕ → Loads R → ℕ → Told R
look_told class g s (Loads.Load w onward) answer = going (LookBody class g s (onward answer))
look_told class g s (Loads.Shows shown) answer = if answer == s then done shown else poll Fresh

-- a class's turn in its body or at its last part
abbrev pub outer_told : {R : Type 0} → ℕ → Outer R → ℕ → Told R
outer_told t (Outer.Load w onward) answer = going (OuterBody t (onward answer))
outer_told t (Outer.Store w v rest) answer = going (OuterBody t rest)
outer_told t (Outer.Enter u body) answer = going (InnerSecond (Some t) u body)
outer_told t (Outer.Shows shown) answer = done shown

-- a turn within the class's turn takes effect at its end, and the class's turn is then left
abbrev pub left : {R : Type 0} → Option ℕ → R → Told R
left None shown = done shown
left (Some t) shown = record { takes = Some shown; doing = Leaving t; ending = Goes }

-- a segment's turn in its body or at its last part
abbrev pub inner_told : {R : Type 0} → Option ℕ → SegId → ℕ → Inner R → ℕ → Told R
inner_told within u t (Inner.Load w onward) answer = going (InnerBody within u t (onward answer))
inner_told within u t (Inner.Store w v rest) answer = going (InnerBody within u t rest)
inner_told within u t (Inner.Add w v onward) answer = going (InnerBody within u t (onward answer))
inner_told within u t (Inner.Shows shown) answer = left within shown

-- what the answer tells an instruction of which some step was taken
abbrev pub doing_told : {R : Type 0} → Doing R → ℕ → Told R
doing_told Fresh answer = poll Fresh
doing_told (LookSecond class g s body) answer = if answer == s then going (LookBody class g s body) else poll Fresh
doing_told (LookBody class g s rest) answer = look_told class g s rest answer
doing_told (OuterSecond body) answer = going (OuterThird answer body)
doing_told (OuterThird t body) answer = if answer == t then going (OuterBody t body) else poll (OuterThird t body)
doing_told (OuterBody t rest) answer = outer_told t rest answer
doing_told (InnerSecond within u body) answer = going (InnerThird within u answer body)
doing_told (InnerThird within u t body) answer =
    if answer == t then going (InnerBody within u t body) else poll (InnerThird within u t body)
doing_told (InnerBody within u t rest) answer = inner_told within u t rest answer
doing_told (Leaving t) answer = record { takes = None; doing = Fresh; ending = Ends }

-- How a request is done: by one operation; by a look at a guard of a class; by a turn of the own class; or by a turn of a
-- segment of the own class.
pub data Act (R : Type 0) : Type 0 where
  Once : WordOp → (ℕ → Told R) → Act R
  Look : (class : ℕ) → Guard → Loads R → Act R
  ClassTurn : Outer R → Act R
  SegmentTurn : SegId → Inner R → Act R

-- its first operation
abbrev pub act_op : {R : Type 0} → Act R → WordOp
act_op (Once op told) = op
act_op (Look class g body) = WordOp.Load class (Started g)
act_op (ClassTurn body) = WordOp.Add (Started OfClass) 1
act_op (SegmentTurn u body) = WordOp.Add (Started (OfSegment u)) 1

-- what the first answer tells
abbrev pub act_told : {R : Type 0} → Act R → ℕ → Told R
act_told (Once op told) answer = told answer
act_told (Look class g body) answer = going (LookSecond class g answer body)
act_told (ClassTurn body) answer = going (OuterSecond body)
act_told (SegmentTurn u body) answer = going (InnerSecond None u body)
