-- What is known of each process by how far it is, and which words are committed.
use Rattle.std.proofs.Common.{ℕ, zero, suc, ◌+◌, ◌≤◌, Bool, true, false, List, [], ◌∷◌, ◌≡◌, refl, ap, Option, Some, None, arith}
use Rattle.std.specs.Prelude.{if◌then◌else◌, slice_index_or}
use Rattle.std.specs.List.{sum_by}
use Rattle.std.proofs.lemmas.List.Sums.{sum_by-cons}
use Rattle.std.proofs.lemmas.Bool.{both_ways, false_from_ne_true, eq-eqb, ne_eqb}
use Rattle.lists.specs.Lists.{put}
use Rattle.words_layout.specs.declared.segment.SegId.{SegId}
use Rattle.words_layout.specs.Words.{Guard, OfClass, OfSegment, GuardedWord, GuardedWords, Words, words_after}
use Rattle.policy.specs.Outcome.{Outcome}
use Rattle.turns.specs.Bodies.{Loads, Inner, Outer}
use Rattle.turns.specs.Doing.{Doing, LookSecond, LookBody, OuterSecond, OuterThird, OuterBody, InnerSecond, InnerThird, InnerBody, Act, Look, ClassTurn, SegmentTurn, act_op}
use Rattle.turns.specs.Stage.{Has, stage, inside}
use Rattle.class_model.specs.Config.{Shared}
use Rattle.class_model.specs.Process.{Process}
use Rattle.class_model.specs.Plan.{Plan, Own, Begin, Ask, Request, plan}
use Rattle.process.specs.Running.{Running, act, plan_op}
use Rattle.machine.specs.Machine.{ClassPart}
use Rattle.machine.specs.Stands.{NotInTurn, NoTurn}
use Rattle.effect_laws.proofs.Guards.{just, inner_hold, covers, mix}
use Rattle.effect_laws.proofs.Paths.{LoadsPath, InnerPath, OuterPath, LoadsWithin, InnerWithin, OuterWithin}
use Rattle.effect_laws.proofs.StepKinds.{writing, Nested}
use Rattle.effect_laws.specs.Turns.{Held}
use Rattle.effect_laws.proofs.Turns.{TicketOk, at_slot}
use Rattle.effect_laws.proofs.Slots.{weight, count_inside}
use Rattle.effect_laws.proofs.TurnStep.{TurnsUpTo}

-- the process asks for something that is done so
pub record Asks (s : Shared) (d : ℕ) (p : Process) (how : Act Outcome) : Type 0 where
  pub request : Request
  pub planned : plan s d p ≡ Ask request
  pub done_so : act s d p.ring request ≡ how

-- What is known of a turn by how far it is, given the words that are committed and the words as they are: what it has done
-- so far comes, at one go from the committed words, to the words as they are now in what its guards cover.
abbrev pub TurnKnown : Shared → ℕ → Process → (c n : GuardedWords) → Doing Outcome → Type 0
TurnKnown s d p c n (OuterSecond body) = Asks s d p (ClassTurn body)
TurnKnown s d p c n (OuterThird t body) = Asks s d p (ClassTurn body)
TurnKnown s d p c n (OuterBody t rest) =
    (body : Outer Outcome) × Asks s d p (ClassTurn body) × OuterPath c (just OfClass) body c rest (mix c (just OfClass) n)
TurnKnown s d p c n (InnerSecond None u body) = Asks s d p (SegmentTurn u body)
TurnKnown s d p c n (InnerSecond (Some k) u inner) =
    (body : Outer Outcome) × Asks s d p (ClassTurn body) × OuterPath c (just OfClass) body c (Outer.Enter u inner) (mix c (just OfClass) n)
TurnKnown s d p c n (InnerThird None u t body) = Asks s d p (SegmentTurn u body)
TurnKnown s d p c n (InnerThird (Some k) u t inner) =
    (body : Outer Outcome) × Asks s d p (ClassTurn body) × OuterPath c (just OfClass) body c (Outer.Enter u inner) (mix c (just OfClass) n)
TurnKnown s d p c n (InnerBody None u t rest) =
    (body : Inner Outcome) × Asks s d p (SegmentTurn u body) × InnerPath c (just (OfSegment u)) body c rest (mix c (just (OfSegment u)) n)
TurnKnown s d p c n (InnerBody (Some k) u t rest) =
    (body : Outer Outcome) × Asks s d p (ClassTurn body) × Nested c n u body rest
TurnKnown s d p c n _ = Unit {0}

-- what is known of a process by how far it is
abbrev pub DoingOk : Shared → ℕ → (ℕ → ClassPart) → (ℕ → GuardedWords) → Process → Doing Outcome → Type 0
DoingOk s d m committed p (LookSecond x g k body) = Asks s d p (Look x g body) × (k ≤ (m x).words.started g)
DoingOk s d m committed p (LookBody x g k rest) =
    (body : Loads Outcome) × Asks s d p (Look x g body) × (k ≤ (m x).words.started g) ×
    ((m x).words.started g ≡ k → NoTurn g (m x) × LoadsPath (committed x) (just g) body rest)
DoingOk s d m committed p x = TurnKnown s d p (committed d) (m d).words.guarded x

abbrev pub SlotDoing : Shared → ℕ → (ℕ → ClassPart) → (ℕ → GuardedWords) → Option Running → Type 0
SlotDoing s d m committed None = Unit {0}
SlotDoing s d m committed (Some r) = DoingOk s d m committed r.process r.doing

-- the process of a slot has changed no word of a guard that isn't committed
abbrev pub SlotFree : Guard → Option Running → Type 0
SlotFree g None = Unit {0}
SlotFree g (Some r) = writing r.doing g ≡ false

pub record Committed (s : Shared) (n : ℕ) (m : ℕ → ClassPart) (committed : ℕ → GuardedWords) : Type 0 where
  pub turns : (d : ℕ) (g : Guard) → TurnsUpTo n g (m d)
  pub four : (d p i : ℕ) → 4 ≤ p → at_slot (m d) p i ≡ None
  pub idle : (d : ℕ) (g : Guard) → ((p i : ℕ) → SlotFree g (at_slot (m d) p i)) → (w : GuardedWord) → covers (committed d) (just g) w ≡ true →
      (m d).words.guarded w ≡ committed d w
  pub slots : (d p i : ℕ) → SlotDoing s d m committed (at_slot (m d) p i)

-- the words of what the process asks for are guarded, on the committed words
pub record Fair (s : Shared) (committed : ℕ → GuardedWords) (d : ℕ) (p : Process) : Type 0 where
  pub of_class : (q : Request) (body : Outer Outcome) → plan s d p ≡ Ask q → act s d p.ring q ≡ ClassTurn body → OuterWithin (committed d) body (committed d)
  pub of_segment : (q : Request) (u : SegId) (body : Inner Outcome) → plan s d p ≡ Ask q → act s d p.ring q ≡ SegmentTurn u body →
      InnerWithin (committed d) (just (OfSegment u)) body (committed d)
  pub look : (q : Request) (x : ℕ) (g : Guard) (body : Loads Outcome) → plan s d p ≡ Ask q → act s d p.ring q ≡ Look x g body → LoadsWithin (committed x) (just g) body

-- a process that may have changed words of a guard holds a ticket of it and is past the third part
pub writing_has : (x : Doing Outcome) (g : Guard) → writing x g ≡ true → (t : ℕ) × (stage g x ≡ Has t)
writing_has (OuterBody t rest) OfClass k = (t, refl)
writing_has (InnerSecond (Some t) u body) OfClass k = (t, refl)
writing_has (InnerThird (Some t) u j body) OfClass k = (t, refl)
writing_has (InnerBody (Some t) u j rest) OfClass k = (t, refl)
writing_has (InnerBody None u j rest) (OfSegment v) k = (j, rw k refl)
writing_has (InnerBody (Some t) u j rest) (OfSegment v) k = (j, rw k refl)
writing_has _ _ k = cc

pub writing_inside : (x : Doing Outcome) (g : Guard) → inside (stage g x) ≡ false → writing x g ≡ false
writing_inside x g out = false_from_ne_true (writing x g) (λ k. (let h : (t : ℕ) × (stage g x ≡ Has t) = writing_has x g k in
    both_ways (inside (stage g x)) out (ap inside h.1)))

pub free_outside : (g : Guard) (o : Option Running) → NotInTurn g o → SlotFree g o
free_outside g None h = tt
free_outside g (Some r) h = writing_inside r.doing g h

-- such a process holds the ticket that is the number of turns finished
pub writing_held : (x : Doing Outcome) (g : Guard) (c t : ℕ) → TicketOk c t (stage g x) → writing x g ≡ true → Held (stage g x) c
writing_held x g c t ok k =
    let h : (u : ℕ) × (stage g x ≡ Has u) = writing_has x g k in
    let ok' : TicketOk c t (Has h.0) = rw h.1 at ok in
    rw h.1 ok'.0

-- where no process is counted inside a turn, none is
pub not-one : (b : Bool) (n : ℕ) → n ≡ (if b then 1 else 0) → n ≡ 0 → b ≡ false
not-one true n e h = absurd (omega (arith, e, h))
not-one false n e h = refl

module _ (g : Guard) where
  weight-zero : (o : Option Running) → weight g o ≡ 0 → NotInTurn g o
  weight-zero None h = tt
  weight-zero (Some r) h = not-one (inside (stage g r.doing)) (weight g (Some r)) refl h

  slots-zero : (slots : List (Option Running)) (i : ℕ) → sum_by (weight g) slots ≡ 0 → NotInTurn g (slice_index_or slots i None)
  slots-zero [] i h = tt
  slots-zero (x ∷ xs) zero h = let e : sum_by (weight g) (x ∷ xs) ≡ weight g x + sum_by (weight g) xs = sum_by-cons (weight g) x xs in weight-zero x (omega (arith, e, h))
  slots-zero (x ∷ xs) (suc i) h = let e : sum_by (weight g) (x ∷ xs) ≡ weight g x + sum_by (weight g) xs = sum_by-cons (weight g) x xs in slots-zero xs i (omega (arith, e, h))

  pub no-turn : (part : ClassPart) → ((p i : ℕ) → 4 ≤ p → at_slot part p i ≡ None) → count_inside g part ≡ 0 → NoTurn g part
  no-turn part four h zero i = slots-zero (part.vp 0).slots i (omega (arith, h))
  no-turn part four h (suc zero) i = slots-zero (part.vp 1).slots i (omega (arith, h))
  no-turn part four h (suc (suc zero)) i = slots-zero (part.vp 2).slots i (omega (arith, h))
  no-turn part four h (suc (suc (suc zero))) i = slots-zero (part.vp 3).slots i (omega (arith, h))
  no-turn part four h (suc (suc (suc (suc k)))) i = rw (four (suc (suc (suc (suc k)))) i (omega arith)) tt

pub put-here : {X : Type 0} (f : ℕ → X) (k : ℕ) (v : X) → put f k v k ≡ v
put-here f k v = rw (eq-eqb k k refl) refl

pub put-there : {X : Type 0} (f : ℕ → X) (k q : ℕ) (v : X) → (q ≡ k → ⊥) → put f k v q ≡ f q
put-there f k q v h = rw (ne_eqb q k h) refl

-- the words that are committed after a step: what the guards cover is committed where a turn takes effect
abbrev pub commit_by : Doing Outcome → GuardedWords → GuardedWords → GuardedWords
commit_by (OuterBody t (Outer.Shows o)) now before = mix before (just OfClass) now
commit_by (InnerBody within u t (Inner.Shows o)) now before = mix before (inner_hold within u) now
commit_by _ now before = before

-- an act's first step changes no guarded word
pub act_calm : (s : Shared) (d ring : ℕ) (w : Words) (q : Request) → (words_after w (act_op (act s d ring q))).guarded ≡ w.guarded
act_calm s d ring w (Rattle.class_model.specs.Plan.Request.MakeKnown k e mode) = refl
act_calm s d ring w (Rattle.class_model.specs.Plan.Request.Advance k) = refl
act_calm s d ring w _ = refl

pub plan_calm : (s : Shared) (d ring : ℕ) (w : Words) (x : Plan) → (words_after w (plan_op s d ring x)).guarded ≡ w.guarded
plan_calm s d ring w (Own after) = refl
plan_calm s d ring w (Begin child) = refl
plan_calm s d ring w (Ask q) = act_calm s d ring w q
