-- The machine of words does what the machine of whole instructions does, step of effect by step of effect: given that each
-- body at one go comes to what its effect says.
use Rattle.std.proofs.Common.{ℕ, ◌-◌, ◌^◌, ◌<◌, Bool, true, false, List, ◌≡◌, refl, sym, ap, subst, ◌∙◌, Option, Some, None}
use Rattle.std.specs.Prelude.{◌==◌, if◌then◌else◌, slice_set}
use Rattle.std.proofs.lemmas.Bool.{eqb-true}
use Rattle.std.proofs.lemmas.List.{set-get_or}
use Rattle.lists.specs.Lists.{put}
use Rattle.words_layout.specs.declared.segment.SegId.{SegId}
use Rattle.words_layout.specs.Words.{Guard, OfClass, OfSegment, Words, GuardedWords, WordOp, words_after, answer_to}
use Rattle.words_layout.specs.Words.{Started as StartedWord, Tickets as TicketsWord, Finished as FinishedWord}
use Rattle.policy.specs.Outcome.{Outcome}
use Rattle.policy.specs.declared.rule.Rule.TheVariants.{NoSlot}
use Rattle.turns.specs.Bodies.{Loads, Inner, Outer}
use Rattle.turns.specs.AtOnce.{run_loads, run_inner, run_outer, Ran}
use Rattle.turns.specs.Doing.{Doing, Fresh, LookSecond, LookBody, OuterSecond, OuterThird, OuterBody, InnerSecond, InnerThird, InnerBody, Leaving, Told, going, poll, done, left, Act, Once, Look, ClassTurn, SegmentTurn, act_op, act_told, look_op, look_told, outer_op, outer_told, inner_op, inner_told}
use Rattle.class_model.specs.Config.{Shared, Pool, pool_of}
use Rattle.class_model.specs.Process.{Process, ProcName, refused, answered, settled}
use Rattle.class_model.specs.Plan.{Plan, Own, Begin, Ask, Request, plan}
use Rattle.class_model.specs.State.{State, Part, with_process, with_part, process_at}
use Rattle.class_model.specs.Step.{effect, deed, deed_of, deed_by, done as a_done, step, begun, asked}
use Rattle.process.specs.Running.{Running, act, at_once, plan_op, running_op, Made, Absorbed, after_told, taken, begin_in, ended_as, plan_absorbed, doing_absorbed}
use Rattle.evc_gates.specs.Count.{read_op, read_shows, advance_op, advance_shows, ticket_op, ticket_shows, out_op, out_shows}
use Rattle.policy.specs.Outcome.{components}
use Rattle.machine.specs.Machine.{ClassPart, free_slot}
use Rattle.machine.specs.Stands.{Holds}
use Rattle.effect_laws.proofs.Guards.{just, both, mix}
use Rattle.effect_laws.proofs.Slots.{IsChosen, part_after}
use Rattle.effect_laws.proofs.PrivateSame.{SameProcesses, own_same, asked_same, begin_same, free_same, named_same}
use Rattle.report_laws.proofs.Printing.{IsPrinted}
use Rattle.effect_laws.proofs.Prints.{Prints, printing_step, nothing_printed, effect_prints}
use Rattle.effect_laws.proofs.Committed.{Committed, Fair, Asks, commit_by}
use Rattle.effect_laws.proofs.Interleaving.{small, outer_effect, segment_effect, nested_effect, look_effect}

-- the counts that no turn guards
pub record Counters (w : Words) (part : Part) : Type 0 where
  pub places : w.places ≡ part.used
  pub components : (x : ℕ) (u : SegId) → w.component x u ≡ part.component x u
  pub sequencers : (u : SegId) → w.sequencer u ≡ (part.cell u).sequencer

-- the machine of words, with what its turns have committed, agrees with a state
pub record Agrees (s : Shared) (m : ℕ → ClassPart) (committed : ℕ → GuardedWords) (a : State) : Type 0 where
  pub shared : a.shared ≡ s
  pub processes : (d : ℕ) → SameProcesses (m d) (a.part d)
  pub holds : (d : ℕ) → Holds (pool_of s d) (committed d) (a.part d)
  pub counters : (d : ℕ) → Counters (m d).words (a.part d)
  pub printing : (d : ℕ) → IsPrinted s.console (λ q. ((m d).vp q).lines) (a.part d).used (a.part d).lines

-- words and counts alone
pub record Standing (m : ℕ → ClassPart) (committed : ℕ → GuardedWords) (a : State) : Type 0 where
  pub holds : (d : ℕ) → Holds (pool_of a.shared d) (committed d) (a.part d)
  pub counters : (d : ℕ) → Counters (m d).words (a.part d)

pub standing : (s : Shared) (m : ℕ → ClassPart) (committed : ℕ → GuardedWords) (a : State) → Agrees s m committed a → Standing m committed a
standing s m committed a agrees = record {
  holds = λ d. subst (λ (z : Shared). Holds (pool_of z d) (committed d) (a.part d)) (sym agrees.shared) (agrees.holds d);
  counters = agrees.counters;
}

-- what the effect of a request must be, given the outcome that the words show
pub record IsEffect (s : Shared) (w : Words) (g : GuardedWords) (a : State) (d ring : ℕ) (q : Request) (o : Outcome) : Type 0 where
  pub outcome : o ≡ (effect a d ring q).outcome
  pub holds : Holds (pool_of s d) g (effect a d ring q).part
  pub counters : Counters w (effect a d ring q).part
  pub slots : (effect a d ring q).part.slots ≡ (a.part d).slots

-- the operation of a request that is done by one, and what its answer shows
abbrev pub once_of : Shared → Request → Option (WordOp × (ℕ → Outcome))
once_of s (Request.Read k wanted t) = let classes = components s.table k.class in Some (read_op classes k t, read_shows classes wanted t)
once_of s (Request.Advance k) = Some (advance_op k, advance_shows)
once_of s (Request.Ticket k) = Some (ticket_op k, ticket_shows)
once_of s (Request.Out value) = Some (out_op, out_shows s.console value)
once_of s _ = None

abbrev pub OnceLaw : Shared → (ℕ → ClassPart) → GuardedWords → State → (d ring : ℕ) → Request → Option (WordOp × (ℕ → Outcome)) → Type 0
OnceLaw s m g a d ring q None = Unit {0}
OnceLaw s m g a d ring q (Some x) = IsEffect s (words_after (m d).words x.0) g a d ring q (x.1 (answer_to (λ y. (m y).words) d x.0))

-- the laws of the gates for what a process asks for: by one operation, by a look, by a turn of the class and by a turn of a
-- segment
pub record Laws (s : Shared) (m : ℕ → ClassPart) (committed : ℕ → GuardedWords) (a : State) (d : ℕ) (p : Process) : Type 0 where
  pub fair : Fair s committed d p
  pub once : (q : Request) → plan s d p ≡ Ask q → OnceLaw s m (committed d) a d p.ring q (once_of s q)
  pub look : (q : Request) (x : ℕ) (g : Guard) (body : Loads Outcome) → plan s d p ≡ Ask q → act s d p.ring q ≡ Look x g body →
      IsEffect s (m d).words (committed d) a d p.ring q (run_loads body (committed x))
  pub class_turn : (q : Request) (body : Outer Outcome) → plan s d p ≡ Ask q → act s d p.ring q ≡ ClassTurn body →
      IsEffect s (m d).words (run_outer body (committed d)).words a d p.ring q (run_outer body (committed d)).shown
  pub segment_turn : (q : Request) (u : SegId) (body : Inner Outcome) → plan s d p ≡ Ask q → act s d p.ring q ≡ SegmentTurn u body →
      IsEffect s (m d).words (run_inner body (committed d)).words a d p.ring q (run_inner body (committed d)).shown

-- the processes are no part of what a turn guards
pub holds_on : (pool : Pool) (g : GuardedWords) (part : Part) (p i : ℕ) (q : Process) → Holds pool g part → Holds pool g (with_process part p i q)
holds_on pool g part p i q h = record {
  of_class = record {
    next_serial = h.of_class.next_serial;
    entries = h.of_class.entries;
    stored = h.of_class.stored;
    frames_below = h.of_class.frames_below;
    pages_below = h.of_class.pages_below;
    frames = h.of_class.frames;
    pages = h.of_class.pages;
  };
  of_segments = h.of_segments;
}

counts_on : (w : Words) (part : Part) (p i : ℕ) (q : Process) → Counters w part → Counters w (with_process part p i q)
counts_on w part p i q h = record { places = h.places; components = h.components; sequencers = h.sequencers }

if-true : {X : Type 0} (b : Bool) (x y : X) → b ≡ true → (if b then x else y) ≡ x
if-true b x y h = rw h refl

abbrev pub name_of : ℕ → ℕ → ℕ → ProcName
name_of p d i = record { processor = p; class = d; slot = i }

-- the other machine steps where this one's step is of effect
abbrev pub follows : Bool → State → ProcName → State
follows takes a name = if takes then step a name else a

module _ (s : Shared) (n : ℕ) (m : ℕ → ClassPart) (before : ℕ → GuardedWords) (inv : Committed s n m before) (n_small : n < 2 ^ 64 - 1)
    (a : State) (agrees : Agrees s m before a) (d p i : ℕ) (p0 : Process) (laws : Laws s m before a d p0) where
  abbrev at_doing : Doing Outcome → Running
  at_doing x = record { process = p0; doing = x }

  abbrev parts_with : WordOp → Absorbed → ℕ → ClassPart
  parts_with op x = put m d (part_after s (words_after (m d).words op) (m d) p i x)

  -- one class's part changes in both
  agrees_put : (op : WordOp) (x : Absorbed) (g : GuardedWords) (part : Part) →
      SameProcesses (part_after s (words_after (m d).words op) (m d) p i x) part → Holds (pool_of s d) g part → Counters (words_after (m d).words op) part →
      p < 4 → Prints s (a.part d) part x.made → Agrees s (parts_with op x) (put before d g) (with_part a d part)
  agrees_put op x g part procs holds counts low prints = record {
    shared = agrees.shared;
    processes = λ y. elim (y == d) as (λ b. SameProcesses (if b then part_after s (words_after (m d).words op) (m d) p i x else m y) (if b then part else a.part y)) [
      | true ↦ procs
      | false ↦ agrees.processes y
    ];
    holds = λ y. by_holds y (y == d) refl;
    counters = λ y. elim (y == d) as (λ b. Counters (if b then part_after s (words_after (m d).words op) (m d) p i x else m y).words (if b then part else a.part y)) [
      | true ↦ counts
      | false ↦ agrees.counters y
    ];
    printing = λ y. elim (y == d) as (λ b. IsPrinted s.console (λ q. ((if b then part_after s (words_after (m d).words op) (m d) p i x else m y).vp q).lines) (if b then part else a.part y).used (if b then part else a.part y).lines) [
      | true ↦ printing_step s (m d).vp p low (Rattle.machine.specs.Machine.vp_absorbed s ((m d).vp p) i x) (a.part d) part (agrees.printing d) x.made refl prints
      | false ↦ agrees.printing y
    ];
  }
    where
      by_holds : (y : ℕ) (b : Bool) → (y == d) ≡ b → Holds (pool_of s y) (if b then g else before y) (if b then part else a.part y)
      by_holds y true e = rw (eqb-true y d e) holds
      by_holds y false e = agrees.holds y

  -- a step that touches none of the counts
  same_counts : (w : Words) → w.places ≡ (m d).words.places → w.component ≡ (m d).words.component → w.sequencer ≡ (m d).words.sequencer → Counters w (a.part d)
  same_counts w e f g = record {
    places = e ∙ (agrees.counters d).places;
    components = λ x u. ap (λ (t : ℕ → SegId → ℕ). t x u) f ∙ (agrees.counters d).components x u;
    sequencers = λ u. ap (λ (t : SegId → ℕ). t u) g ∙ (agrees.counters d).sequencers u;
  }

  module _ (x : Doing Outcome) (is : IsChosen ((m d).vp p) i (at_doing x)) where
    low : p < 4
    low = small s n m before inv n_small d p i p0 laws.fair x is

    there : process_at a (name_of p d i) ≡ Some p0
    there = named_same a d p i (m d) (at_doing x) (agrees.processes d) is

    with_same : with_part a d (a.part d) ≡ a
    with_same = λ k. record { shared = a.shared; part = λ y. same_part y k }
      where
        same_part : (y : ℕ) → put a.part d (a.part d) y ≡ a.part y
        same_part y = elim (y == d) as (λ b. (y == d) ≡ b → (if b then a.part d else a.part y) ≡ a.part y) [
          | true ↦ λ e. rw (eqb-true y d e) refl
          | false ↦ λ e. refl
        ] refl

    -- a step of no effect that leaves what is committed
    still : (op : WordOp) (told : Told Outcome) → told.takes ≡ None → Counters (words_after (m d).words op) (a.part d) →
        Agrees s (parts_with op (after_told p0 told)) (put before d (before d)) a
    still op told none counts = subst (Agrees s (parts_with op (after_told p0 told)) (put before d (before d))) with_same
        (agrees_put op (after_told p0 told) (before d) (a.part d) procs (agrees.holds d) counts low
        (subst (λ t. Prints s (a.part d) (a.part d) (Rattle.process.specs.Running.made_of t)) (sym none) (nothing_printed s (a.part d))))
      where
        same : taken p0 told.takes ≡ p0
        same = ap (taken p0) none

        unchanged : slice_set ((a.part d).slots p) i (Some (taken p0 told.takes)) ≡ (a.part d).slots p
        unchanged = ap (λ z. slice_set ((a.part d).slots p) i (Some z)) same ∙ ap (λ o. slice_set ((a.part d).slots p) i o) (sym there) ∙ set-get_or ((a.part d).slots p) i None

        back : (q : ℕ) → (with_process (a.part d) p i (taken p0 told.takes)).slots q ≡ (a.part d).slots q
        back q = elim (q == p) as (λ b. (q == p) ≡ b → (if b then slice_set ((a.part d).slots p) i (Some (taken p0 told.takes)) else (a.part d).slots q) ≡ (a.part d).slots q) [
          | true ↦ λ e. rw (eqb-true q p e) unchanged
          | false ↦ λ e. refl
        ] refl

        procs : SameProcesses (part_after s (words_after (m d).words op) (m d) p i (after_told p0 told)) (a.part d)
        procs q = asked_same s (words_after (m d).words op) (m d) (a.part d) (agrees.processes d) p i p0 told q ∙ back q

    -- the deed of the named process
    deed_is : deed a (name_of p d i) ≡ Some (deed_of a (name_of p d i) p0 (plan s d p0))
    deed_is = ap (deed_by a (name_of p d i)) there ∙ if-true p0.live _ None is.live ∙ ap (λ (z : Shared). Some (deed_of a (name_of p d i) p0 (plan z d p0))) agrees.shared

    step_is : (y : Plan) → plan s d p0 ≡ y → step a (name_of p d i) ≡ with_part a d (deed_of a (name_of p d i) p0 y).part
    step_is y e = ap (a_done a d) (deed_is ∙ ap (λ z. Some (deed_of a (name_of p d i) p0 z)) e)

    -- the effect of a request
    asked_agrees : (op : WordOp) (g : GuardedWords) (q : Request) (told : Told Outcome) (o : Outcome) → told.takes ≡ Some o → plan s d p0 ≡ Ask q →
        IsEffect s (words_after (m d).words op) g a d p0.ring q o →
        Agrees s (parts_with op (after_told p0 told)) (put before d g) (step a (name_of p d i))
    asked_agrees op g q told o t e law = subst (Agrees s (parts_with op (after_told p0 told)) (put before d g)) (sym (step_is (Ask q) e))
        (agrees_put op (after_told p0 told) g _ same (holds_on (pool_of s d) g (effect a d p0.ring q).part p i (settled p0 (effect a d p0.ring q).outcome) law.holds)
        (counts_on (words_after (m d).words op) (effect a d p0.ring q).part p i (settled p0 (effect a d p0.ring q).outcome) law.counters) low prints)
      where
        prints : Prints s (a.part d) (effect a d p0.ring q).part (Rattle.process.specs.Running.made_of told.takes)
        prints = subst (λ (z : Shared). Prints z (a.part d) (effect a d p0.ring q).part (Rattle.process.specs.Running.made_of told.takes)) agrees.shared
            (subst (λ t. Prints a.shared (a.part d) (effect a d p0.ring q).part (Rattle.process.specs.Running.made_of t)) (sym (t ∙ ap Some law.outcome)) (effect_prints a d p0.ring q))

        after_is : taken p0 told.takes ≡ settled p0 (effect a d p0.ring q).outcome
        after_is = ap (taken p0) t ∙ ap (settled p0) law.outcome

        same : SameProcesses (part_after s (words_after (m d).words op) (m d) p i (after_told p0 told)) (asked (name_of p d i) p0 q (effect a d p0.ring q)).part
        same = subst (λ (z : Process). SameProcesses (part_after s (words_after (m d).words op) (m d) p i (after_told p0 told)) (with_process (effect a d p0.ring q).part p i z)) after_is
            (asked_same s (words_after (m d).words op) (m d) (effect a d p0.ring q).part (λ z. agrees.processes d z ∙ ap (λ (f : ℕ → List (Option Process)). f z) (sym law.slots)) p i p0 told)

    -- the effect of an instruction on the process alone
    own_agrees : (after : Process) → plan s d p0 ≡ Own after →
        Agrees s (parts_with WordOp.Nothing (ended_as after Made.Nothing)) (put before d (before d)) (step a (name_of p d i))
    own_agrees after e = subst (Agrees s (parts_with WordOp.Nothing (ended_as after Made.Nothing)) (put before d (before d))) (sym (step_is (Own after) e))
        (agrees_put WordOp.Nothing (ended_as after Made.Nothing) (before d) (with_process (a.part d) p i after)
        (own_same s (m d).words (m d) (a.part d) (agrees.processes d) p i after)
        (holds_on (pool_of s d) (before d) (a.part d) p i after (agrees.holds d))
        (counts_on (m d).words (a.part d) p i after (agrees.counters d)) low (nothing_printed s (a.part d)))

    begun_prints : (child : Process) (o : Option ℕ) → Prints s (a.part d) (begun (a.part d) (name_of p d i) p0 child o) (begin_in p0 child o).made
    begun_prints child None = nothing_printed s (a.part d)
    begun_prints child (Some k) = nothing_printed s (a.part d)

    begun_holds : (child : Process) (o : Option ℕ) → Holds (pool_of s d) (before d) (begun (a.part d) (name_of p d i) p0 child o)
    begun_holds child None = holds_on (pool_of s d) (before d) (a.part d) p i (refused p0 NoSlot) (agrees.holds d)
    begun_holds child (Some k) = holds_on (pool_of s d) (before d) (with_process (a.part d) p i (answered p0 k)) p k child (holds_on (pool_of s d) (before d) (a.part d) p i (answered p0 k) (agrees.holds d))

    begun_counters : (child : Process) (o : Option ℕ) → Counters (m d).words (begun (a.part d) (name_of p d i) p0 child o)
    begun_counters child None = counts_on (m d).words (a.part d) p i (refused p0 NoSlot) (agrees.counters d)
    begun_counters child (Some k) = counts_on (m d).words (with_process (a.part d) p i (answered p0 k)) p k child (counts_on (m d).words (a.part d) p i (answered p0 k) (agrees.counters d))

    -- a process that begins another
    begin_agrees : (child : Process) → plan s d p0 ≡ Begin child →
        Agrees s (parts_with WordOp.Nothing (begin_in p0 child (free_slot ((m d).vp p)))) (put before d (before d)) (step a (name_of p d i))
    begin_agrees child e = subst (Agrees s (parts_with WordOp.Nothing (begin_in p0 child (free_slot ((m d).vp p)))) (put before d (before d)))
        (sym (step_is (Begin child) e ∙ ap (λ o. with_part a d (begun (a.part d) (name_of p d i) p0 child o)) (sym (free_same s (m d).words (m d) (a.part d) (agrees.processes d) p i))))
        (agrees_put WordOp.Nothing (begin_in p0 child (free_slot ((m d).vp p))) (before d) (begun (a.part d) (name_of p d i) p0 child (free_slot ((m d).vp p)))
        (begin_same s (m d).words (m d) (a.part d) (agrees.processes d) p i d p0 child (free_slot ((m d).vp p)))
        (begun_holds child (free_slot ((m d).vp p))) (begun_counters child (free_slot ((m d).vp p))) low (begun_prints child (free_slot ((m d).vp p))))

  -- what the other machine is after a step, by whether it takes effect
  abbrev AgreesAfter : (x : Doing Outcome) → WordOp → Absorbed → Type 0
  AgreesAfter x op y = Agrees s (parts_with op y) (put before d (commit_by x (m d).words.guarded (before d))) (follows y.effect a (name_of p d i))

  begin_follows : (is : IsChosen ((m d).vp p) i (at_doing Fresh)) (child : Process) → plan s d p0 ≡ Begin child → (o : Option ℕ) → free_slot ((m d).vp p) ≡ o →
      AgreesAfter Fresh WordOp.Nothing (begin_in p0 child o)
  begin_follows is child e None f = rw f at (begin_agrees Fresh is child e)
  begin_follows is child e (Some k) f = rw f at (begin_agrees Fresh is child e)

  once_follows : (is : IsChosen ((m d).vp p) i (at_doing Fresh)) (q : Request) (op : WordOp) (shows : ℕ → Outcome) → plan s d p0 ≡ Ask q →
      IsEffect s (words_after (m d).words op) (before d) a d p0.ring q (shows (answer_to (λ y. (m y).words) d op)) →
      AgreesAfter Fresh op (after_told p0 (at_once (shows (answer_to (λ y. (m y).words) d op))))
  once_follows is q op shows e law = asked_agrees Fresh is op (before d) q (at_once (shows (answer_to (λ y. (m y).words) d op))) (shows (answer_to (λ y. (m y).words) d op)) refl e law

  turn_follows : (is : IsChosen ((m d).vp p) i (at_doing Fresh)) (g : Guard) (x : Doing Outcome) → AgreesAfter Fresh (WordOp.Add (StartedWord g) 1) (after_told p0 (going x))
  turn_follows is g x = still Fresh is (WordOp.Add (StartedWord g) 1) (going x) refl (same_counts (words_after (m d).words (WordOp.Add (StartedWord g) 1)) refl refl refl)

  ask_follows : (is : IsChosen ((m d).vp p) i (at_doing Fresh)) (q : Request) → plan s d p0 ≡ Ask q →
      AgreesAfter Fresh (act_op (act s d p0.ring q)) (after_told p0 (act_told (act s d p0.ring q) (answer_to (λ y. (m y).words) d (act_op (act s d p0.ring q)))))
  ask_follows is (Request.MakeKnown k e mode) h = still Fresh is (act_op (act s d p0.ring (Request.MakeKnown k e mode))) (act_told (act s d p0.ring (Request.MakeKnown k e mode)) (answer_to (λ y. (m y).words) d (act_op (act s d p0.ring (Request.MakeKnown k e mode))))) refl (agrees.counters d)
  ask_follows is (Request.Fetch k offset count pad) h = still Fresh is (act_op (act s d p0.ring (Request.Fetch k offset count pad))) (act_told (act s d p0.ring (Request.Fetch k offset count pad)) (answer_to (λ y. (m y).words) d (act_op (act s d p0.ring (Request.Fetch k offset count pad))))) refl (agrees.counters d)
  ask_follows is (Request.Create k e class b size) h = turn_follows is OfClass (OuterSecond _)
  ask_follows is (Request.Delete k e) h = turn_follows is OfClass (OuterSecond _)
  ask_follows is (Request.SwapIn k) h = turn_follows is OfClass (OuterSecond _)
  ask_follows is (Request.SwapOut k) h = turn_follows is OfClass (OuterSecond _)
  ask_follows is (Request.Update k offset ws) h = turn_follows is (OfSegment k.seg) (InnerSecond None k.seg _)
  ask_follows is (Request.Read k wanted t) h = once_follows is (Request.Read k wanted t) (read_op (components s.table k.class) k t) (read_shows (components s.table k.class) wanted t) h (laws.once (Request.Read k wanted t) h)
  ask_follows is (Request.Advance k) h = once_follows is (Request.Advance k) (advance_op k) advance_shows h (laws.once (Request.Advance k) h)
  ask_follows is (Request.Ticket k) h = once_follows is (Request.Ticket k) (ticket_op k) ticket_shows h (laws.once (Request.Ticket k) h)
  ask_follows is (Request.Out value) h = once_follows is (Request.Out value) out_op (out_shows s.console value) h (laws.once (Request.Out value) h)

  plan_follows : (is : IsChosen ((m d).vp p) i (at_doing Fresh)) (y : Plan) → plan s d p0 ≡ y →
      AgreesAfter Fresh (plan_op s d p0.ring y) (plan_absorbed s d p0 (free_slot ((m d).vp p)) (answer_to (λ z. (m z).words) d (plan_op s d p0.ring y)) y)
  plan_follows is (Own after) e = own_agrees Fresh is after e
  plan_follows is (Begin child) e = begin_follows is child e (free_slot ((m d).vp p)) refl
  plan_follows is (Ask q) e = ask_follows is q e

  -- a load of a word of the turns, by its answer
  choice_follows : (x : Doing Outcome) (is : IsChosen ((m d).vp p) i (at_doing x)) (y : ℕ) (w : Rattle.words_layout.specs.Words.Word) (u v : Doing Outcome) (b : Bool) →
      Agrees s (parts_with (WordOp.Load y w) (after_told p0 (if b then going u else poll v))) (put before d (before d)) (follows (after_told p0 (if b then going u else poll v)).effect a (name_of p d i))
  choice_follows x is y w u v true = still x is (WordOp.Load y w) (going u) refl (agrees.counters d)
  choice_follows x is y w u v false = still x is (WordOp.Load y w) (poll v) refl (agrees.counters d)

  look_follows : (y k : ℕ) (g : Guard) (rest : Loads Outcome) (is : IsChosen ((m d).vp p) i (at_doing (LookBody y g k rest))) →
      AgreesAfter (LookBody y g k rest) (look_op y g rest) (after_told p0 (look_told y g k rest (answer_to (λ z. (m z).words) d (look_op y g rest))))
  look_follows y k g (Loads.Load w f) is = still _ is (look_op y g (Loads.Load w f)) (going (LookBody y g k (f ((m y).words.guarded w)))) refl (agrees.counters d)
  look_follows y k g (Loads.Shows o) is = by_test ((m y).words.started g == k) refl
    where
      by_test : (b : Bool) → ((m y).words.started g == k) ≡ b → AgreesAfter (LookBody y g k (Loads.Shows o)) (WordOp.Load y (StartedWord g)) (after_told p0 (if b then done o else poll Fresh))
      by_test false e = still _ is (WordOp.Load y (StartedWord g)) (poll Fresh) refl (agrees.counters d)
      by_test true e =
          let shown = look_effect s n m before inv n_small d p i p0 laws.fair y k g o is (eqb-true ((m y).words.started g) k e) in
          let asks : Asks s d p0 (Look y g shown.0) = shown.1 in
          let law = laws.look asks.request y g shown.0 asks.planned asks.done_so in
          asked_agrees _ is (WordOp.Load y (StartedWord g)) (before d) asks.request (done o) o refl asks.planned
          (record { outcome = shown.2 ∙ law.outcome; holds = law.holds; counters = law.counters; slots = law.slots })

  -- where a turn takes effect, whatever follows
  commits : (x : Doing Outcome) (is : IsChosen ((m d).vp p) i (at_doing x)) (g : Guard) (told : Told Outcome) (o : Outcome) → told.takes ≡ Some o → (q : Request) → plan s d p0 ≡ Ask q →
      (now : GuardedWords) (ran : Ran Outcome) → (let is_ran : Ran Outcome = record { words = now; shown = o } in is_ran) ≡ ran →
      IsEffect s (m d).words ran.words a d p0.ring q ran.shown →
      Agrees s (parts_with (WordOp.Add (FinishedWord g) 1) (after_told p0 told)) (put before d now) (step a (name_of p d i))
  commits x is g told o t q e now ran same law =
      let words : now ≡ ran.words = ap (λ (r : Ran Outcome). r.words) same in
      let out : o ≡ ran.shown = ap (λ (r : Ran Outcome). r.shown) same in
      asked_agrees x is (WordOp.Add (FinishedWord g) 1) now q told o t e
      (record {
        outcome = out ∙ law.outcome;
        holds = rw words law.holds;
        counters = record { places = law.counters.places; components = law.counters.components; sequencers = law.counters.sequencers };
        slots = law.slots;
      })

  outer_follows : (t : ℕ) (rest : Outer Outcome) (is : IsChosen ((m d).vp p) i (at_doing (OuterBody t rest))) →
      AgreesAfter (OuterBody t rest) (outer_op d rest) (after_told p0 (outer_told t rest (answer_to (λ z. (m z).words) d (outer_op d rest))))
  outer_follows t (Outer.Load w f) is = still _ is (outer_op d (Outer.Load w f)) (going (OuterBody t (f ((m d).words.guarded w)))) refl (agrees.counters d)
  outer_follows t (Outer.Store w v rest) is = still _ is (outer_op d (Outer.Store w v rest)) (going (OuterBody t rest)) refl (same_counts (words_after (m d).words (outer_op d (Outer.Store w v rest))) refl refl refl)
  outer_follows t (Outer.Enter u body) is = still _ is (outer_op d (Outer.Enter u body)) (going (InnerSecond (Some t) u body)) refl (same_counts (words_after (m d).words (outer_op d (Outer.Enter u body))) refl refl refl)
  outer_follows t (Outer.Shows o) is =
      let shown = outer_effect s n m before inv n_small d p i p0 laws.fair t o is in
      let asks : Asks s d p0 (ClassTurn shown.0) = shown.1 in
      commits _ is OfClass (done o) o refl asks.request asks.planned (mix (before d) (just OfClass) (m d).words.guarded) (run_outer shown.0 (before d)) shown.2
      (laws.class_turn asks.request shown.0 asks.planned asks.done_so)

  inner_follows : (within : Option ℕ) (u : SegId) (t : ℕ) (rest : Inner Outcome) (is : IsChosen ((m d).vp p) i (at_doing (InnerBody within u t rest))) →
      AgreesAfter (InnerBody within u t rest) (inner_op d u rest) (after_told p0 (inner_told within u t rest (answer_to (λ z. (m z).words) d (inner_op d u rest))))
  inner_follows within u t (Inner.Load w f) is = still _ is (inner_op d u (Inner.Load w f)) (going (InnerBody within u t (f ((m d).words.guarded w)))) refl (agrees.counters d)
  inner_follows within u t (Inner.Store w v rest) is = still _ is (inner_op d u (Inner.Store w v rest)) (going (InnerBody within u t rest)) refl (same_counts (words_after (m d).words (inner_op d u (Inner.Store w v rest))) refl refl refl)
  inner_follows within u t (Inner.Add w v f) is = still _ is (inner_op d u (Inner.Add w v f)) (going (InnerBody within u t (f ((m d).words.guarded w)))) refl (same_counts (words_after (m d).words (inner_op d u (Inner.Add w v f))) refl refl refl)
  inner_follows None u t (Inner.Shows o) is =
      let shown = segment_effect s n m before inv n_small d p i p0 laws.fair u t o is in
      let asks : Asks s d p0 (SegmentTurn u shown.0) = shown.1 in
      commits _ is (OfSegment u) (done o) o refl asks.request asks.planned (mix (before d) (just (OfSegment u)) (m d).words.guarded) (run_inner shown.0 (before d)) shown.2
      (laws.segment_turn asks.request u shown.0 asks.planned asks.done_so)
  inner_follows (Some k) u t (Inner.Shows o) is =
      let shown = nested_effect s n m before inv n_small d p i p0 laws.fair k u t o is in
      let asks : Asks s d p0 (ClassTurn shown.0) = shown.1 in
      commits _ is (OfSegment u) (left (Some k) o) o refl asks.request asks.planned (mix (before d) (both u) (m d).words.guarded) (run_outer shown.0 (before d)) shown.2
      (laws.class_turn asks.request shown.0 asks.planned asks.done_so)

  -- the chosen process's step: the other machine follows where it is of effect
  pub agrees_after : (x : Doing Outcome) (is : IsChosen ((m d).vp p) i (at_doing x)) →
      AgreesAfter x (running_op s d p0 x) (doing_absorbed s d p0 (free_slot ((m d).vp p)) (answer_to (λ z. (m z).words) d (running_op s d p0 x)) x)
  agrees_after Fresh is = plan_follows is (plan s d p0) refl
  agrees_after (LookSecond y g k body) is = choice_follows _ is y (FinishedWord g) (LookBody y g k body) Fresh ((m y).words.finished g == k)
  agrees_after (LookBody y g k rest) is = look_follows y k g rest is
  agrees_after (OuterSecond body) is = still _ is (WordOp.Add (TicketsWord OfClass) 1) (going (OuterThird ((m d).words.tickets OfClass) body)) refl (same_counts (words_after (m d).words (WordOp.Add (TicketsWord OfClass) 1)) refl refl refl)
  agrees_after (OuterThird t body) is = choice_follows _ is d (FinishedWord OfClass) (OuterBody t body) (OuterThird t body) ((m d).words.finished OfClass == t)
  agrees_after (OuterBody t rest) is = outer_follows t rest is
  agrees_after (InnerSecond within u body) is = still _ is (WordOp.Add (TicketsWord (OfSegment u)) 1) (going (InnerThird within u ((m d).words.tickets (OfSegment u)) body)) refl (same_counts (words_after (m d).words (WordOp.Add (TicketsWord (OfSegment u)) 1)) refl refl refl)
  agrees_after (InnerThird within u t body) is = choice_follows _ is d (FinishedWord (OfSegment u)) (InnerBody within u t body) (InnerThird within u t body) ((m d).words.finished (OfSegment u) == t)
  agrees_after (InnerBody within u t rest) is = inner_follows within u t rest is
  agrees_after (Leaving t) is = still _ is (WordOp.Add (FinishedWord OfClass) 1) (record { takes = None; doing = Fresh; ending = Rattle.turns.specs.Doing.Ends }) refl (same_counts (words_after (m d).words (WordOp.Add (FinishedWord OfClass) 1)) refl refl refl)
