-- The laws of effect, as they are stated.
use Rattle.std.proofs.Common.{ℕ, ◌-◌, ◌^◌, ◌<◌, Bool, true, false, List, [], ◌∷◌, zero, suc, ◌≡◌, refl, sym, ap, subst, ◌∙◌, Option, Some, None, arith, length}
use Rattle.std.specs.Prelude.{◌==◌, if◌then◌else◌, slice_index_or, slice_set}
use Rattle.std.proofs.lemmas.Bool.{eqb-true}
use Rattle.std.proofs.lemmas.List.{get_or-set_same}
use Rattle.lists.specs.Lists.{put}
use Rattle.words_layout.specs.Words.{GuardedWords}
use Rattle.policy.specs.Outcome.{Outcome}
use Rattle.turns.specs.AtOnce.{Ran, run_loads, run_inner, run_outer}
use Rattle.turns.specs.Doing.{Act, Once, Look, ClassTurn, SegmentTurn}
use Rattle.class_model.specs.Config.{pool_of}
use Rattle.class_model.specs.Process.{Process, ProcName, settled}
use Rattle.class_model.specs.Plan.{Plan, Ask, Request, plan}
use Rattle.class_model.specs.State.{State, Part, process_at, with_part, with_process}
use Rattle.class_model.specs.Step.{Deed, deed_of, deed_by, done, step, effect}
use Rattle.process.specs.Running.{act}
use Rattle.machine.specs.Machine.{ClassPart}
use Rattle.machine.specs.Stands.{Holds}
use Rattle.effect_laws.specs.Alone.{WordsHold, IsReached, alone}
use Rattle.effect_laws.specs.Laws.{BodiesAreWhole, RunsStand, SectionsAreLow, ReportsAreLow}
use Rattle.effect_laws.specs.Lines.{LinesStand}
use Rattle.effect_laws.proofs.Planned.{planned}
use Rattle.effect_laws.proofs.Good.{Good}
use Rattle.effect_laws.proofs.Committed.{put-here}
use Rattle.effect_laws.proofs.Refinement.{Standing, IsEffect, holds_on}
use Rattle.effect_laws.proofs.AllLaws.{class_law, segment_law, look_law}
use Rattle.effect_laws.proofs.SectionsLow.{sections_low, reports_low}
use Rattle.effect_laws.proofs.StandsAfter.{good_run, stands_after, lines_after}

-- a slot with a process is one of the list
slot_within : (slots : List (Option Process)) (i : ℕ) (p : Process) → slice_index_or slots i None ≡ Some p → i < length slots
slot_within [] i p h = cc
slot_within (x ∷ xs) zero p h = omega arith
slot_within (x ∷ xs) (suc i) p h = let n : i < length xs = slot_within xs i p h in omega (arith, n)

-- a state that is reached is good
reached_good : (a : State) → IsReached a → (n : ℕ) × (n < 2 ^ 64 - 1) × Good n a
reached_good a r = (length r.names, omega (arith, r.few), subst (Good (length r.names)) r.is (good_run r.config r.valid r.names))

module _ (a : State) (words : ℕ → GuardedWords) (reached : IsReached a) (hold : WordsHold a words) where
  -- words with the counts of the state
  abbrev part_with : ℕ → ClassPart
  part_with d = record {
    words = record {
      started = λ g. 0;
      tickets = λ g. 0;
      finished = λ g. 0;
      places = (a.part d).used;
      component = (a.part d).component;
      sequencer = λ u. ((a.part d).cell u).sequencer;
      guarded = words d;
    };
    vp = λ p. record { slots = []; current = 0; lines = [] };
  }

  stand : Standing part_with words a
  stand = record { holds = hold; counters = λ d. record { places = refl; components = λ x u. refl; sequencers = λ u. refl } }

  module _ (name : ProcName) (p : Process) (q : Request) (there : process_at a name ≡ Some p) (live : p.live ≡ true) (asks : plan a.shared name.class p ≡ Ask q) where
    abbrev d : ℕ
    d = name.class

    by_act : (x : Act Outcome) → act a.shared name.class p.ring q ≡ x → (ran : Ran Outcome) → alone words name.class x ≡ Some ran →
        IsEffect a.shared (part_with name.class).words ran.words a name.class p.ring q ran.shown
    by_act x e ran h = go x e h
      where
        n : (n : ℕ) × (n < 2 ^ 64 - 1) × Good n a
        n = reached_good a reached

        go : (x : Act Outcome) → act a.shared name.class p.ring q ≡ x → alone words name.class x ≡ Some ran → IsEffect a.shared (part_with name.class).words ran.words a name.class p.ring q ran.shown
        go (Once op told) e h = cc
        go (Look x g body) e h =
            let same : record { words = words name.class; shown = run_loads body (words x) } ≡ ran = cc in
            subst (λ (r : Ran Outcome). IsEffect a.shared (part_with name.class).words r.words a name.class p.ring q r.shown) same
            (look_law n.0 part_with words a n.1 n.2 stand name.class p (n.2.processes name p there) q x g body (planned a.shared name.class p q asks) e).1
        go (ClassTurn body) e h =
            let same : run_outer body (words name.class) ≡ ran = cc in
            subst (λ (r : Ran Outcome). IsEffect a.shared (part_with name.class).words r.words a name.class p.ring q r.shown) same
            (class_law n.0 part_with words a n.1 n.2 stand name.class p (n.2.processes name p there) q body (planned a.shared name.class p q asks) e).1
        go (SegmentTurn u body) e h =
            let same : run_inner body (words name.class) ≡ ran = cc in
            subst (λ (r : Ran Outcome). IsEffect a.shared (part_with name.class).words r.words a name.class p.ring q r.shown) same
            (segment_law n.0 part_with words a n.1 n.2 stand name.class p (n.2.processes name p there) q u body (planned a.shared name.class p q asks) e).1

    -- the part of the class after the instruction
    abbrev after : Part
    after = with_process (effect a name.class p.ring q).part name.processor name.slot (settled p (effect a name.class p.ring q).outcome)

    live_deed : (b : Bool) (x : Deed) → b ≡ true → (if b then Some x else None) ≡ Some x
    live_deed b x e = rw e refl

    step_is : step a name ≡ with_part a name.class after
    step_is = ap (λ o. done a name.class (deed_by a name o)) there
        ∙ ap (done a name.class) (live_deed p.live (deed_of a name p (plan a.shared name.class p)) live)
        ∙ ap (λ (y : Plan). done a name.class (Some (deed_of a name p y))) asks

    module _ (ran : Ran Outcome) (law : IsEffect a.shared (part_with name.class).words ran.words a name.class p.ring q ran.shown) where
      holds_after : WordsHold (with_part a name.class after) (put words name.class ran.words)
      holds_after c = elim (c == name.class) as (λ b. (c == name.class) ≡ b → Holds (pool_of a.shared c) (if b then ran.words else words c) (if b then after else a.part c)) [
        | true ↦ λ e. rw (eqb-true c name.class e) (holds_on (pool_of a.shared name.class) ran.words (effect a name.class p.ring q).part name.processor name.slot (settled p (effect a name.class p.ring q).outcome) law.holds)
        | false ↦ λ e. hold c
      ] refl

      replied : process_at (with_part a name.class after) name ≡ Some (settled p ran.shown)
      replied =
          ap (λ (z : Part). slice_index_or (z.slots name.processor) name.slot None) (put-here a.part name.class after)
          ∙ ap (λ (l : List (Option Process)). slice_index_or l name.slot None) (put-here (effect a name.class p.ring q).part.slots name.processor (slice_set ((effect a name.class p.ring q).part.slots name.processor) name.slot (Some (settled p (effect a name.class p.ring q).outcome))))
          ∙ get_or-set_same ((effect a name.class p.ring q).part.slots name.processor) name.slot (Some (settled p (effect a name.class p.ring q).outcome)) None within
          ∙ ap (λ o. Some (settled p o)) (sym law.outcome)
        where
          within : name.slot < length ((effect a name.class p.ring q).part.slots name.processor)
          within = subst (λ (f : ℕ → List (Option Process)). name.slot < length (f name.processor)) (sym law.slots) (slot_within ((a.part name.class).slots name.processor) name.slot p there)

      whole_here : WordsHold (step a name) (put words name.class ran.words) × (process_at (step a name) name ≡ Some (settled p ran.shown))
      whole_here = (subst (λ z. WordsHold z (put words name.class ran.words)) (sym step_is) holds_after, ap (λ z. process_at z name) step_is ∙ replied)

pub bodies_are_whole : BodiesAreWhole
bodies_are_whole a words name p q ran reached hold asks =
    whole_here a words reached hold name p q asks.there asks.live asks.planned ran
    (by_act a words reached hold name p q asks.there asks.live asks.planned (act a.shared name.class p.ring q) refl ran asks.whole)

pub runs_stand : RunsStand
runs_stand k events valid few = stands_after k valid events (omega (arith, few))

pub lines_stand : LinesStand
lines_stand k events d valid few = lines_after k valid events (omega (arith, few)) d

pub sections_are_low : SectionsAreLow
sections_are_low = sections_low

pub reports_are_low : ReportsAreLow
reports_are_low = reports_low
