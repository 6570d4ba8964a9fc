-- Where no turn of a guard is open the words that it guards stay as they are.
use Rattle.std.proofs.Common.{ℕ, ◌+◌, ◌-◌, ◌^◌, ◌≤◌, ◌<◌, ◌≢◌, Bool, true, false, List, [], ◌∷◌, ◌≡◌, refl, sym, ap, subst, ◌∙◌, Option, Some, None, arith, length}
use Rattle.std.specs.Prelude.{if◌then◌else◌, ◌==◌, ◌&&◌}
use Rattle.std.proofs.lemmas.Bool.{both_ways, and_from, eq-eqb}
use Rattle.words_layout.specs.Segments.{same_seg, seg_number}
use Rattle.words_layout.specs.declared.segment.SegId.{SegId}
use Rattle.words_layout.specs.Coding.{home_of}
use Rattle.words_layout.specs.Words.{OfClass, Guard, OfSegment, GuardedWord, GuardedWords, HomeOf, WritesOf, FrameWord, FrameTenant, NextSerial, EntryOf, PageTenant, PageWord, same_word}
use Rattle.words_layout.specs.declared.op.Event.{Event}
use Rattle.words_layout.proofs.Names.{same_seg-refl, same_word-true}
use Rattle.turns.specs.Stage.{stage, inside}
use Rattle.class_model.specs.Config.{Config, Shared, shared_of}
use Rattle.class_model.specs.Process.{ProcName}
use Rattle.class_model.specs.Run.{run as whole_run}
use Rattle.class_model.specs.Valid.{IsConfig}
use Rattle.process.specs.Running.{Running}
use Rattle.machine.specs.Machine.{Machine, ClassPart, chosen, part_step, words_of, step, run}
use Rattle.machine.specs.Opening.{opening, machine, effects}
use Rattle.machine.specs.Stands.{NoTurn, names_frame}
use Rattle.effect_laws.proofs.Good.{Good}
use Rattle.effect_laws.proofs.Growing.{by_put}
use Rattle.effect_laws.proofs.Guards.{Hold, just, covers, frame_guard, apart_just, store_apart}
use Rattle.effect_laws.proofs.Turns.{at_slot}
use Rattle.effect_laws.proofs.Slots.{IsChosen, chosen-is, part_taken, part_step-taken}
use Rattle.effect_laws.proofs.StepKinds.{writing, Kind, calm, store, commit}
use Rattle.effect_laws.proofs.Committed.{no-turn, free_outside, writing_inside, writing_has}
use Rattle.effect_laws.proofs.Interleaving.{kind_of}
use Rattle.effect_laws.proofs.PrivateSame.{named_same}
use Rattle.effect_laws.proofs.Refinement.{Laws, standing}
use Rattle.effect_laws.proofs.GateLaws.{in_range}
use Rattle.effect_laws.proofs.AllLaws.{laws}
use Rattle.effect_laws.proofs.StandFor.{tenant_guard}
use Rattle.effect_laws.proofs.WholeRun.{Together}
use Rattle.effect_laws.proofs.StandsAfter.{together_after, good_after}
use Rattle.look_laws.specs.Laws.{GuardedRest, SegmentsWritten}
use Rattle.look_laws.specs.Moments.{running_at, is_slot, takes_step}
use Rattle.look_laws.proofs.Segments.{in_turn}
use Rattle.look_laws.specs.Looks.{TurnOpen, IsOfSegment, IsGuardedBy, IsHomeOrWrites, InTurnOf, turn_segment}

-- a step changes no word of a guard of which the process has no turn
unchanged_by : (c n : GuardedWords) (x y : Hold) (c' n' : GuardedWords) → Kind c n x y c' n' → (g : Guard) → x g ≡ false → (w : GuardedWord) → covers c (just g) w ≡ true → n' w ≡ n w
unchanged_by c n x y _ _ (calm grows) g out w k = refl
unchanged_by c n x y _ _ (commit changed) g out w k = refl
unchanged_by c n x y _ _ (store q v may grows) g out w k = elim (same_word w q) as (λ b. same_word w q ≡ b → (if b then v else n w) ≡ n w) [
  | true ↦ λ e. absurd (both_ways (covers c (just g) q) (store_apart c x (just g) (apart_just x g out) q v may) (subst (λ z. covers c (just g) z ≡ true) (same_word-true w q e) k))
  | false ↦ λ e. refl
] refl

run_shared : (events : List Event) (m : Machine) → (run m events).shared ≡ m.shared
run_shared [] m = refl
run_shared (e ∷ events) m = run_shared events (step m e)

module _ (k : Config) (valid : IsConfig k) (past : List Event) (few : length past < 2 ^ 64 - 1) (d : ℕ) where
  abbrev m : Machine
  m = machine k past

  abbrev n : ℕ
  n = 0 + length past

  abbrev s : Shared
  s = shared_of k

  n_small : n < 2 ^ 64 - 1
  n_small = omega (arith, few)

  t : Together s n m.part (whole_run k (effects k past))
  t = together_after k valid past few

  good : Good n (whole_run k (effects k past))
  good = good_after k valid past few

  abbrev c0 : GuardedWords
  c0 = t.committed d

  abbrev n0 : GuardedWords
  n0 = (m.part d).words.guarded

  home_covered : (u : SegId) → covers c0 (just (OfSegment u)) (HomeOf u) ≡ true
  home_covered u = same_seg-refl u

  own_covered : (u : SegId) (w : GuardedWord) → IsHomeOrWrites u w → covers c0 (just (OfSegment u)) w ≡ true
  own_covered u (HomeOf v) h = subst (λ z. same_seg z u ≡ true) h (same_seg-refl u)
  own_covered u (WritesOf v) h = subst (λ z. same_seg z u ≡ true) h (same_seg-refl u)
  own_covered u NextSerial h = absurd h
  own_covered u (EntryOf v e) h = absurd h
  own_covered u (FrameTenant f) h = absurd h
  own_covered u (FrameWord f i) h = absurd h
  own_covered u (PageTenant f) h = absurd h
  own_covered u (PageWord f i) h = absurd h

  -- a step of a process that has no turn of the guard changes no word that such turns guard
  module _ (g : Guard) (w : GuardedWord) (guarded : covers c0 (just g) w ≡ true) (p : ℕ) (x : ℕ × Running) (e : chosen ((m.part d).vp p) ≡ Some x) where
    is : IsChosen ((m.part d).vp p) x.0 x.1
    is = chosen-is ((m.part d).vp p) x.0 x.1 e

    here : Laws s m.part t.committed (whole_run k (effects k past)) d x.1.process
    here = laws s m.part n t.committed (whole_run k (effects k past)) n_small good t.agrees d p x.0 x.1.process (named_same (whole_run k (effects k past)) d p x.0 (m.part d) x.1 (t.agrees.processes d) is)

    step_rests : writing x.1.doing g ≡ false → (part_taken s (words_of m) d (m.part d) p (Some x)).words.guarded w ≡ n0 w
    step_rests out = unchanged_by c0 n0 (writing x.1.doing) _ _ _ (kind_of s n m.part t.committed t.keeps n_small d p x.0 x.1.process here.fair x.1.doing is) g out w guarded

  -- so where the home of a segment or its count of writes changes, the process of the step is in a turn of it
  module _ (u : SegId) (w : GuardedWord) (of_it : IsHomeOrWrites u w) (p : ℕ) where
    abbrev Writer : Type 0
    Writer = (x : ℕ × Running) × (chosen ((m.part d).vp p) ≡ Some x) × (turn_segment x.1.doing ≡ Some u)

    writer_is : (x : ℕ × Running) → chosen ((m.part d).vp p) ≡ Some x → (b : Bool) → writing x.1.doing (OfSegment u) ≡ b → ((part_taken s (words_of m) d (m.part d) p (Some x)).words.guarded w ≢ n0 w) → Writer
    writer_is x e true h changed = let has = writing_has x.1.doing (OfSegment u) h in (x, e, in_turn u x.1.doing (ap inside has.1))
    writer_is x e false h changed = absurd (changed (step_rests (OfSegment u) w (own_covered u w of_it) p x e h))

    taken_writes : (o : Option (ℕ × Running)) → chosen ((m.part d).vp p) ≡ o → (part_taken s (words_of m) d (m.part d) p o).words.guarded w ≢ n0 w → Writer
    taken_writes None e changed = absurd (changed refl)
    taken_writes (Some x) e changed = writer_is x e (writing x.1.doing (OfSegment u)) refl changed

    part_writes : (part_step m.shared (words_of m) d (m.part d) p).words.guarded w ≢ n0 w → Writer
    part_writes = subst (λ z. (part_step z (words_of m) d (m.part d) p).words.guarded w ≢ n0 w → Writer) (sym (run_shared past (opening k)))
        (subst (λ (z : ClassPart). z.words.guarded w ≢ n0 w → Writer) (sym (part_step-taken s (words_of m) d (m.part d) p)) (taken_writes (chosen ((m.part d).vp p)) refl))

  module _ (g : Guard) (closed : TurnOpen d g (machine k past) → ⊥) where
    none : NoTurn g (m.part d)
    none = no-turn g (m.part d) (t.keeps.four d) (omega (arith, closed_is, (t.keeps.turns d g).turns.starts))
      where
        closed_is : (m.part d).words.started g ≤ (m.part d).words.finished g
        closed_is = omega (arith, closed)

    still : (w : GuardedWord) → covers c0 (just g) w ≡ true → n0 w ≡ c0 w
    still = t.keeps.idle d g (λ q j. free_outside g (at_slot (m.part d) q j) (none q j))

    module _ (w : GuardedWord) (guarded : covers c0 (just g) w ≡ true) (p : ℕ) where
      taken_rests : (o : Option (ℕ × Running)) → chosen ((m.part d).vp p) ≡ o → (part_taken s (words_of m) d (m.part d) p o).words.guarded w ≡ n0 w
      taken_rests None e = refl
      taken_rests (Some x) e =
          let out : inside (stage g x.1.doing) ≡ false = rw (chosen-is ((m.part d).vp p) x.0 x.1 e).there at (none p x.0) in
          step_rests g w guarded p x e (writing_inside x.1.doing g out)

      part_rests : (part_step m.shared (words_of m) d (m.part d) p).words.guarded w ≡ n0 w
      part_rests = subst (λ z. (part_step z (words_of m) d (m.part d) p).words.guarded w ≡ n0 w) (sym (run_shared past (opening k)))
          (subst (λ (z : ClassPart). z.words.guarded w ≡ n0 w) (sym (part_step-taken s (words_of m) d (m.part d) p)) (taken_rests (chosen ((m.part d).vp p)) refl))

  -- each of these words is covered, where no turn of the guard is open
  class_covered : (w : GuardedWord) → IsGuardedBy n0 OfClass w → covers c0 (just OfClass) w ≡ true
  class_covered (HomeOf v) h = refl
  class_covered NextSerial h = refl
  class_covered (EntryOf v e) h = refl
  class_covered (FrameTenant f) h = refl
  class_covered (PageTenant f) h = refl
  class_covered (PageWord f i) h = refl
  class_covered (WritesOf v) h = absurd h
  class_covered (FrameWord f i) h = absurd h

  segment_covered : (u : SegId) → (TurnOpen d (OfSegment u) (machine k past) → ⊥) → (w : GuardedWord) → IsOfSegment n0 u w → covers c0 (just (OfSegment u)) w ≡ true
  segment_covered u closed (FrameWord f i) h =
      let named : names_frame (home_of (c0 (HomeOf u))) f ≡ true = subst (λ z. names_frame (home_of z) f ≡ true) (still (OfSegment u) closed (HomeOf u) (home_covered u)) h in
      let tenant : c0 (FrameTenant f) ≡ seg_number u + 1 = ((t.agrees.holds d).of_class.frames f).is u named in
      let small : u.serial < 64 = in_range n m.part t.committed (whole_run k (effects k past)) n_small good (standing s m.part t.committed (whole_run k (effects k past)) t.agrees) d u f named in
      ap (λ z. just (OfSegment u) (frame_guard z)) tenant ∙ ap (just (OfSegment u)) (tenant_guard u small) ∙ same_seg-refl u
  segment_covered u closed (HomeOf v) h = own_covered u (HomeOf v) h
  segment_covered u closed (WritesOf v) h = own_covered u (WritesOf v) h
  segment_covered u closed NextSerial h = absurd h
  segment_covered u closed (EntryOf v e) h = absurd h
  segment_covered u closed (FrameTenant f) h = absurd h
  segment_covered u closed (PageTenant f) h = absurd h
  segment_covered u closed (PageWord f i) h = absurd h

  covered : (g : Guard) → (TurnOpen d g (machine k past) → ⊥) → (w : GuardedWord) → IsGuardedBy n0 g w → covers c0 (just g) w ≡ true
  covered OfClass closed w h = class_covered w h
  covered (OfSegment u) closed w h = segment_covered u closed w h

pub guarded_rest : GuardedRest
guarded_rest k past e d g w valid few closed of_it = by_put (λ c (z : ClassPart). c ≡ d → z.words.guarded w ≡ (words_of (machine k past) c).guarded w) (machine k past).part e.class
    (part_step (machine k past).shared (words_of (machine k past)) e.class ((machine k past).part e.class) e.processor) d
    (λ h. subst (λ c. (part_step (machine k past).shared (words_of (machine k past)) c ((machine k past).part c) e.processor).words.guarded w ≡ (words_of (machine k past) c).guarded w) (sym h)
    (part_rests k valid past small d g closed w (covered k valid past small d g closed w of_it) e.processor))
    (λ h x. refl) refl
  where
    small : length past < 2 ^ 64 - 1
    small = omega (arith, few)

-- the process of the step by its name
abbrev Mover : Machine → Event → SegId → ℕ → Type 0
Mover m e u d = (name : ProcName) × (name.class ≡ d) × (takes_step name m e ≡ true) × InTurnOf u (running_at m name)

mover : (m : Machine) (e : Event) (u : SegId) (d : ℕ) → e.class ≡ d → (x : ℕ × Running) × (chosen ((m.part d).vp e.processor) ≡ Some x) × (turn_segment x.1.doing ≡ Some u) → Mover m e u d
mover m e u d h w = (name, refl, takes, subst (InTurnOf u) (sym (chosen-is ((m.part d).vp e.processor) w.0.0 w.0.1 w.1).there) w.2)
  where
    name : ProcName
    name = record { processor = e.processor; class = d; slot = w.0.0 }

    takes : takes_step name m e ≡ true
    takes = and_from (e.class == d) (e.processor == e.processor && is_slot w.0.0 (chosen ((m.part e.class).vp e.processor))) (eq-eqb e.class d h)
        (and_from (e.processor == e.processor) (is_slot w.0.0 (chosen ((m.part e.class).vp e.processor))) (eq-eqb e.processor e.processor refl)
        (ap (λ c. is_slot w.0.0 (chosen ((m.part c).vp e.processor))) h ∙ ap (is_slot w.0.0) w.1 ∙ eq-eqb w.0.0 w.0.0 refl))

pub segments_written : SegmentsWritten
segments_written k past e d u w valid few of_it = by_put (λ c (z : ClassPart). c ≡ d → z.words.guarded w ≢ (words_of (machine k past) c).guarded w → Mover (machine k past) e u d) (machine k past).part e.class
    (part_step (machine k past).shared (words_of (machine k past)) e.class ((machine k past).part e.class) e.processor) d
    (λ h. subst (λ c. (part_step (machine k past).shared (words_of (machine k past)) c ((machine k past).part c) e.processor).words.guarded w ≢ (words_of (machine k past) c).guarded w → Mover (machine k past) e u d) (sym h)
    (λ changed. mover (machine k past) e u d h (part_writes k valid past (omega (arith, few)) d u w of_it e.processor changed)))
    (λ h x changed. absurd (changed refl)) refl
