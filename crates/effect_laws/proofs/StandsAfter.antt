-- After every list of events the machine of words stands for the state after the order of effect.
use Rattle.std.proofs.Common.{ℕ, ◌+◌, ◌-◌, ◌^◌, ◌<◌, List, [], ◌∷◌, ◌≡◌, refl, sym, subst, ◌∙◌, arith, length}
use Rattle.words_layout.specs.declared.op.Event.{Event}
use Rattle.words_layout.specs.declared.segment.SegId.{SegId}
use Rattle.class_model.specs.Config.{Config, Shared, shared_of}
use Rattle.class_model.specs.Process.{ProcName}
use Rattle.class_model.specs.Run.{steps}
use Rattle.class_model.specs.Run.{run as whole_run, opening as whole_opening}
use Rattle.class_model.specs.State.{State, In}
use Rattle.class_model.specs.Step.{step as whole_step}
use Rattle.class_model.specs.Valid.{IsConfig}
use Rattle.machine.specs.Machine.{Machine, step, run}
use Rattle.machine.specs.Opening.{opening, machine, effects}
use Rattle.machine.specs.Stands.{StandsFor, PartStands}
use Rattle.report_laws.proofs.Printing.{printed_is}
use Rattle.effect_laws.specs.Lines.{HasLines}
use Rattle.effect_laws.proofs.Good.{Good, InUse}
use Rattle.effect_laws.proofs.Growing.{good_more}
use Rattle.effect_laws.proofs.GoodStep.{good_step}
use Rattle.effect_laws.proofs.OpeningGood.{opening_good}
use Rattle.effect_laws.proofs.OpeningTogether.{opening_together}
use Rattle.effect_laws.proofs.AllLaws.{laws}
use Rattle.effect_laws.proofs.StandFor.{class_stands, segment_stands}
use Rattle.effect_laws.proofs.WholeRun.{Together, Side, together_run}

-- each state that steps reach from a good one is good
pub good_steps : (names : List ProcName) (n : ℕ) (a : State) → Good n a → Good (n + length names) (steps a names)
good_steps [] n a good = let e : n + 0 ≡ n = omega arith in subst (λ z. Good z a) (sym e) good
good_steps (x ∷ names) n a good = let e : n + length (x ∷ names) ≡ (n + 1) + length names = omega arith in
    subst (λ z. Good z (steps (whole_step a x) names)) (sym e) (good_steps names (n + 1) (whole_step a x) (good_step n a x good))

-- so is each state after a run
pub good_run : (k : Config) → IsConfig k → (names : List ProcName) → Good (length names) (whole_run k names)
good_run k valid names = let e : 0 + length names ≡ length names = omega arith in subst (λ z. Good z (whole_run k names)) e (good_steps names 0 (whole_opening k) (opening_good k valid))

run_shared : (events : List Event) (m : Machine) → (run m events).shared ≡ m.shared
run_shared [] m = refl
run_shared (e ∷ events) m = run_shared events (step m e)

module _ (k : Config) (valid : IsConfig k) (events : List Event) (few : length events < 2 ^ 64 - 1) where
  abbrev a : State
  a = whole_run k (effects k events)

  abbrev n : ℕ
  n = 0 + length events

  side : Side (shared_of k) Good good_step good_more (λ m n committed a small good keeps agrees d p i q there. laws (shared_of k) m n committed a small good agrees d p i q there) n (machine k events).part a
  side = together_run (shared_of k) Good good_step good_more (λ m n committed a small good keeps agrees d p i q there. laws (shared_of k) m n committed a small good agrees d p i q there)
      events 0 (opening k) (whole_opening k) refl (omega (arith, few)) (opening_together k valid, opening_good k valid)

  together : Together (shared_of k) n (machine k events).part a
  together = side.0

  good : Good n a
  good = side.1

  parts : (d : ℕ) → PartStands (shared_of k) d ((machine k events).part d) (a.part d)
  parts d = record {
    processes = together.agrees.processes d;
    lines = (let h = together.agrees.printing d in printed_is k.console (λ p. (((machine k events).part d).vp p).lines) (a.part d).used (a.part d).lines h);
    used = (together.agrees.counters d).places;
    components = (together.agrees.counters d).components;
    sequencers = (together.agrees.counters d).sequencers;
    of_class = class_stands (shared_of k) n (machine k events).part a together d;
    of_segments = λ u. segment_stands (shared_of k) n (machine k events).part a together d u (range u);
  }
    where
      range : (u : SegId) (live : List ℕ) → ((a.part d).cell u).home ≡ In live → u.serial < 64
      range u live e =
          let given_out : InUse a u = ((good.cells d u).live live e).in_use in
          let serial = given_out.serial in let limit = good.serials u.mentor in omega (arith, serial, limit)

  pub together_after : Together (shared_of k) (0 + length events) (machine k events).part (whole_run k (effects k events))
  together_after = together

  pub good_after : Good (0 + length events) (whole_run k (effects k events))
  good_after = good

  pub lines_after : (d : ℕ) → HasLines k.console ((machine k events).part d) ((whole_run k (effects k events)).part d).lines
  lines_after d = let h = together.agrees.printing d in record { each = h.at; count = h.count; few = h.within }

  pub stands_after : StandsFor (machine k events) (whole_run k (effects k events))
  stands_after = record {
    shared = run_shared events (opening k) ∙ sym together.agrees.shared;
    parts = λ d. subst (λ (s : Shared). PartStands s d ((machine k events).part d) (a.part d)) (sym (run_shared events (opening k))) (parts d);
  }
