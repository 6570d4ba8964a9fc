-- What printing does, by the answer that was given after it.
use Rattle.std.proofs.Common.{◌≡◌, ℕ, Bool, true, false, List, [], ◌∷◌, length, refl, sym, ap, subst, ◌∙◌}
use Rattle.std.specs.List.{list_any}
use Rattle.std.specs.Prelude.{Result, Ok, Err}
use Rattle.lists.specs.Lists.{below}
use Rattle.class_model.specs.Config.{classes, low_config}
use Rattle.words_layout.specs.declared.op.Event.{Event}
use Rattle.machine.specs.Low.{low_events}
use Rattle.machine.specs.Machine.{Machine, step, run}
use Rattle.machine.specs.Opening.{machine, opening}
use Rattle.report.specs.Printing.{Prints}
use Rattle.report.specs.declared.printing.WriteFault.{WriteFault}
use Rattle.schedule.specs.Schedule.{events_of}
use Rattle.config_text.specs.declared.config.Config.{Config as ConfigText}
use Rattle.command_input.specs.declared.status.Status.{Status}
use Rattle.command_input.specs.Input.{Ports, loaded}
use Rattle.command_run.specs.Headline.{class_live}
use Rattle.loader.specs.Records.{Volumes}
use Rattle.low_answer.specs.LowShows.{LowPrints, answer_after, low_live}

-- no event changes what is shared
run_shared : (events : List Event) (m : Machine) → (run m events).shared ≡ m.shared
run_shared [] m = refl
run_shared (e ∷ events) m = run_shared events (step m e)

-- the machine of what is at or below the class, after the events there
abbrev pub low_machine : ℕ → ConfigText → Volumes → Machine
low_machine class k vs = machine (low_config class (loaded k vs)) (low_events k.table class (events_of k))

module _ (class : ℕ) (k : ConfigText) (vs : Volumes) (m : Machine) (same : m ≡ low_machine class k vs) where
  pub count : classes m.shared ≡ length k.table
  count = ap (λ (x : Machine). classes x.shared) same ∙ ap classes (run_shared (low_events k.table class (events_of k)) (opening (low_config class (loaded k vs))))

  live_is : list_any (class_live m) (below (classes m.shared)) ≡ low_live class k vs
  live_is = ap (λ n. list_any (class_live m) (below n)) count ∙ ap (λ (x : Machine). list_any (class_live x) (below (length k.table))) same

  module _ (due : ℕ → ConfigText → Volumes → List ℕ) (Holds : ℕ → ConfigText → Volumes → Type 0) (holds : Holds class k vs) (before after : Ports) where
    by : (printed : Result (Unit {0}) WriteFault) (live : Bool) → Prints before after (due class k vs) printed → low_live class k vs ≡ live →
        LowPrints due Holds class k vs before after (answer_after printed live)
    by (Ok pushed) true p e = (p, record { holds = holds; live_is = e })
    by (Ok pushed) false p e = (p, record { holds = holds; live_is = e })
    by (Err fault) live p e = (refl, p)

    pub low_prints : (printed : Result (Unit {0}) WriteFault) (s : Status) → Prints before after (due class k vs) printed →
        s ≡ answer_after printed (list_any (class_live m) (below (classes m.shared))) → LowPrints due Holds class k vs before after s
    low_prints printed s p is = subst (LowPrints due Holds class k vs before after) (sym is)
        (by printed (list_any (class_live m) (below (classes m.shared))) p (sym live_is))
