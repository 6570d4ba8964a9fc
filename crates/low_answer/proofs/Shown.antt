-- What printing shows, seen from where the input was read.
use Rattle.std.proofs.Common.{◌≡◌, ℕ, zero, suc, ◌≤◌, Bool, true, false, List, Some, Err, refl, sym, ap, subst, ◌∙◌, arith}
use Rattle.host_ports.specs.Ports.{Port, Told, IsPrefixTaken, PushKeeps, with_bytes}
use Rattle.config_text.specs.declared.config.Config.{Config as ConfigText}
use Rattle.command_input.specs.declared.status.Status.{Status}
use Rattle.command_input.specs.declared.status.Status.TheVariants.{Done, HostFault, Unfinished}
use Rattle.command_input.specs.declared.status.PortFault.TheVariants.{Write}
use Rattle.command_input.specs.Answer.{PortsShow}
use Rattle.command_input.specs.Input.{Ports, IsUnpushed, OnePushFailed, InputHad}
use Rattle.command_input.proofs.Failures.{none_on, none_push, push_none, push_one}
use Rattle.command_input.proofs.Reading.{reads_kept}
use Rattle.command_run.specs.Printed.{answer_of}
use Rattle.command_run.proofs.Ran.{load_fails}
use Rattle.loader.specs.declared.loading.LoadError.{LoadError}
use Rattle.loader.specs.declared.loading.LoadError.TheVariants as error
use Rattle.loader.specs.Records.{Volumes, Loads}
use Rattle.loader.specs.Refusals.{IsRefusedRightly}
use Rattle.report.specs.Printing.{Pushed, Torn}
use Rattle.low_answer.specs.LowShows.{LowInput, OnlyToZero, LowShown, LowShownUpTo, LowShows, LowEnds, LowPrints}

push_left : (before after : Ports) → PushKeeps 0 before after → (p : ℕ) → (after p).left ≡ (before p).left
push_left before after keeps zero = keeps.left
push_left before after keeps (suc p) = ap (λ (x : Port). x.left) (keeps.others (suc p) (λ e. cc))

module _ (due : ℕ → ConfigText → Volumes → List ℕ) (Holds : ℕ → ConfigText → Volumes → Type 0) (class : ℕ) where
  module _ (before now after : Ports) (k : ConfigText) (vs : Volumes) (had : InputHad (Some class) before now k vs) (loads : Loads k vs) where
    low_input : PushKeeps 0 now after → LowInput class before after
    low_input keeps = record {
      config = k;
      volumes = vs;
      input = record { reads = reads_kept 5 before now after k vs (push_left now after keeps) had.reads; valid = had.volumes; loads = loads };
      among = had.among;
    }

    unpushed : PushKeeps 0 now after → (p : ℕ) → 1 ≤ p → IsUnpushed (before p) (after p)
    unpushed keeps p some =
        let same = keeps.others p (λ e. absurd (omega (arith, e, some))) in
        (ap (λ (x : Port). x.taken) same ∙ had.silent.taken p, ap (λ (x : Port). x.pushes) same ∙ had.silent.pushes p)

    only_to_zero : PushKeeps 0 now after → OnlyToZero k before after
    only_to_zero keeps = record { images = unpushed keeps; others = λ p some none. keeps.others p some ∙ had.others p some none }

    shown : (live : Bool) → Pushed now after (due class k vs) → LowEnds Holds class k vs live → LowShown due Holds class live before after
    unfolding low_input
    shown live f e = record {
      of = low_input f.keeps;
      text = f.taken ∙ ap (λ (t : Told). with_bytes t (due class k vs)) (had.silent.taken 0);
      holds = e.holds;
      ended = e.live_is;
      only = only_to_zero f.keeps;
      none = none_on before now after had.none (push_none 0 now after f.keeps f.stays);
    }

    shown_up_to : Torn now after (due class k vs) → LowShownUpTo due class 0 before after
    unfolding low_input
    shown_up_to f = record {
      zero = refl;
      of = low_input f.keeps;
      torn = subst (λ (t : Told). IsPrefixTaken t (after 0).taken (due class k vs)) (had.silent.taken 0) f.taken;
      only = only_to_zero f.keeps;
      one = none_push 0 before now after had.none (push_one 0 now after f.keeps f.rose);
    }

    pub low_shows : (s : Status) → LowPrints due Holds class k vs now after s → LowShows due Holds class before after s
    low_shows Done o = shown false o.0 o.1
    low_shows Unfinished o = shown true o.0 o.1
    low_shows (HostFault (Write port)) o = subst (λ q. LowShownUpTo due class q before after) (sym o.0) (shown_up_to o.1)
    low_shows _ o = absurd o

  -- what the answer shows where the state can't be made
  pub load_shows : (M : Type 0) (before now : Ports) (k : ConfigText) (vs ws : Volumes) (error : LoadError) → InputHad (Some class) before now k vs → ws ≡ vs →
      IsRefusedRightly {M = M} k ws (Err error) → LowShows due Holds class before now (answer_of error)
  load_shows M before now k vs ws (error.Fault volume item code) had same f = load_fails M (Some class) before now k vs ws (error.Fault volume item code) had same f
  load_shows M before now k vs ws error.NoMemory had same f = load_fails M (Some class) before now k vs ws error.NoMemory had same f

  -- what holds of the ports at every answer
  pub low_ports : (before after : Ports) (s : Status) → LowShows due Holds class before after s → PortsShow before after s
  low_ports before after Done f = record { silence = tt; faults = f.none; unread = tt }
  low_ports before after Unfinished f = record { silence = tt; faults = f.none; unread = tt }
  low_ports before after (HostFault (Write port)) f = record { silence = tt; faults = subst (λ q. OnePushFailed q before after) (sym f.zero) f.one; unread = tt }
  low_ports before after _ f = f.ports
