-- What printing the summary shows.
use Rattle.std.proofs.Common.{◌≡◌, ℕ, ◌≤◌, Bool, length, refl, sym, ap, subst, ◌∙◌}
use Rattle.std.specs.List.{list_any}
use Rattle.lists.specs.Lists.{below}
use Rattle.class_model.specs.Config.{classes}
use Rattle.class_model.specs.Valid.{IsConfig}
use Rattle.command_input.specs.declared.status.Status.{Status}
use Rattle.command_input.specs.declared.status.Status.TheVariants.{Done, HostFault, Unfinished, NoMemory}
use Rattle.command_input.specs.declared.status.PortFault.TheVariants.{Write}
use Rattle.command_input.specs.Answer.{PortsShow}
use Rattle.command_input.specs.Input.{Ports, Untouched, NothingPushed, OnePushFailed}
use Rattle.command_input.proofs.Failures.{untouched_none, push_none, push_one}
use Rattle.command_run.specs.Headline.{class_live}
use Rattle.command_run.proofs.Reports.{machine_live}
use Rattle.host_ports.specs.Ports.{Port}
use Rattle.machine.specs.Machine.{Machine}
use Rattle.machine.specs.Opening.{machine}
use Rattle.report.specs.Printing.{Pushed, Torn}
use Rattle.summary.specs.Laws.{SummariesAgree}
use Rattle.summary.specs.Summary.{machine_summary}
use Rattle.command_large.specs.Summed.{large_data, large_events, summary_due, Summed, SummedUpTo, LargeShows}

module _ (number : ℕ) (m : Machine) (same : m ≡ machine (large_data number) (large_events number)) (agree : SummariesAgree) (valid : IsConfig (large_data number)) (few : length (large_events number) ≤ 4194304) where
  agrees : machine_summary number (machine (large_data number) (large_events number)) ≡ summary_due number
  agrees = agree (large_data number) (large_events number) number valid few

  told : machine_summary number m ≡ summary_due number
  told = ap (machine_summary number) same ∙ agrees

  module _ (before after : Ports) where
    pub summed : (live : Bool) → Pushed before after (machine_summary number m) → list_any (class_live m) (below (classes m.shared)) ≡ live → Summed number live before after
    summed live pushed e = let p = subst (Pushed before after) told pushed in record {
      text = p.taken;
      machine = agrees;
      ended = sym (machine_live (large_data number) (large_events number) m same) ∙ e;
      only = record { left = p.keeps.left; others = p.keeps.others };
      none = push_none 0 before after p.keeps p.stays;
    }

    pub summed_up_to : Torn before after (machine_summary number m) → SummedUpTo number 0 before after
    summed_up_to torn = let t = subst (Torn before after) told torn in record {
      zero = refl;
      torn = t.taken;
      only = record { left = t.keeps.left; others = t.keeps.others };
      one = push_one 0 before after t.keeps t.rose;
    }

silent : (before after : Ports) → Untouched before after → NothingPushed before after
silent before after same = record { taken = λ p. ap (λ (x : Port). x.taken) (same p); pushes = λ p. ap (λ (x : Port). x.pushes) (same p) }

-- what holds of the ports at every answer
pub large_ports : (number : ℕ) (before after : Ports) (s : Status) → LargeShows number before after s → PortsShow before after s
large_ports number before after Done f = record { silence = tt; faults = f.none; unread = tt }
large_ports number before after Unfinished f = record { silence = tt; faults = f.none; unread = tt }
large_ports number before after (HostFault (Write port)) f = record { silence = tt; faults = subst (λ q. OnePushFailed q before after) (sym f.zero) f.one; unread = tt }
large_ports number before after NoMemory f = record { silence = silent before after f; faults = untouched_none before after f; unread = tt }
large_ports number before after _ f = absurd f
