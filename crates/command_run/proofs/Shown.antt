-- What showing a configuration shows, seen from where it was read.
use Rattle.std.proofs.Common.{◌∙◌, sym, ap, subst, refl}
use Rattle.host_ports.specs.Ports.{Told, IsPrefixTaken, with_bytes}
use Rattle.config_text.specs.declared.config.Config.{Config as ConfigText}
use Rattle.config_text.specs.Written.{written}
use Rattle.report.specs.Printing.{Pushed, Torn}
use Rattle.command_input.specs.declared.status.Status.{Status}
use Rattle.command_input.specs.declared.status.Status.TheVariants.{Done, HostFault, Unfinished, NoMemory}
use Rattle.command_input.specs.declared.status.PortFault.TheVariants.{Write}
use Rattle.command_input.specs.Answer.{ConfigFails, PortsShow}
use Rattle.command_input.specs.Input.{Ports, NoneFailed, OnePushFailed, ConfigHad}
use Rattle.command_input.proofs.Failures.{none_on, none_push, pull_none, push_none, push_one}
use Rattle.command_input.proofs.Reading.{silent_pull, whole_as}
use Rattle.command_run.specs.Shows.{Shown, ShownUpTo, ShowShows}

module _ (before middle after : Ports) (k : ConfigText) (had : ConfigHad before middle k) where
  read_none : NoneFailed before middle
  read_none = pull_none 0 before middle had.keeps had.stays

  pub shown : Pushed middle after (written k) → Shown before after
  shown f = record {
    of = record { config = k; told = had.told; whole = whole_as 0 before middle before after refl f.keeps.left had.whole };
    text = f.taken ∙ ap (λ (t : Told). with_bytes t (written k)) had.keeps.taken;
    others = λ p some. f.keeps.others p some ∙ had.keeps.others p some;
    none = none_on before middle after read_none (push_none 0 middle after f.keeps f.stays);
  }

  pub shown_up_to : Torn middle after (written k) → ShownUpTo 0 before after
  shown_up_to f = record {
    zero = refl;
    of = record { config = k; told = had.told; whole = whole_as 0 before middle before after refl f.keeps.left had.whole };
    torn = subst (λ (t : Told). IsPrefixTaken t (after 0).taken (written k)) had.keeps.taken f.taken;
    others = λ p some. f.keeps.others p some ∙ had.keeps.others p some;
    one = none_push 0 before middle after read_none (push_one 0 middle after f.keeps f.rose);
  }

-- out of memory behind the configuration
pub no_text : (before after : Ports) (k : ConfigText) → ConfigHad before after k → ConfigFails before after NoMemory
no_text before after k had = record {
  cause = tt;
  silent = silent_pull 0 before after had.keeps;
  others = had.keeps.others;
  ports = record { silence = silent_pull 0 before after had.keeps; faults = pull_none 0 before after had.keeps had.stays; unread = tt };
}

-- what holds of the ports at every answer of showing a configuration
pub show_ports : (before after : Ports) (s : Status) → ShowShows before after s → PortsShow before after s
show_ports before after Done f = record { silence = tt; faults = f.none; unread = tt }
show_ports before after Unfinished f = absurd f
show_ports before after (HostFault (Write port)) f = record { silence = tt; faults = subst (λ q. OnePushFailed q before after) (sym f.zero) f.one; unread = tt }
show_ports before after _ f = f.ports
