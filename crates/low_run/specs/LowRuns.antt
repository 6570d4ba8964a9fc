-- How a machine goes on by a list of events, and where those of other classes do nothing.
use Rattle.std.specs.Prelude.{ℕ, ◌≡◌, ◌<◌, Bool, false, List, length}
use Rattle.words_layout.specs.declared.op.Event.{Event}
use Rattle.class_model.specs.Config.{classes}
use Rattle.class_model.specs.Process.{ProcName}
use Rattle.machine.specs.Banks.{State}
use Rattle.machine.specs.Plain.{OnWords}
use Rattle.machine.specs.Steps.{HasEnded, RunsBy}
use Rattle.low_run.specs.Flags.{is_low}

-- The events lead from the one machine to the other, which has as many processors and the same header, scripts and gates.
pub record GoesOn (events : List Event) (m n : State (List ℕ)) : Type 0 where
  pub runs : (names : List ProcName) × RunsBy OnWords events m n names
  pub banks : length n.banks ≡ length m.banks
  pub shared : n.shared ≡ m.shared

-- no process is live of a class whose flag doesn't stand
abbrev pub OthersEnded : List Bool → State (List ℕ) → Type 0
OthersEnded flags m = (d : ℕ) → d < classes m.shared → is_low flags d ≡ false → HasEnded m d
