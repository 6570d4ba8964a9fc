-- On words in memory a machine runs as the step machine that it stands for.
use Rattle.std.specs.Prelude.{ℕ, ◌*◌, ◌<◌, ◌≡◌, List, length, All, Option}
use Rattle.words_layout.specs.Sizes.{class_words}
use Rattle.words_layout.specs.Ops.{Performed}
use Rattle.words_layout.specs.declared.op.Op.{Op}
use Rattle.words_layout.specs.declared.op.Event.{Event}
use Rattle.class_model.specs.Config.{classes}
use Rattle.class_model.specs.Process.{ProcName}
use Rattle.machine.specs.Machine.{step, run, effect_at, order_of_effect}
use Rattle.machine.specs.Banks.{bank_at, vp_at, State, machine_of}
use Rattle.machine.specs.Steps.{InRange, EventBy, RunsBy, named}

-- what one operation does on words in memory
abbrev pub OnWords : List ℕ → Op → ℕ → List ℕ → Type 0
OnWords before op answer after = Performed before op answer after

-- the words are those of the table's classes, and each bank has one virtual processor for each class, in class order
pub record IsLaid (m : State (List ℕ)) : Type 0 where
  pub long : length m.words ≡ class_words * classes m.shared
  pub width : (p : ℕ) → p < length m.banks → length (bank_at m.banks p) ≡ classes m.shared
  pub order : (p c : ℕ) → p < length m.banks → c < classes m.shared → (vp_at m.banks p c).class ≡ c

-- an event is the step of the step machine, and its effect is the one there
abbrev pub EventsAreSteps : Type 0
EventsAreSteps =
    (e : Event) (m n : State (List ℕ)) (effect : Option ℕ) → IsLaid m → InRange m e → EventBy OnWords e m n effect →
    (machine_of n ≡ step (machine_of m) e) × (named e effect ≡ effect_at (machine_of m) e) × IsLaid n

-- a list of events is the run of the step machine, and its effects come in the order of effect
abbrev pub RunsAreRuns : Type 0
RunsAreRuns =
    (events : List Event) (m n : State (List ℕ)) (names : List ProcName) → IsLaid m → All (λ e. InRange m e) events → RunsBy OnWords events m n names →
    (machine_of n ≡ run (machine_of m) events) × (names ≡ order_of_effect (machine_of m) events)
