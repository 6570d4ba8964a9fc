-- What the laws of effect say.
use Rattle.std.specs.Prelude.{ℕ, ◌≡◌, ◌≤◌, true, List, Some, length}
use Rattle.std.specs.List.{flat_map}
use Rattle.lists.specs.Lists.{below, put}
use Rattle.words_layout.specs.Sizes.{max_events}
use Rattle.words_layout.specs.Words.{GuardedWords}
use Rattle.words_layout.specs.declared.op.Event.{Event}
use Rattle.policy.specs.Outcome.{Outcome}
use Rattle.turns.specs.AtOnce.{Ran}
use Rattle.class_model.specs.Config.{Config}
use Rattle.class_model.specs.Process.{Process, ProcName, settled}
use Rattle.class_model.specs.Plan.{Ask, Request, plan}
use Rattle.class_model.specs.Run.{run}
use Rattle.class_model.specs.State.{State, process_at}
use Rattle.class_model.specs.Step.{step}
use Rattle.class_model.specs.Valid.{IsConfig}
use Rattle.process.specs.Running.{act}
use Rattle.machine.specs.Opening.{machine, effects}
use Rattle.machine.specs.Stands.{StandsFor}
use Rattle.report.specs.Reported.{section}
use Rattle.report_laws.specs.Shown.{low_section}
use Rattle.effect_laws.specs.Alone.{WordsHold, IsReached, alone}

-- the process of that name is live and is about to ask this, and the whole body of it alone comes to that
pub record AsksAlone (a : State) (words : ℕ → GuardedWords) (name : ProcName) (p : Process) (q : Request) (ran : Ran Outcome) : Type 0 where
  pub there : process_at a name ≡ Some p
  pub live : p.live ≡ true
  pub planned : plan a.shared name.class p ≡ Ask q
  pub whole : alone words name.class (act a.shared name.class p.ring q) ≡ Some ran

-- Makeknown, create, delete, swapin, swapout, fetch and update: from words that hold what a reached state is, the whole body
-- alone leaves words that hold what the state after the instruction is, and its process has the instruction's reply.
abbrev pub BodiesAreWhole : Type 0
BodiesAreWhole =
    (a : State) (words : ℕ → GuardedWords) (name : ProcName) (p : Process) (q : Request) (ran : Ran Outcome) → IsReached a → WordsHold a words →
    AsksAlone a words name p q ran → WordsHold (step a name) (put words name.class ran.words) × (process_at (step a name) name ≡ Some (settled p ran.shown))

-- After any list of at most 4,194,304 events of a valid configuration, of one virtual processor or of many, the machine of
-- words stands for the machine of whole instructions after the order of effect.
abbrev pub RunsStand : Type 0
RunsStand = (k : Config) (events : List Event) → IsConfig k → length events ≤ max_events → StandsFor (machine k events) (run k (effects k events))

-- So each class is shown what the machine of whole instructions shows it, given only what is at or below the class.
abbrev pub SectionsAreLow : Type 0
SectionsAreLow = (k : Config) (events : List Event) → IsConfig k → length events ≤ max_events → (c : ℕ) → section c (machine k events) ≡ low_section k events c

-- likewise the sections of all classes, in their order
abbrev pub ReportsAreLow : Type 0
ReportsAreLow = (k : Config) (events : List Event) → IsConfig k → length events ≤ max_events →
    flat_map (λ c. section c (machine k events)) (below (length k.table)) ≡ flat_map (low_section k events) (below (length k.table))
