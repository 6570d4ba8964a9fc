-- What is shown of a class: by the words, by a state that they stand for, and by what is at or below the class.
use Rattle.std.specs.Prelude.{ℕ, ◌≡◌, ◌<◌, ◌⊎◌, true, List, Some, length}
use Rattle.std.specs.List.{list_any}
use Rattle.lists.specs.Lists.{below}
use Rattle.words_layout.specs.declared.op.Event.{Event}
use Rattle.words_layout.specs.declared.segment.SegId.{SegId}
use Rattle.policy.specs.Known.{in_table}
use Rattle.turns.specs.Doing.{Fresh}
use Rattle.class_model.specs.Config.{Config, low_config}
use Rattle.class_model.specs.Report.{some_live}
use Rattle.class_model.specs.Run.{run}
use Rattle.class_model.specs.Section.{section as whole_section}
use Rattle.class_model.specs.State.{State, entry_at}
use Rattle.class_model.specs.Valid.{IsConfig}
use Rattle.process.specs.Running.{Running}
use Rattle.machine.specs.Low.{low_events, low_part}
use Rattle.machine.specs.Machine.{Machine, is_live, slot_at}
use Rattle.machine.specs.Opening.{machine, effects}
use Rattle.machine.specs.Stands.{StandsFor}
use Rattle.report.specs.Reported.{section, seen}

-- what is shown of a class is the same for machines that agree at or below it
abbrev pub ShowsWhatIsLow : Type 0
ShowsWhatIsLow = (c : ℕ) (m n : Machine) → low_part c m ≡ low_part c n → section c m ≡ section c n

-- so it is after the run of a valid configuration and after that of its part at or below the class, by the events there alone
abbrev pub ShowsByLowParts : Type 0
ShowsByLowParts = (k : Config) → IsConfig k → (events : List Event) (c : ℕ) →
    section c (machine k events) ≡ section c (machine (low_config c k) (low_events k.table c events))

-- and after two valid configurations and their events that are the same at or below the class
abbrev pub ShowsNothingElse : Type 0
ShowsNothingElse =
    (k j : Config) → IsConfig k → IsConfig j → (events others : List Event) (c : ℕ) → low_config c k ≡ low_config c j →
    low_events k.table c events ≡ low_events j.table c others → section c (machine k events) ≡ section c (machine j others)

-- Each cell of class c has eight entries, all of them in the table; and each process of the class is between two instructions,
-- unless it is live and on one of four processors.
pub record IsShown (m : Machine) (a : State) (c : ℕ) : Type 0 where
  pub eight : (u : SegId) → length ((a.part c).cell u).entries ≡ 8
  pub in_table : (u : SegId) (e : ℕ) → in_table a.shared.table (entry_at ((a.part c).cell u) e) ≡ entry_at ((a.part c).cell u) e
  pub rests : (p slot : ℕ) (r : Running) → slot_at ((m.part c).vp p) slot ≡ Some r → (r.doing ≡ Fresh) ⊎ ((p < 4) × (r.process.live ≡ true))

-- then the machine of words shows of it what a state for which it stands does
abbrev pub ShowsWhatItStandsFor : Type 0
ShowsWhatItStandsFor = (m : Machine) (a : State) (c : ℕ) → StandsFor m a → IsShown m a c → section c m ≡ whole_section c a

-- what class c is shown by the machine of whole instructions, given only what is at or below c
abbrev pub low_section : Config → List Event → ℕ → List ℕ
low_section k events c = whole_section c (run (low_config c k) (effects (low_config c k) (low_events k.table c events)))

-- So the machine of words shows class c that, where it stands for the state after the order of effect when it is given only what
-- is at or below c.
abbrev pub ShowsLowSections : Type 0
ShowsLowSections =
    (k : Config) → IsConfig k → (events : List Event) (c : ℕ) → let words = machine (low_config c k) (low_events k.table c events) in
    let state = run (low_config c k) (effects (low_config c k) (low_events k.table c events)) in
    StandsFor words state → IsShown words state c → section c (machine k events) ≡ low_section k events c

-- a process of the class is live exactly where one of those that are shown is, which is where the section is open
abbrev pub ShowsWhoIsLive : Type 0
ShowsWhoIsLive = (m : Machine) (c : ℕ) → list_any (λ p. list_any is_live ((m.part c).vp p).slots) (below 4) ≡ some_live (seen c m).processes
