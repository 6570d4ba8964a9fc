-- Rounds of all processors, and the round list of events that they are.
use Rattle.std.specs.Prelude.{All, ◌≡◌, ℕ, zero, suc, ◌+◌, ◌*◌, ◌<◌, ◌≤◌, true, false, List, [], ◌∷◌, ◌++◌, length, take, slice_index, slice_index_or}
use Rattle.words_layout.specs.declared.op.Event.{Event}
use Rattle.class_model.specs.Config.{Shared, classes}
use Rattle.class_model.specs.Process.{ProcName}
use Rattle.machine.specs.Machine.{run, order_of_effect}
use Rattle.machine.specs.Processing.{Processing}
use Rattle.machine.specs.Banks.{bank_at, State, machine_of}
use Rattle.machine.specs.Steps.{InRange, RunsBy}
use Rattle.machine.specs.Plain.{OnWords, IsLaid}
use Rattle.shared_words.specs.declared.view.Entry.{Entry}
use Rattle.shared_words.specs.Ports.{Whole, Ordered}
use Rattle.round_laws.specs.Turns.{class_at, classes_from, TurnsBy}
use Rattle.round_laws.specs.Logs.{Logs, classes_of}
use Rattle.round_laws.specs.Live.{SomeLive, NoneLive, any_live}

-- how processors take their turns: the cycle of classes, and the number of steps of a quantum
pub record Plan : Type 0 where
  pub cycle : List ℕ
  pub quantum : ℕ

-- the cycle has a class, and only classes of which there are so many
pub record HasCycle (classes : ℕ) (cycle : List ℕ) : Type 0 where
  pub some : 0 < length cycle
  pub below : All (λ c. c < classes) cycle

-- the parts one after another
abbrev pub joined : List (List Event) → List Event
joined [] = []
joined (events ∷ parts) = events ++ joined parts

-- Parts of a list of events are its rounds: each has exactly a quantum of events of each processor and none of another,
-- and the k-th event of a processor in all of them, from 0, has the class at place k of the cycle gone through again and again.
pub record IsRoundList (plan : Plan) (processors rounds : ℕ) (parts : List (List Event)) : Type 0 where
  pub count : length parts ≡ rounds
  pub quanta : (r q : ℕ) → r < rounds → q < processors → length (classes_of q (slice_index_or parts r [])) ≡ plan.quantum
  pub others : (r q : ℕ) → r < rounds → processors ≤ q → classes_of q (slice_index_or parts r []) ≡ []
  pub places : (q k : ℕ) → q < processors → k < rounds * plan.quantum → slice_index (classes_of q (joined parts)) k ≡ class_at plan.cycle k
  pub long : length (joined parts) ≡ rounds * (processors * plan.quantum)

-- From one machine to another by a round list of `taken` rounds. This is the least number of rounds, up to a bound, after
-- which no process is live in the step machine, and the bound where there is none.
pub record Ran (plan : Plan) (m n : State (List ℕ)) (bound taken : ℕ) : Type 0 where
  pub parts : List (List Event)
  pub rounds : IsRoundList plan (length m.banks) taken parts
  pub range : All (λ e. InRange m e) (joined parts)
  pub names : List ProcName
  pub runs : RunsBy OnWords (joined parts) m n names
  pub machine : machine_of n ≡ run (machine_of m) (joined parts)
  pub order : names ≡ order_of_effect (machine_of m) (joined parts)
  pub most : taken ≤ bound
  pub live : (r : ℕ) → r < taken → SomeLive (run (machine_of m) (joined (take r parts)))
  pub ends : taken < bound → NoneLive (machine_of n)

-- ---- rounds, each processor by itself

-- the list of a number
abbrev pub list_at : List (List Entry) → ℕ → List Entry
list_at lists q = slice_index_or lists q []

-- the classes of the steps of a round, the first of which is round 0
abbrev pub classes_in : Plan → ℕ → List ℕ
classes_in plan r = classes_from plan.cycle (r * plan.quantum) plan.quantum

-- Each of the first so many processors takes its turns of round r, by the list of entries of its number. The other lists stay.
-- A process is live before.
pub record Turned (s : Shared) (plan : Plan) (processors r : ℕ) (banks : List (List Processing)) (lists : List (List Entry)) (banks' : List (List Processing)) (lists' : List (List Entry)) : Type 0 where
  pub live : any_live banks ≡ true
  pub width : length banks' ≡ processors
  pub turns : (q : ℕ) → q < processors → TurnsBy (Logs r) s (classes_in plan r) (bank_at banks q) (list_at lists q) (bank_at banks' q) (list_at lists' q)
  pub others : (q : ℕ) → processors ≤ q → list_at lists' q ≡ list_at lists q

-- so many rounds, from round r on
abbrev pub Past : Shared → Plan → ℕ → ℕ → ℕ → List (List Processing) → List (List Entry) → List (List Processing) → List (List Entry) → Type 0
Past s plan processors r zero banks lists banks' lists' = (banks' ≡ banks) × (lists' ≡ lists)
Past s plan processors r (suc n) banks lists banks' lists' =
    (b : List (List Processing)) × (l : List (List Entry)) × Turned s plan processors r banks lists b l × Past s plan processors (r + 1) n b l banks' lists'

-- what processors that take rounds on shared words leave
pub record Leaves (plan : Plan) (m n : State (List ℕ)) (bound taken : ℕ) : Type 0 where
  pub shared : n.shared ≡ m.shared
  pub lists : List (List Entry)
  pub fresh : (q : ℕ) → list_at lists q ≡ []
  pub whole : Whole
  pub past : Past m.shared plan (length m.banks) 0 taken m.banks lists n.banks whole.lists
  pub order : Ordered m.words n.words whole
  pub round : whole.round ≡ taken
  pub most : taken ≤ bound
  pub ends : taken < bound → any_live n.banks ≡ false

-- what they leave is what the step machine leaves after a round list
abbrev pub RoundsAreRuns : Type 0
RoundsAreRuns =
    (plan : Plan) (m n : State (List ℕ)) (bound taken : ℕ) → IsLaid m → HasCycle (classes m.shared) plan.cycle →
    Leaves plan m n bound taken → Ran plan m n bound taken
