-- The processors of a team as a list.
use Rattle.std.specs.Prelude.{ℕ, Bool, false, List, length, [], ◌∷◌, ◌++◌, map, Option, Some, None}
use Rattle.class_model.specs.Config.{Shared}
use Rattle.machine.specs.Processing.{Processing}
use Rattle.machine.specs.Banks.{State}
use Rattle.round_laws.specs.Live.{bank_live}
use Rattle.round_laws.specs.Rounds.{Plan, HasCycle}
use Rattle.processors.specs.declared.team.Team.{Team}
use Rattle.processors.specs.Turns.{ProcessorState}

abbrev pub there : Option ProcessorState → List ProcessorState
there None = []
there (Some p) = p ∷ []

-- those that are there, in order
abbrev pub team_list : Team → List ProcessorState
team_list team = team.first ∷ there team.second ++ there team.third ++ there team.fourth

abbrev pub bank_of : ProcessorState → List Processing
bank_of p = p.bank

abbrev pub number_of : ProcessorState → ℕ
number_of p = p.number

abbrev pub plan_of : ProcessorState → Plan
plan_of p = record { cycle = p.cycle; quantum = p.quantum }

-- the virtual processors of each
abbrev pub banks_of : Team → List (List Processing)
banks_of team = map bank_of (team_list team)

-- the number of each
abbrev pub numbers_of : Team → List ℕ
numbers_of team = map number_of (team_list team)

-- the machine of these words and processors
abbrev pub machine_with : List ℕ → Team → Shared → State (List ℕ)
machine_with words team s = record { words = words; banks = banks_of team; shared = s }

abbrev pub live_if : Option ProcessorState → Bool
live_if None = false
live_if (Some p) = bank_live p.bank

-- the processor's cycle has a class, and names virtual processors that are there
abbrev pub CycleFits : ProcessorState → Type 0
CycleFits p = HasCycle (length p.bank) p.cycle
