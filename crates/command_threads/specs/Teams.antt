-- The processors of a configuration, with the banks of its machine.
use Rattle.std.specs.Prelude.{◌≡◌, ℕ, ◌+◌, List, [], ◌∷◌, length}
use Rattle.config_text.specs.declared.config.Config.{Config}
use Rattle.machine.specs.Processing.{Processing}
use Rattle.processors.specs.declared.team.Team.{Team}
use Rattle.processors.specs.Turns.{ProcessorState}
use Rattle.processors.specs.Lists.{team_list}
use Rattle.processors.specs.Teams.{Follows}

-- a processor that has taken no step, with the configuration's cycle and quantum
abbrev pub processor_with : Config → ℕ → List Processing → ProcessorState
processor_with k n bank = record { number = n; bank = bank; cycle = k.cycle; quantum = k.quantum; taken = 0 }

-- one for each bank, numbered from n on
abbrev pub processors_from : Config → ℕ → List (List Processing) → List ProcessorState
processors_from k n [] = []
processors_from k n (bank ∷ banks) = processor_with k n bank ∷ processors_from k (n + 1) banks

-- the bank has a virtual processor for each class of the configuration
abbrev pub HasClassesOf : Config → List Processing → Type 0
HasClassesOf k bank = length bank ≡ length k.table

-- the team has one processor for each of these banks, in order and numbered from 0
pub record IsTeamOf (k : Config) (banks : List (List Processing)) (team : Team) : Type 0 where
  pub processors : team_list team ≡ processors_from k 0 banks
  pub third_follows : Follows team.second team.third
  pub fourth_follows : Follows team.third team.fourth
