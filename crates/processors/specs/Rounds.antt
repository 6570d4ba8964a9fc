-- Processors between two rounds.
use Rattle.std.specs.Prelude.{◌≡◌, ℕ, ◌*◌, ◌/◌, ◌≤◌, length}
use Rattle.class_model.specs.Config.{Shared, classes}
use Rattle.machine.specs.Steps.{IsBank}
use Rattle.shared_words.specs.Ports.{Opened}
use Rattle.round_laws.specs.Rounds.{Plan}
use Rattle.processors.specs.declared.team.Team.{Team}
use Rattle.processors.specs.Lists.{plan_of}
use Rattle.processors.specs.Turns.{ProcessorState}
use Rattle.processors.specs.Teams.{IfThere, Follows}
use Rattle.words_layout.specs.Sizes.{class_words}

-- A processor with the cycle and quantum of a plan, after so many rounds: it fits what no step changes, the words have the
-- layout of its classes, and it has taken a quantum of at most 256 steps in each round.
pub record HasTaken (s : Shared) (words : Opened) (plan : Plan) (rounds : ℕ) (p : ProcessorState) : Type 0 where
  pub bank : IsBank s p.bank
  pub layout : length words.words / class_words ≡ classes s
  pub plan_is : plan_of p ≡ plan
  pub quantum : p.quantum ≤ 256
  pub steps : p.taken ≡ rounds * p.quantum
  pub few : p.taken ≤ 256 * rounds

-- each processor of a team, of which a later one is there only where the one before it is
pub record TeamHasTaken (s : Shared) (words : Opened) (plan : Plan) (rounds : ℕ) (team : Team) : Type 0 where
  pub first : HasTaken s words plan rounds team.first
  pub second : IfThere team.second (HasTaken s words plan rounds)
  pub third : IfThere team.third (HasTaken s words plan rounds)
  pub fourth : IfThere team.fourth (HasTaken s words plan rounds)
  pub third_follows : Follows team.second team.third
  pub fourth_follows : Follows team.third team.fourth
