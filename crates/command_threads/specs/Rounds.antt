-- The rounds of a run.
use Rattle.std.specs.Prelude.{ℕ, List}
use Rattle.config_text.specs.declared.config.Config.{Config}
use Rattle.machine.specs.Banks.{State}
use Rattle.round_laws.specs.Rounds.{Plan, Ran}

-- how the processors of a configuration take their turns
abbrev pub plan_for : Config → Plan
plan_for k = record { cycle = k.cycle; quantum = k.quantum }

-- From one machine to another by a round list with the configuration's cycle and quantum. Its number of rounds is the least,
-- up to the configured one, after which no process is live, and the configured one where there is none.
abbrev pub RanRounds : Config → State (List ℕ) → State (List ℕ) → ℕ → Type 0
RanRounds k m n taken = Ran (plan_for k) m n k.rounds taken
