-- What the whole body of a look or a turn comes to by itself, and which words hold what a state is.
use Rattle.std.specs.Prelude.{ℕ, ◌≡◌, ◌<◌, ◌^◌, List, Option, Some, None, length}
use Rattle.words_layout.specs.Words.{GuardedWords}
use Rattle.policy.specs.Outcome.{Outcome}
use Rattle.turns.specs.AtOnce.{Ran, run_loads, run_inner, run_outer}
use Rattle.turns.specs.Doing.{Act, Once, Look, ClassTurn, SegmentTurn}
use Rattle.class_model.specs.Config.{Config, pool_of}
use Rattle.class_model.specs.Process.{ProcName}
use Rattle.class_model.specs.Run.{run}
use Rattle.class_model.specs.State.{State}
use Rattle.class_model.specs.Valid.{IsConfig}
use Rattle.machine.specs.Stands.{Holds}

-- the guarded words of each class hold what its part of the state is
abbrev pub WordsHold : State → (ℕ → GuardedWords) → Type 0
WordsHold a words = (d : ℕ) → Holds (pool_of a.shared d) (words d) (a.part d)

-- fewer than 2^23 steps reach the state from the opening of a valid configuration
pub record IsReached (a : State) : Type 0 where
  pub config : Config
  pub valid : IsConfig config
  pub names : List ProcName
  pub few : length names < 2 ^ 23
  pub is : run config names ≡ a

-- The words of class d after the whole body of an act, and what it shows, where nothing comes between its steps. An act of one
-- operation has no body.
abbrev pub alone : (ℕ → GuardedWords) → ℕ → Act Outcome → Option (Ran Outcome)
alone words d (Once op told) = None
alone words d (Look x g body) = Some (record { words = words d; shown = run_loads body (words x) })
alone words d (ClassTurn body) = Some (run_outer body (words d))
alone words d (SegmentTurn u body) = Some (run_inner body (words d))
