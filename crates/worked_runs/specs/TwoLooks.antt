-- Two looks of one run: a reader's look that an update crosses, and its next one, which is accepted.
use Rattle.std.specs.Prelude.{ℕ, ◌≡◌, Bool, true, false, ◌&&◌, not, Option, Some}
use Rattle.policy.specs.Known.{Known}
use Rattle.policy.specs.Outcome.{Outcome, Words}
use Rattle.turns.specs.Doing.{Doing, Ending, Polls, Ends, Told}
use Rattle.class_model.specs.Plan.{Fetch}
use Rattle.look_laws.specs.Moments.{Sometime, begun}
use Rattle.look_laws.specs.Looks.{LookInRun, behind_first, Crosses, steps_through, NextTells}
use Rattle.worked_runs.specs.Cases.{writer_and_reader}

-- the step polls
abbrev pub polls : Ending → Bool
polls Polls = true
polls _ = false

-- the step ends the instruction
abbrev pub ends : Ending → Bool
ends Ends = true
ends _ = false

-- words are what takes effect
abbrev pub is_words : Option Outcome → Bool
is_words (Some (Words at words)) = true
is_words _ = false

-- the look starts again
abbrev pub begins_again : Told Outcome → Bool
begins_again told = polls told.ending

-- the look is accepted with words, and nothing is left of the instruction
abbrev pub accepts : Told Outcome → Bool
accepts told = is_words told.takes && (not (begun told.doing) && ends told.ending)

-- a look of the reader that fetches two words, whose next step is told what the test says
pub record Found (test : Told Outcome → Bool) : Type 0 where
  pub look : LookInRun
  pub here : look.config ≡ writer_and_reader
  pub known : Known
  pub offset : ℕ
  pub pad : ℕ
  pub asks : look.request ≡ Fetch known offset 2 pad
  pub doing : Doing Outcome
  pub told : Told Outcome
  pub tells : NextTells look doing told
  pub passes : test told ≡ true

-- a look that starts again, and a turn of its guard was open between its steps
pub record IsCrossed : Type 0 where
  pub found : Found begins_again
  pub crossed : Sometime (Crosses found.look) (behind_first found.look) found.look.between

-- a look that is accepted, and takes six steps for two words
pub record IsAccepted : Type 0 where
  pub found : Found accepts
  pub steps : steps_through found.look ≡ 6
