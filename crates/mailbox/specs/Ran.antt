-- What a run of mail leaves.
use Rattle.std.specs.Prelude.{ℕ, ◌≡◌, true, List, take, Some, slice_get}
use Rattle.words_layout.specs.declared.segment.SegId.{SegId}
use Rattle.class_model.specs.Config.{Config}
use Rattle.class_model.specs.Process.{ProcName}
use Rattle.class_model.specs.State.{State}
use Rattle.class_model.specs.Step.{deed}
use Rattle.class_model.specs.Run.{steps, history, opening}
use Rattle.class_model.specs.Valid.{IsConfig}
use Rattle.whole_machine.specs.Steps.{step_takes}
use Rattle.mailbox_laws.specs.Mail.{OnlyPosters, HoldsPrefixes, posts}

-- From the opening state of a valid configuration by these names: where only posters make an Ok ticket, update or advance of a
-- segment, the pad words below r9 of each collector that has made it known are a prefix of what was posted through it.
abbrev pub Arrives : State → List ProcName → State → Type 0
Arrives old names new = (k : Config) (u : SegId) → IsConfig k → old ≡ opening k → OnlyPosters k u (history (opening k) names) → HoldsPrefixes k u (posts u (history (opening k) names)) new

-- It stopped after a prefix of the names, at a name whose step may need memory.
pub record StopsAt (old : State) (names : List ProcName) (new : State) : Type 0 where
  pub count : ℕ
  pub name : ProcName
  pub next : slice_get names count ≡ Some name
  pub state : new ≡ steps old (take count names)
  pub takes : step_takes (deed new name) ≡ true
  pub mail : Arrives old (take count names) new
