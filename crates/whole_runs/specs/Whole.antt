-- What a run of the step machine is, seen from the machine of whole instructions.
use Rattle.std.specs.Prelude.{ℕ, ◌≡◌, true, List, [], take, Some, slice_get}
use Rattle.words_layout.specs.declared.op.Event.{Event}
use Rattle.class_model.specs.Access.{all_allowed, all_given}
use Rattle.class_model.specs.Config.{Config}
use Rattle.class_model.specs.Content.{AllShowRight}
use Rattle.class_model.specs.Process.{Process, ProcName}
use Rattle.class_model.specs.Run.{Happened, history, opening, run}
use Rattle.class_model.specs.State.{process_at}
use Rattle.content_laws.specs.Contents.{AllStep, Follows, IsBetween, ShowsMore, given_once}
use Rattle.machine.specs.Machine.{Machine}
use Rattle.machine.specs.Opening.{effects}
use Rattle.machine.specs.Stands.{StandsFor}
use Rattle.refusal_laws.specs.Refusals.{IsAnswered}

-- An effect after those before it: what a fetch, an update, an advance or an out shows besides; a read or await lies between the
-- advances before its first look and those before its last one; a look follows the look at the component before; and it is refused
-- exactly where a test of its instruction's row holds, by the first that does.
pub record EffectIsRight (k : Config) (past : List Happened) (h : Happened) : Type 0 where
  pub more : ShowsMore past h.who h.deed.asked
  pub between : IsBetween k past h.who h.deed.asked
  pub follows : Follows past h.who h.deed.asked
  pub answered : (p : Process) → process_at h.before h.who ≡ Some p → p.live ≡ true → IsAnswered h.before h.who p

-- A run of whole instructions by these processes, one after the other: each of them makes a step, and shows what it must. No
-- identity is given twice, and each access is allowed by the labels and brackets that segments were given.
pub record RunIsRight (k : Config) (names : List ProcName) : Type 0 where
  pub steps : AllStep (opening k) names
  pub shows : AllShowRight k [] (history (opening k) names)
  pub right : (i : ℕ) (h : Happened) → slice_get (history (opening k) names) i ≡ Some h → EffectIsRight k (take i (history (opening k) names)) h
  pub once : given_once (all_given k (history (opening k) names)) ≡ true
  pub allowed : all_allowed k names ≡ true

-- The machine of words after these events stands for the state that the whole instructions leave, in the order of effect; and
-- they are a run that is right.
pub record RunIsWhole (k : Config) (events : List Event) (m : Machine) : Type 0 where
  pub stands : StandsFor m (run k (effects k events))
  pub right : RunIsRight k (effects k events)
