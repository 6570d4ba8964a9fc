-- A run of a valid configuration is right, and whole: by the laws of effect, content and access.
use Rattle.std.proofs.Common.{ℕ, ◌^◌, ◌≤◌, List, length, ◌≡◌, sym, subst, arith}
use Rattle.words_layout.specs.Sizes.{max_events}
use Rattle.words_layout.specs.declared.op.Event.{Event}
use Rattle.access_laws.proofs.History.{accesses_are_allowed}
use Rattle.class_model.specs.Config.{Config}
use Rattle.class_model.specs.Run.{run}
use Rattle.class_model.specs.Valid.{IsConfig}
use Rattle.content_laws.proofs.Between.{reads_are_between, all_looks_follow, all_show_more}
use Rattle.content_laws.proofs.History.{effects_show_right}
use Rattle.content_laws.proofs.Once.{identities_are_given_once}
use Rattle.content_laws.proofs.StepsMade.{effects_are_steps}
use Rattle.effect_laws.proofs.Whole.{runs_stand}
use Rattle.machine.specs.Machine.{Machine}
use Rattle.machine.specs.Opening.{machine, opening, effects}
use Rattle.machine.specs.Stands.{StandsFor}
use Rattle.refusal_laws.proofs.Refusals.{refusals_are_first}
use Rattle.volume_laws.proofs.Loaded.{effects_few}
use Rattle.whole_runs.specs.Whole.{RunIsRight, RunIsWhole}

few_names : (k : Config) (events : List Event) → length events ≤ max_events → length (effects k events) ≤ 2 ^ 64
few_names k events few = let less = effects_few (opening k) events in omega (arith, less, few)

pub run_is_right : (k : Config) (events : List Event) → IsConfig k → length events ≤ max_events → RunIsRight k (effects k events)
run_is_right k events valid few = let short = few_names k events few in record {
  steps = effects_are_steps k events valid few;
  shows = effects_show_right k (effects k events) valid short;
  right = λ i h at. record {
    more = all_show_more k (effects k events) valid i h at;
    between = reads_are_between k (effects k events) valid short i h at;
    follows = all_looks_follow k (effects k events) valid i h at;
    answered = λ p there live. refusals_are_first h.before h.who p there live;
  };
  once = identities_are_given_once k (effects k events) valid;
  allowed = accesses_are_allowed k (effects k events) valid;
}

pub run_is_whole : (k : Config) (events : List Event) (m : Machine) → IsConfig k → length events ≤ max_events → m ≡ machine k events → RunIsWhole k events m
run_is_whole k events m valid few is = record {
  stands = subst (λ (x : Machine). StandsFor x (run k (effects k events))) (sym is) (runs_stand k events valid few);
  right = run_is_right k events valid few;
}
