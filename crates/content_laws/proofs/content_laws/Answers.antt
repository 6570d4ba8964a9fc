use Rattle.content_laws.proofs.Between.{reads_are_between, all_looks_follow, all_show_more}
use Rattle.content_laws.proofs.Fetches.{fetches_go_on}
use Rattle.content_laws.proofs.History.{effects_show_right}
use Rattle.content_laws.proofs.Once.{identities_are_given_once}
use Rattle.content_laws.proofs.StepsMade.{effects_are_steps}
use Rattle.content_laws.proofs.Unbounded.{law_needs_a_bound}
use Rattle.content_laws.proofs.content_laws.Goals as goal

pub returns : goal.returns
returns c = record { shows = effects_show_right; bound = law_needs_a_bound; more = all_show_more; between = reads_are_between; looks = all_looks_follow; fetches = fetches_go_on; once = identities_are_given_once; steps = effects_are_steps }
