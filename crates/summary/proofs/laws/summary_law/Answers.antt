use Rattle.summary.proofs.Agreeing.{summaries_agree}
use Rattle.summary.proofs.laws.summary_law.Goals as goal

pub returns : goal.returns
returns c = summaries_agree c.effect_laws.ensures.runs c.effect_laws.ensures.lines
