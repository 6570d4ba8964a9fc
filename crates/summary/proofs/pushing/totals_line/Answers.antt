use Rattle.std.proofs.Common.{append_assoc}
use Rattle.summary.proofs.pushing.totals_line.Goals as goal

pub returns : goal.returns
returns c = simp (c.end.ensures, c.sum-2.ensures.text, c.word-4.ensures.text, c.number-3.ensures.text, c.word-3.ensures.text, c.number-2.ensures.text, c.word-2.ensures.text, c.sum.ensures.text, c.word.ensures.text, c.number.ensures.text, c.from.ensures, c.of-line.ensures, append_assoc)
