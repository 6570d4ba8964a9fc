use Rattle.std.proofs.Common.{append_assoc}
use Rattle.report.proofs.pieces.process_line.Goals as goal

pub returns : goal.returns
returns c = simp (c.end.ensures, c.number-6.ensures.text, c.from-5.ensures, c.number-5.ensures.value, c.ring.ensures, c.word-4.ensures.text, c.number-4.ensures.text, c.from-4.ensures, c.place.ensures, c.word-3.ensures.text, c.number-3.ensures.text, c.from-3.ensures, c.script.ensures, c.word-2.ensures.text, c.word.ensures.text, c.word_of_state.ensures.text, c.is_live.ensures, c.number-2.ensures.text, c.from-2.ensures, c.number.ensures.text, c.from.ensures, c.of-line.ensures, append_assoc)
