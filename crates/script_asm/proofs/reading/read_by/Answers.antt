use Rattle.std.proofs.Common.{rules, drop}
use Rattle.text_lines.specs.Lines.{views}
use Rattle.text_lines.proofs.Passing.{views_past}
use Rattle.script_asm.specs.Script.{words_in}
use Rattle.script_asm.specs.Reading.{place_of}
use Rattle.script_asm.proofs.Steps.{missing}
use Rattle.script_asm.proofs.reading.read_by.Goals as goal

pub returns-then-not-has_good_end : goal.returns-then-not-has_good_end
returns-then-not-has_good_end c =
    missing (words_in (views c.args.lines.now)) (place_of c.loop-line.draft) c.loop-line.number (views (drop c.loop-line.line-index c.args.lines.now)) _ (search (rules, views_past)) (search rules) c.loop-line.invariant.0
