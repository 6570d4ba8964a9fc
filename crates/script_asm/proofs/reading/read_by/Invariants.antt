use Rattle.std.proofs.Common.{◌≡◌, ◌+◌, drop}
use Rattle.text_lines.specs.Lines.{views}
use Rattle.text_lines.specs.Faults.{lines_answer}
use Rattle.script_asm.specs.Script.{start, script_rules, words_in}
use Rattle.script_asm.specs.Reading.{place_of}
use Rattle.script_asm.proofs.reading.read_by.Given as goal

abbrev pub invariant-loop-line : goal.invariant-loop-line
invariant-loop-line l =
    (lines_answer (script_rules (words_in (views l.lines))) (place_of l.draft) l.number (views (drop l.line-index l.lines)) ≡ lines_answer (script_rules (words_in (views l.lines))) start 1 (views l.lines))
    × (l.names ≡ words_in (views l.lines))
    × (l.number ≡ l.line-index + 1)
    × (l.draft.line + 1 ≡ l.number)
