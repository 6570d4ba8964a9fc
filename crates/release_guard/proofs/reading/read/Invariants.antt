use Rattle.std.proofs.Common.{◌≡◌, ◌+◌, drop}
use Rattle.text_lines.specs.Lines.{views}
use Rattle.text_lines.specs.Faults.{lines_answer}
use Rattle.release_guard.specs.Place.{place_of, start}
use Rattle.release_guard.specs.Rules.{order_rules}
use Rattle.release_guard.proofs.reading.read.Given as goal

abbrev pub invariant-loop-line : goal.invariant-loop-line
invariant-loop-line l = record {
  number : l.draft.line ≡ l.line-index + 1;
  answer : lines_answer order_rules (place_of l.draft) (l.line-index + 1) (views (drop l.line-index l.lines)) ≡ lines_answer order_rules start 1 (views l.lines);
}
