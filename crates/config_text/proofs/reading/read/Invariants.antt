use Rattle.std.proofs.Common.{◌≡◌, ℕ, ◌+◌, ◌-◌, ◌≤◌, length, drop}
use Rattle.text_lines.specs.Lines.{views}
use Rattle.config_text.specs.Place.{place_of, start}
use Rattle.config_text.specs.Reading.{lines_answer_from}
use Rattle.config_text.proofs.reading.read.Given as goal

abbrev pub invariant-loop-index : goal.invariant-loop-index
invariant-loop-index l = (l.index ≤ length l.lines) × (lines_answer_from (place_of l.draft) (l.index + 1) (views (drop l.index l.lines)) ≡ lines_answer_from start 1 (views l.lines))

abbrev pub decreases-loop-index : goal.decreases-loop-index
decreases-loop-index l = length l.lines - l.index
