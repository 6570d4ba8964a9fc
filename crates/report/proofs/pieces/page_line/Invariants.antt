use Rattle.std.proofs.Common.{◌≡◌, ◌≤◌, ◌+◌, ◌*◌, length}
use Rattle.std.specs.Prelude.{codes}
use Rattle.words_layout.specs.Words.{PageWord}
use Rattle.words_layout.specs.Named.{words_in}
use Rattle.machine.specs.Reading.{words_from}
use Rattle.report.proofs.NumberLines.{numbers_behind}
use Rattle.report.proofs.pieces.page_line.Given as goal

abbrev pub invariant-loop-place : goal.invariant-loop-place
invariant-loop-place l =
    (l.line ≡ numbers_behind (codes "words") (words_from (λ i. (words_in l.words l.class).guarded (PageWord l.page i)) l.place)) × (length l.line ≤ 5 + 21 * l.place)
