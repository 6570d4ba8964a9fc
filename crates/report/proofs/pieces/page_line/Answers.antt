use Rattle.std.proofs.Common.{ℕ, arith}
use Rattle.std.specs.Prelude.{codes}
use Rattle.words_layout.specs.Words.{PageWord}
use Rattle.words_layout.specs.Named.{words_in}
use Rattle.report.proofs.NumberLines.{place_more, places_end}
use Rattle.report.proofs.pieces.page_line.Goals as goal

pub loop-place-preserved : goal.loop-place-preserved
loop-place-preserved c =
    let at = λ (i : ℕ). (words_in c.args.words.now c.args.class).guarded (PageWord c.args.page i) in
    (place_more (codes "words") _ _ at c.loop-place.place _ c.loop-place.invariant.0 c.number.ensures.text c.page_word.ensures, let h = c.number.ensures.longer in let k = c.loop-place.invariant.1 in omega arith)

pub returns : goal.returns
returns c =
    let at = λ (i : ℕ). (words_in c.args.words.now c.args.class).guarded (PageWord c.args.page i) in
    places_end (codes "words") _ _ at c.loop-place.place c.args.size (omega arith) (omega arith) c.loop-place.invariant.0 c.end.ensures
