use Rattle.std.proofs.Common.{◌≡◌, ◌+◌, Err, refl, sym, subst}
use Rattle.text_lines.specs.Lines.{views}
use Rattle.config_text.specs.Place.{place_of, start}
use Rattle.config_text.specs.Reading.{Reads, lines_answer_from}
use Rattle.config_text.proofs.Stepping.{goes, halts}
use Rattle.config_text.proofs.reading.read.Goals as goal

pub loop-index-preserved : goal.loop-index-preserved
loop-index-preserved c =
    let step = rw c.in-Ok.is at c.step.ensures in
    goes c.args.lines.now _ (place_of c.loop-index.draft) (place_of c.step.new.self) c.loop-index.index _ c.in-Ok.count _ _ _ c.loop-index-test.true refl refl refl step c.loop-index.invariant.1

pub stopped-requires : goal.stopped-requires
stopped-requires c =
    let step = rw c.in-Err.is at c.step.ensures in
    (halts c.args.lines.now _ (place_of c.loop-index.draft) (place_of c.step.new.self) c.loop-index.index c.in-Err.stop _ _ _ c.loop-index-test.true refl refl c.requires step c.loop-index.invariant.1).0

pub returns-in-Err : goal.returns-in-Err
returns-in-Err c =
    let step = rw c.in-Err.is at c.step.ensures in
    let h = halts c.args.lines.now _ (place_of c.loop-index.draft) (place_of c.step.new.self) c.loop-index.index c.in-Err.stop _ _ _ c.loop-index-test.true refl refl c.requires step c.loop-index.invariant.1 in
    subst (λ e. Reads (Err e) (lines_answer_from start 1 (views c.args.lines.now))) (sym c.stopped.ensures) h.1
