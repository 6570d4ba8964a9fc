use Rattle.std.proofs.Common.{ℕ, Option, subst}
use Rattle.std.specs.Prelude.{IfSome}
use Rattle.words_layout.specs.Named.{words_in}
use Rattle.end_volumes.specs.After.{IsPage}
use Rattle.end_volumes.proofs.AfterCells.{page_length}
use Rattle.end_volumes.proofs.cells.stored_at.Goals as goal

pub returns-in-Some-clause-few : goal.returns-in-Some-clause-few
returns-in-Some-clause-few c =
    let page = subst (λ (o : Option (ℕ × ℕ)). IfSome o IsPage) c.in-Some.is c.page_of.ensures.range in
    page_length (words_in c.args.machine.now.words c.args.class).guarded c.page_words.result.now (c.in-Some.page, c.in-Some.size) c.page_words.ensures page.1
