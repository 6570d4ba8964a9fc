use Rattle.std.proofs.Common.{ℕ, ◌+◌, ◌-◌, List, refl, ap, ◌∙◌, take, drop}
use Rattle.end_volumes.proofs.AfterCells.{page_row}
use Rattle.end_volumes.proofs.cells.page_words.Goals as goal

pub returns : goal.returns
returns c =
    let first = c.page_word_addr-first.result.0 in
    ap (λ (ws : List ℕ). take (first + c.args.size - first) (drop first ws)) (c.as_slice.ensures ∙ c.words.ensures)
    ∙ page_row c.args.machine.now.words c.args.class c.args.page c.args.size first (first + c.args.size) c.page_word_addr-first.ensures refl c.requires.page.0 c.requires.page.1 c.class_law.ensures.there
