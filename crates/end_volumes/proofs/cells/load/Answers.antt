use Rattle.std.proofs.Common.{ℕ, ◌+◌, List, ◌∙◌, ap, arith, length}
use Rattle.std.specs.Prelude.{slice_index}
use Rattle.end_volumes.proofs.AfterCells.{read_named}
use Rattle.end_volumes.proofs.cells.load.Goals as goal

pub word-requires : goal.word-requires
word-requires c =
    let named = c.requires.addr in
    let lt = c.address_laws.ensures.within (c.args.class + 1) c.args.class named.word (omega arith) named.in_limits in
    omega (arith, lt, named.here, ap length c.words.ensures)

pub returns : goal.returns
returns c = read_named c.args.machine.now.words c.args.class c.args.addr.0 _ (c.word.ensures ∙ ap (λ (ws : List ℕ). slice_index ws c.args.addr.0) c.words.ensures)
