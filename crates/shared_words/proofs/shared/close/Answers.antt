use Rattle.std.proofs.Common.{ℕ, List, map, sym, ◌∙◌, subst, arith}
use Rattle.shared_words.specs.Views.{listed}
use Rattle.shared_words.proofs.Closing.{closes}
use Rattle.shared_words.specs.Ports.{Ordered, Opened, Whole}
use Rattle.shared_words.proofs.shared.close.Goals as goal

pub free-requires : goal.free-requires
free-requires c = λ k h. let n = c.close_with-closed.ensures.counts.1 in let i = c.shared.invariant.2 in absurd (omega arith)

pub returns-clause-order : goal.returns-clause-order
returns-clause-order c =
    let f = c.close_with-closed.ensures.values.2 in
    let o = closes c.whole.inside.seat.table_id c.shared.inside.table.shared.key f.0.words f.0.views c.whole.inside.seat.id c.whole.inside.seat.me.0 f.1.0 f.1.1 c.whole.invariant.0 in
    subst (λ (x : Opened). Ordered x.words c.copy_words.new.into c.args.whole) c.shared.view_is
    (subst (λ (x : Whole). Ordered c.shared.inside.table.shared.key c.copy_words.new.into x) c.whole.view_is
    (subst (λ (ws : List ℕ). Ordered c.shared.inside.table.shared.key ws record { table = c.whole.inside.seat.table_id; round = c.whole.inside.seat.me.0.round; lists = map listed c.whole.inside.seat.me.0.held }) (f.2 ∙ sym c.copy_words.ensures.items) o))
