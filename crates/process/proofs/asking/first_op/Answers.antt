use Rattle.std.proofs.Common.{ℕ, List, None, ◌∙◌, ap}
use Rattle.labels.specs.Label.{ClassEntry}
use Rattle.words_layout.specs.Named.{op_at}
use Rattle.policy.specs.Outcome.{Outcome, components}
use Rattle.turns.specs.Doing.{Act, act_op}
use Rattle.evc_gates.specs.Count.{out_op}
use Rattle.evc_gates.specs.Counting.{sum_act}
use Rattle.process.proofs.asking.first_op.Goals as goal

pub returns-in-Read : goal.returns-in-Read
returns-in-Read c =
    let d = c.args.class in
    let k = c.in-Read.known in
    let wanted = c.in-Read.wanted in
    let tally = c.in-Read.tally in
    rw c.in-Read.is (c.next_op.ensures.op d ∙ ap (λ (a : Act Outcome). op_at d (act_op a))
    (c.next_look.ensures.act ∙ ap (λ (t : List ClassEntry). sum_act None (components t k.class) k wanted tally) c.table.ensures))

pub returns-in-Out : goal.returns-in-Out
returns-in-Out c = rw c.in-Out.is (c.next_op-in-Out.ensures.op 0 ∙ ap (λ (n : ℕ). op_at n out_op) c.start-in-Out.ensures.class)
