use Rattle.std.proofs.Common.{◌∙◌, ap}
use Rattle.words_layout.specs.Named.{op_at}
use Rattle.tree_gates.specs.MakingKnown as MakingKnown
use Rattle.data_gates.specs.Fetching as Fetching
use Rattle.process.specs.Shows.{IsLearning, IsFetch}
use Rattle.process.proofs.Stepping.{begun_asks}
use Rattle.process.proofs.doing.Doing.next_op.Goals as goal

pub returns-in-MakeKnown : goal.returns-in-MakeKnown
returns-in-MakeKnown c =
    let d = c.args.class in
    let t = c.args.table.now in
    let g = c.in-MakeKnown.gate in
    let h = rw c.in-MakeKnown.is at c.requires in
    rw c.in-MakeKnown.is (c.next_op.ensures.op d t ∙ ap (op_at d) (begun_asks IsLearning (MakingKnown.act_of t g) (MakingKnown.doing_of t g) d (h.2 t)))

pub returns-in-Fetch : goal.returns-in-Fetch
returns-in-Fetch c =
    let d = c.args.class in
    let g = c.in-Fetch.gate in
    let h = rw c.in-Fetch.is at c.requires in
    rw c.in-Fetch.is (c.next_op-in-Fetch.ensures.op d ∙ ap (op_at d) (begun_asks (IsFetch c.in-Fetch.pad) (Fetching.act_of g) (Fetching.doing_of g) d h))
