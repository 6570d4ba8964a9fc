use Rattle.policy.proofs.Verdicts.{ok_where_permitted}
use Rattle.policy.proofs.judging.verdict.Goals as goal

pub returns-clause-permitted : goal.returns-clause-permitted
returns-clause-permitted c =
    ok_where_permitted c.judge.result c.args.subject.now c.args.ring c.args.object.now c.args.brackets.now c.args.want.0 c.judge.ensures
