use Rattle.whole_machine.proofs.Banked.{slot_performs}
use Rattle.whole_machine.proofs.bank.perform_own.Goals as goal

pub returns-in-Some-clause-performs : goal.returns-in-Some-clause-performs
returns-in-Some-clause-performs c =
    slot_performs c.args.shared.now c.args.class c.args.bank.now.items c.args.at c.index_mut-item.result.now c.in-Some.process c.perform_own.new.self c.requires.inside
    c.index_mut-item.ensures.value c.in-Some.is c.perform_own.ensures.after c.perform_own.ensures.knows
