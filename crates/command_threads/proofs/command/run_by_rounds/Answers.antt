use Rattle.command_threads.proofs.Ordered.{left_by_rounds}
use Rattle.command_threads.proofs.command.run_by_rounds.Goals as goal

pub returns-clause-machine : goal.returns-clause-machine
returns-clause-machine g c = left_by_rounds c.args.config.now c.args.volumes.now c.requires.valid c.in_ok-machine.machine _ _ c.in_ok-machine.ensures.opening c.in_ok-machine.ensures.processors c.in_ok-machine-2.ensures
