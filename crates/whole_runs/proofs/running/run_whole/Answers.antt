use Rattle.std.proofs.Common.{ap, ◌∙◌}
use Rattle.machine.specs.Banks.{machine_of}
use Rattle.machine.specs.Machine.{Machine, run}
use Rattle.whole_runs.proofs.Right.{run_is_whole}
use Rattle.whole_runs.proofs.running.run_whole.Goals as goal

pub returns-clause-whole : goal.returns-clause-whole
returns-clause-whole c k valid is =
    let ran = c.plain_laws.ensures.run c.args.events.now c.args.machine.now c.run.new.self c.run.ensures.0 c.plain_law.ensures c.requires.events c.run.ensures.1 in
    run_is_whole k c.args.events.now (machine_of c.run.new.self) valid c.requires.few (ran.0 ∙ ap (λ (m : Machine). run m c.args.events.now) is)
