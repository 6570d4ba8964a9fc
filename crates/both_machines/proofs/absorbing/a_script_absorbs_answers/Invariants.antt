use Rattle.process.specs.Standing.{StandingFits}
use Rattle.both_machines.proofs.absorbing.a_script_absorbs_answers.Given as goal

abbrev pub invariant-loop-answer : goal.invariant-loop-answer
invariant-loop-answer g l =
    let s = l.shared-inside in
    StandingFits (record { table = s.table; pools = s.pools; console = s.console; scripts = s.scripts; gates = s.gates }) l.process
