use Rattle.std.proofs.Common.{◌≡◌}
use Rattle.class_model.specs.Config.{classes}
use Rattle.both_machines.proofs.one_script.a_script_runs_to_its_end.Given as goal

abbrev pub invariant-loop-code : goal.invariant-loop-code
invariant-loop-code g l = classes l.state.shared ≡ 1
