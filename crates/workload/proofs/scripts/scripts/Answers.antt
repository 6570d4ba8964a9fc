use Rattle.std.proofs.Common.{[], ◌∷◌}
use Rattle.config_text.specs.declared.config.Script.{Script}
use Rattle.workload.specs.Large.{creator, worker}
use Rattle.workload.proofs.Numbers.{mapped_more}
use Rattle.workload.proofs.scripts.scripts.Goals as goal

pub loop-class-preserved : goal.loop-class-preserved
loop-class-preserved c =
    let first : Script = record { class = 0; program = creator } in
    mapped_more worker c.loop-class.class (first ∷ []) c.loop-class.scripts.items _ _ c.loop-class.invariant c.in_ok-push-2.ensures.items c.in_ok-worker.ensures
