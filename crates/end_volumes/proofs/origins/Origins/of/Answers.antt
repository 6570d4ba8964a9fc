use Rattle.std.proofs.Common.{ap, ◌∙◌, arith, length}
use Rattle.class_model.specs.Config.{Shared, classes}
use Rattle.machine.specs.Banks.{machine_of}
use Rattle.end_volumes.specs.After.{origin_under, tree_of_words}
use Rattle.end_volumes.proofs.AfterOrigins.{gains_none, gains_more, gains_all, stands_by}
use Rattle.end_volumes.proofs.origins.Origins.of.Goals as goal

pub loop-class-init : goal.loop-class-init
loop-class-init c = gains_none _

pub loop-class-preserved : goal.loop-class-preserved
loop-class-preserved c = gains_more (origin_under (tree_of_words (machine_of c.args.machine.now))) c.loop-class.class _ _ _ c.loop-class.invariant c.take_class.ensures

pub returns : goal.returns
returns c =
    let table = ap length (c.table.ensures ∙ ap (λ (s : Shared). s.table) c.shared.ensures) in
    let t = tree_of_words (machine_of c.args.machine.now) in
    stands_by t _ _ (classes c.args.machine.now.shared) c.nowhere-origins.ensures (gains_all (origin_under t) c.loop-class.class (classes c.args.machine.now.shared) _ _ (omega (arith, table)) (omega (arith, table)) c.loop-class.invariant)
