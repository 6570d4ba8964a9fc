use Rattle.std.proofs.Common.{arith}
use Rattle.machine.specs.Banks.{machine_of}
use Rattle.end_volumes.specs.After.{origin_at, tree_of_words}
use Rattle.end_volumes.proofs.AfterOrigins.{gains_none, gains_more, gains_all}
use Rattle.end_volumes.proofs.origins.Origins.take_cell.Goals as goal

pub loop-entry-init : goal.loop-entry-init
loop-entry-init c = gains_none _

pub loop-entry-preserved : goal.loop-entry-preserved
loop-entry-preserved c = gains_more (λ u e. origin_at (tree_of_words (machine_of c.args.machine.now)) u c.args.class c.args.mentor e) c.loop-entry.entry _ _ _ c.loop-entry.invariant c.take_entry.ensures

pub returns : goal.returns
returns c = gains_all (λ u e. origin_at (tree_of_words (machine_of c.args.machine.now)) u c.args.class c.args.mentor e) c.loop-entry.entry 8 _ _ (omega arith) (omega arith) c.loop-entry.invariant
