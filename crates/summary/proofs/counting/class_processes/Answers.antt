use Rattle.std.proofs.Common.{None, ap, ◌∙◌, arith}
use Rattle.std.specs.Prelude.{count_by, slice_index_or}
use Rattle.std.specs.Option.{option_map}
use Rattle.lists.specs.Lists.{below}
use Rattle.machine.specs.Processing.{Processing}
use Rattle.process.specs.Standing.{Standing}
use Rattle.summary.specs.Summary.{is_in_state}
use Rattle.summary.proofs.Counts.{sum_more}
use Rattle.summary.proofs.Off.{slots_on, slots_all}
use Rattle.summary.proofs.counting.class_processes.Goals as goal

pub loop-processor-preserved : goal.loop-processor-preserved
loop-processor-preserved c = record {
  sum = sum_more (slots_on c.args.machine.now c.args.class c.args.live) c.loop-processor.processor _ _ c.loop-processor.invariant.sum
      (c.slots_in-count.ensures.count ∙ ap (λ (w : Processing). count_by (λ i. is_in_state c.args.live (option_map (λ (v : Standing). v.process) (slice_index_or w.slots i None))) (below 4)) c.virtual_processor.ensures);
  most = omega (arith, c.loop-processor.invariant.most, c.slots_in-count.ensures.most);
}

pub returns : goal.returns
returns c =
    let n = c.processors-processor-end.ensures in
    slots_all c.args.machine.now c.args.class c.args.live c.loop-processor.processor c.loop-processor.count c.machine_law.ensures.most (omega (arith, n)) c.loop-processor.invariant.sum
