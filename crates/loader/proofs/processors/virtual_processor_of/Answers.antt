use Rattle.std.proofs.Common.{◌+◌, arith}
use Rattle.loader.proofs.Slots.{reads, slot_there, empty_there, one_more, passed_processor, passed_class, filled_as}
use Rattle.loader.proofs.processors.virtual_processor_of.Goals.{then-line-processor+then-line-class, else-line-processor, else-line-processor-via-then-line-processor+else-line-class, else-line-processor-via-else-line-processor}
use Rattle.loader.proofs.processors.virtual_processor_of.Goals as goal

pub put-requires-clause-slot : goal.put-requires-clause-slot
put-requires-clause-slot c =
    slot_there c.args.config.now c.args.processor c.args.class c.requires.valid c.requires.processor c.requires.class c.loop-line.line-index c.loop-line.slot c.loop-line.loaded c.line-item.result
    (reads c.args.config.now c.as_slice-line-items.result.now c.loop-line.line-index c.line-item.result c.as_slice-line-items.ensures c.loop-line-test.true c.line-item.is) c.if-line-processor.true c.if-line-class.true c.loop-line.invariant

pub put-requires-clause-empty : goal.put-requires-clause-empty
put-requires-clause-empty c =
    empty_there c.args.config.now c.args.processor c.args.class c.requires.valid c.requires.processor c.requires.class c.loop-line.line-index c.loop-line.slot c.loop-line.loaded c.line-item.result
    (reads c.args.config.now c.as_slice-line-items.result.now c.loop-line.line-index c.line-item.result c.as_slice-line-items.ensures c.loop-line-test.true c.line-item.is) c.if-line-processor.true c.if-line-class.true c.loop-line.invariant

pub overflow_add-slot : goal.overflow_add-slot
overflow_add-slot c =
    let few = slot_there c.args.config.now c.args.processor c.args.class c.requires.valid c.requires.processor c.requires.class c.loop-line.line-index c.loop-line.slot c.loop-line.loaded c.line-item.result
    (reads c.args.config.now c.as_slice-line-items.result.now c.loop-line.line-index c.line-item.result c.as_slice-line-items.ensures c.loop-line-test.true c.line-item.is) c.if-line-processor.true c.if-line-class.true c.loop-line.invariant in
    omega (arith, few)

pub loop-line-preserved : goal.loop-line-preserved
loop-line-preserved c =
    let read = (reads c.args.config.now c.as_slice-line-items.result.now c.loop-line.line-index c.line-item.result c.as_slice-line-items.ensures c.loop-line-test.true c.line-item.is) in
    elim c.if-line-processor.branch [
      | then-line-processor+then-line-class w ↦
          filled_as c.args.config.now c.args.processor c.args.class (c.loop-line.line-index + 1) _ c.if-line-processor.slot _ c.if-line-processor.loaded w.slot-is w.loaded-is
          (one_more c.args.config.now c.args.processor c.args.class c.requires.valid c.requires.processor c.requires.class c.loop-line.line-index c.loop-line.slot c.loop-line.loaded c.line-item.result read w.if-line-processor.true w.if-line-class.true c.loop-line.invariant w.put.new.self w.new-then-line-class.result w.new-then-line-class.ensures w.put.ensures)
      | else-line-processor w ↦
          filled_as c.args.config.now c.args.processor c.args.class (c.loop-line.line-index + 1) c.loop-line.slot c.if-line-processor.slot c.loop-line.loaded c.if-line-processor.loaded w.slot-is w.loaded-is
          (elim w.else-line-processor.branch [
            | else-line-processor-via-then-line-processor+else-line-class x ↦ passed_class c.args.config.now c.args.processor c.args.class c.loop-line.line-index c.loop-line.slot c.loop-line.loaded c.line-item.result read x.if-line-class.false c.loop-line.invariant
            | else-line-processor-via-else-line-processor x ↦ passed_processor c.args.config.now c.args.processor c.args.class c.loop-line.line-index c.loop-line.slot c.loop-line.loaded c.line-item.result read x.if-line-processor.false c.loop-line.invariant
          ])
    ]
