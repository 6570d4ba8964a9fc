use Rattle.std.proofs.Common.{◌*◌, ap, ◌∙◌, arith, length}
use Rattle.words_layout.specs.Segments.{numbered}
use Rattle.words_layout.specs.declared.segment.SegId.{SegId}
use Rattle.class_model.specs.Config.{Shared, classes}
use Rattle.machine.specs.Banks.{machine_of}
use Rattle.end_volumes.specs.After.{origin_in, tree_of_words}
use Rattle.end_volumes.proofs.AfterOrigins.{gains_none, gains_more, gains_all, gains_as, gains_class}
use Rattle.end_volumes.proofs.origins.Origins.take_class.Goals as goal

pub loop-number-init : goal.loop-number-init
loop-number-init c = gains_none _

pub loop-number-preserved : goal.loop-number-preserved
loop-number-preserved c =
    let t = tree_of_words (machine_of c.args.machine.now) in
    let taken = gains_as _ _ _ (λ u. origin_in t u c.args.class (numbered c.loop-number.number)) (λ u. ap (λ (x : SegId). origin_in t u c.args.class x) c.numbered.ensures.value) c.take_cell.ensures in
    gains_more (λ u j. origin_in t u c.args.class (numbered j)) c.loop-number.number _ _ _ c.loop-number.invariant taken

pub returns : goal.returns
returns c =
    let table = ap length (c.table-table.ensures ∙ ap (λ (s : Shared). s.table) c.shared.ensures) in
    let t = tree_of_words (machine_of c.args.machine.now) in
    gains_class t c.args.class _ _ (gains_all (λ u j. origin_in t u c.args.class (numbered j)) c.loop-number.number (64 * classes c.args.machine.now.shared) _ _ (omega (arith, table)) (omega (arith, table)) c.loop-number.invariant)
