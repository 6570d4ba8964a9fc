use Rattle.std.proofs.Common.{◌≡◌, ◌<◌, ◌∙◌, List, take, true, None, sym, ap, subst}
use Rattle.labels.specs.Label.{at_or_below}
use Rattle.config_text.specs.declared.config.ProcessLine.{ProcessLine as ProcessText}
use Rattle.class_model.specs.Config.{Shared, classes}
use Rattle.class_model.specs.State.{State, process_at}
use Rattle.whole_machine.specs.Building.{with_new}
use Rattle.whole_machine.specs.Parts.{ListedState, state_of}
use Rattle.loader.specs.Building.{name_of}
use Rattle.loader.proofs.Modelled.{line_class, line_processor, line_slot, line_absent, line_put, line_passed}
use Rattle.loader.proofs.Slots.{reads}
use Rattle.loader.proofs.model.put_lines.Goals.{then-below+in_ok-put_line, else-below}
use Rattle.loader.proofs.model.put_lines.Goals as goal

pub put_line-requires-clause-class : goal.put_line-requires-clause-class
put_line-requires-clause-class c =
    let k = c.args.config.now in
    let n = c.loop-index.index in
    let x = c.index-lines-index.result in
    let r = reads k c.as_slice-lines.result.now n x c.as_slice-lines.ensures c.loop-index-test.true c.index-lines-index.is in
    subst (λ (s : Shared). x.class < classes s) (sym (c.loop-index.invariant.0 ∙ c.requires.shared)) (line_class k c.args.class c.requires.valid n x r.there r.line_is)

pub put_line-requires-clause-processor : goal.put_line-requires-clause-processor
put_line-requires-clause-processor c =
    let k = c.args.config.now in
    let n = c.loop-index.index in
    let x = c.index-lines-index.result in
    let r = reads k c.as_slice-lines.result.now n x c.as_slice-lines.ensures c.loop-index-test.true c.index-lines-index.is in
    line_processor k c.args.class c.requires.valid n x r.there r.line_is

pub put_line-requires-clause-slot : goal.put_line-requires-clause-slot
put_line-requires-clause-slot c =
    let k = c.args.config.now in
    let n = c.loop-index.index in
    let x = c.index-lines-index.result in
    let r = reads k c.as_slice-lines.result.now n x c.as_slice-lines.ensures c.loop-index-test.true c.index-lines-index.is in
    subst (λ (xs : List ProcessText). (name_of (take n xs) x).slot < 4) (sym c.as_slice-lines.ensures) (line_slot k c.args.class c.requires.valid n x r.there r.line_is)

pub put_line-requires-clause-absent : goal.put_line-requires-clause-absent
put_line-requires-clause-absent c =
    let k = c.args.config.now in
    let n = c.loop-index.index in
    let x = c.index-lines-index.result in
    let r = reads k c.as_slice-lines.result.now n x c.as_slice-lines.ensures c.loop-index-test.true c.index-lines-index.is in
    let low : at_or_below k.table x.class c.args.class ≡ true = sym c.below.ensures.computed ∙ c.if-below.true in
    subst (λ (xs : List ProcessText). process_at (state_of c.loop-index.state) (name_of (take n xs) x) ≡ None) (sym c.as_slice-lines.ensures)
    (ap (λ (a : State). process_at a (name_of (take n k.processes) x)) c.loop-index.invariant.1 ∙ line_absent k c.args.class c.requires.valid n x r.there r.line_is low)

pub loop-index-preserved : goal.loop-index-preserved
loop-index-preserved c =
    let k = c.args.config.now in
    let n = c.loop-index.index in
    let x = c.index-lines-index.result in
    let r = reads k c.as_slice-lines.result.now n x c.as_slice-lines.ensures c.loop-index-test.true c.index-lines-index.is in
    let before = c.loop-index.invariant in
    elim c.if-below.branch [
      | then-below+in_ok-put_line w ↦ (
        ap (λ (m : ListedState). m.shared) w.state-is ∙ w.in_ok-put_line.ensures.shared ∙ before.0,
        ap state_of w.state-is ∙ w.in_ok-put_line.ensures.put
            ∙ ap (λ (xs : List ProcessText). with_new (state_of c.loop-index.state) (name_of (take n xs) x) x.script x.ring) c.as_slice-lines.ensures
            ∙ ap (λ (a : State). with_new a (name_of (take n k.processes) x) x.script x.ring) before.1
            ∙ line_put k c.args.class c.requires.valid n x r.there r.line_is (sym c.below.ensures.computed ∙ w.if-below.true),
      )
      | else-below w ↦ (
        ap (λ (m : ListedState). m.shared) w.state-is ∙ before.0,
        ap state_of w.state-is ∙ before.1 ∙ line_passed k c.args.class c.requires.valid n x r.there r.line_is (sym c.below.ensures.computed ∙ w.if-below.false),
      )
    ]
