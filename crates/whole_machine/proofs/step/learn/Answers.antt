use Rattle.std.proofs.Common.{◌≡◌, ◌∙◌, ℕ, List, Some, ap, get_or, refl, subst, sym}
use Rattle.policy.specs.Outcome.{shown}
use Rattle.class_model.specs.Process.{ProcName}
use Rattle.class_model.specs.State.{entry_at}
use Rattle.class_model.specs.declared.request.Request.TheVariants as A
use Rattle.whole_machine.specs.Parts.{ListedPart, cell_in, no_part}
use Rattle.whole_machine.specs.Steps.{slot_in}
use Rattle.whole_machine.proofs.Stepped.{look_done}
use Rattle.whole_machine.proofs.step.learn.Goals as goal

pub returns : goal.returns
returns c =
    let s = c.args.shared.now in
    let old = c.args.parts.now.items in
    let n = c.args.name.now in
    let k = c.args.known.now in
    let p = c.requires.due.0 in
    let inside = c.name.inside in
    let there = subst (λ (m : ProcName). slot_in (get_or old m.class no_part) m.processor m.slot ≡ Some p) (sym c.name.view_is) c.requires.due.1.stands.there in
    let here = ap (λ (z : ListedPart). slot_in z inside.processor inside.slot) (c.part_at.ensures ∙ ap (λ (xs : List ListedPart). get_or xs inside.class no_part) c.as_slice.ensures.value) ∙ there in
    look_done s old c.settle.new.parts.items n c.requires.fits (A.MakeKnown k c.args.entry c.args.mode) _ c.requires.due
    (c.make_known-shown.ensures ∙
    ap (λ (xs : List ListedPart). shown s.table inside.class c.ring-ring.result k.class c.args.mode (entry_at (cell_in (get_or xs k.class no_part).cells k.seg) c.args.entry)) c.as_slice-2.ensures.value ∙
    ap (λ (m : ProcName). shown s.table m.class c.ring-ring.result k.class c.args.mode (entry_at (cell_in (get_or old k.class no_part).cells k.seg) c.args.entry)) c.name.view_is ∙
    ap (λ (r : ℕ). shown s.table n.class r k.class c.args.mode (entry_at (cell_in (get_or old k.class no_part).cells k.seg) c.args.entry)) (c.ring-ring.ensures p here))
    refl c.settle.ensures
