use Rattle.std.proofs.Common.{rules, arith, ◌≡◌, ap, sym, ◌∙◌, refl, Some, None}
use Rattle.std.specs.Prelude.{slice_index_or, slice_set}
use Rattle.std.proofs.lemmas.Grind.{common_steps}
use Rattle.machine.specs.Processing.{Processing, free_in}
use Rattle.machine.proofs.Absorbing.{there_read}
use Rattle.machine.proofs.Slots.{free_kept}
use Rattle.machine.proofs.Stepping.{slot_performs}
use Rattle.machine.proofs.virtual_processor.VirtualProcessor.step_at.Goals as goal

pub returns-then-not-is_live-clause-step : goal.returns-then-not-is_live-clause-step
returns-then-not-is_live-clause-step g c =
    let e = c.step-absorbed.ensures in
    let here = there_read c.self.inside.slots c.args.slot c.index-self-slot.result c.in-Some.process c.requires.chosen.within c.self.invariant.1 c.in-Some.is in
    let there : slice_index_or c.args.self.now.slots c.args.slot None ≡ Some c.in-Some.process = ap (λ (u : Processing). slice_index_or u.slots c.args.slot None) (sym c.self.view_is) ∙ here in
    slot_performs g.W.WordPort.relation c.args.shared.now c.args.self.now c.args.port.now c.args.slot c.in-Some.process c.step-absorbed.new.self _ _ _ _ _ c.self.inside.free c.step-absorbed.result
    c.requires.fits c.requires.chosen there (c.self.invariant.3 ∙ ap (λ (u : Processing). free_in u.slots) c.self.view_is)
    (ap (λ (u : Processing). record u { slots = slice_set u.slots c.args.slot (Some c.step-absorbed.new.self) }) c.self.view_is) refl refl refl e.fits e.step

pub returns-else-not-is_live-clause-step : goal.returns-else-not-is_live-clause-step
returns-else-not-is_live-clause-step g c =
    let e = c.step-absorbed.ensures in
    let here = there_read c.self.inside.slots c.args.slot c.index-self-slot.result c.in-Some.process c.requires.chosen.within c.self.invariant.1 c.in-Some.is in
    let there : slice_index_or c.args.self.now.slots c.args.slot None ≡ Some c.in-Some.process = ap (λ (u : Processing). slice_index_or u.slots c.args.slot None) (sym c.self.view_is) ∙ here in
    slot_performs g.W.WordPort.relation c.args.shared.now c.args.self.now c.args.port.now c.args.slot c.in-Some.process c.step-absorbed.new.self _ _ _ _ _ c.self.inside.free c.step-absorbed.result
    c.requires.fits c.requires.chosen there (c.self.invariant.3 ∙ ap (λ (u : Processing). free_in u.slots) c.self.view_is)
    (ap (λ (u : Processing). record u { slots = slice_set u.slots c.args.slot (Some c.step-absorbed.new.self) }) c.self.view_is) refl refl refl e.fits e.step

pub invariant_of-self-then-not-is_live : goal.invariant_of-self-then-not-is_live
invariant_of-self-then-not-is_live g c =
    (c.self.invariant.0, search rules, grind (arith, common_steps), c.self.invariant.3 ∙ free_kept c.self.inside.slots c.args.slot _ c.in-Some.process _ c.in-Some.is)
