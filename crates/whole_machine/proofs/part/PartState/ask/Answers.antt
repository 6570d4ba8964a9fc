use Rattle.std.proofs.Common.{◌≡◌, ◌<◌, ◌∙◌, ap, sym, subst, List, ℕ}
use Rattle.std.specs.Prelude.{IfSome}
use Rattle.policy.specs.Outcome.{Outcome}
use Rattle.class_model.specs.Process.{Process, settled}
use Rattle.class_model.specs.State.{Part, with_process}
use Rattle.class_model.specs.Next.{outcome_of}
use Rattle.whole_machine.specs.Parts.{part_in}
use Rattle.whole_machine.specs.Steps.{change_effect, slot_in}
use Rattle.whole_machine.proofs.Banked.{Slot}
use Rattle.whole_machine.proofs.Stepped.{change_slots, slot_same}
use Rattle.whole_machine.proofs.part.PartState.ask.Goals as goal

pub settle-requires-clause-there : goal.settle-requires-clause-there
settle-requires-clause-there c =
    let r = c.args.request.now in
    let slots = ap (λ (x : Part). x.slots) c.in-Ok.ensures.ok.part ∙ change_slots (part_in c.args.self.now) c.args.shared.now c.args.class c.pad-words.result r in
    let same : slot_in c.change.new.self c.args.processor c.args.slot ≡ slot_in c.args.self.now c.args.processor c.args.slot = slot_same c.change.new.self c.args.self.now c.args.processor c.args.slot slots in
    let P : Slot → Type 0 = λ y. IfSome y (λ (p : Process). p.place < 256) in
    subst P (sym same) c.requires.there

pub returns-in-Ok-clause-ok : goal.returns-in-Ok-clause-ok
returns-in-Ok-clause-ok c p h =
    let r = c.args.request.now in
    let slots = ap (λ (x : Part). x.slots) c.in-Ok.ensures.ok.part ∙ change_slots (part_in c.args.self.now) c.args.shared.now c.args.class c.pad-words.result r in
    let same : slot_in c.change.new.self c.args.processor c.args.slot ≡ slot_in c.args.self.now c.args.processor c.args.slot = slot_same c.change.new.self c.args.self.now c.args.processor c.args.slot slots in
    let pr = c.args.processor in
    let sl = c.args.slot in
    c.settle.ensures p (same ∙ h) ∙
    ap (λ (x : Part). with_process x pr sl (settled p (outcome_of c.in-Ok.shown))) c.in-Ok.ensures.ok.part ∙
    ap (λ (o : Outcome). with_process (change_effect c.args.shared.now c.args.class (part_in c.args.self.now) c.pad-words.result r).part pr sl (settled p o)) c.in-Ok.ensures.ok.outcome ∙
    ap (λ (w : List ℕ). with_process (change_effect c.args.shared.now c.args.class (part_in c.args.self.now) w r).part pr sl (settled p (change_effect c.args.shared.now c.args.class (part_in c.args.self.now) w r).outcome)) (c.pad-words.ensures p h)
