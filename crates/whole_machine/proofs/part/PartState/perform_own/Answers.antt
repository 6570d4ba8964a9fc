use Rattle.std.proofs.Common.{◌≡◌, ◌∙◌, ◌<◌, sym, subst, arith, length, true}
use Rattle.std.specs.Prelude.{IfSome}
use Rattle.class_model.specs.Next.{CanStep, is_own}
use Rattle.class_model.specs.Plan.{plan}
use Rattle.class_model.specs.Process.{Process}
use Rattle.whole_machine.specs.Parts.{ListedPart}
use Rattle.whole_machine.specs.Steps.{slot_in}
use Rattle.whole_machine.proofs.Banked.{placed, performs_part, Slot}
use Rattle.whole_machine.proofs.part.PartState.perform_own.Goals as goal

pub perform_own-requires-clause-there : goal.perform_own-requires-clause-there
perform_own-requires-clause-there c =
    let q : ListedPart = record { cells = c.self.inside.cells; counts = c.self.inside.counts; next_serial = c.self.inside.next_serial; lines = c.self.inside.lines.items; used = c.self.inside.used; bank = c.self.inside.bank.items } in
    let P : Slot → Type 0 = λ y. IfSome y (λ (p : Process). CanStep c.args.shared.now c.args.class p × (is_own (plan c.args.shared.now c.args.class p) ≡ true)) in
    placed P q c.args.processor c.args.slot c.place_of-at.result c.requires.slot c.place_of-at.ensures.place
    (subst (λ (y : ListedPart). P (slot_in y c.args.processor c.args.slot)) (sym c.self.view_is) c.requires.there)

pub invariant_of-self : goal.invariant_of-self
invariant_of-self c = (c.perform_own.ensures.as_many ∙ c.self.invariant.0, c.self.invariant.1)

pub returns : goal.returns
returns c =
    let q : ListedPart = record { cells = c.self.inside.cells; counts = c.self.inside.counts; next_serial = c.self.inside.next_serial; lines = c.self.inside.lines.items; used = c.self.inside.used; bank = c.self.inside.bank.items } in
    let lt : c.place_of-at.result < length q.bank = omega (arith, c.self.invariant.0) in
    performs_part c.args.shared.now c.args.class q c.args.self.now c.args.processor c.args.slot c.place_of-at.result c.perform_own.new.bank.items c.requires.slot c.place_of-at.ensures.place lt
    c.perform_own.ensures.performs c.self.view_is
