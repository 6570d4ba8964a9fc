use Rattle.std.proofs.Common.{◌∙◌, ◌<◌, sym, subst, arith, length}
use Rattle.std.specs.Prelude.{IfSome}
use Rattle.class_model.specs.Next.{outcome_of}
use Rattle.class_model.specs.Process.{Process, settled}
use Rattle.whole_machine.specs.Parts.{ListedPart}
use Rattle.whole_machine.specs.Steps.{slot_in}
use Rattle.whole_machine.proofs.Banked.{placed, takes_part, Slot}
use Rattle.whole_machine.proofs.part.PartState.settle.Goals as goal

pub settle-requires-clause-there : goal.settle-requires-clause-there
settle-requires-clause-there c =
    let q : ListedPart = record { cells = c.self.inside.cells; counts = c.self.inside.counts; next_serial = c.self.inside.next_serial; lines = c.self.inside.lines.items; used = c.self.inside.used; bank = c.self.inside.bank.items } in
    let P : Slot → Type 0 = λ y. IfSome y (λ (p : Process). p.place < 256) in
    placed P q c.args.processor c.args.slot c.place_of-at.result c.requires.slot c.place_of-at.ensures.place
    (subst (λ (y : ListedPart). P (slot_in y c.args.processor c.args.slot)) (sym c.self.view_is) c.requires.there)

pub invariant_of-self : goal.invariant_of-self
invariant_of-self c = (c.settle.ensures.as_many ∙ c.self.invariant.0, c.self.invariant.1)

pub returns : goal.returns
returns c =
    let q : ListedPart = record { cells = c.self.inside.cells; counts = c.self.inside.counts; next_serial = c.self.inside.next_serial; lines = c.self.inside.lines.items; used = c.self.inside.used; bank = c.self.inside.bank.items } in
    let lt : c.place_of-at.result < length q.bank = omega (arith, c.self.invariant.0) in
    takes_part q c.args.self.now c.args.processor c.args.slot c.place_of-at.result (λ p. settled p (outcome_of c.args.shown.now)) c.settle.new.bank.items c.requires.slot c.place_of-at.ensures.place lt
    c.settle.ensures.takes c.self.view_is
