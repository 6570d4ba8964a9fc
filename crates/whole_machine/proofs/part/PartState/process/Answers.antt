use Rattle.std.proofs.Common.{◌≡◌, ◌<◌, ◌+◌, ◌*◌, ℕ, List, length, ◌∙◌, sym, ap, arith, None, get_or}
use Rattle.whole_machine.specs.Parts.{ListedPart}
use Rattle.whole_machine.specs.Steps.{slot_in}
use Rattle.whole_machine.proofs.Banked.{no_other, no_fifth, slot_read, Slot}
use Rattle.std.proofs.lemmas.List.{get_or_default}
use Rattle.whole_machine.proofs.part.PartState.process.Goals as goal
use Rattle.whole_machine.proofs.part.PartState.process.Goals.{then-processor-ge4-via-then-processor-ge4, then-processor-ge4-via-else-processor-ge4+then-slot-ge4}

pub returns-then-processor-ge4-clause-process : goal.returns-then-processor-ge4-clause-process
returns-then-processor-ge4-clause-process c =
    let q : ListedPart = record { cells = c.self.inside.cells; counts = c.self.inside.counts; next_serial = c.self.inside.next_serial; lines = c.self.inside.lines.items; used = c.self.inside.used; bank = c.self.inside.bank.items } in
    elim c.then-processor-ge4.branch [
      | then-processor-ge4-via-then-processor-ge4 w ↦ sym (ap (λ (y : ListedPart). slot_in y c.args.processor c.args.slot) (sym c.self.view_is) ∙ no_other q.bank c.args.processor c.args.slot c.self.invariant.0 w.if-processor-ge4.true)
      | then-processor-ge4-via-else-processor-ge4+then-slot-ge4 w ↦ sym (ap (λ (y : ListedPart). slot_in y c.args.processor c.args.slot) (sym c.self.view_is) ∙ no_fifth q.bank c.args.processor c.args.slot w.if-slot-ge4.true)
    ]

pub returns-clause-process : goal.returns-clause-process
returns-clause-process c =
    let q : ListedPart = record { cells = c.self.inside.cells; counts = c.self.inside.counts; next_serial = c.self.inside.next_serial; lines = c.self.inside.lines.items; used = c.self.inside.used; bank = c.self.inside.bank.items } in
    let small : c.args.slot < 4 = omega arith in
    let read = ap (λ (y : ListedPart). slot_in y c.args.processor c.args.slot) (sym c.self.view_is) ∙ slot_read q.bank c.args.processor c.args.slot small in
    let place : c.place_of.result ≡ 4 * c.args.processor + c.args.slot = c.place_of.ensures.place in
    let lt : c.place_of.result < length q.bank = omega (arith, c.self.invariant.0) in
    let r = c.index-bank-place_of.result in
    c.as_ref.ensures.value ∙ c.index-bank-place_of.is ∙ ap (λ (xs : List Slot). get_or xs c.place_of.result r) c.as_slice-bank.ensures.value ∙
    get_or_default q.bank c.place_of.result r None lt ∙ ap (λ (i : ℕ). get_or q.bank i None) place ∙ sym read
