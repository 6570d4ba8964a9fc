use Rattle.std.proofs.Common.{◌≡◌, ◌+◌, ◌*◌, ◌<◌, ℕ, ap, subst, arith, length, set, Some}
use Rattle.class_model.specs.State.{with_process}
use Rattle.whole_machine.specs.Parts.{ListedPart, part_in}
use Rattle.whole_machine.proofs.Banked.{banked}
use Rattle.whole_machine.proofs.part.PartState.put.Goals as goal

pub returns : goal.returns
returns c =
    let q : ListedPart = record { cells = c.self.inside.cells; counts = c.self.inside.counts; next_serial = c.self.inside.next_serial; lines = c.self.inside.lines.items; used = c.self.inside.used; bank = c.self.inside.bank.items } in
    let e : c.place_of-at.result ≡ 4 * c.args.processor + c.args.slot = c.place_of-at.ensures.place in
    let lt : 4 * c.args.processor + c.args.slot < length q.bank = omega (arith, c.self.invariant.0) in
    subst (λ (y : ListedPart). part_in (record q { bank = set q.bank c.place_of-at.result (Some c.args.process) }) ≡ with_process (part_in y) c.args.processor c.args.slot c.args.process) c.self.view_is
    (banked q c.args.processor c.args.slot c.args.process _ c.requires.slot lt (ap (λ (i : ℕ). set q.bank i (Some c.args.process)) e))
