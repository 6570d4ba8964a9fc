use Rattle.std.proofs.Common.{◌+◌, ◌∙◌, ap, subst}
use Rattle.words_layout.specs.declared.segment.SegId.{SegId}
use Rattle.policy.specs.Outcome.{Value}
use Rattle.class_model.specs.State.{Cell}
use Rattle.class_model.specs.Step.{ticket_effect}
use Rattle.class_model.specs.declared.request.Shown.TheVariants as S
use Rattle.whole_machine.specs.Parts.{ListedPart, part_in}
use Rattle.whole_machine.specs.Shows.{Shows}
use Rattle.whole_machine.proofs.TakesPlace.{listed_and_changed}
use Rattle.whole_machine.proofs.part.PartState.ticket.Goals as goal

pub returns-clause-ok : goal.returns-clause-ok
returns-clause-ok c =
    let u = c.args.seg in
    let q : ListedPart = record { cells = c.self.inside.cells; counts = c.self.inside.counts; next_serial = c.self.inside.next_serial; lines = c.self.inside.lines.items; used = c.self.inside.used; bank = c.self.inside.bank.items } in
    let after : ListedPart = record { cells = c.draw.new.cells; counts = c.self.inside.counts; next_serial = c.self.inside.next_serial; lines = c.self.inside.lines.items; used = c.self.inside.used; bank = c.self.inside.bank.items } in
    let P : ListedPart → Type 0 = λ z. Shows (ticket_effect (part_in z) u) after (S.Value c.in_ok-ticket.ticket) in
    let same = c.in_ok-at.ensures.same in
    let place = c.in_ok-at.ensures.ok in
    subst P c.self.view_is (record {
      part = ap (λ (f : SegId → Cell). record (part_in q) { cell = f })
          (listed_and_changed q.cells c.list_cell.new.cells c.draw.new.cells u c.in_ok-at.at (λ (x : Cell). record x { sequencer = x.sequencer + 1 }) same place c.in_ok-ticket.ensures.ok);
      outcome = ap Value (c.in_ok-ticket.ensures.ticket u place ∙ ap (λ (x : Cell). x.sequencer) (same u));
    })
