use Rattle.std.proofs.Common.{ℕ, ◌≡◌, ◌∙◌, Some, ap, subst}
use Rattle.words_layout.specs.declared.segment.SegId.{SegId}
use Rattle.class_model.specs.State.{Cell, with_cell}
use Rattle.class_model.specs.Step.{with_entry}
use Rattle.whole_machine.specs.Building.{holding}
use Rattle.whole_machine.specs.Parts.{ListedPart, is_cell, part_in}
use Rattle.whole_machine.specs.Shows.{ListsAt, KeepsPlaces}
use Rattle.whole_machine.proofs.part.PartState.hold.Goals as goal

pub returns-clause-held : goal.returns-clause-held
returns-clause-held c = λ u.
    let q : ListedPart = record { cells = c.self.inside.cells; counts = c.self.inside.counts; next_serial = c.self.inside.next_serial; lines = c.self.inside.lines.items; used = c.self.inside.used; bank = c.self.inside.bank.items } in
    let child = c.args.child.now in
    let serial = c.max-self-inside.result in
    let after : ListedPart = record { cells = c.set_entry.new.cells; counts = c.self.inside.counts; next_serial = serial; lines = c.self.inside.lines.items; used = c.self.inside.used; bank = c.self.inside.bank.items } in
    let P : ListedPart → Type 0 = λ z. ListsAt (is_cell u) z.cells c.args.at → part_in after ≡ holding (part_in z) u c.args.entry child in
    subst P c.self.view_is (λ l. ap (λ (f : SegId → Cell). record (part_in q) { cell = f; next_serial = serial }) (c.set_entry.ensures.changed u l)
    ∙ ap (λ (n : ℕ). record (with_cell (part_in q) u (with_entry ((part_in q).cell u) c.args.entry (Some child))) { next_serial = n }) c.max-self-inside.ensures)

pub returns-clause-kept : goal.returns-clause-kept
returns-clause-kept c = subst (λ (z : ListedPart). KeepsPlaces z.cells c.set_entry.new.cells) c.self.view_is c.set_entry.ensures.kept
