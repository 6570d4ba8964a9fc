use Rattle.std.proofs.Common.{◌≡◌, ◌+◌, ap, subst, Some}
use Rattle.words_layout.specs.declared.segment.SegId.{SegId}
use Rattle.words_layout.specs.declared.coding.Alias.{Alias}
use Rattle.policy.specs.Known.{new_alias}
use Rattle.class_model.specs.State.{Cell}
use Rattle.class_model.specs.Step.{with_entry}
use Rattle.whole_machine.specs.Parts.{ListedPart, part_in}
use Rattle.whole_machine.specs.Shows.{ChangesCell, with_child}
use Rattle.whole_machine.proofs.TakesPlace.{listed_and_changed}
use Rattle.whole_machine.proofs.part.PartState.add_child.Goals as goal

pub returns-clause-ok : goal.returns-clause-ok
returns-clause-ok c =
    let u = c.args.seg in
    let b = c.args.brackets.now in
    let q : ListedPart = record { cells = c.self.inside.cells; counts = c.self.inside.counts; next_serial = c.self.inside.next_serial; lines = c.self.inside.lines.items; used = c.self.inside.used; bank = c.self.inside.bank.items } in
    let after : ListedPart = record { cells = c.set_entry.new.cells; counts = c.self.inside.counts; next_serial = c.self.inside.next_serial + 1; lines = c.self.inside.lines.items; used = c.self.inside.used; bank = c.self.inside.bank.items } in
    let P : ListedPart → Type 0 = λ z. part_in after ≡ with_child (part_in z) u c.args.entry c.args.class b c.args.size in
    let entry = Some (new_alias c.args.class b c.args.size q.next_serial) in
    let Q : Alias → Type 0 = λ a. ChangesCell c.list_cell.new.cells c.set_entry.new.cells c.in_ok-at.at (λ (x : Cell). with_entry x c.args.entry (Some a)) in
    let changes = subst Q c.new_alias-alias.ensures c.set_entry.ensures.changed in
    let changed = listed_and_changed q.cells c.list_cell.new.cells c.set_entry.new.cells u c.in_ok-at.at (λ (x : Cell). with_entry x c.args.entry entry)
    c.in_ok-at.ensures.same c.in_ok-at.ensures.ok changes in
    subst P c.self.view_is (ap (λ (f : SegId → Cell). record (part_in q) { cell = f; next_serial = q.next_serial + 1 }) changed)
