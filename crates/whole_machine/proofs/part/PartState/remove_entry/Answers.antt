use Rattle.std.proofs.Common.{◌≡◌, ◌∙◌, ap, sym, subst, None, if◌then◌else◌}
use Rattle.words_layout.specs.Segments.{put_seg}
use Rattle.words_layout.specs.declared.segment.SegId.{SegId}
use Rattle.class_model.specs.State.{Cell}
use Rattle.class_model.specs.Step.{with_entry, deleted, emptied}
use Rattle.whole_machine.specs.Parts.{ListedPart, cell_in, part_in}
use Rattle.whole_machine.specs.Shows.{lost}
use Rattle.whole_machine.proofs.TakesPlace.{emptied_is}
use Rattle.whole_machine.proofs.part.PartState.remove_entry.Goals as goal

pub set_entry-requires-clause-inside : goal.set_entry-requires-clause-inside
set_entry-requires-clause-inside c = (c.in_ok-lose.ensures.kept c.args.seg c.in_ok-at.at c.in_ok-at.ensures.ok).inside

pub returns-clause-ok : goal.returns-clause-ok
returns-clause-ok c =
    let u = c.args.seg in
    let child = c.args.child in
    let own = c.args.own in
    let e = c.args.entry in
    let q : ListedPart = record { cells = c.self.inside.cells; counts = c.self.inside.counts; next_serial = c.self.inside.next_serial; lines = c.self.inside.lines.items; used = c.self.inside.used; bank = c.self.inside.bank.items } in
    let after : ListedPart = record { cells = c.set_entry.new.cells; counts = c.self.inside.counts; next_serial = c.self.inside.next_serial; lines = c.self.inside.lines.items; used = c.self.inside.used; bank = c.self.inside.bank.items } in
    let P : ListedPart → Type 0 = λ z. part_in after ≡ emptied (if own then deleted (part_in z) child else part_in z) u e in
    let emptied_in : (SegId → Cell) → SegId → Cell = λ g. put_seg g u (with_entry (g u) e None) in
    let same : cell_in c.list_cell.new.cells ≡ cell_in q.cells = λ k v. (c.in_ok-at.ensures.same v) k in
    let gone = c.in_ok-lose.ensures.ok ∙ ap (λ (g : SegId → Cell). lost own g child) same in
    let cells = c.set_entry.ensures.changed u (c.in_ok-lose.ensures.kept u c.in_ok-at.at c.in_ok-at.ensures.ok) ∙ ap emptied_in gone in
    subst P c.self.view_is (ap (λ (g : SegId → Cell). record (part_in q) { cell = g }) cells ∙ sym (emptied_is own (part_in q) child u e))
