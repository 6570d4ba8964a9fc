use Rattle.std.proofs.Common.{◌≡◌, ap, subst}
use Rattle.words_layout.specs.declared.segment.SegId.{SegId}
use Rattle.class_model.specs.State.{Cell}
use Rattle.whole_machine.specs.Building.{keeping}
use Rattle.whole_machine.specs.Parts.{ListedPart, is_cell, part_in}
use Rattle.whole_machine.specs.Shows.{ListsAt}
use Rattle.whole_machine.proofs.Recorded.{words_of}
use Rattle.whole_machine.proofs.part.PartState.keep.Goals as goal

pub returns : goal.returns
returns c = λ u.
    let q : ListedPart = record { cells = c.self.inside.cells; counts = c.self.inside.counts; next_serial = c.self.inside.next_serial; lines = c.self.inside.lines.items; used = c.self.inside.used; bank = c.self.inside.bank.items } in
    let after : ListedPart = record { cells = c.store.new.cells; counts = c.self.inside.counts; next_serial = c.self.inside.next_serial; lines = c.self.inside.lines.items; used = c.self.inside.used; bank = c.self.inside.bank.items } in
    subst (λ (z : ListedPart). ListsAt (is_cell u) z.cells c.args.at → part_in after ≡ keeping (part_in z) u (words_of c.args.kept (λ v. v.items))) c.self.view_is (λ l. ap (λ (f : SegId → Cell). record (part_in q) { cell = f }) (c.store.ensures u l))
