use Rattle.std.proofs.Common.{◌≡◌, ◌+◌, ◌∙◌, ap, subst}
use Rattle.lists.specs.Lists.{overwrite}
use Rattle.words_layout.specs.declared.segment.SegId.{SegId}
use Rattle.class_model.specs.State.{Cell, In, live_words}
use Rattle.whole_machine.specs.Parts.{ListedPart, cell_in, part_in}
use Rattle.whole_machine.specs.Shows.{with_words}
use Rattle.whole_machine.proofs.TakesPlace.{listed_and_changed}
use Rattle.whole_machine.proofs.part.PartState.write_words.Goals as goal

pub returns-clause-ok : goal.returns-clause-ok
returns-clause-ok c =
    let u = c.args.seg in
    let words = c.args.words.now in
    let q : ListedPart = record { cells = c.self.inside.cells; counts = c.self.inside.counts; next_serial = c.self.inside.next_serial; lines = c.self.inside.lines.items; used = c.self.inside.used; bank = c.self.inside.bank.items } in
    let after : ListedPart = record { cells = c.update.new.cells; counts = c.self.inside.counts; next_serial = c.self.inside.next_serial; lines = c.self.inside.lines.items; used = c.self.inside.used; bank = c.self.inside.bank.items } in
    let P : ListedPart → Type 0 = λ z. part_in after ≡ with_words (part_in z) u c.args.offset words in
    let changed = listed_and_changed q.cells c.list_cell.new.cells c.update.new.cells u c.in_ok-at.at
    (λ (x : Cell). record x { home = In (overwrite (live_words x) c.args.offset words); writes = x.writes + 1 })
    c.in_ok-at.ensures.same c.in_ok-at.ensures.ok c.in_ok-count.ensures.ok in
    subst P c.self.view_is (ap (λ (f : SegId → Cell). record (part_in q) { cell = f }) changed)

pub returns-clause-count : goal.returns-clause-count
returns-clause-count c =
    let u = c.args.seg in
    let q : ListedPart = record { cells = c.self.inside.cells; counts = c.self.inside.counts; next_serial = c.self.inside.next_serial; lines = c.self.inside.lines.items; used = c.self.inside.used; bank = c.self.inside.bank.items } in
    let P : ListedPart → Type 0 = λ z. c.in_ok-count.count ≡ (cell_in z.cells u).writes + 1 in
    subst P c.self.view_is (c.in_ok-count.ensures.count u c.in_ok-at.ensures.ok ∙ ap (λ (x : Cell). x.writes + 1) (c.in_ok-at.ensures.same u))
