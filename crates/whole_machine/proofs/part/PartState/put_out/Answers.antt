use Rattle.std.proofs.Common.{◌≡◌, ap, subst, Some}
use Rattle.words_layout.specs.declared.segment.SegId.{SegId}
use Rattle.policy.specs.Known.{Known}
use Rattle.class_model.specs.State.{Cell, Stored, live_words}
use Rattle.whole_machine.specs.Parts.{ListedPart, part_in}
use Rattle.whole_machine.specs.Shows.{swapped_out}
use Rattle.whole_machine.proofs.TakesPlace.{listed_and_changed}
use Rattle.whole_machine.proofs.part.PartState.put_out.Goals as goal

pub returns-clause-ok : goal.returns-clause-ok
returns-clause-ok c =
    let q : ListedPart = record { cells = c.self.inside.cells; counts = c.self.inside.counts; next_serial = c.self.inside.next_serial; lines = c.self.inside.lines.items; used = c.self.inside.used; bank = c.self.inside.bank.items } in
    let after : ListedPart = record { cells = c.swap_out.new.cells; counts = c.self.inside.counts; next_serial = c.self.inside.next_serial; lines = c.self.inside.lines.items; used = c.self.inside.used; bank = c.self.inside.bank.items } in
    let k : Known = record { seg = c.known.inside.seg; class = c.known.inside.class; brackets = c.known.inside.brackets; size = c.known.inside.size; rights = c.known.inside.rights.0 } in
    let P : ListedPart → Type 0 = λ z. part_in after ≡ swapped_out (part_in z) c.args.known.now in
    let Q : Known → Type 0 = λ k. part_in after ≡ swapped_out (part_in q) k in
    let changed = listed_and_changed q.cells c.list_cell.new.cells c.swap_out.new.cells k.seg c.in_ok-at.at
    (λ (x : Cell). record x { home = Stored; stored = Some (live_words x) })
    c.in_ok-at.ensures.same c.in_ok-at.ensures.ok c.in_ok-swap_out.ensures.ok in
    subst P c.self.view_is (subst Q c.known.view_is (ap (λ (g : SegId → Cell). record (part_in q) { cell = g }) changed))
