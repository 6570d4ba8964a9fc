use Rattle.std.proofs.Common.{◌≡◌, ap, subst, unwrap_or, replicate}
use Rattle.words_layout.specs.declared.segment.SegId.{SegId}
use Rattle.policy.specs.Known.{Known}
use Rattle.class_model.specs.State.{Cell, In}
use Rattle.whole_machine.specs.Parts.{ListedPart, part_in}
use Rattle.whole_machine.specs.Shows.{swapped_in}
use Rattle.whole_machine.proofs.TakesPlace.{listed_and_changed}
use Rattle.whole_machine.proofs.part.PartState.bring_in.Goals as goal

pub returns-clause-ok : goal.returns-clause-ok
returns-clause-ok c =
    let q : ListedPart = record { cells = c.self.inside.cells; counts = c.self.inside.counts; next_serial = c.self.inside.next_serial; lines = c.self.inside.lines.items; used = c.self.inside.used; bank = c.self.inside.bank.items } in
    let after : ListedPart = record { cells = c.swap_in.new.cells; counts = c.self.inside.counts; next_serial = c.self.inside.next_serial; lines = c.self.inside.lines.items; used = c.self.inside.used; bank = c.self.inside.bank.items } in
    let k : Known = record { seg = c.known.inside.seg; class = c.known.inside.class; brackets = c.known.inside.brackets; size = c.known.inside.size; rights = c.known.inside.rights.0 } in
    let P : ListedPart → Type 0 = λ z. part_in after ≡ swapped_in (part_in z) c.args.known.now in
    let Q : Known → Type 0 = λ k. part_in after ≡ swapped_in (part_in q) k in
    let changed = listed_and_changed q.cells c.list_cell.new.cells c.swap_in.new.cells k.seg c.in_ok-at.at
    (λ (x : Cell). record x { home = In (unwrap_or x.stored (replicate c.known.inside.size 0)) })
    c.in_ok-at.ensures.same c.in_ok-at.ensures.ok c.in_ok-swap_in.ensures.ok in
    subst P c.self.view_is (subst Q c.known.view_is (ap (λ (g : SegId → Cell). record (part_in q) { cell = g }) changed))
