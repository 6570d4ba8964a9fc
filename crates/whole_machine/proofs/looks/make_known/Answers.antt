use Rattle.std.proofs.Common.{◌∙◌, ap, sym}
use Rattle.class_model.specs.State.{Cell, entry_at}
use Rattle.whole_machine.specs.Parts.{ListedPart, cell_in}
use Rattle.whole_machine.proofs.looks.make_known.Goals as goal

pub entry_shown-requires-clause-entry : goal.entry_shown-requires-clause-entry
entry_shown-requires-clause-entry c a h =
    let cell = c.cell.ensures ∙ ap (λ (p : ListedPart). cell_in p.cells c.known.inside.seg) c.part_at-part.ensures in
    (c.requires.fits.fits c.known.inside.class).entries c.known.inside.seg c.args.entry a (ap (λ (x : Cell). entry_at x c.args.entry) (sym cell) ∙ sym c.entry-found.ensures ∙ h)
