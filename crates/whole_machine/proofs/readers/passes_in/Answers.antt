use Rattle.std.proofs.Common.{◌≤◌, ◌<◌, ◌∙◌, ap, sym, subst, arith, length, false, Option}
use Rattle.std.specs.Option.{option_map_or}
use Rattle.class_model.specs.Config.{classes}
use Rattle.class_model.specs.Passing.{passes_next, has_free_slot}
use Rattle.class_model.specs.Process.{Process, ProcName}
use Rattle.whole_machine.specs.Parts.{ListedPart}
use Rattle.whole_machine.specs.Steps.{slot_in, standing}
use Rattle.whole_machine.proofs.Stepped.{absent}
use Rattle.whole_machine.proofs.readers.passes_in.Goals as goal

pub returns-then-name-parts : goal.returns-then-name-parts
returns-then-name-parts c =
    let a = standing c.args.shared.now c.args.parts.now in
    let n = c.args.name.now in
    sym (ap (λ (o : Option Process). option_map_or (λ (p : Process). passes_next a.shared n.class (has_free_slot a n) p) o false)
    (absent c.args.shared.now c.args.parts.now n (subst (λ (m : ProcName). length c.args.parts.now ≤ m.class) c.name.view_is c.if-name-parts.true)))

pub passes-requires : goal.passes-requires
passes-requires c =
    let inside = c.name.inside in
    let some : inside.class < classes c.args.shared.now = omega (arith, c.requires.one_each) in
    record {
      class = some;
      known = ((c.requires.fits inside.class).processes inside.processor inside.slot c.in-Some.process.now
          (ap (λ (z : ListedPart). slot_in z inside.processor inside.slot) (sym c.part_at-part.ensures) ∙ sym c.in-Some.ensures.process)).knows;
    }
