use Rattle.std.proofs.Common.{◌≡◌, Bool, true, false, ap, sym, ◌∙◌}
use Rattle.std.specs.Prelude.{◌||◌, is_some}
use Rattle.std.specs.List.{list_any}
use Rattle.words_layout.specs.Named.{words_in}
use Rattle.machine.specs.Banks.{machine_of}
use Rattle.report.specs.Reported.{entries_of, is_touched}
use Rattle.report.specs.Found.{found_in, is_counted}
use Rattle.report.proofs.Texts.{nothing_due}
use Rattle.report.proofs.SegmentTexts.{untouched}
use Rattle.report.proofs.segments.print_touched.Goals as goal
use Rattle.report.proofs.segments.print_touched.Goals.{then-is_counted, else-is_counted}

pub returns-else-has_entry : goal.returns-else-has_entry
returns-else-has_entry g c = elim c.if-is_counted.branch [
  | then-is_counted w ↦ absurd (let t : true ≡ false = sym w.if-is_counted.true ∙ (sym w.value-is ∙ c.if-has_entry.false) in cc)
  | else-is_counted w ↦
      let m = c.args.machine.now in
      let counted : is_counted (found_in m c.args.class c.args.seg) ≡ false = sym (c.is_counted.ensures ∙ ap is_counted c.find_segment-found.ensures.found) ∙ w.if-is_counted.false in
      let entries = sym w.has_entry.ensures ∙ (sym w.value-is ∙ c.if-has_entry.false) in
      let told : is_touched (machine_of m) c.args.class c.args.seg ≡ false =
      ap (λ (b : Bool). b || list_any (λ e. is_some e) (entries_of m.shared (words_in m.words c.args.class).guarded c.args.seg)) counted ∙ entries in
      nothing_due _ _ (untouched (machine_of m) c.args.class c.args.seg told)
]
