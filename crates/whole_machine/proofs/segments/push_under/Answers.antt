use Rattle.std.proofs.Common.{◌≡◌, ◌++◌, ◌∙◌, ℕ, subst, arith}
use Rattle.std.specs.Prelude.{string_bytes, map}
use Rattle.std.specs.List.{flat_map}
use Rattle.lists.specs.Lists.{below}
use Rattle.words_layout.specs.Segments.{seg}
use Rattle.whole_machine.specs.Steps.{standing}
use Rattle.whole_machine.specs.Texts.{cell_text}
use Rattle.whole_machine.proofs.SegmentPieces.{serial_pushed}
use Rattle.whole_machine.proofs.segments.push_under.Goals as goal

pub loop-serial-preserved : goal.loop-serial-preserved
loop-serial-preserved c =
    c.in_ok-push_cell.ensures ∙
    serial_pushed (cell_text (standing c.args.shared.now c.args.parts.now) c.args.class) c.args.mentor c.loop-serial.serial (string_bytes c.args.out.now) (string_bytes c.loop-serial.out) c.loop-serial.invariant

pub returns : goal.returns
returns c =
    let all : c.loop-serial.serial ≡ c.args.limit = omega arith in
    subst (λ (n : ℕ). string_bytes c.loop-serial.out ≡ string_bytes c.args.out.now ++ flat_map (cell_text (standing c.args.shared.now c.args.parts.now) c.args.class) (map (λ s. seg c.args.mentor s) (below n))) all c.loop-serial.invariant
