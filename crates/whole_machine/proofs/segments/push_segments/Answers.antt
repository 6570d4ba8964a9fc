use Rattle.std.proofs.Common.{◌≡◌, ◌++◌, ◌∙◌, ℕ, subst, arith}
use Rattle.std.specs.Prelude.{string_bytes}
use Rattle.std.specs.List.{flat_map}
use Rattle.class_model.specs.Config.{classes}
use Rattle.class_model.specs.State.{identities}
use Rattle.whole_machine.specs.Steps.{standing}
use Rattle.whole_machine.specs.Texts.{cell_text}
use Rattle.whole_machine.proofs.SegmentPieces.{mentor_pushed}
use Rattle.whole_machine.proofs.segments.push_segments.Goals as goal

pub loop-mentor-preserved : goal.loop-mentor-preserved
loop-mentor-preserved c =
    c.in_ok-push_under.ensures ∙
    mentor_pushed (cell_text (standing c.args.shared.now c.args.parts.now) c.args.class) c.loop-mentor.mentor (string_bytes c.args.out.now) (string_bytes c.loop-mentor.out) c.loop-mentor.invariant

pub returns : goal.returns
returns c =
    let all : c.loop-mentor.mentor ≡ classes c.args.shared.now = grind arith in
    subst (λ (n : ℕ). string_bytes c.loop-mentor.out ≡ string_bytes c.args.out.now ++ flat_map (cell_text (standing c.args.shared.now c.args.parts.now) c.args.class) (identities n)) all c.loop-mentor.invariant
