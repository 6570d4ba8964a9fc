use Rattle.std.proofs.Common.{◌≡◌, ◌++◌, ◌∙◌, ℕ, List, Bool, false, ap, sym, append_assoc}
use Rattle.std.specs.Prelude.{codes, string_bytes}
use Rattle.std.specs.List.{flat_map}
use Rattle.words_layout.specs.declared.segment.SegId.{SegId}
use Rattle.class_model.specs.Config.{classes}
use Rattle.class_model.specs.State.{identities, cell_at, eventcount}
use Rattle.class_model.specs.Report.{closing_text, some_live}
use Rattle.class_model.specs.Section.{is_touched, seen_segment, seen_segments, seen_processes}
use Rattle.whole_machine.specs.Parts.{ListedPart, slots_in}
use Rattle.whole_machine.specs.Fits.{part_of_class}
use Rattle.whole_machine.specs.Steps.{standing}
use Rattle.whole_machine.specs.Texts.{cell_text}
use Rattle.whole_machine.proofs.SegmentPieces.{touched_only}
use Rattle.whole_machine.proofs.section.push_closing.Goals as goal

pub returns : goal.returns
returns c =
    let a = standing c.args.shared.now c.args.parts.now in
    let class = c.args.class in
    let out = string_bytes c.args.out.now in
    let ids = identities (classes c.args.shared.now) in
    let live : some_live (seen_processes (part_of_class c.args.parts.now class).slots) ≡ false =
    ap (λ (q : ListedPart). some_live (seen_processes (slots_in q.bank))) (sym c.part_at.ensures) ∙ sym c.some_live.ensures ∙ c.if-some_live.false in
    c.in_ok-push_segments.ensures ∙ ap (λ (t : List ℕ). t ++ flat_map (cell_text a class) ids) c.in_ok-push_str.ensures.bytes ∙
    append_assoc out (codes "closed\n") (flat_map (cell_text a class) ids) ∙
    ap (λ (t : List ℕ). out ++ (codes "closed\n" ++ t)) (touched_only (λ (u : SegId). is_touched (cell_at a class u) (eventcount a class u)) (λ (u : SegId). seen_segment u (cell_at a class u) (eventcount a class u)) ids) ∙
    ap (λ (b : Bool). out ++ closing_text b (seen_segments a class)) (sym live)
