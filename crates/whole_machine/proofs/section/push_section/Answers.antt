use Rattle.std.proofs.Common.{◌≡◌, ◌++◌, ◌∙◌, ◌∷◌, [], ℕ, List, ap, sym}
use Rattle.std.specs.Prelude.{codes, string_bytes}
use Rattle.std.specs.Fmt.{decimal}
use Rattle.std.specs.List.{flat_map}
use Rattle.labels.specs.Label.{ClassEntry, class_at}
use Rattle.class_model.specs.Report.{line_of, process_text, closing_text, some_live}
use Rattle.class_model.specs.Section.{seen_processes, seen_segments}
use Rattle.whole_machine.specs.Parts.{ListedPart, slots_in}
use Rattle.whole_machine.specs.Fits.{part_of_class}
use Rattle.whole_machine.specs.Steps.{standing, slot_in}
use Rattle.whole_machine.proofs.SegmentPieces.{section_pieces}
use Rattle.whole_machine.proofs.section.push_section.Goals as goal

pub push_processes-requires : goal.push_processes-requires
push_processes-requires c pr sl p h =
    ((c.requires.fits.fits c.args.class).processes pr sl p (ap (λ (q : ListedPart). slot_in q pr sl) (sym c.part_at-part.ensures) ∙ h)).regs

pub returns : goal.returns
returns c =
    let s = c.args.shared.now in
    let class = c.args.class in
    let out = string_bytes c.args.out.now in
    let part = part_of_class c.args.parts.now class in
    let A : List ℕ → List ℕ = λ n. line_of (codes "class" ∷ decimal class ∷ n ∷ []) in
    let B : List ℕ → List ℕ = λ ls. flat_map (λ v. line_of (codes "line" ∷ decimal v ∷ [])) ls in
    let C : ListedPart → List ℕ = λ q. flat_map process_text (seen_processes (slots_in q.bank)) in
    let D : List ℕ = closing_text (some_live (seen_processes part.slots)) (seen_segments (standing s c.args.parts.now) class) in
    let name = c.name.ensures ∙ ap (λ (t : List ClassEntry). (class_at t class).name) c.table.ensures in
    let lines = c.lines.ensures ∙ ap (λ (q : ListedPart). q.lines) c.part_at-part.ensures in
    let one : string_bytes c.push_class_line.new.out ≡ out ++ A (class_at s.table class).name = c.in_ok-push_class_line.ensures ∙ ap (λ (n : List ℕ). out ++ A n) name in
    let two : string_bytes c.push_lines.new.out ≡ out ++ A (class_at s.table class).name ++ B part.lines =
    c.in_ok-push_lines.ensures ∙ ap (λ (t : List ℕ). t ++ B c.lines.result.now) one ∙ ap (λ (ls : List ℕ). out ++ A (class_at s.table class).name ++ B ls) lines in
    let three = c.in_ok-push_processes.ensures ∙ ap (λ (t : List ℕ). t ++ C c.part_at-part.result.now) two ∙ ap (λ (q : ListedPart). out ++ A (class_at s.table class).name ++ B part.lines ++ C q) c.part_at-part.ensures in
    c.in_ok-push_closing.ensures ∙ ap (λ (t : List ℕ). t ++ D) three ∙
    section_pieces out (A (class_at s.table class).name) (B part.lines) (flat_map process_text (seen_processes part.slots)) D
