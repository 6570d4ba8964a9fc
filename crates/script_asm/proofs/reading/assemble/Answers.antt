use Rattle.std.proofs.Common.{◌≡◌, length, sym, ap, subst, ◌∙◌, arith}
use Rattle.std.proofs.lemmas.List.{length-map}
use Rattle.text_lines.specs.Lines.{lines, views}
use Rattle.text_lines.proofs.LineCount.{few_lines}
use Rattle.script_asm.specs.Spelling.{Spells}
use Rattle.script_asm.specs.Answer.{IsFault}
use Rattle.script_asm.proofs.reading.assemble.Goals as goal

pub read_lines-requires : goal.read_lines-requires
read_lines-requires c =
    let same : views c.as_slice.result.now ≡ lines c.args.text.now = ap views c.as_slice.ensures.value ∙ c.in_ok-list.ensures ∙ ap lines c.as_bytes.ensures.value in
    let many : length (views c.as_slice.result.now) ≡ length c.as_slice.result.now = length-map c.as_slice.result.now (λ w. w.now) in
    let few = few_lines c.args.text.now in
    let equal = ap length same in
    omega arith

pub returns-clause-only : goal.returns-clause-only
returns-clause-only c =
    let same : views c.as_slice.result.now ≡ lines c.args.text.now = ap views c.as_slice.ensures.value ∙ c.in_ok-list.ensures ∙ ap lines c.as_bytes.ensures.value in
    λ program says. c.read_lines.ensures.only program (subst (λ ls. Spells ls program) (sym same) says)

pub returns-clause-refused : goal.returns-clause-refused
returns-clause-refused c =
    let same : views c.as_slice.result.now ≡ lines c.args.text.now = ap views c.as_slice.ensures.value ∙ c.in_ok-list.ensures ∙ ap lines c.as_bytes.ensures.value in
    λ line code fault. c.read_lines.ensures.refused line code (subst (λ ls. IsFault ls line code) (sym same) fault)
