use Rattle.std.proofs.Common.{ℕ, ◌+◌, ◌∙◌, Err, refl, sym, ap, subst}
use Rattle.text_lines.specs.Lines.{views}
use Rattle.text_lines.specs.Faults.{lines_answer}
use Rattle.release_guard.specs.declared.fault.Code.TheVariants as code
use Rattle.release_guard.specs.declared.fault.Refusal.TheVariants as refusal
use Rattle.release_guard.specs.Place.{place_of, start}
use Rattle.release_guard.specs.Rules.{order_rules}
use Rattle.release_guard.specs.Reading.{Reads, error_of}
use Rattle.release_guard.proofs.Stepping.{taken, halts, unended}
use Rattle.release_guard.proofs.reading.read.Goals as goal

pub loop-line-preserved : goal.loop-line-preserved
loop-line-preserved c =
    let step = rw c.in_default.is at c.step.ensures in
    let t = taken c.args.lines.now c.loop-line.line-index (c.loop-line.line-index + 1) _ _ (place_of c.loop-line.draft) (place_of c.step.new.self) c.in_default.field-0 _ c.loop-line-test.true refl step c.loop-line.invariant.answer in
    record { number = t.0 ∙ ap (λ (n : ℕ). n + 1) c.loop-line.invariant.number; answer = t.1 }

pub returns-in-Err : goal.returns-in-Err
returns-in-Err c =
    let step = rw c.in-Err.is at c.step.ensures in
    let h = halts c.args.lines.now c.loop-line.line-index (c.loop-line.line-index + 1) _ _ (place_of c.loop-line.draft) (place_of c.step.new.self) c.in-Err.refusal _ c.loop-line-test.true refl step c.loop-line.invariant.answer in
    let e = c.refused.ensures ∙ ap (λ (n : ℕ). error_of n c.in-Err.refusal) c.loop-line.invariant.number in
    subst (λ e. Reads (Err e) (lines_answer order_rules start 1 (views c.args.lines.now))) (sym e) h

pub returns-then-is_unended_draft : goal.returns-then-is_unended_draft
returns-then-is_unended_draft c =
    let u = unended c.args.lines.now c.loop-line.line-index (c.loop-line.line-index + 1) (place_of c.loop-line.draft) _ c.loop-line-test.false (sym c.if-is_unended_draft.ensures) c.loop-line.invariant.answer in
    let e = c.fault_at.ensures ∙ ap (λ (n : ℕ). error_of n (refusal.Code code.Missing)) c.loop-line.invariant.number in
    subst (λ e. Reads (Err e) (lines_answer order_rules start 1 (views c.args.lines.now))) (sym e) (code.Missing, u, refl)
