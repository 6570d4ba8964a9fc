use Rattle.std.proofs.Common.{◌≡◌, ℕ, true, false, ap, sym, ◌∙◌, arith, Option}
use Rattle.std.specs.Prelude.{is_some}
use Rattle.words_layout.specs.declared.coding.Alias.{Alias}
use Rattle.report.specs.Found.{entry_in}
use Rattle.report.proofs.Numbers.{any_more, any_at, any_all}
use Rattle.report.proofs.reading.has_entry.Goals as goal

pub returns-then-is_some : goal.returns-then-is_some
returns-then-is_some c =
    let test = λ (e : ℕ). is_some (entry_in c.args.machine.now c.args.class c.args.seg e) in
    let told : test c.loop-entry.entry ≡ true = sym (ap (λ (o : Option Alias). is_some o) c.find_entry.ensures) ∙ (sym c.is_some.ensures ∙ c.if-is_some.true) in
    sym (any_at test c.loop-entry.entry 8 (omega arith) c.loop-entry.invariant told)

pub loop-entry-preserved : goal.loop-entry-preserved
loop-entry-preserved c =
    let test = λ (e : ℕ). is_some (entry_in c.args.machine.now c.args.class c.args.seg e) in
    let told : test c.loop-entry.entry ≡ false = sym (ap (λ (o : Option Alias). is_some o) c.find_entry.ensures) ∙ (sym c.is_some.ensures ∙ c.if-is_some.false) in
    any_more test c.loop-entry.entry c.loop-entry.invariant told

pub returns : goal.returns
returns c =
    let test = λ (e : ℕ). is_some (entry_in c.args.machine.now c.args.class c.args.seg e) in
    sym (any_all test c.loop-entry.entry 8 (omega arith) (omega arith) c.loop-entry.invariant)
