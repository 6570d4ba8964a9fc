use Rattle.std.proofs.Common.{◌≡◌, List, ap, sym, ◌∙◌, arith, length}
use Rattle.machine.specs.Processing.{Processing, live_count}
use Rattle.machine.specs.Banks.{vp_in}
use Rattle.processors.specs.Turns.{ProcessorState}
use Rattle.processors.proofs.Living.{lives_at, none_lives, one_more}
use Rattle.processors.proofs.processor.Processor.is_live.Goals as goal

pub loop-class-preserved : goal.loop-class-preserved
loop-class-preserved c =
    let b : c.self.inside.bank ≡ c.args.self.now.bank = ap (λ (p : ProcessorState). p.bank) c.self.view_is in
    one_more c.args.self.now.bank c.loop-class.class c.loop-class.invariant
    (ap (λ (x : List Processing). live_count (vp_in x c.loop-class.class).slots) (sym b) ∙ (ap (λ (v : Processing). live_count v.slots) (sym c.at.ensures) ∙ c.is_idle.ensures.0 c.if-not-is_idle.false))

pub returns-then-not-is_idle : goal.returns-then-not-is_idle
returns-then-not-is_idle c =
    let n = c.count-class-end.ensures ∙ ap length c.table.ensures in
    let r = c.requires in
    let b : c.self.inside.bank ≡ c.args.self.now.bank = ap (λ (p : ProcessorState). p.bank) c.self.view_is in
    sym (lives_at c.args.self.now.bank c.loop-class.class (omega (arith, n, r))
    (λ h. let t = c.is_idle.ensures.1 (ap (λ (v : Processing). live_count v.slots) c.at.ensures ∙ (ap (λ (x : List Processing). live_count (vp_in x c.loop-class.class).slots) b ∙ h)) in cc))

pub returns : goal.returns
returns c =
    let n = c.count-class-end.ensures ∙ ap length c.table.ensures in
    let r = c.requires in
    sym (none_lives c.args.self.now.bank (λ d l. c.loop-class.invariant d (omega (arith, n, r, l))))
