use Rattle.std.proofs.Common.{refl, ap, ◌∙◌, arith}
use Rattle.machine.specs.Processing.{Processing, live_count}
use Rattle.machine.proofs.Ended.{has_ended, not_ended}
use Rattle.machine.proofs.machine.Machine.ended.Goals as goal

pub returns-then-not-is_idle : goal.returns-then-not-is_idle
returns-then-not-is_idle g c = (
  λ t. absurd (cc),
  λ all. absurd (not_ended c.args.self.now c.args.class c.loop-processor.processor
      (λ zero. let idle = c.is_idle.ensures.1 (ap (λ (v : Processing). live_count v.slots) c.virtual_processor.ensures ∙ zero) in absurd (cc)) all),
)

pub returns : goal.returns
returns g c = (λ t. has_ended c.args.self.now c.args.class (λ p lt. c.loop-processor.invariant p (omega arith)), λ all. refl)
