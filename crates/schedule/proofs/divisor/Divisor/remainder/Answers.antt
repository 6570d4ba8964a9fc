use Rattle.std.proofs.Common.{ℕ, ◌<◌, ◌%◌, ap, ◌∙◌, subst, sym}
use Rattle.schedule.proofs.Remainders.{product_fits, remainder_by, remainder_below}
use Rattle.schedule.proofs.divisor.Divisor.remainder.Goals as goal

pub overflow_mul-result : goal.overflow_mul-result
overflow_mul-result c = record { fits = product_fits _ c.self.inside.by c.self.invariant.1 }

pub overflow_cast-result : goal.overflow_cast-result
overflow_cast-result c = record {
  fits = subst (λ (n : ℕ). n < 256) (sym (remainder_by c.args.number c.self.inside.by c.self.inside.inverse c.self.invariant.0 c.self.invariant.1 c.self.invariant.2 c.requires))
      (remainder_below c.args.number c.self.inside.by c.self.invariant.0 c.self.invariant.1);
}

pub returns : goal.returns
returns c = remainder_by c.args.number c.self.inside.by c.self.inside.inverse c.self.invariant.0 c.self.invariant.1 c.self.invariant.2 c.requires
    ∙ ap (λ (d : ℕ). c.args.number % d) c.self.view_is
