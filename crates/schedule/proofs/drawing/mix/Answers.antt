use Rattle.std.proofs.Common.{ℕ, ◌/◌, ◌%◌, ◌∷◌, [], ◌++◌, ap, ◌∙◌}
use Rattle.schedule.specs.Schedule.{event}
use Rattle.schedule.proofs.Draws.{drawn_on}
use Rattle.schedule.proofs.drawing.mix.Goals as goal

pub loop-preserved : goal.loop-preserved
loop-preserved c = drawn_on c.args.processors c.args.classes _ c.next_number-x.result _ _ _ _ _ c.next_number-x.ensures
    (c.in_ok-push.ensures.items
    ∙ ap (λ (p : ℕ). c.loop.events.items ++ event p c.remainder-in-loop.result ∷ []) (c.remainder.ensures ∙ ap (λ (d : ℕ). c.next_number-x.result / 8589934592 % d) c.new-by_processors.ensures)
    ∙ ap (λ (k : ℕ). c.loop.events.items ++ event (c.next_number-x.result / 8589934592 % c.args.processors) k ∷ [])
    (c.remainder-in-loop.ensures ∙ ap (λ (d : ℕ). c.next_number-x.result / 281474976710656 % d) c.new-by_classes.ensures))
    c.loop-test.true c.loop.invariant
