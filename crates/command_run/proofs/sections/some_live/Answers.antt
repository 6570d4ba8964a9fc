use Rattle.std.proofs.Common.{sym, ap, ◌∙◌, arith, length}
use Rattle.class_model.specs.Config.{Shared, classes}
use Rattle.machine.specs.Banks.{machine_of}
use Rattle.command_run.specs.Headline.{class_live}
use Rattle.command_run.proofs.Living.{none_below, some_below, ended_not_live, lives_on, one_more}
use Rattle.command_run.proofs.sections.some_live.Goals as goal

pub loop-class-preserved : goal.loop-class-preserved
loop-class-preserved c = one_more (class_live (machine_of c.args.machine.now)) c.loop-class.class c.loop-class.invariant
    (ended_not_live c.args.machine.now c.loop-class.class (c.ended.ensures.0 c.if-not-ended.false))

pub returns-then-not-ended : goal.returns-then-not-ended
returns-then-not-ended c =
    let n = c.count-class-end.ensures ∙ ap length (c.table.ensures ∙ ap (λ (s : Shared). s.table) c.shared.ensures) in
    sym (some_below (class_live (machine_of c.args.machine.now)) (classes c.args.machine.now.shared) c.loop-class.class (omega (arith, n))
    (lives_on c.args.machine.now c.loop-class.class c.machine_law.ensures.most (λ h. let t = c.ended.ensures.1 h in cc)))

pub returns : goal.returns
returns c =
    let n = c.count-class-end.ensures ∙ ap length (c.table.ensures ∙ ap (λ (s : Shared). s.table) c.shared.ensures) in
    sym (none_below (class_live (machine_of c.args.machine.now)) (classes c.args.machine.now.shared) (λ d l. c.loop-class.invariant d (omega (arith, n, l))))
