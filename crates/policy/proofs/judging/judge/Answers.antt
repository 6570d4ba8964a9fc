use Rattle.std.proofs.Common.{[], None, List, Bool, ◌≡◌, ◌∙◌, sym}
use Rattle.std.specs.Prelude.{if◌then◌else◌}
use Rattle.policy.specs.Known.{observes, modifies}
use Rattle.policy.specs.Verdict.{first_broken, observe_tests, modify_tests}
use Rattle.policy.specs.declared.rule.Rule.{Rule}
use Rattle.policy.proofs.Verdicts.{front_broken, front_passes}
use Rattle.policy.proofs.judging.judge.Goals as goal

pub returns-in-Some : goal.returns-in-Some
returns-in-Some c =
    let front : List (Bool × Rule) = if observes c.args.want.0 then observe_tests c.args.subject.now c.args.ring c.args.object.now c.args.brackets.now else [] in
    let rest : List (Bool × Rule) = if modifies c.args.want.0 then modify_tests c.args.subject.now c.args.ring c.args.object.now c.args.brackets.now else [] in
    front_broken front rest c.in-Some.rule (sym c.in-Some.ensures)

pub returns-in-Some-modifying_rule : goal.returns-in-Some-modifying_rule
returns-in-Some-modifying_rule c =
    let front : List (Bool × Rule) = if observes c.args.want.0 then observe_tests c.args.subject.now c.args.ring c.args.object.now c.args.brackets.now else [] in
    let rest : List (Bool × Rule) = if modifies c.args.want.0 then modify_tests c.args.subject.now c.args.ring c.args.object.now c.args.brackets.now else [] in
    let none : first_broken front ≡ None = sym c.in_default.ensures in
    front_passes front rest none ∙ sym c.in-Some-modifying_rule.ensures
