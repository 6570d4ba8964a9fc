use Rattle.std.proofs.Common.{◌≡◌, ◌∙◌, ap, subst, sym}
use Rattle.class_model.specs.Config.{instr_at}
use Rattle.class_model.specs.Plan.{Plan, plan, plan_of}
use Rattle.class_model.specs.Next.{IsNext, plan_by}
use Rattle.class_model.proofs.process.ProcessState.next.Goals as goal

pub returns-in-Some-clause-next : goal.returns-in-Some-clause-next
returns-in-Some-clause-next c =
    let s = c.args.shared.now in
    let d = c.args.class in
    let p = c.args.self.now in
    let instr : c.instr_at-instr.result ≡ instr_at s p.script p.place = cc c.instr_at-instr.ensures.instr in
    let asked : plan_by p c.in-Some.asked ≡ plan s d p = sym (c.in-Some.ensures.plan d) ∙ ap (λ i. plan_of s d p i) instr in
    subst (λ (q : Plan). IsNext d p q c.next_by.result) asked (c.next_by.ensures.next d p)

pub returns-in-Some-clause-passed : goal.returns-in-Some-clause-passed
returns-in-Some-clause-passed c = c.next_by.ensures.passed c.args.shared.now.table c.args.self.now c.in-Some.ensures.passed
