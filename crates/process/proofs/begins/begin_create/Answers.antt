use Rattle.std.proofs.Common.{◌∙◌}
use Rattle.policy.specs.Private.{brackets_of, create_tests}
use Rattle.tree_gates.specs.Creating.{create_by}
use Rattle.process.proofs.Bodied.{create_replies}
use Rattle.process.proofs.Beginning.{begins_told}
use Rattle.process.proofs.begins.begin_create.Goals as goal

pub returns-clause-held : goal.returns-clause-held
returns-clause-held c =
    let a = c.args in
    let told = begins_told a.known.now (create_tests a.table.now a.who.now.ring a.entry a.class a.brackets a.size) (create_by a.entry a.class a.brackets a.size) _ _ a.answer
    c.start-gate.ensures.act c.requires.usable c.requires.passed c.start-gate.ensures.fresh in (
      c.absorb.ensures.class ∙ c.start-gate.ensures.class,
      rw (c.absorb.ensures.doing, told) (create_replies a.known.now.seg a.entry a.class (brackets_of a.brackets) a.size),
    )
