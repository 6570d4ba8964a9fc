use Rattle.std.proofs.Common.{◌∙◌}
use Rattle.policy.specs.Private.{delete_tests}
use Rattle.tree_gates.specs.Tree.{delete_body}
use Rattle.tree_gates.specs.Deleting.{delete_by}
use Rattle.process.proofs.Bodied.{delete_replies}
use Rattle.process.proofs.Beginning.{begins_told, nesting_begun}
use Rattle.process.proofs.begins.begin_delete.Goals as goal

pub returns-clause-held : goal.returns-clause-held
returns-clause-held c =
    let told = begins_told c.args.known.now (delete_tests c.args.who.now.ring c.args.entry) (delete_by c.args.who.now.class c.args.entry) _ _ c.args.answer c.start-gate.ensures.act c.requires.usable c.requires.passed c.start-gate.ensures.fresh in (
      c.absorb.ensures.class ∙ c.start-gate.ensures.class,
      nesting_begun (delete_body c.args.who.now.class c.args.known.now.seg c.args.entry) c.args.answer _ _ _ _ told c.absorb.ensures.doing c.start-gate.ensures.reply c.absorb.ensures.reply (delete_replies c.args.who.now.class c.args.known.now.seg c.args.entry),
    )
