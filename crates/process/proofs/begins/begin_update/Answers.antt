use Rattle.std.proofs.Common.{ap, ◌∙◌}
use Rattle.lists.specs.Lists.{part_of}
use Rattle.policy.specs.Outcome.{Outcome}
use Rattle.policy.specs.Private.{update_tests}
use Rattle.turns.specs.Doing.{SegmentTurn, Told}
use Rattle.data_gates.specs.Data.{update_body}
use Rattle.process.proofs.Bodied.{update_replies}
use Rattle.process.proofs.Beginning.{begins_told, restarts_told}
use Rattle.process.proofs.begins.begin_update.Goals as goal

pub returns-in-Update-clause-held : goal.returns-in-Update-clause-held
returns-in-Update-clause-held c =
    let a = c.args in
    let told = restarts_told _ (SegmentTurn a.known.now.seg (update_body a.known.now.seg a.offset (part_of a.words.now a.pad a.count))) _ a.answer
    c.restart.ensures.act c.restart.ensures.fresh in (
      c.absorb.ensures.class ∙ c.restart.ensures.class,
      rw (c.absorb.ensures.doing, told) (tt, update_replies a.known.now.seg a.offset (part_of a.words.now a.pad a.count)),
    )

pub returns-in_default : goal.returns-in_default
returns-in_default c =
    let a = c.args in
    let told = begins_told a.known.now (update_tests a.who.now.ring a.offset a.count a.pad) (λ k. SegmentTurn k.seg (update_body k.seg a.offset (part_of a.words.now a.pad a.count))) _ _ a.answer
    c.start-gate.ensures.act c.requires.usable c.requires.passed c.start-gate.ensures.fresh in
    record {
      doing = λ t. c.absorb-in_default.ensures.doing ∙ ap (λ (x : Told Outcome). x.doing) told;
      held = (
        c.absorb-in_default.ensures.class ∙ c.start-gate.ensures.class,
        rw (c.absorb-in_default.ensures.doing, told) (tt, update_replies a.known.now.seg a.offset (part_of a.words.now a.pad a.count)),
      );
    }
