use Rattle.std.proofs.Common.{ap, ◌∙◌}
use Rattle.policy.specs.Outcome.{Outcome}
use Rattle.policy.specs.Private.{fetch_tests}
use Rattle.words_layout.specs.Words.{OfSegment}
use Rattle.turns.specs.Doing.{Look, Told}
use Rattle.data_gates.specs.Data.{fetch_body}
use Rattle.process.proofs.Bodied.{fetch_shows}
use Rattle.process.proofs.Beginning.{begins_told, restarts_told}
use Rattle.process.proofs.begins.begin_fetch.Goals as goal

pub returns-in-Fetch-clause-held : goal.returns-in-Fetch-clause-held
returns-in-Fetch-clause-held c =
    let a = c.args in
    let told = restarts_told _ (Look a.known.now.class (OfSegment a.known.now.seg) (fetch_body a.known.now.seg a.offset a.count a.pad)) _ a.answer
    c.restart.ensures.act c.restart.ensures.fresh in
    rw (c.absorb.ensures.doing, told) (fetch_shows a.known.now.seg a.offset a.count a.pad)

pub returns-in_default : goal.returns-in_default
returns-in_default c =
    let a = c.args in
    let told = begins_told a.known.now (fetch_tests a.who.now.ring a.offset a.count a.pad) (λ k. Look k.class (OfSegment k.seg) (fetch_body k.seg a.offset a.count a.pad)) _ _ a.answer
    c.start-gate.ensures.act c.requires.usable c.requires.passed c.start-gate.ensures.fresh in
    record {
      doing = λ t. c.absorb-in_default.ensures.doing ∙ ap (λ (x : Told Outcome). x.doing) told;
      held = rw (c.absorb-in_default.ensures.doing, told) (fetch_shows a.known.now.seg a.offset a.count a.pad);
    }
