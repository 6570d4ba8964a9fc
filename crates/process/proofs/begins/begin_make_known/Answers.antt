use Rattle.std.proofs.Common.{◌∙◌, false, subst}
use Rattle.policy.specs.Outcome.{Outcome}
use Rattle.policy.specs.Private.{make_known_tests}
use Rattle.turns.specs.Doing.{Told}
use Rattle.tree_gates.specs.MakingKnown.{make_known_by, FoundBy}
use Rattle.process.specs.Shows.{IsLooking, IsLearning}
use Rattle.process.proofs.Stepping.{any_table, make_known_learns}
use Rattle.process.proofs.Beginning.{begins_told}
use Rattle.process.proofs.begins.begin_make_known.Goals as goal

pub returns-clause-held : goal.returns-clause-held
returns-clause-held c =
    let a = c.args in
    let t = a.table.now in
    let told = begins_told a.known.now (make_known_tests a.who.now.ring a.entry a.mode false) (make_known_by t a.who.now.class a.who.now.ring a.entry a.mode) _ _ a.answer
    (c.start-gate.ensures.act t) c.requires.usable c.requires.passed (c.start-gate.ensures.fresh t) in
    let looks : IsLooking IsLearning (Rattle.tree_gates.specs.MakingKnown.doing_of t c.absorb.new.self) =
    rw (c.absorb.ensures.doing, told) (make_known_learns t a.who.now.class a.who.now.ring a.known.now a.entry a.mode) in
    let found = subst (λ (x : Told Outcome). FoundBy c.start-gate.result c.absorb.new.self x.takes) told c.absorb.ensures.found in
    (c.absorb.ensures.class ∙ c.start-gate.ensures.class, found ∙ c.start-gate.ensures.found, λ other. any_table c.absorb.new.self t other looks)
