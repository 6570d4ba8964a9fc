use Rattle.std.proofs.Common.{◌≡◌, ℕ, ◌*◌, ◌/◌, length, sym, ap, ◌∙◌, subst, arith}
use Rattle.class_model.specs.Config.{classes}
use Rattle.shared_words.specs.Ports.{Whole}
use Rattle.processors.specs.Lists.{plan_of, banks_of, numbers_of}
use Rattle.processors.specs.Rounds.{TeamHasTaken}
use Rattle.processors.specs.Teams.{dealt, team_count}
use Rattle.processors.proofs.Between.{team_runs_on, team_width}
use Rattle.processors.proofs.Turning.{Kept, keeps, no_lists_kept, team_machine, team_ran}
use Rattle.processors.proofs.running.rounds.Goals as goal

pub loop-taken-init : goal.loop-taken-init
loop-taken-init g c = record {
  table = ap (λ (w : Whole). w.table) c.requires.fresh;
  team = c.requires.processors;
  round = ap (λ (w : Whole). w.round) c.requires.fresh;
  kept = no_lists_kept c.args.parts.shared (plan_of c.args.parts.processors.first) c.args.parts.whole c.args.parts.words.table c.args.parts.processors c.requires.fresh;
  most = omega arith;
  size = c.requires.size;
}

pub is_live-requires : goal.is_live-requires
is_live-requires g c = team_width c.args.parts.shared c.args.parts.words (plan_of c.args.parts.processors.first) c.loop-taken.taken c.loop-taken.team c.loop-taken.invariant.team

pub loop-taken-preserved : goal.loop-taken-preserved
loop-taken-preserved g c =
    let i = c.loop-taken.invariant in
    let e = c.round-whole.ensures in
    let plan = plan_of c.args.parts.processors.first in
    record {
      table = e.table;
      team = team_runs_on c.args.parts.shared c.args.parts.words plan c.loop-taken.taken c.loop-taken.team c.round-whole.new.team (dealt c.args.parts.words (team_count c.loop-taken.team) c.loop-taken.whole) e.quanta.0 e.quanta.1 i.team;
      round = let r = i.round in let k = e.counted in omega arith;
      kept = keeps c.args.parts.shared c.args.parts.words plan (banks_of c.args.parts.processors) (numbers_of c.args.parts.processors) c.args.parts.whole.lists c.loop-taken.taken c.loop-taken.whole c.round-whole.result c.loop-taken.team c.round-whole.new.team e.quanta.0
          i.team i.round (sym c.is_live.ensures ∙ c.if-not-is_live.false) e.quanta.1 e.quanta.2 i.kept;
      most = let t = c.loop-taken-test.true in omega arith;
      size = i.size;
    }

pub returns-then-not-is_live-clause-runs : goal.returns-then-not-is_live-clause-runs
returns-then-not-is_live-clause-runs g c =
    let i = c.loop-taken.invariant in
    let n = c.classes-classes.ensures.length in
    let size = c.requires.size in
    let layout = c.requires.processors.first.layout in
    let long : length c.args.parts.words.words ≡ 34869 * classes c.args.parts.shared = omega arith in
    team_ran c.round_laws.ensures c.args.parts.shared c.args.parts.words c.args.parts.whole (plan_of c.args.parts.processors.first) c.loop-taken.taken c.args.parts.rounds c.args.parts.processors c.loop-taken.team c.loop-taken.whole c.close.new.into
    c.requires.fresh c.requires.processors c.cycle_fits.ensures long i.kept c.close.ensures.order i.round i.most (λ below. sym c.is_live.ensures ∙ c.if-not-is_live.true)

pub returns-then-not-is_live-clause-numbers : goal.returns-then-not-is_live-clause-numbers
returns-then-not-is_live-clause-numbers g c = c.loop-taken.invariant.kept.numbers_are

pub returns-then-not-is_live-clause-machine : goal.returns-then-not-is_live-clause-machine
returns-then-not-is_live-clause-machine g c =
    let i = c.loop-taken.invariant in
    team_machine c.args.parts.shared c.args.parts.words (plan_of c.args.parts.processors.first) c.loop-taken.taken (length c.close.new.into / 34869) c.loop-taken.team i.team (ap (λ (k : ℕ). k / 34869) (c.close.ensures.size ∙ i.size) ∙ c.requires.processors.first.layout)

pub returns-clause-runs : goal.returns-clause-runs
returns-clause-runs g c =
    let i = c.loop-taken.invariant in
    let plan = plan_of c.args.parts.processors.first in
    let n = c.classes-classes.ensures.length in
    let size = c.requires.size in
    let layout = c.requires.processors.first.layout in
    let long : length c.args.parts.words.words ≡ 34869 * classes c.args.parts.shared = omega arith in
    let same : c.loop-taken.taken ≡ c.args.parts.rounds = let a = c.loop-taken-test.false in let b = i.most in omega arith in
    let kept : Kept c.args.parts.shared plan (banks_of c.args.parts.processors) (numbers_of c.args.parts.processors) c.args.parts.whole.lists c.args.parts.rounds c.loop-taken.team c.loop-taken.whole.lists =
    subst (λ (k : ℕ). Kept c.args.parts.shared plan (banks_of c.args.parts.processors) (numbers_of c.args.parts.processors) c.args.parts.whole.lists k c.loop-taken.team c.loop-taken.whole.lists) same i.kept in
    team_ran c.round_laws.ensures c.args.parts.shared c.args.parts.words c.args.parts.whole plan c.args.parts.rounds c.args.parts.rounds c.args.parts.processors c.loop-taken.team c.loop-taken.whole c.close-2.new.into
    c.requires.fresh c.requires.processors c.cycle_fits.ensures long kept c.close-2.ensures.order (i.round ∙ same) (omega arith) (λ below. absurd (omega arith))

pub returns-clause-processors : goal.returns-clause-processors
returns-clause-processors g c =
    let i = c.loop-taken.invariant in
    let same : c.loop-taken.taken ≡ c.args.parts.rounds = let a = c.loop-taken-test.false in let b = i.most in omega arith in
    subst (λ (k : ℕ). TeamHasTaken c.args.parts.shared c.args.parts.words (plan_of c.args.parts.processors.first) k c.loop-taken.team) same i.team

pub returns-clause-numbers : goal.returns-clause-numbers
returns-clause-numbers g c = c.loop-taken.invariant.kept.numbers_are

pub returns-clause-machine : goal.returns-clause-machine
returns-clause-machine g c =
    let i = c.loop-taken.invariant in
    team_machine c.args.parts.shared c.args.parts.words (plan_of c.args.parts.processors.first) c.loop-taken.taken (length c.close-2.new.into / 34869) c.loop-taken.team i.team (ap (λ (k : ℕ). k / 34869) (c.close-2.ensures.size ∙ i.size) ∙ c.requires.processors.first.layout)
