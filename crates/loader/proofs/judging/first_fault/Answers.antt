use Rattle.std.proofs.Common.{subst, ◌≤◌, length, arith}
use Rattle.loader.specs.Records.{AnswersIn}
use Rattle.loader.proofs.FirstOfAll.{none_yet, one_volume_more, all_volumes}
use Rattle.loader.proofs.judging.first_fault.Goals as goal

pub loop-place-init : goal.loop-place-init
loop-place-init c = none_yet c.args.config.now c.args.volumes.now

pub returns-in-Some : goal.returns-in-Some
returns-in-Some c = record {
  place = c.loop-place.place;
  there = c.loop-place-test.true;
  fault = subst (AnswersIn c.args.config.now c.args.volumes.now c.loop-place.place) c.in-Some.is c.fault_in.ensures;
  first = c.loop-place.invariant;
}

pub loop-place-preserved : goal.loop-place-preserved
loop-place-preserved c =
    one_volume_more c.args.config.now c.args.volumes.now c.loop-place.place c.loop-place.invariant (subst (AnswersIn c.args.config.now c.args.volumes.now c.loop-place.place) c.in_default.is c.fault_in.ensures)

pub returns : goal.returns
returns c =
    let past : length c.args.volumes.now ≤ c.loop-place.place = omega (arith, c.loop-place-test.false) in
    all_volumes c.args.config.now c.args.volumes.now c.loop-place.place c.loop-place.invariant past
