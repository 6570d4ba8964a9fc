use Rattle.std.proofs.Common.{ℕ, List, sym, ap, subst, ◌<◌, ◌≤◌, length, ◌∙◌, arith}
use Rattle.text_lines.specs.Faults.{first_code}
use Rattle.class_model.specs.Config.{SegRecord}
use Rattle.loader.proofs.FirstOfAll.{few_before, few_in_front, class_there, volume_is, records_are, record_is, judged_as, least, no_code, no_item_yet, one_item_more, all_items}
use Rattle.loader.proofs.judging.fault_in.Goals as goal

pub loop-item-init : goal.loop-item-init
loop-item-init c = no_item_yet c.args.config.now c.args.volumes.now c.args.place

pub code_of-requires-clause-class : goal.code_of-requires-clause-class
code_of-requires-clause-class c =
    let own = records_are c.args.config.now c.args.volumes.now c.args.place c.index-volumes-place-2.result c.list-records.result.now c.requires.place c.list-records.ensures in
    subst (λ (r : SegRecord). r.class < length c.args.config.now.pools) (sym (record_is c.args.config.now c.args.volumes.now c.args.place c.loop-item.item c.list-records.result.now c.index-records-item.result own c.loop-item-test.true c.index-records-item.is))
    (class_there c.args.config.now c.args.volumes.now c.requires.valid c.requires.volumes c.args.place c.loop-item.item c.requires.place (subst (λ (rs : List SegRecord). c.loop-item.item < length rs) own c.loop-item-test.true))

pub code_of-requires-clause-few : goal.code_of-requires-clause-few
code_of-requires-clause-few c =
    few_in_front c.args.config.now c.args.volumes.now c.requires.valid c.requires.volumes c.args.place c.loop-item.item c.index-volumes-place-2.result c.list-records.result.now c.requires.place c.list-records.ensures c.loop-item-test.true

pub overflow_cast-result : goal.overflow_cast-result
overflow_cast-result c =
    let few = few_before c.args.config.now c.args.volumes.now c.requires.valid c.requires.volumes c.args.place c.loop-item.item c.index-volumes-place-2.result c.list-records.result.now c.requires.place c.list-records.ensures c.loop-item-test.true in
    omega (arith, few)

pub returns-in-Some : goal.returns-in-Some
returns-in-Some c =
    let own = records_are c.args.config.now c.args.volumes.now c.args.place c.index-volumes-place-2.result c.list-records.result.now c.requires.place c.list-records.ensures in
    let same = judged_as c.args.config.now c.args.volumes.now c.args.place c.loop-item.item c.index-volumes-place.result c.index-volumes-place-2.result c.list-records.result.now c.index-records-item.result c.requires.place c.list-records.ensures c.loop-item-test.true c.index-records-item.is in
    record {
      number = ap (λ (p : ℕ × List SegRecord). p.0) (volume_is c.args.config.now c.args.volumes.now c.args.place c.index-volumes-place.result c.requires.place);
      there = subst (λ (rs : List SegRecord). c.loop-item.item < length rs) own c.loop-item-test.true;
      here = least c.args.config.now c.args.volumes.now c.args.place c.loop-item.item c.in-Some.code (ap first_code (sym same) ∙ sym c.code_of.ensures ∙ c.in-Some.is);
      first = c.loop-item.invariant;
    }

pub loop-item-preserved : goal.loop-item-preserved
loop-item-preserved c =
    let same = judged_as c.args.config.now c.args.volumes.now c.args.place c.loop-item.item c.index-volumes-place.result c.index-volumes-place-2.result c.list-records.result.now c.index-records-item.result c.requires.place c.list-records.ensures c.loop-item-test.true c.index-records-item.is in
    one_item_more c.args.config.now c.args.volumes.now c.args.place c.loop-item.item c.loop-item.invariant (no_code c.args.config.now c.args.volumes.now c.args.place c.loop-item.item (ap first_code (sym same) ∙ sym c.code_of.ensures ∙ c.in_default.is))

pub returns : goal.returns
returns c =
    let own = records_are c.args.config.now c.args.volumes.now c.args.place c.index-volumes-place-2.result c.list-records.result.now c.requires.place c.list-records.ensures in
    let past : length c.list-records.result.now ≤ c.loop-item.item = omega (arith, c.loop-item-test.false) in
    all_items c.args.config.now c.args.volumes.now c.args.place c.loop-item.item c.list-records.result.now c.loop-item.invariant own past
