use Rattle.std.proofs.Common.{◌≤◌, ap, sym, subst, ◌∙◌, arith, length}
use Rattle.std.specs.List.{All}
use Rattle.words_layout.specs.Segments.{seg}
use Rattle.class_model.specs.Config.{Config, low_record}
use Rattle.volume_image.specs.declared.head.Format.TheVariants.{Two}
use Rattle.loader.specs.Configuration.{configuration}
use Rattle.loader.specs.Records.{records_of, volume_at}
use Rattle.loader.specs.Seen.{sees, HasClasses}
use Rattle.loader.proofs.Seen.{seen_is, record_classes}
use Rattle.loader.proofs.FirstOfAll.{records_are, volume_valid}
use Rattle.loader.proofs.Collecting.{volume_more, volumes_ended}
use Rattle.loader.proofs.seeing.records_seen.Goals as goal

pub add_records-requires-clause-classes : goal.add_records-requires-clause-classes
add_records-requires-clause-classes c =
    let k = c.args.config.now in
    let vs = c.args.volumes.now in
    subst (All (HasClasses k.table)) (sym (records_are k vs c.loop-place.place c.index-volumes-place.result c.list-records.result.now c.loop-place-test.true c.list-records.ensures))
    (record_classes Two k.table (seg 0 0) (volume_at vs c.loop-place.place).1 (volume_valid k.table vs c.loop-place.place c.requires.volumes.valid c.loop-place-test.true).records)

pub loop-place-preserved : goal.loop-place-preserved
loop-place-preserved c =
    volume_more (low_record (sees c.args.config.now.table c.args.view)) c.args.volumes.now c.loop-place.place c.index-volumes-place.result c.list-records.result.now c.loop-place.all.items c.add_records.new.seen.items
    c.loop-place.invariant c.loop-place-test.true c.list-records.ensures c.in_ok-add_records.ensures

pub returns : goal.returns
returns c =
    let past : length c.args.volumes.now ≤ c.loop-place.place = omega (arith, c.loop-place-test.false) in
    c.of.ensures ∙ volumes_ended (low_record (sees c.args.config.now.table c.args.view)) c.args.volumes.now c.loop-place.place c.loop-place.all.items c.loop-place.invariant past
    ∙ ap (λ (k : Config). k.records) (sym (seen_is (configuration c.args.config.now (records_of c.args.volumes.now)) c.args.view))
