use Rattle.end_volumes.proofs.AfterVolume.{record_fits, record_adds, mapped_few}
use Rattle.end_volumes.proofs.after.add_record.Goals as goal

pub add-requires : goal.add-requires
add-requires c = record_fits _ _ (mapped_few (λ w. w.now) c.stored_at-kept.result c.stored_at-kept.ensures.few) c.requires.room

pub returns-clause-few : goal.returns-clause-few
returns-clause-few c = record_adds _ _ _ c.add.ensures.bytes (mapped_few (λ w. w.now) c.stored_at-kept.result c.stored_at-kept.ensures.few)
