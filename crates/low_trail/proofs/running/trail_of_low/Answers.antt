use Rattle.loader.specs.Configuration.{configuration}
use Rattle.loader.specs.Records.{records_of}
use Rattle.class_model.specs.Config.{low_config}
use Rattle.schedule.specs.Schedule.{events_of}
use Rattle.low_trail.specs.LowTrail.{low_order}
use Rattle.low_trail.proofs.Ranges.{below_as}
use Rattle.low_trail.proofs.running.trail_of_low.Goals as goal

pub audit-requires : goal.audit-requires
audit-requires c = below_as _ _ _ _ c.as_slice.ensures.value c.in_ok-state.ensures.classes c.in_ok-order.ensures.names

pub returns-clause-allowed : goal.returns-clause-allowed
returns-clause-allowed c =
    let k = configuration c.args.config.now (records_of c.args.volumes.now) in
    let valid = c.volumes_law.ensures c.args.config.now c.requires.valid c.args.volumes.now c.requires.volumes c.in_ok-order.ensures.fault in
    c.access_laws.ensures.accesses (low_config c.args.class k) (low_order c.args.class k (events_of c.args.config.now)) (c.flow_laws.ensures.parts k valid c.args.class)
