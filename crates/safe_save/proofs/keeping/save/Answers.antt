use Rattle.std.proofs.Common.{inr, ap, sym, ◌∙◌, arith}
use Rattle.safe_save.specs.Kept.{kept, IsOldOrNew}
use Rattle.safe_save.proofs.Moments.{seen_has}
use Rattle.safe_save.proofs.Halves.{staged, switched}
use Rattle.safe_save.proofs.Runs.{while_staging, while_switching}
use Rattle.safe_save.proofs.keeping.save.Goals as goal

-- the new image is written
pub returns-in_err-write_through-clause-any_moment : goal.returns-in_err-write_through-clause-any_moment
returns-in_err-write_through-clause-any_moment g c h =
    let disk = g.D.Disk in
    let place = c.requires.open.in_use h in
    while_staging disk.moment disk.left_since c.args.place.now.half c.half_start-start.result c.args.bytes.now (disk.seen c.args.disk.now) c.requires.open.half place.half c.requires.stored.fits c.half_start-start.ensures
    c.args.disk.now c.write_through.new.disk (c.write_through.ensures.any_moment h)

pub returns-in_err-write_through-clause-seen : goal.returns-in_err-write_through-clause-seen
returns-in_err-write_through-clause-seen g c h =
    let disk = g.D.Disk in
    let laws = g.met.D.Disk in
    let place = c.requires.open.in_use h in
    let still = c.write_through.ensures.honest.0 h in
    let run = while_staging disk.moment disk.left_since c.args.place.now.half c.half_start-start.result c.args.bytes.now (disk.seen c.args.disk.now) c.requires.open.half place.half c.requires.stored.fits c.half_start-start.ensures
    c.args.disk.now c.write_through.new.disk (c.write_through.ensures.any_moment h) in
    seen_has disk.moment disk.left_since c.args.disk.now c.write_through.new.disk (IsOldOrNew (kept (disk.seen c.args.disk.now)) c.args.bytes.now) (disk.may_leave c.write_through.new.disk) (disk.seen c.write_through.new.disk)
    run (λ t x le left. laws.counts_now c.write_through.new.disk t x still le left) (laws.shown c.write_through.new.disk still)

-- the gate is written
pub returns-in_err-write_through-2-clause-any_moment : goal.returns-in_err-write_through-2-clause-any_moment
returns-in_err-write_through-2-clause-any_moment g c h =
    let disk = g.D.Disk in
    let laws = g.met.D.Disk in
    let half = c.args.place.now.half in
    let image = disk.seen c.args.disk.now in
    let place = c.requires.open.in_use h in
    let still = c.write_through.ensures.honest.0 h in
    let ready = staged half c.half_start-start.result c.args.bytes.now image (disk.seen c.write_through.new.disk) c.requires.open.half place.half c.requires.stored (laws.size c.args.disk.now h) c.half_start-start.ensures (c.in_ok-write_through.ensures.written h) in
    while_switching disk.moment disk.left_since half c.half_start-start.result c.args.bytes.now image c.requires.open.half place.half c.requires.stored.fits c.half_start-start.ensures
    c.args.disk.now c.write_through.new.disk c.write_through-2.new.disk (disk.seen c.write_through.new.disk) ready (c.write_through.ensures.any_moment h) (c.write_through-2.ensures.any_moment still)

pub returns-in_err-write_through-2-clause-seen : goal.returns-in_err-write_through-2-clause-seen
returns-in_err-write_through-2-clause-seen g c h =
    let disk = g.D.Disk in
    let laws = g.met.D.Disk in
    let half = c.args.place.now.half in
    let image = disk.seen c.args.disk.now in
    let place = c.requires.open.in_use h in
    let still = c.write_through.ensures.honest.0 h in
    let end = c.write_through-2.ensures.honest.0 still in
    let ready = staged half c.half_start-start.result c.args.bytes.now image (disk.seen c.write_through.new.disk) c.requires.open.half place.half c.requires.stored (laws.size c.args.disk.now h) c.half_start-start.ensures (c.in_ok-write_through.ensures.written h) in
    let run = while_switching disk.moment disk.left_since half c.half_start-start.result c.args.bytes.now image c.requires.open.half place.half c.requires.stored.fits c.half_start-start.ensures
    c.args.disk.now c.write_through.new.disk c.write_through-2.new.disk (disk.seen c.write_through.new.disk) ready (c.write_through.ensures.any_moment h) (c.write_through-2.ensures.any_moment still) in
    seen_has disk.moment disk.left_since c.args.disk.now c.write_through-2.new.disk (IsOldOrNew (kept image) c.args.bytes.now) (disk.may_leave c.write_through-2.new.disk) (disk.seen c.write_through-2.new.disk)
    run (λ t x le left. laws.counts_now c.write_through-2.new.disk t x end le left) (laws.shown c.write_through-2.new.disk end)

pub returns-clause-any_moment : goal.returns-clause-any_moment
returns-clause-any_moment g c h =
    let disk = g.D.Disk in
    let laws = g.met.D.Disk in
    let half = c.args.place.now.half in
    let image = disk.seen c.args.disk.now in
    let place = c.requires.open.in_use h in
    let still = c.write_through.ensures.honest.0 h in
    let ready = staged half c.half_start-start.result c.args.bytes.now image (disk.seen c.write_through.new.disk) c.requires.open.half place.half c.requires.stored (laws.size c.args.disk.now h) c.half_start-start.ensures (c.in_ok-write_through.ensures.written h) in
    while_switching disk.moment disk.left_since half c.half_start-start.result c.args.bytes.now image c.requires.open.half place.half c.requires.stored.fits c.half_start-start.ensures
    c.args.disk.now c.write_through.new.disk c.write_through-2.new.disk (disk.seen c.write_through.new.disk) ready (c.write_through.ensures.any_moment h) (c.write_through-2.ensures.any_moment still)

-- and then the new image is kept, whatever a crash leaves
pub returns-clause-lasting : goal.returns-clause-lasting
returns-clause-lasting g c h x left =
    let disk = g.D.Disk in
    let laws = g.met.D.Disk in
    let half = c.args.place.now.half in
    let image = disk.seen c.args.disk.now in
    let place = c.requires.open.in_use h in
    let still = c.write_through.ensures.honest.0 h in
    let mid = disk.seen c.write_through.new.disk in
    let ready = staged half c.half_start-start.result c.args.bytes.now image mid c.requires.open.half place.half c.requires.stored (laws.size c.args.disk.now h) c.half_start-start.ensures (c.in_ok-write_through.ensures.written h) in
    let done = switched half c.args.bytes.now image mid (disk.seen c.write_through-2.new.disk) c.requires.open.half ready (c.in_ok-write_through-2.ensures.written still) in
    ap kept ((c.in_ok-write_through-2.ensures.only still x).0 left) ∙ done.kept

pub returns-clause-saved : goal.returns-clause-saved
returns-clause-saved g c h =
    let disk = g.D.Disk in
    let laws = g.met.D.Disk in
    let half = c.args.place.now.half in
    let image = disk.seen c.args.disk.now in
    let place = c.requires.open.in_use h in
    let still = c.write_through.ensures.honest.0 h in
    let mid = disk.seen c.write_through.new.disk in
    let ready = staged half c.half_start-start.result c.args.bytes.now image mid c.requires.open.half place.half c.requires.stored (laws.size c.args.disk.now h) c.half_start-start.ensures (c.in_ok-write_through.ensures.written h) in
    let done = switched half c.args.bytes.now image mid (disk.seen c.write_through-2.new.disk) c.requires.open.half ready (c.in_ok-write_through-2.ensures.written still) in
    done.kept

pub returns-clause-seen : goal.returns-clause-seen
returns-clause-seen g c h =
    let disk = g.D.Disk in
    let laws = g.met.D.Disk in
    let half = c.args.place.now.half in
    let image = disk.seen c.args.disk.now in
    let place = c.requires.open.in_use h in
    let still = c.write_through.ensures.honest.0 h in
    let mid = disk.seen c.write_through.new.disk in
    let ready = staged half c.half_start-start.result c.args.bytes.now image mid c.requires.open.half place.half c.requires.stored (laws.size c.args.disk.now h) c.half_start-start.ensures (c.in_ok-write_through.ensures.written h) in
    let done = switched half c.args.bytes.now image mid (disk.seen c.write_through-2.new.disk) c.requires.open.half ready (c.in_ok-write_through-2.ensures.written still) in
    inr done.kept

pub returns-clause-open : goal.returns-clause-open
returns-clause-open g c =
    let disk = g.D.Disk in
    let laws = g.met.D.Disk in
    let half = c.args.place.now.half in
    let image = disk.seen c.args.disk.now in
    let mid = disk.seen c.write_through.new.disk in
    let low = c.requires.open.half in
    let fits = c.requires.stored.fits in
    record {
      half = omega arith;
      length = omega arith;
      only = λ end. c.in_ok-write_through-2.ensures.only (c.write_through-2.ensures.honest.1 end);
      in_use = λ end.
          let still = c.write_through-2.ensures.honest.1 end in
          let h = c.write_through.ensures.honest.1 still in
          let place = c.requires.open.in_use h in
          let ready = staged half c.half_start-start.result c.args.bytes.now image mid low place.half c.requires.stored (laws.size c.args.disk.now h) c.half_start-start.ensures (c.in_ok-write_through.ensures.written h) in
          let done = switched half c.args.bytes.now image mid (disk.seen c.write_through-2.new.disk) low ready (c.in_ok-write_through-2.ensures.written still) in
          record { half = sym done.in_use; length = sym done.length };
    }
