use Rattle.std.proofs.Common.{length}
use Rattle.safe_save.specs.Disk.{DiffersIn}
use Rattle.safe_save.proofs.Moments.{started, goes_on, sync_keeps}
use Rattle.safe_save.proofs.Images.{same_image, written_images}
use Rattle.safe_save.proofs.keeping.write_through.Goals as goal

pub returns-in_err-write-clause-any_moment : goal.returns-in_err-write-clause-any_moment
returns-in_err-write-clause-any_moment g c h =
    let disk = g.D.Disk in
    let before = c.args.disk.now in
    let image = disk.seen before in
    let P = DiffersIn c.args.at (length c.args.bytes.now) image in
    let only = c.requires.only h in
    let start = started disk.moment disk.left_since before P (λ x left. same_image _ _ image x ((only x).0 (g.met.D.Disk.only_now before x h left))) in
    let kept = written_images c.args.at (length c.args.bytes.now) image (disk.may_leave before) (disk.may_leave c.write.new.self) only (c.write.ensures.images h) in
    goes_on disk.moment disk.left_since before before c.write.new.self P (disk.may_leave c.write.new.self) start (c.write.ensures.time h) kept

pub returns-clause-any_moment : goal.returns-clause-any_moment
returns-clause-any_moment g c h =
    let disk = g.D.Disk in
    let before = c.args.disk.now in
    let image = disk.seen before in
    let P = DiffersIn c.args.at (length c.args.bytes.now) image in
    let only = c.requires.only h in
    let start = started disk.moment disk.left_since before P (λ x left. same_image _ _ image x ((only x).0 (g.met.D.Disk.only_now before x h left))) in
    let kept = written_images c.args.at (length c.args.bytes.now) image (disk.may_leave before) (disk.may_leave c.write.new.self) only (c.write.ensures.images h) in
    let wrote = goes_on disk.moment disk.left_since before before c.write.new.self P (disk.may_leave c.write.new.self) start (c.write.ensures.time h) kept in
    let still = c.write.ensures.honest.0 h in
    let synced = sync_keeps c.sync.result (disk.seen c.write.new.self) (disk.seen c.sync.new.self) (disk.may_leave c.write.new.self) (disk.may_leave c.sync.new.self)
    (c.sync.ensures.only still) (c.sync.ensures.images still) (c.sync.ensures.seen still) (g.met.D.Disk.shown c.write.new.self still) in
    goes_on disk.moment disk.left_since before c.write.new.self c.sync.new.self P (disk.may_leave c.sync.new.self) wrote (c.sync.ensures.time still) (λ x left. kept x (synced x left))
