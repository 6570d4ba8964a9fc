use Rattle.safe_save.proofs.Moments.{started, goes_on, sync_keeps}
use Rattle.safe_save.proofs.keeping.open.Goals as goal

pub returns-then-length-gt-MAX_LENGTH-clause-any_moment : goal.returns-then-length-gt-MAX_LENGTH-clause-any_moment
returns-then-length-gt-MAX_LENGTH-clause-any_moment g c h =
    let disk = g.D.Disk in
    let laws = g.met.D.Disk in
    let before = c.args.disk.now in
    let P = disk.may_leave before in
    let second = c.sync.ensures.honest.0 h in
    let third = c.read.ensures.honest.0 second in
    let start = started disk.moment disk.left_since before P (λ x left. laws.only_now before x h left) in
    let synced = sync_keeps c.sync.result (disk.seen before) (disk.seen c.sync.new.self) P (disk.may_leave c.sync.new.self) (c.sync.ensures.only h) (c.sync.ensures.images h) (c.sync.ensures.seen h) (laws.shown before h) in
    let one = goes_on disk.moment disk.left_since before before c.sync.new.self P (disk.may_leave c.sync.new.self) start (c.sync.ensures.time h) synced in
    let two = goes_on disk.moment disk.left_since before c.sync.new.self c.read.new.self P (disk.may_leave c.read.new.self) one (c.read.ensures.time second) (λ x left. synced x ((c.read.ensures.images second x).0 left)) in
    goes_on disk.moment disk.left_since before c.read.new.self c.read-2.new.self P (disk.may_leave c.read-2.new.self) two (c.read-2.ensures.time third)
    (λ x left. synced x ((c.read.ensures.images second x).0 ((c.read-2.ensures.images third x).0 left)))

pub returns-clause-any_moment : goal.returns-clause-any_moment
returns-clause-any_moment g c h =
    let disk = g.D.Disk in
    let laws = g.met.D.Disk in
    let before = c.args.disk.now in
    let P = disk.may_leave before in
    let second = c.sync.ensures.honest.0 h in
    let third = c.read.ensures.honest.0 second in
    let start = started disk.moment disk.left_since before P (λ x left. laws.only_now before x h left) in
    let synced = sync_keeps c.sync.result (disk.seen before) (disk.seen c.sync.new.self) P (disk.may_leave c.sync.new.self) (c.sync.ensures.only h) (c.sync.ensures.images h) (c.sync.ensures.seen h) (laws.shown before h) in
    let one = goes_on disk.moment disk.left_since before before c.sync.new.self P (disk.may_leave c.sync.new.self) start (c.sync.ensures.time h) synced in
    let two = goes_on disk.moment disk.left_since before c.sync.new.self c.read.new.self P (disk.may_leave c.read.new.self) one (c.read.ensures.time second) (λ x left. synced x ((c.read.ensures.images second x).0 left)) in
    goes_on disk.moment disk.left_since before c.read.new.self c.read-2.new.self P (disk.may_leave c.read-2.new.self) two (c.read-2.ensures.time third)
    (λ x left. synced x ((c.read.ensures.images second x).0 ((c.read-2.ensures.images third x).0 left)))
