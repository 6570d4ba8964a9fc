use Rattle.std.proofs.Common.{ap, arith, length}
use Rattle.std.specs.Prelude.{[]}
use Rattle.machine.specs.Banks.{machine_of}
use Rattle.volume_image.proofs.Counting.{front_length}
use Rattle.loader.specs.Configuration.{configuration}
use Rattle.end_volumes.specs.After.{tree_of_words}
use Rattle.end_volumes.proofs.AfterVolume.{whole}
use Rattle.end_volumes.proofs.after.volume_after.Goals as goal

pub add_records-requires-clause-room : goal.add_records-requires-clause-room
add_records-requires-clause-room c = omega (arith, c.requires.made, ap length c.start.ensures.bytes, front_length c.args.config.now.table c.count_of-count.result 0, c.start.ensures.room)

pub returns-clause-bytes : goal.returns-clause-bytes
returns-clause-bytes c =
    whole (configuration c.args.config.now []) c.args.volume c.args.config.now.table (tree_of_words (machine_of c.args.machine.now)) c.of-origins.result c.requires.valid.table.few (ap length c.requires.table) c.of-origins.ensures
    c.count_of-count.result c.start.new.self.bytes c.add_records.new.image.bytes c.count_of-count.ensures c.start.ensures.bytes c.add_records.ensures.bytes
