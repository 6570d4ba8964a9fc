use Rattle.std.proofs.Common.{ap, length, arith}
use Rattle.volume_image.specs.Written.{record_bytes}
use Rattle.volume_image.proofs.Counting.{front_length}
use Rattle.worked_texts.proofs.volumes.drawn.Goals as goal

pub add-requires : goal.add-requires
unfolding record_bytes
add-requires c =
    omega (arith, c.start.ensures.room, c.in_ok-image.ensures.room, ap length c.start.ensures.bytes, front_length c.args.table.now 1 0, c.table_law.ensures.some)
