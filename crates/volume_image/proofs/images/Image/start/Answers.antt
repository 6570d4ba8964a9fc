use Rattle.std.proofs.Common.{arith}
use Rattle.volume_image.proofs.Counting.{front_length}
use Rattle.volume_image.proofs.images.Image.start.Goals as goal

pub unreachable-requires : goal.unreachable-requires
unreachable-requires c =
    let made = rw (← c.self.view_is) at c.requires in
    omega (arith, made, c.self.inside.bytes.ok.0, c.clear.ensures.len, c.clear.ensures.capacity, c.in-Err.ensures, front_length c.args.table.now 0 c.args.records)
