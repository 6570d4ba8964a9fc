use Rattle.std.proofs.Common.{◌≡◌, length, ap, ◌∙◌, arith}
use Rattle.std.specs.Int.{w64, to_be_bytes}
use Rattle.volume_image.specs.Written.{written}
use Rattle.command_save.proofs.Images.{put_together, stored_image}
use Rattle.command_save.proofs.image.stored_bytes.Goals as goal

pub returns : goal.returns
returns c =
    let size = c.len.ensures in
    let number = c.to_be_bytes.ensures in
    let len : c.len.result ≡ length (written c.args.table.now c.args.volume.now) = omega (arith, ap length c.in_ok-image.ensures.written) in
    stored_image c.args.table.now c.args.volume.now c.extend_from_slice-2.new.self.items c.table_law.ensures c.requires.names c.requires.volume
    (put_together _ _ _ _ _ _ c.in_ok-extend_from_slice-2.ensures.items c.in_ok-extend_from_slice.ensures.items c.new-bytes.ensures.items (number ∙ ap (to_be_bytes w64) len) (c.as_slice.ensures.value ∙ c.in_ok-image.ensures.written))
