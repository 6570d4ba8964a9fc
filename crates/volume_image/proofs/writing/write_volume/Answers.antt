use Rattle.std.proofs.Common.{◌≡◌, Ok, ◌∙◌, length, arith}
use Rattle.std.specs.List.{flat_map}
use Rattle.volume_image.specs.declared.head.Format.TheVariants.{Two}
use Rattle.volume_image.specs.Written.{record_bytes, front, written}
use Rattle.volume_image.proofs.Putting.{puts_then}
use Rattle.volume_image.proofs.Whole.{front_written}
use Rattle.volume_image.proofs.Counting.{few_records}
use Rattle.volume_image.proofs.writing.write_volume.Goals as goal

is_written : (c : goal.In_ok-put_records) → c.put_records.new.out.items ≡ written c.args.table.now c.args.volume.now
is_written c =
    let rs = c.list.result.now in
    let same : rs ≡ c.args.volume.now = c.list.ensures in
    let both = puts_then c.new-out.result c.put_front.new.out c.put_records.new.out tt (Ok tt) (front c.args.table.now (length rs)) (flat_map record_bytes c.list-2.result.now) c.in_ok-put_front.ensures c.in_ok-put_records.ensures in
    both.0 ∙ rw (c.new-out.ensures.items, c.list-2.ensures, same) (front_written c.args.table.now c.args.volume.now)

pub returns-clause-written : goal.returns-clause-written
returns-clause-written c = is_written c

pub returns-clause-spells : goal.returns-clause-spells
returns-clause-spells c = (Two, c.requires, is_written c)

pub overflow_cast-list : goal.overflow_cast-list
overflow_cast-list c = rw c.list.ensures (omega (arith, few_records Two c.args.table.now c.args.volume.now c.table_law.ensures c.requires.records))
