use Rattle.std.proofs.Common.{◌∙◌, arith}
use Rattle.volume_image.proofs.Whole.{ok_right, ok_only, ok_refused, err_only, err_right, err_refused}
use Rattle.volume_image.proofs.VolumeLaws.{spelled_valid}
use Rattle.volume_image.proofs.reading.read_volume.Goals as goal

pub returns-in-Ok-clause-right : goal.returns-in-Ok-clause-right
returns-in-Ok-clause-right c = ok_right c.args.table.now c.args.bytes.now c.in-Ok.records.items c.new.result c.new.ensures (λ i. omega (arith, c.type_inv.bytes i)) c.in-Ok.ensures

pub returns-in-Ok-clause-valid : goal.returns-in-Ok-clause-valid
returns-in-Ok-clause-valid c =
    spelled_valid c.args.table.now c.args.bytes.now c.new.result (ok_right c.args.table.now c.args.bytes.now c.in-Ok.records.items c.new.result c.new.ensures (λ i. omega (arith, c.type_inv.bytes i)) c.in-Ok.ensures)

pub returns-in-Ok-clause-only : goal.returns-in-Ok-clause-only
returns-in-Ok-clause-only c = λ v s. c.new.ensures ∙ ok_only c.args.table.now c.args.bytes.now c.in-Ok.records.items v c.table_law.ensures c.in-Ok.ensures s

pub returns-in-Err-clause-only : goal.returns-in-Err-clause-only
returns-in-Err-clause-only c = λ v s. rw c.error_of.ensures (err_only c.args.table.now c.args.bytes.now c.in-Err.stop c.table_law.ensures c.in-Err.ensures v s)

pub returns-in-Ok-clause-refused : goal.returns-in-Ok-clause-refused
returns-in-Ok-clause-refused c = λ o n b. ok_refused c.args.table.now c.args.bytes.now c.in-Ok.records.items c.in-Ok.ensures o n b

pub returns-in-Err-clause-right : goal.returns-in-Err-clause-right
returns-in-Err-clause-right c = rw c.error_of.ensures (err_right c.args.table.now c.args.bytes.now c.in-Err.stop c.in-Err.ensures)

pub returns-in-Err-clause-refused : goal.returns-in-Err-clause-refused
returns-in-Err-clause-refused c = λ o n b. rw c.error_of.ensures (err_refused c.args.table.now c.args.bytes.now c.in-Err.stop c.in-Err.ensures o n b)
