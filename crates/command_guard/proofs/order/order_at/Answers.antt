use Rattle.std.proofs.Common.{subst}
use Rattle.release_guard.specs.Text.{IsFault}
use Rattle.command_guard.proofs.Steps.{spelling_fails}
use Rattle.command_guard.proofs.order.order_at.Goals as goal

pub returns-in-Err-Fault-clause-fault : goal.returns-in-Err-Fault-clause-fault
returns-in-Err-Fault-clause-fault g c =
    let fault = rw c.in-Err-Fault.field-0-is at c.in-Err-Fault.ensures.right in
    spelling_fails _ _ _ _ _ c.in-Ok.ensures.bytes (subst (λ text. IsFault text c.in-Err-Fault.line c.in-Err-Fault.code) c.as_slice.ensures.value fault)
