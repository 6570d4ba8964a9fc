use Rattle.std.proofs.Common.{sym, subst}
use Rattle.loader.specs.Records.{Volumes, Loads}
use Rattle.low_trail.specs.declared.running.LowTrail.{LowTrail}
use Rattle.low_answer.proofs.Shown.{low_shows, load_shows, low_ports}
use Rattle.command_audit.specs.Audited.{AuditShows, IsAllowed, trail_due}
use Rattle.command_audit.proofs.auditing.audit.Goals as goal

pub returns-in-Ok-trail_of_low-clause-shows : goal.returns-in-Ok-trail_of_low-clause-shows
returns-in-Ok-trail_of_low-clause-shows g c =
    let loads = subst (λ (ws : Volumes). Loads c.in-Ok.input.config ws) c.as_slice.ensures.value c.in-Ok-trail_of_low.ensures.fault in
    low_shows trail_due IsAllowed c.args.class _ _ _ c.in-Ok.input.config c.in-Ok.input.volumes.items c.in-Ok.ensures.input loads _ c.print_trail.ensures

pub returns-in-Ok-trail_of_low-clause-ports : goal.returns-in-Ok-trail_of_low-clause-ports
returns-in-Ok-trail_of_low-clause-ports g c = low_ports trail_due IsAllowed c.args.class _ _ _ (returns-in-Ok-trail_of_low-clause-shows g c)

pub returns-clause-shows : goal.returns-clause-shows
returns-clause-shows g c = subst (AuditShows c.args.class (g.H.Host.ports c.args.host.now) (g.H.Host.ports c.read_input.new.host)) (sym c.load_answer.ensures)
    (load_shows trail_due IsAllowed c.args.class LowTrail _ _ c.in-Ok.input.config c.in-Ok.input.volumes.items _ c.in-Err-trail_of_low.error c.in-Ok.ensures.input c.as_slice.ensures.value c.in-Err-trail_of_low.ensures.fault)

pub returns-clause-ports : goal.returns-clause-ports
returns-clause-ports g c = low_ports trail_due IsAllowed c.args.class _ _ _ (returns-clause-shows g c)
