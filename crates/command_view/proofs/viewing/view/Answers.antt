use Rattle.std.proofs.Common.{ℕ, List, sym, subst}
use Rattle.loader.specs.Records.{Volumes, Loads}
use Rattle.machine.specs.Banks.{State}
use Rattle.low_answer.proofs.Shown.{low_shows, load_shows, low_ports}
use Rattle.command_view.specs.Viewed.{IsMachineSection, ViewShows, section_due}
use Rattle.command_view.proofs.viewing.view.Goals as goal

pub print_view-requires-clause-loads : goal.print_view-requires-clause-loads
print_view-requires-clause-loads g c = subst (λ (vs : Volumes). Loads c.in-Ok.input.config vs) c.as_slice.ensures.value c.in-Ok-run_view.ensures.fault

pub returns-in-Ok-run_view-clause-shows : goal.returns-in-Ok-run_view-clause-shows
returns-in-Ok-run_view-clause-shows g c =
    let loads = subst (λ (ws : Volumes). Loads c.in-Ok.input.config ws) c.as_slice.ensures.value c.in-Ok-run_view.ensures.fault in
    low_shows section_due IsMachineSection c.args.class _ _ _ c.in-Ok.input.config c.in-Ok.input.volumes.items c.in-Ok.ensures.input loads _ c.print_view.ensures

pub returns-in-Ok-run_view-clause-ports : goal.returns-in-Ok-run_view-clause-ports
returns-in-Ok-run_view-clause-ports g c = low_ports section_due IsMachineSection c.args.class _ _ _ (returns-in-Ok-run_view-clause-shows g c)

pub returns-clause-shows : goal.returns-clause-shows
returns-clause-shows g c = subst (ViewShows c.args.class (g.H.Host.ports c.args.host.now) (g.H.Host.ports c.read_input.new.host)) (sym c.load_answer.ensures)
    (load_shows section_due IsMachineSection c.args.class (State (List ℕ)) _ _ c.in-Ok.input.config c.in-Ok.input.volumes.items _ c.in-Err-run_view.error c.in-Ok.ensures.input c.as_slice.ensures.value c.in-Err-run_view.ensures.fault)

pub returns-clause-ports : goal.returns-clause-ports
returns-clause-ports g c = low_ports section_due IsMachineSection c.args.class _ _ _ (returns-clause-shows g c)
