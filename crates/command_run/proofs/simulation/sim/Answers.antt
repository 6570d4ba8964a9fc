use Rattle.std.proofs.Common.{◌≡◌, ℕ, List, refl, sym, subst}
use Rattle.config_text.specs.declared.config.Config.{Config as ConfigText}
use Rattle.loader.specs.Records.{Volumes, AreVolumes, Loads}
use Rattle.machine.specs.Banks.{State, machine_of}
use Rattle.machine.specs.Opening.{machine}
use Rattle.schedule.specs.Schedule.{events_of}
use Rattle.command_input.specs.Input.{loaded}
use Rattle.command_input.proofs.Failing.{no_memory}
use Rattle.command_run.specs.Shows.{RunShows, IsSchedule}
use Rattle.command_run.proofs.Ran.{run_shows, run_ports, load_shows}
use Rattle.command_run.proofs.Reports.{table_same}
use Rattle.command_run.proofs.simulation.sim.Goals as goal

pub returns-in_default-clause-shows : goal.returns-in_default-clause-shows
returns-in_default-clause-shows g c = no_memory _ _ _ _ _ _ c.in-Ok.ensures.input (λ p. refl)

pub run_schedule-requires-clause-volumes : goal.run_schedule-requires-clause-volumes
run_schedule-requires-clause-volumes g c = subst (λ (vs : Volumes). AreVolumes c.in-Ok.input.config vs) (sym c.as_slice.ensures.value) c.in-Ok.ensures.input.volumes

pub finish-requires-clause-loads : goal.finish-requires-clause-loads
finish-requires-clause-loads g c = subst (λ (vs : Volumes). Loads c.in-Ok.input.config vs) c.as_slice.ensures.value c.in-Ok-run_schedule.ensures.fault

pub finish-requires-clause-table : goal.finish-requires-clause-table
finish-requires-clause-table g c = table_same c.in-Ok.input.config c.as_slice.result.now (events_of c.in-Ok.input.config) (machine_of c.in-Ok-run_schedule.machine) c.in-Ok-run_schedule.ensures.machine

pub returns-in-Ok-run_schedule-clause-shows : goal.returns-in-Ok-run_schedule-clause-shows
returns-in-Ok-run_schedule-clause-shows g c =
    let k : ConfigText = c.in-Ok.input.config in
    let vs : Volumes = c.in-Ok.input.volumes.items in
    let same = subst (λ (ws : Volumes). machine_of c.in-Ok-run_schedule.machine ≡ machine (loaded k ws) (events_of k)) c.as_slice.ensures.value c.in-Ok-run_schedule.ensures.machine in
    let loads = subst (λ (ws : Volumes). Loads k ws) c.as_slice.ensures.value c.in-Ok-run_schedule.ensures.fault in
    run_shows IsSchedule _ _ _ k vs (events_of k) c.in-Ok.ensures.input loads refl c.in-Ok-run_schedule.ensures.few _ (c.finish.ensures (events_of k) same c.in-Ok-run_schedule.ensures.few)

pub returns-in-Ok-run_schedule-clause-ports : goal.returns-in-Ok-run_schedule-clause-ports
returns-in-Ok-run_schedule-clause-ports g c = run_ports IsSchedule _ _ _ (returns-in-Ok-run_schedule-clause-shows g c)

pub returns-clause-shows : goal.returns-clause-shows
returns-clause-shows g c = subst (RunShows IsSchedule (g.H.Host.ports c.args.host.now) (g.H.Host.ports c.read_input.new.host)) (sym c.load_answer.ensures)
    (load_shows (State (List ℕ)) IsSchedule _ _ c.in-Ok.input.config c.in-Ok.input.volumes.items _ c.in-Err-run_schedule.error c.in-Ok.ensures.input c.as_slice.ensures.value c.in-Err-run_schedule.ensures.fault)
