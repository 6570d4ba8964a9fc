use Rattle.std.proofs.Common.{ℕ, List, refl, sym, subst}
use Rattle.config_text.specs.declared.config.Config.{Config as ConfigText}
use Rattle.loader.specs.Records.{Volumes, AreVolumes, Loads}
use Rattle.machine.specs.Banks.{State}
use Rattle.command_input.proofs.Failing.{no_memory}
use Rattle.command_run.specs.Shows.{RunShows}
use Rattle.command_run.proofs.Ran.{run_shows, run_ports, load_shows}
use Rattle.command_threads.specs.Orders.{IsRoundOrder, LeftByRounds}
use Rattle.command_threads.proofs.command.run.Goals as goal

pub returns-in_default-clause-shows : goal.returns-in_default-clause-shows
returns-in_default-clause-shows g c = no_memory _ _ _ _ _ _ c.in-Ok.ensures.input (λ p. refl)

pub run_by_rounds-requires-clause-volumes : goal.run_by_rounds-requires-clause-volumes
run_by_rounds-requires-clause-volumes g c κs within = subst (λ (vs : Volumes). AreVolumes c.in-Ok.input.config vs) (sym c.as_slice.ensures.value) c.in-Ok.ensures.input.volumes

pub finish-requires-clause-loads : goal.finish-requires-clause-loads
finish-requires-clause-loads g c = subst (λ (vs : Volumes). Loads c.in-Ok.input.config vs) c.as_slice.ensures.value c.in-Ok-run_by_rounds.ensures.fault

pub finish-requires-clause-table : goal.finish-requires-clause-table
finish-requires-clause-table g c = c.in-Ok-run_by_rounds.ensures.machine.table

pub returns-in-Ok-run_by_rounds-clause-shows : goal.returns-in-Ok-run_by_rounds-clause-shows
returns-in-Ok-run_by_rounds-clause-shows g c =
    let k : ConfigText = c.in-Ok.input.config in
    let vs : Volumes = c.in-Ok.input.volumes.items in
    let left = subst (λ (ws : Volumes). LeftByRounds k ws c.in-Ok-run_by_rounds.machine) c.as_slice.ensures.value c.in-Ok-run_by_rounds.ensures.machine in
    let loads = subst (λ (ws : Volumes). Loads k ws) c.as_slice.ensures.value c.in-Ok-run_by_rounds.ensures.fault in
    run_shows IsRoundOrder _ _ _ k vs left.events c.in-Ok.ensures.input loads left.order left.few _ (c.finish.ensures left.events left.machine_is left.few)

pub returns-in-Ok-run_by_rounds-clause-ports : goal.returns-in-Ok-run_by_rounds-clause-ports
returns-in-Ok-run_by_rounds-clause-ports g c = run_ports IsRoundOrder _ _ _ (returns-in-Ok-run_by_rounds-clause-shows g c)

pub returns-clause-shows : goal.returns-clause-shows
returns-clause-shows g c = subst (RunShows IsRoundOrder (g.H.Host.ports c.args.host.now) (g.H.Host.ports c.read_input.new.host)) (sym c.load_answer.ensures)
    (load_shows (State (List ℕ)) IsRoundOrder _ _ c.in-Ok.input.config c.in-Ok.input.volumes.items _ c.in-Err-run_by_rounds.error c.in-Ok.ensures.input c.as_slice.ensures.value c.in-Err-run_by_rounds.ensures.fault)
