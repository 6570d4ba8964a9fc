use Rattle.std.proofs.Common.{List, ap, subst, ◌∙◌}
use Rattle.labels.specs.Label.{ClassEntry}
use Rattle.words_layout.specs.declared.op.Event.{Event}
use Rattle.class_model.specs.Config.{Shared}
use Rattle.class_model.specs.Process.{ProcName}
use Rattle.machine.specs.Low.{low_events}
use Rattle.machine.specs.Plain.{OnWords}
use Rattle.machine.specs.Steps.{InRange, RunsBy}
use Rattle.low_run.specs.Flags.{AreLow}
use Rattle.low_run.proofs.Picked.{low_all, low_is}
use Rattle.low_run.proofs.running.run_low.Goals as goal

pub returns : goal.returns
returns c =
    let table : List ClassEntry = c.args.machine.now.shared.table in
    let low = subst (λ (t : List ClassEntry). AreLow t c.args.class c.of-low.result) (c.table-2.ensures ∙ ap (λ (s : Shared). s.table) c.shared-2.ensures) c.of-low.ensures in
    let is = low_is table c.args.class c.of-low.result low c.args.events.now (λ i d lt. (c.requires.events i d lt).1) in
    let ran = subst (λ (events : List Event). (names : List ProcName) × RunsBy OnWords events c.args.machine.now c.run_these.new.machine names) is c.run_these.ensures in
    (c.plain_laws.ensures.run (low_events table c.args.class c.args.events.now) c.args.machine.now c.run_these.new.machine ran.0 c.plain_law.ensures
    (low_all table c.args.class (λ e. InRange c.args.machine.now e) c.args.events.now c.requires.events) ran.1).0
