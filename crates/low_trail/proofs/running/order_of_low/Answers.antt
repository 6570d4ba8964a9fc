use Rattle.std.proofs.Common.{◌∙◌, List, sym, ap, subst, length, ◌<◌}
use Rattle.std.specs.List.{All}
use Rattle.words_layout.specs.declared.op.Event.{Event}
use Rattle.class_model.specs.Process.{ProcName}
use Rattle.machine.specs.Machine.{Machine}
use Rattle.schedule.specs.Ranges.{IsEventOf}
use Rattle.low_run.proofs.Picked.{low_all}
use Rattle.low_trail.proofs.Ranges.{in_range, names_below}
use Rattle.low_trail.proofs.running.order_of_low.Goals as goal

pub trail-requires : goal.trail-requires
trail-requires c =
    let low = c.as_slice-2.ensures.value ∙ c.in_ok-low.ensures in
    let events = subst (λ (xs : List Event). All (λ (e : Event). IsEventOf c.args.config.now e) xs) (sym c.as_slice.ensures.value) c.in_ok-events.ensures.range in
    in_range c.args.config.now c.in_ok-machine.machine c.as_slice-2.result.now c.in_ok-machine.ensures.processors (ap (λ (m : Machine). length m.shared.table) c.in_ok-machine.ensures.opening)
    (subst (λ (xs : List Event). All (λ (e : Event). IsEventOf c.args.config.now e) xs) (sym low) (low_all c.args.config.now.table c.args.class (λ (e : Event). IsEventOf c.args.config.now e) c.as_slice.result.now events))

pub returns-clause-names : goal.returns-clause-names
returns-clause-names c =
    let low = c.as_slice-2.ensures.value ∙ c.in_ok-low.ensures in
    let events = subst (λ (xs : List Event). All (λ (e : Event). IsEventOf c.args.config.now e) xs) (sym c.as_slice.ensures.value) c.in_ok-events.ensures.range in
    let range = subst (λ (xs : List Event). All (λ (e : Event). IsEventOf c.args.config.now e) xs) (sym low) (low_all c.args.config.now.table c.args.class (λ (e : Event). IsEventOf c.args.config.now e) c.as_slice.result.now events) in
    subst (λ (xs : List ProcName). All (λ (x : ProcName). x.class < length c.args.config.now.table) xs) (sym c.in_ok-names.ensures.order) (names_below c.args.config.now _ c.as_slice-2.result.now range)
