-- The laws of flow.
use Rattle.std.proofs.Common.{true, ◌&&◌, List, ◌≡◌, sym, ap, ◌∙◌, length}
use Rattle.std.proofs.lemmas.Bool.{and_parts}
use Rattle.std.specs.List.{list_all}
use Rattle.lists.specs.Lists.{below}
use Rattle.words_layout.specs.declared.op.Event.{Event}
use Rattle.class_model.specs.Config.{Config, low_config}
use Rattle.class_model.specs.Valid.{IsConfig, record_ok, records_distinct, pages_ok}
use Rattle.machine.specs.Low.{low_events, low_part}
use Rattle.machine.specs.Machine.{run}
use Rattle.machine.specs.Opening.{opening}
use Rattle.flow_laws.specs.Flow.{PartsAreValid, GoAlike, MachinesGoOnAlike, ProcessesFit, OpeningsAgree, RunsGoOnAlike, NothingFlowsDown}
use Rattle.flow_laws.proofs.Unwinding.{go_alike}
use Rattle.flow_laws.proofs.Fitting.{always_fit}
use Rattle.flow_laws.proofs.Sound.{sound_config}
use Rattle.flow_laws.proofs.LowValid.{low_valid}
use Rattle.flow_laws.proofs.LowOpening.{opening_low_part}
use Rattle.flow_laws.proofs.OpeningFits.{opening_all_fit}

-- each record of a valid configuration is in order
pub records_ok : (k : Config) → IsConfig k → list_all (record_ok k) k.records ≡ true
records_ok k valid =
    let a = and_parts (list_all (record_ok k) k.records && records_distinct k.records) (list_all (pages_ok k) (below (length k.table))) valid.records in
    let b = and_parts (list_all (record_ok k) k.records) (records_distinct k.records) a.0 in b.0

pub parts_are_valid : PartsAreValid
parts_are_valid k valid c = low_valid k c valid

pub machines_go_on_alike : MachinesGoOnAlike
machines_go_on_alike c m n events sound fit same = go_alike c m n events same sound fit

pub processes_fit : ProcessesFit
processes_fit k valid events = always_fit events (opening k) (sound_config k valid) (opening_all_fit k valid)

pub openings_agree : OpeningsAgree
openings_agree k valid c = opening_low_part k c (records_ok k valid)

pub runs_go_on_alike : RunsGoOnAlike
runs_go_on_alike k valid events c = machines_go_on_alike c (opening k) (opening (low_config c k)) events (sound_config k valid) (processes_fit k valid events) (openings_agree k valid c)

pub nothing_flows_down : NothingFlowsDown
nothing_flows_down k j valid_k valid_j events others c low same =
    let a : GoAlike c (opening k) (opening (low_config c k)) events = runs_go_on_alike k valid_k events c in
    let b : GoAlike c (opening j) (opening (low_config c j)) others = runs_go_on_alike j valid_j others c in
    a.parts
    ∙ ap (λ (z : Config). low_part c (run (opening z) (low_events k.table c events))) low
    ∙ ap (λ (z : List Event). low_part c (run (opening (low_config c j)) z)) same
    ∙ sym b.parts
