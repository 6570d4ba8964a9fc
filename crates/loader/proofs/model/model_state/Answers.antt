use Rattle.std.proofs.Common.{◌≡◌, ◌∙◌, List, length, sym, ap, subst}
use Rattle.std.specs.List.{AllByRecursion}
use Rattle.class_model.specs.Config.{Shared, SegRecord, classes, low_config}
use Rattle.class_model.specs.Run.{opening}
use Rattle.class_model.specs.State.{State}
use Rattle.whole_machine.specs.Building.{all_recorded}
use Rattle.loader.specs.Building.{IsPut, low_of}
use Rattle.loader.specs.Configuration.{configuration}
use Rattle.loader.specs.Records.{Answers, Loads, records_of}
use Rattle.loader.proofs.Modelled.{records_put, records_put_in}
use Rattle.loader.proofs.model.model_state.Goals as goal

pub put_records-requires : goal.put_records-requires
put_records-requires c =
    let k = c.args.config.now in
    let vs = c.args.volumes.now in
    let loads : Loads k vs = subst (Answers k vs) c.in_default.is c.first_fault.ensures in
    let low = low_config c.args.class (configuration k (records_of vs)) in
    let items : c.into_vec.result.items ≡ low.records = c.into_vec.ensures ∙ c.in_ok-records.ensures in
    subst (λ (s : Shared). AllByRecursion (IsPut (classes s)) c.into_vec.result.items) (sym c.in_ok-state.ensures.shared)
    (subst (λ (rs : List SegRecord). AllByRecursion (IsPut (length k.table)) rs) (sym items) (records_put k c.args.class c.requires.valid vs c.requires.volumes loads))

pub returns-clause-opening : goal.returns-clause-opening
returns-clause-opening c =
    let k = c.args.config.now in
    let vs = c.args.volumes.now in
    let loads : Loads k vs = subst (Answers k vs) c.in_default.is c.first_fault.ensures in
    let low = low_config c.args.class (configuration k (records_of vs)) in
    let items : c.into_vec.result.items ≡ low.records = c.into_vec.ensures ∙ c.in_ok-records.ensures in
    c.in_ok-put_records.ensures.put
    ∙ ap (λ (a : State). all_recorded a c.into_vec.result.items) c.in_ok-state.ensures.opening
    ∙ ap (λ (rs : List SegRecord). all_recorded (opening (low_of k c.args.class)) rs) items
    ∙ records_put_in k c.args.class c.requires.valid vs c.requires.volumes loads
