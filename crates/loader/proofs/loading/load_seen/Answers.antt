use Rattle.std.proofs.Common.{sym, subst, ◌∙◌}
use Rattle.loader.specs.Records.{records_of, Answers}
use Rattle.loader.proofs.Storable.{shown_storable}
use Rattle.loader.proofs.loading.load_seen.Goals as goal

pub returns-in-Some-clause-fault : goal.returns-in-Some-clause-fault
returns-in-Some-clause-fault c = subst (Answers c.args.config.now c.args.volumes.now) c.in-Some.is c.first_fault.ensures

pub machine_seen-requires-clause-records : goal.machine_seen-requires-clause-records
machine_seen-requires-clause-records c =
    shown_storable c.args.config.now c.args.volumes.now c.args.view c.requires.valid c.requires.volumes (subst (Answers c.args.config.now c.args.volumes.now) c.in_default.is c.first_fault.ensures)
    c.as_slice.result.now (c.as_slice.ensures ∙ c.in_ok-records.ensures)

pub returns-clause-opening : goal.returns-clause-opening
returns-clause-opening c = c.in_ok-machine.ensures.opening (records_of c.args.volumes.now) (sym (c.as_slice.ensures ∙ c.in_ok-records.ensures))

pub returns-clause-fault : goal.returns-clause-fault
returns-clause-fault c = subst (Answers c.args.config.now c.args.volumes.now) c.in_default.is c.first_fault.ensures
