use Rattle.std.proofs.Common.{[], sym, subst, ◌∙◌, length}
use Rattle.loader.specs.Configuration.{configuration}
use Rattle.loader.specs.Stores.{AreStorable}
use Rattle.loader.proofs.Validity.{is_config}
use Rattle.loader.proofs.Storable.{storable}
use Rattle.loader.proofs.opening.opening_machine.Goals as goal

pub machine_seen-requires-clause-records : goal.machine_seen-requires-clause-records
machine_seen-requires-clause-records c =
    subst (AreStorable (length c.args.config.now.table)) (sym (c.as_slice.ensures.value ∙ c.new-none.ensures.items)) (storable (configuration c.args.config.now []) (is_config c.args.config.now c.requires))

pub returns-clause-opening : goal.returns-clause-opening
returns-clause-opening c = c.in_ok-machine.ensures.opening [] (sym (c.as_slice.ensures.value ∙ c.new-none.ensures.items))
