use Rattle.std.proofs.Common.{◌∙◌, ap}
use Rattle.whole_machine.specs.Parts.{part_in}
use Rattle.whole_machine.proofs.Recorded.{kept_in}
use Rattle.whole_machine.proofs.Stepped.{read_is, still}
use Rattle.whole_machine.proofs.records.list_in.Goals as goal

pub returns-clause-same : goal.returns-clause-same
returns-clause-same c =
    let old = c.args.parts.now.items in
    still old c.args.class c.list.new.self c.requires (c.list.ensures.same ∙ ap part_in (read_is old c.args.class c.index_mut-part.result.now c.requires c.index_mut-part.ensures.value))

pub returns-clause-kept : goal.returns-clause-kept
returns-clause-kept c = kept_in c.args.parts.now.items c.args.class c.list.new.self c.index_mut-part.result.now c.requires c.index_mut-part.ensures.value c.list.ensures.kept
