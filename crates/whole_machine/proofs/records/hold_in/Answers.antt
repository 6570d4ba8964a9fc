use Rattle.std.proofs.Common.{◌∙◌, ap}
use Rattle.whole_machine.specs.Building.{holding}
use Rattle.whole_machine.specs.Parts.{ListedPart, part_in}
use Rattle.whole_machine.proofs.Recorded.{kept_in, read_at}
use Rattle.whole_machine.proofs.Stepped.{read_is, changed}
use Rattle.whole_machine.proofs.records.hold_in.Goals as goal

pub hold-requires-clause-inside : goal.hold-requires-clause-inside
hold-requires-clause-inside c =
    let listed = c.requires.listed in
    (read_at c.args.parts.now.items c.args.class c.index_mut-part.result.now listed.0 c.args.at c.requires.class c.index_mut-part.ensures.value listed.1).inside

pub returns-clause-held : goal.returns-clause-held
returns-clause-held c = λ u l.
    let old = c.args.parts.now.items in
    let read = c.index_mut-part.result.now in
    changed old c.args.class c.hold.new.self _ c.requires.class
    (c.hold.ensures.held u (read_at old c.args.class read u c.args.at c.requires.class c.index_mut-part.ensures.value l)
    ∙ ap (λ (z : ListedPart). holding (part_in z) u c.args.entry c.args.child.now) (read_is old c.args.class read c.requires.class c.index_mut-part.ensures.value))

pub returns-clause-kept : goal.returns-clause-kept
returns-clause-kept c = kept_in c.args.parts.now.items c.args.class c.hold.new.self c.index_mut-part.result.now c.requires.class c.index_mut-part.ensures.value c.hold.ensures.kept
