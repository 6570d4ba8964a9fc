use Rattle.std.proofs.Common.{◌∙◌, ap}
use Rattle.whole_machine.specs.Building.{keeping}
use Rattle.whole_machine.specs.Parts.{ListedPart, part_in}
use Rattle.whole_machine.proofs.Recorded.{words_of, read_at}
use Rattle.whole_machine.proofs.Stepped.{read_is, changed}
use Rattle.whole_machine.proofs.records.keep_in.Goals as goal

pub keep-requires : goal.keep-requires
keep-requires c =
    let listed = c.requires.listed in
    (read_at c.args.parts.now.items c.args.class c.index_mut-part.result.now listed.0 c.args.at c.requires.class c.index_mut-part.ensures.value listed.1).inside

pub returns : goal.returns
returns c = λ u l.
    let old = c.args.parts.now.items in
    let read = c.index_mut-part.result.now in
    changed old c.args.class c.keep.new.self _ c.requires.class
    (c.keep.ensures u (read_at old c.args.class read u c.args.at c.requires.class c.index_mut-part.ensures.value l)
    ∙ ap (λ (z : ListedPart). keeping (part_in z) u (words_of c.args.kept (λ v. v.items))) (read_is old c.args.class read c.requires.class c.index_mut-part.ensures.value))
