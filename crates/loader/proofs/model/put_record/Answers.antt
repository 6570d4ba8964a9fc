use Rattle.std.proofs.Common.{◌≡◌, subst}
use Rattle.std.specs.Prelude.{OnOk}
use Rattle.words_layout.specs.declared.coding.Alias.{Alias}
use Rattle.class_model.specs.Config.{SegRecord}
use Rattle.class_model.specs.Run.{alias_of}
use Rattle.whole_machine.specs.Building.{with_record}
use Rattle.whole_machine.specs.Parts.{state_of}
use Rattle.whole_machine.proofs.Recorded.{words_of}
use Rattle.loader.proofs.model.put_record.Goals as goal

pub returns-clause-put : goal.returns-clause-put
returns-clause-put c =
    let old = state_of c.args.state.now in
    let new = state_of c.put_record.new.self in
    let inside = c.segment.inside in
    let r : SegRecord = record { seg = inside.seg; class = inside.class; brackets = inside.brackets; size = inside.size; mentor = inside.mentor; entry = inside.entry; kept = words_of inside.kept (λ w. w.items) } in
    subst (λ (x : SegRecord). OnOk c.put_record.result (new ≡ with_record old x.seg.mentor x.mentor x.entry (alias_of c.args.segment) x.kept)) c.segment.view_is
    (subst (λ (a : Alias). OnOk c.put_record.result (new ≡ with_record old r.seg.mentor r.mentor r.entry a r.kept)) c.alias_of-child.ensures c.put_record.ensures.ok)
