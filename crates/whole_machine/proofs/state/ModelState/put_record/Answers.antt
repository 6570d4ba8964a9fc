use Rattle.std.proofs.Common.{◌≡◌, ◌<◌, ◌∙◌, sym, subst, length}
use Rattle.words_layout.specs.Segments.{seg}
use Rattle.words_layout.specs.declared.segment.SegId.{SegId}
use Rattle.class_model.specs.Config.{classes}
use Rattle.whole_machine.specs.Building.{with_record}
use Rattle.whole_machine.specs.Parts.{ListedState, state_of}
use Rattle.whole_machine.specs.Steps.{standing}
use Rattle.whole_machine.proofs.Recorded.{words_of, recorded_is, recorded_fit, same_fit}
use Rattle.whole_machine.proofs.state.ModelState.put_record.Goals as goal

pub hold_in-requires-clause-listed : goal.hold_in-requires-clause-listed
hold_in-requires-clause-listed c = (c.args.mentor, c.in_ok-own.ensures.kept c.args.mentor_class c.args.mentor c.in_ok-at.at c.in_ok-at.ensures.ok)

pub keep_in-requires-clause-listed : goal.keep_in-requires-clause-listed
keep_in-requires-clause-listed c =
    let child = c.args.child.now in
    let w : SegId = seg c.args.mentor_class child.serial in
    (w, c.hold_in.ensures.kept child.class w c.in_ok-own.own c.in_ok-own.ensures.ok)

pub keep_in-requires-clause-class : goal.keep_in-requires-clause-class
keep_in-requires-clause-class c =
    let s = c.self.inside.shared in
    let child = c.args.child.now in
    let held = c.hold_in.ensures.held c.args.mentor (c.in_ok-own.ensures.kept c.args.mentor_class c.args.mentor c.in_ok-at.at c.in_ok-at.ensures.ok) in
    let known : child.class < classes s = subst (λ (z : ListedState). child.class < classes z.shared) (sym c.self.view_is) c.requires.class in
    let long : length c.hold_in.new.parts.items ≡ classes s = held.as_many ∙ c.in_ok-own.ensures.same.as_many ∙ c.in_ok-at.ensures.same.as_many ∙ c.self.invariant.one_each in
    subst (λ n. child.class < n) (sym long) known

pub invariant_of-self : goal.invariant_of-self
invariant_of-self c = same_fit c.self.inside.shared c.self.inside.parts.items c.list_in.new.parts.items c.list_in.ensures.same c.self.invariant

pub invariant_of-self-in_err-own : goal.invariant_of-self-in_err-own
invariant_of-self-in_err-own c =
    let s = c.self.inside.shared in
    same_fit s c.list_in.new.parts.items c.list_in-2.new.parts.items c.list_in-2.ensures.same
    (same_fit s c.self.inside.parts.items c.list_in.new.parts.items c.in_ok-at.ensures.same c.self.invariant)

pub invariant_of-self-2 : goal.invariant_of-self-2
invariant_of-self-2 c =
    let s = c.self.inside.shared in
    let old = c.self.inside.parts.items in
    let m = c.args.mentor_class in
    let u = c.args.mentor in
    let child = c.args.child.now in
    let w : SegId = seg m child.serial in
    let held = c.hold_in.ensures.held u (c.in_ok-own.ensures.kept m u c.in_ok-at.at c.in_ok-at.ensures.ok) in
    let stored = c.keep_in.ensures w (c.hold_in.ensures.kept child.class w c.in_ok-own.own c.in_ok-own.ensures.ok) in
    let known : child.class < classes s = subst (λ (z : ListedState). child.class < classes z.shared) (sym c.self.view_is) c.requires.class in
    recorded_fit s old c.list_in.new.parts.items c.list_in-2.new.parts.items c.hold_in.new.parts.items c.keep_in.new.parts.items m u c.args.entry child (words_of c.args.kept (λ v. v.items))
    c.in_ok-at.ensures.same c.in_ok-own.ensures.same held stored c.self.invariant known c.requires.brackets

pub returns-clause-ok : goal.returns-clause-ok
returns-clause-ok c =
    let s = c.self.inside.shared in
    let old = c.self.inside.parts.items in
    let m = c.args.mentor_class in
    let u = c.args.mentor in
    let child = c.args.child.now in
    let w : SegId = seg m child.serial in
    let held = c.hold_in.ensures.held u (c.in_ok-own.ensures.kept m u c.in_ok-at.at c.in_ok-at.ensures.ok) in
    let stored = c.keep_in.ensures w (c.hold_in.ensures.kept child.class w c.in_ok-own.own c.in_ok-own.ensures.ok) in
    subst (λ (z : ListedState). standing s c.keep_in.new.parts.items ≡ with_record (state_of z) m u c.args.entry child (words_of c.args.kept (λ v. v.items))) c.self.view_is
    (recorded_is s old c.list_in.new.parts.items c.list_in-2.new.parts.items c.hold_in.new.parts.items c.keep_in.new.parts.items m u c.args.entry child (words_of c.args.kept (λ v. v.items))
    c.in_ok-at.ensures.same c.in_ok-own.ensures.same held stored)
