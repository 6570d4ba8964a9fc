use Rattle.std.proofs.Common.{◌≡◌, ◌<◌, ◌∙◌, ℕ, ap, get_or, set, sym, subst, arith, length}
use Rattle.class_model.specs.Config.{classes}
use Rattle.class_model.specs.Process.{Process, ProcName, new_process}
use Rattle.class_model.specs.State.{with_part, with_process}
use Rattle.whole_machine.specs.Parts.{ListedPart, ListedState, state_of, part_in, no_part}
use Rattle.whole_machine.specs.Fits.{part_of_class}
use Rattle.whole_machine.specs.Steps.{standing}
use Rattle.whole_machine.proofs.Fitting.{new_fits, fits_process}
use Rattle.whole_machine.proofs.Stepped.{changed, read_is, puts_state, puts_fit}
use Rattle.whole_machine.proofs.state.ModelState.put_process.Goals as goal

pub invariant_of-self : goal.invariant_of-self
invariant_of-self c =
    let s = c.self.inside.shared in
    let old = c.self.inside.parts.items in
    let n : ProcName = record { processor = c.name.inside.processor; class = c.name.inside.class; slot = c.name.inside.slot } in
    let read = c.index_mut-part.result.now in
    let new = c.put.new.self in
    let child = new_process n.class c.args.script c.args.ring 0 in
    let known : n.class < classes s = subst (λ (m : ListedState). n.class < classes m.shared) (sym c.self.view_is) (subst (λ (x : ProcName). x.class < classes c.args.self.now.shared) (sym c.name.view_is) c.requires.class) in
    let lt : n.class < length old = subst (λ (k : ℕ). n.class < k) (sym c.self.invariant.one_each) known in
    let is = c.put.ensures ∙ ap (λ (q : ListedPart). with_process (part_in q) n.processor n.slot c.new-process.result) (read_is old n.class read lt c.index_mut-part.ensures.value) ∙
    ap (λ (x : Process). with_process (part_of_class old n.class) n.processor n.slot x) c.new-process.ensures in
    puts_fit s old (set old n.class new) n.class _ c.self.invariant (changed old n.class new _ lt is)
    (fits_process (classes s) (part_of_class old n.class) n.processor n.slot child (c.self.invariant.fits n.class) (new_fits (classes s) n.class c.args.script c.args.ring 0 (omega arith)))

pub returns-clause-ok : goal.returns-clause-ok
returns-clause-ok c =
    let s = c.self.inside.shared in
    let old = c.self.inside.parts.items in
    let n : ProcName = record { processor = c.name.inside.processor; class = c.name.inside.class; slot = c.name.inside.slot } in
    let read = c.index_mut-part.result.now in
    let new = c.put.new.self in
    let child = new_process n.class c.args.script c.args.ring 0 in
    let known : n.class < classes s = subst (λ (m : ListedState). n.class < classes m.shared) (sym c.self.view_is) (subst (λ (x : ProcName). x.class < classes c.args.self.now.shared) (sym c.name.view_is) c.requires.class) in
    let lt : n.class < length old = subst (λ (k : ℕ). n.class < k) (sym c.self.invariant.one_each) known in
    let is = c.put.ensures ∙ ap (λ (q : ListedPart). with_process (part_in q) n.processor n.slot c.new-process.result) (read_is old n.class read lt c.index_mut-part.ensures.value) ∙
    ap (λ (x : Process). with_process (part_of_class old n.class) n.processor n.slot x) c.new-process.ensures in
    let done = puts_state s old (set old n.class new) n.class (with_process (part_of_class old n.class) n.processor n.slot child) (changed old n.class new _ lt is) in
    subst (λ (m : ListedState). standing s (set old n.class new) ≡ with_part (state_of m) c.args.name.now.class (with_process (part_in (get_or m.parts c.args.name.now.class no_part)) c.args.name.now.processor c.args.name.now.slot (new_process c.args.name.now.class c.args.script c.args.ring 0))) c.self.view_is
    (subst (λ (x : ProcName). standing s (set old n.class new) ≡ with_part (standing s old) x.class (with_process (part_of_class old x.class) x.processor x.slot (new_process x.class c.args.script c.args.ring 0))) c.name.view_is done)
