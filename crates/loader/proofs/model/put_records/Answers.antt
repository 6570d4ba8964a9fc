use Rattle.std.proofs.Common.{◌≡◌, ◌∷◌, [], ◌∙◌, length, sym, ap, subst, arith}
use Rattle.std.specs.Vec.Iter.{into_iter_items}
use Rattle.class_model.specs.Config.{Shared, classes}
use Rattle.class_model.specs.State.{State}
use Rattle.whole_machine.specs.Building.{all_recorded}
use Rattle.whole_machine.specs.Parts.{state_of}
use Rattle.loader.specs.Building.{IsPut}
use Rattle.loader.proofs.Modelled.{nothing_left, put_one}
use Rattle.loader.proofs.model.put_records.Goals as goal

pub put_record-requires : goal.put_record-requires
put_record-requires c =
    let at = c.loop-segment in
    let x = c.in-Some.segment in
    let steps : into_iter_items at.segment-iterator ≡ x ∷ into_iter_items c.next.new.self = c.in-Some.ensures.steps.0 in
    subst (λ (s : Shared). IsPut (classes s) x) (sym at.invariant.same) (put_one _ x _ _ steps at.invariant.fits).0

pub loop-segment-preserved : goal.loop-segment-preserved
loop-segment-preserved c =
    let at = c.loop-segment in
    let x = c.in-Some.segment in
    let steps : into_iter_items at.segment-iterator ≡ x ∷ into_iter_items c.next.new.self = c.in-Some.ensures.steps.0 in
    record {
      same = c.in_ok-put_record.ensures.shared ∙ at.invariant.same;
      goes =
          ap (λ (a : State). all_recorded a (into_iter_items c.next.new.self)) c.in_ok-put_record.ensures.put
          ∙ ap (all_recorded (state_of at.state)) (sym steps)
          ∙ at.invariant.goes;
      fits = (put_one _ x _ _ steps at.invariant.fits).1;
      long = let was = at.invariant.long in let gone = c.in-Some.ensures.steps.1 in let short = ap length steps in omega arith;
    }

pub returns-clause-put : goal.returns-clause-put
returns-clause-put c =
    let at = c.loop-segment in
    let none = c.in-None.ensures.steps in
    let empty : into_iter_items at.segment-iterator ≡ [] = nothing_left _ (sym at.invariant.long ∙ none.0) in
    ap (all_recorded (state_of at.state)) (sym empty) ∙ at.invariant.goes
    ∙ ap (all_recorded (state_of c.args.state.now)) c.into_iter-segment-iterator.ensures.into_iter_gives.0
