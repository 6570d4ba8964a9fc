use Rattle.std.proofs.Common.{ℕ, Bool, None, sym, ◌∙◌, arith}
use Rattle.std.specs.Prelude.{slice_index_or}
use Rattle.std.specs.Option.{option_map}
use Rattle.process.specs.Standing.{Standing}
use Rattle.summary.specs.Summary.{is_in_state}
use Rattle.summary.proofs.Counts.{count_yes, count_no}
use Rattle.summary.proofs.counting.slots_in.Goals as goal
use Rattle.summary.proofs.counting.slots_in.Goals.{then-is_in_state, else-is_in_state}

pub loop-slot-preserved : goal.loop-slot-preserved
loop-slot-preserved c =
    let test : ℕ → Bool = λ i. is_in_state c.args.live (option_map (λ (v : Standing). v.process) (slice_index_or c.args.here.now.slots i None)) in
    elim c.if-is_in_state.branch [
      | then-is_in_state w ↦ rw w.count-is (record {
        sum = count_yes test c.loop-slot.slot c.loop-slot.count c.loop-slot.invariant.sum (sym c.is_in_state.ensures ∙ w.if-is_in_state.true);
        most = omega (arith, c.loop-slot.invariant.most);
      })
      | else-is_in_state w ↦ rw w.count-is (record {
        sum = count_no test c.loop-slot.slot c.loop-slot.count c.loop-slot.invariant.sum (sym c.is_in_state.ensures ∙ w.if-is_in_state.false);
        most = omega (arith, c.loop-slot.invariant.most);
      })
    ]
