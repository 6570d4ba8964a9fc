use Rattle.std.proofs.Common.{◌≡◌, length}
use Rattle.std.specs.List.{AllByRecursion}
use Rattle.std.specs.Vec.Iter.{into_iter_items, into_iter_len}
use Rattle.class_model.specs.Config.{classes}
use Rattle.whole_machine.specs.Building.{all_recorded}
use Rattle.whole_machine.specs.Parts.{state_of}
use Rattle.loader.specs.Building.{IsPut}
use Rattle.loader.proofs.model.put_records.Given as goal

abbrev pub invariant-loop-segment : goal.invariant-loop-segment
invariant-loop-segment l = record {
  same : l.state.shared ≡ l.initial.state.shared;
  goes : all_recorded (state_of l.state) (into_iter_items l.segment-iterator) ≡ all_recorded (state_of l.initial.state) (into_iter_items l.initial.segment-iterator);
  fits : AllByRecursion (IsPut (classes l.initial.state.shared)) (into_iter_items l.segment-iterator);
  long : into_iter_len l.segment-iterator ≡ length (into_iter_items l.segment-iterator);
}
