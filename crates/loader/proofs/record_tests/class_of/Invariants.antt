use Rattle.std.proofs.Common.{◌≡◌}
use Rattle.words_layout.specs.Segments.{same_seg}
use Rattle.class_model.specs.Config.{SegRecord as RecordValue}
use Rattle.loader.proofs.Searching.{class_from}
use Rattle.loader.proofs.record_tests.class_of.Given as goal

abbrev pub invariant-loop-index : goal.invariant-loop-index
invariant-loop-index l = class_from (λ (x : RecordValue). same_seg x.seg l.seg) l.volumes l.index ≡ class_from (λ (x : RecordValue). same_seg x.seg l.seg) l.volumes 0
