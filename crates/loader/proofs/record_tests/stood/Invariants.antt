use Rattle.std.proofs.Common.{◌≡◌}
use Rattle.words_layout.specs.Segments.{same_seg}
use Rattle.class_model.specs.Config.{SegRecord as RecordValue}
use Rattle.loader.proofs.Searching.{any_from}
use Rattle.loader.proofs.record_tests.stood.Given as goal

abbrev pub invariant-loop-index : goal.invariant-loop-index
invariant-loop-index l = any_from (λ (x : RecordValue). same_seg x.seg l.seg) l.front l.earlier l.index ≡ any_from (λ (x : RecordValue). same_seg x.seg l.seg) l.front l.earlier 0
