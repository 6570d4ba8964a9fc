use Rattle.std.proofs.Common.{◌≡◌, drop}
use Rattle.std.specs.List.{find}
use Rattle.words_layout.specs.Segments.{same_seg}
use Rattle.class_model.specs.Config.{SegRecord as RecordValue}
use Rattle.loader.proofs.Searching.{class_in}
use Rattle.loader.proofs.record_tests.class_among.Given as goal

abbrev pub invariant-loop-index : goal.invariant-loop-index
invariant-loop-index l = class_in (find (λ (x : RecordValue). same_seg x.seg l.seg) (drop l.index l.records)) ≡ class_in (find (λ (x : RecordValue). same_seg x.seg l.seg) l.records)
