use Rattle.std.proofs.Common.{refl}
use Rattle.words_layout.specs.Segments.{seg_number}
use Rattle.end_volumes.proofs.AfterOrigins.{nowhere_at, nowhere_all}
use Rattle.end_volumes.proofs.origins.Origins.nowhere.Goals as goal

pub invariant_of-result : goal.invariant_of-result
invariant_of-result c = (refl, nowhere_all 1024)

pub returns : goal.returns
returns c u = nowhere_at 1024 (seg_number u)
