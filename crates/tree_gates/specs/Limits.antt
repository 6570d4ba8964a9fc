-- What create needs of the known segment that it begins with.
use Rattle.std.specs.Prelude.{◌≡◌, ◌<◌, List, length, Option, Some}
use Rattle.labels.specs.Label.{ClassEntry}
use Rattle.policy.specs.Known.{Known}

-- a known segment, if any, is of a class of the table
abbrev pub PlaceInTable : List ClassEntry → Option Known → Type 0
PlaceInTable table known = (k : Known) → known ≡ Some k → k.class < length table
