-- How many steps fetch and update take by themselves, on words on which no turn is under way.
use Rattle.std.specs.Prelude.{ℕ, ◌+◌, ◌≡◌, List, length, Option}
use Rattle.words_layout.specs.Words.{Words, HomeOf, OfSegment}
use Rattle.words_layout.specs.Coding.{home_of}
use Rattle.words_layout.specs.declared.segment.SegId.{SegId}
use Rattle.words_layout.specs.declared.coding.Home.TheVariants as H
use Rattle.turns.specs.Doing.{Look, SegmentTurn}
use Rattle.turns.specs.Alone.{NoTurns, TakesSteps}
use Rattle.data_gates.specs.Data.{fetch_body, update_body}

-- a fetch of n words from a segment that is in a frame: n + 4
abbrev pub FetchSteps : Type 0
FetchSteps = (d class : ℕ) (u : SegId) (offset n pad f : ℕ) (page : Option ℕ) (size : ℕ) (w : Words) → NoTurns w →
    home_of (w.guarded (HomeOf u)) ≡ H.Resident f page size → TakesSteps (n + 4) d (Look class (OfSegment u) (fetch_body u offset n pad)) w

-- an update of n words of such a segment: n + 6
abbrev pub UpdateSteps : Type 0
UpdateSteps = (d : ℕ) (u : SegId) (offset : ℕ) (words : List ℕ) (f : ℕ) (page : Option ℕ) (size : ℕ) (w : Words) → NoTurns w →
    home_of (w.guarded (HomeOf u)) ≡ H.Resident f page size → TakesSteps (length words + 6) d (SegmentTurn u (update_body u offset words)) w
