-- What the mail of a segment needs to know of what an effect was shown.
use Rattle.std.proofs.Common.{ℕ, ◌≤◌, true, List, ◌≡◌, Option, Some, length}
use Rattle.lists.specs.Lists.{part_of}
use Rattle.words_layout.specs.Segments.{same_seg}
use Rattle.words_layout.specs.declared.segment.SegId.{SegId}
use Rattle.policy.specs.Outcome.{Outcome, Value, Words, Counted}
use Rattle.class_model.specs.Plan.{Request, Fetch, Read, Ticket}

-- Of u: an Ok ticket is the number of those before; the last look counts no more than the Ok advances, and no less than is wanted; a fetch
-- shows the words that were written, of a segment that is known by its size.
abbrev pub Told : SegId → (posts words : List ℕ) → ℕ → Option (Request × Outcome) → Type 0
Told u posts words count (Some (Ticket x, Value v)) = same_seg x.seg u ≡ true → v ≡ length posts
Told u posts words count (Some (Read x wanted t, Counted v)) = same_seg x.seg u ≡ true → (wanted ≤ v) × (v ≤ count)
Told u posts words count (Some (Fetch x offset n pad, Words at ws)) = same_seg x.seg u ≡ true → (ws ≡ part_of words offset n) × (length words ≡ x.size)
Told u posts words count _ = Unit {0}
