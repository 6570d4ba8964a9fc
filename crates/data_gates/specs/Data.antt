-- The rows of the step table for fetch and update.
use Rattle.std.specs.Prelude.{ℕ, zero, suc, ◌+◌, List, [], ◌∷◌, ◌++◌}
use Rattle.words_layout.specs.Words.{HomeOf, WritesOf, FrameWord, plus_one}
use Rattle.words_layout.specs.Coding.{home_of}
use Rattle.words_layout.specs.declared.segment.SegId.{SegId}
use Rattle.words_layout.specs.declared.coding.Home.{Home}
use Rattle.words_layout.specs.declared.coding.Home.TheVariants as H
use Rattle.policy.specs.Outcome.{Outcome, Refused, Value, Words}
use Rattle.policy.specs.declared.rule.Rule.TheVariants.{Gone, NotIn}
use Rattle.turns.specs.Bodies.{Loads, Inner}

-- the words of a frame from place at on, n of them behind those that were loaded
abbrev pub load_words : ℕ → ℕ → ℕ → List ℕ → ℕ → Loads Outcome
load_words f at zero got pad = Loads.Shows (Words pad got)
load_words f at (suc n) got pad = Loads.Load (FrameWord f at) (λ w. load_words f (at + 1) n (got ++ w ∷ []) pad)

-- fetch, once the home is known: the words where it is Resident, else a refusal
abbrev pub fetch_home : ℕ → ℕ → ℕ → Home → Loads Outcome
fetch_home offset count pad (H.Resident f page size) = load_words f offset count [] pad
fetch_home offset count pad H.Deleted = Loads.Shows (Refused Gone)
fetch_home offset count pad _ = Loads.Shows (Refused NotIn)

-- fetch: a look at the segment; load the home, then the words of its frame in order
abbrev pub fetch_body : SegId → ℕ → ℕ → ℕ → Loads Outcome
fetch_body u offset count pad = Loads.Load (HomeOf u) (λ w. fetch_home offset count pad (home_of w))

-- the words stored into a frame from place at on, in order
abbrev pub store_words : ℕ → ℕ → List ℕ → Inner Outcome → Inner Outcome
store_words f at [] rest = rest
store_words f at (v ∷ vs) rest = Inner.Store (FrameWord f at) v (store_words f (at + 1) vs rest)

-- the count of writes goes up
abbrev pub count_write : SegId → Inner Outcome
count_write u = Inner.Add (WritesOf u) 1 (λ old. Inner.Shows (Value (plus_one old)))

-- update, once the home is known: the words are stored where it is Resident, else a refusal
abbrev pub update_home : SegId → ℕ → List ℕ → Home → Inner Outcome
update_home u offset words (H.Resident f page size) = store_words f offset words (count_write u)
update_home u offset words H.Deleted = Inner.Shows (Refused Gone)
update_home u offset words _ = Inner.Shows (Refused NotIn)

-- update: the segment's turn; load the home, store the words, add 1 to the count of writes
abbrev pub update_body : SegId → ℕ → List ℕ → Inner Outcome
update_body u offset words = Inner.Load (HomeOf u) (λ w. update_home u offset words (home_of w))
