-- The section of a class, read off the words and virtual processors.
use Rattle.std.specs.Prelude.{ℕ, ◌%◌, ◌^◌, Bool, true, false, not, ◌||◌, List, nat_lt, map, sum, codes, Option, Some, None, is_some}
use Rattle.std.specs.List.{filter, list_any}
use Rattle.lists.specs.Lists.{below}
use Rattle.labels.specs.Label.{class_at}
use Rattle.words_layout.specs.Words.{GuardedWords, HomeOf, WritesOf, EntryOf, FrameWord, PageWord}
use Rattle.words_layout.specs.Coding.{home_of, entry_of}
use Rattle.words_layout.specs.declared.segment.SegId.{SegId}
use Rattle.words_layout.specs.declared.coding.Home.{Home}
use Rattle.words_layout.specs.declared.coding.Home.TheVariants as H
use Rattle.words_layout.specs.declared.coding.Alias.{Alias}
use Rattle.policy.specs.Known.{in_table}
use Rattle.policy.specs.Outcome.{components}
use Rattle.class_model.specs.Config.{Shared, classes}
use Rattle.class_model.specs.State.{identities}
use Rattle.class_model.specs.Report.{Seen, SeenSegment, section_text}
use Rattle.class_model.specs.Section.{seen_processes, seen_entries}
use Rattle.machine.specs.Machine.{Machine, words_of}
use Rattle.machine.specs.Reading.{processes_of, printed, words_from}

-- a home in a word
abbrev pub home_text : Home → List ℕ
home_text H.Never = codes "never"
home_text (H.Stored g size) = codes "stored"
home_text (H.Resident f page size) = codes "in"
home_text H.Deleted = codes "deleted"

-- the words that are shown: those of the frame or of the page
abbrev pub home_words : GuardedWords → Home → Option (List ℕ)
home_words w (H.Resident f page size) = Some (words_from (λ i. w (FrameWord f i)) size)
home_words w (H.Stored g size) = Some (words_from (λ i. w (PageWord g i)) size)
home_words w _ = None

-- the home is Never
abbrev pub is_never : Home → Bool
is_never H.Never = true
is_never _ = false

-- the eight entries of a segment
abbrev pub entries_of : Shared → GuardedWords → SegId → List (Option Alias)
entries_of s w u = map (λ e. in_table s.table (entry_of (w (EntryOf u e)))) (below 8)

-- the eventcount of the segment of class x and identity u: the sum of its components
abbrev pub word_count : Machine → ℕ → SegId → ℕ
word_count m x u = sum (map (λ c. (words_of m c).component x u) (components m.shared.table x)) % 2 ^ 64

-- a segment that has been touched
abbrev pub is_touched : Machine → ℕ → SegId → Bool
is_touched m c u = let w = (words_of m c).guarded in
    not (is_never (home_of (w (HomeOf u)))) || nat_lt 0 (w (WritesOf u)) || nat_lt 0 (word_count m c u) || nat_lt 0 ((words_of m c).sequencer u) ||
    list_any (λ e. is_some e) (entries_of m.shared w u)

-- what is seen of a segment
abbrev pub word_segment : Machine → ℕ → SegId → SeenSegment
word_segment m c u = let w = (words_of m c).guarded in record {
  seg = u;
  home = home_text (home_of (w (HomeOf u)));
  writes = w (WritesOf u);
  count = word_count m c u;
  tickets = (words_of m c).sequencer u;
  words = home_words w (home_of (w (HomeOf u)));
  entries = seen_entries (entries_of m.shared w u);
}

-- what is seen of class c
abbrev pub seen : ℕ → Machine → Seen
seen c m = let part = m.part c in record {
  class = c;
  name = (class_at m.shared.table c).name;
  lines = printed m.shared part;
  processes = seen_processes (λ p. processes_of (part.vp p));
  segments = map (word_segment m c) (filter (is_touched m c) (identities (classes m.shared)));
}

-- the report of class c
abbrev pub section : ℕ → Machine → List ℕ
section c m = section_text (seen c m)
