-- What is read of a segment off all words by address.
use Rattle.std.specs.Prelude.{ℕ, ◌+◌, ◌*◌, ◌%◌, ◌^◌, ◌<◌, ◌≤◌, ◌≡◌, Bool, true, not, ◌||◌, List, length, nat_lt, map, sum, Option}
use Rattle.words_layout.specs.Sizes.{class_words}
use Rattle.words_layout.specs.Words.{Word, address, HomeOf, WritesOf, EntryOf}
use Rattle.words_layout.specs.Limits.{word_in_limits}
use Rattle.words_layout.specs.Coding.{home_of, entry_of}
use Rattle.words_layout.specs.Named.{words_in}
use Rattle.words_layout.specs.declared.segment.SegId.{SegId}
use Rattle.words_layout.specs.declared.coding.Alias.{Alias}
use Rattle.policy.specs.Known.{in_table}
use Rattle.policy.specs.Outcome.{components}
use Rattle.machine.specs.Banks.{State}
use Rattle.report.specs.Reported.{is_never}
use Rattle.report.specs.declared.reading.Found.{Found}

-- class c is one of at most 16, and all words by address have its own
pub record HasClass (words : List ℕ) (class : ℕ) : Type 0 where
  pub few : class < 16
  pub there : class_words * class + class_words ≤ length words

-- the address is that of a word of the class
pub record IsNamed (class addr : ℕ) : Type 0 where
  pub word : Word
  pub in_limits : word_in_limits word ≡ true
  pub here : addr ≡ address class word

-- what is read of the segment of a class and identity u, but for its words and entries
abbrev pub found_in : State (List ℕ) → ℕ → SegId → Found
found_in m class u = record {
  home = home_of ((words_in m.words class).guarded (HomeOf u));
  writes = (words_in m.words class).guarded (WritesOf u);
  count = sum (map (λ c. (words_in m.words c).component class u) (components m.shared.table class)) % 2 ^ 64;
  tickets = (words_in m.words class).sequencer u;
}

-- an entry of the segment of a class and identity u
abbrev pub entry_in : State (List ℕ) → ℕ → SegId → ℕ → Option Alias
entry_in m class u entry = in_table m.shared.table (entry_of ((words_in m.words class).guarded (EntryOf u entry)))

-- its home isn't Never, or one of its three counts isn't 0
abbrev pub is_counted : Found → Bool
is_counted f = not (is_never f.home) || nat_lt 0 f.writes || nat_lt 0 f.count || nat_lt 0 f.tickets
