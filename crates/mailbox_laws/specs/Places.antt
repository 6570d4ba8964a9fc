-- What holds of posters and collectors at each place of their scripts, and of a whole state.
use Rattle.std.specs.Prelude.{ℕ, ◌+◌, ◌%◌, ◌^◌, ◌≡◌, ◌<◌, ◌≤◌, Bool, true, false, List, length, ◌==◌, ◌||◌, if◌then◌else◌, Option, Some, None, slice_index_or}
use Rattle.rings.specs.Brackets.{may_read, may_write}
use Rattle.words_layout.specs.Segments.{same_seg}
use Rattle.words_layout.specs.declared.segment.SegId.{SegId}
use Rattle.policy.specs.Known.{Known, modifies, signals}
use Rattle.script_lang.specs.declared.instr.Instr.{Instr}
use Rattle.class_model.specs.Config.{Config, Shared, program_of}
use Rattle.class_model.specs.Process.{Process, ProcName, reg, known_at}
use Rattle.class_model.specs.State.{State, process_at}
use Rattle.mail_scripts.specs.Programs.{post_program, collect_program}
use Rattle.mailbox_laws.specs.Mail.{IsPoster, IsCollector, line_of}
use Rattle.mailbox_laws.specs.Protocol.{Hold, Mail}

-- a segment is known there, and its ring may read
pub record Reads (p : Process) (segno : ℕ) : Type 0 where
  pub seen : Known
  pub is : known_at p segno ≡ Some seen
  pub usable : signals seen.rights ≡ false
  pub ring : may_read seen.brackets p.ring ≡ true

-- likewise, and it may be modified too
pub record Writes (p : Process) (segno : ℕ) : Type 0 where
  pub seen : Known
  pub is : known_at p segno ≡ Some seen
  pub usable : signals seen.rights ≡ false
  pub ring : may_read seen.brackets p.ring ≡ true
  pub rights : modifies seen.rights ≡ true
  pub write_ring : may_write seen.brackets p.ring ≡ true

-- from place 10 of a Post script on: its segment is known, r2 is 0, r5 the size and r10 is 1
pub record Posting (size : ℕ) (p : Process) : Type 0 where
  pub known : Writes p (reg p 8)
  pub zero : reg p 2 ≡ 0
  pub limit : reg p 5 ≡ size
  pub one : reg p 10 ≡ 1

-- A poster at each place of its script. One in brackets of the script text is named by what comes next.
pub data PosterAt (size : ℕ) (p : Process) : Type 0 where
  sets_entry : p.place ≡ 0 → reg p 2 ≡ 0 → PosterAt size p
  sets_mode : p.place ≡ 1 → reg p 2 ≡ 0 → PosterAt size p
  finds : p.place ≡ 2 → reg p 2 ≡ 0 → reg p 7 ≡ 3 → PosterAt size p
  tests_found : p.place ≡ 3 → reg p 2 ≡ 0 → reg p 7 ≡ 3 → (reg p 0 ≡ 0 → Writes p (reg p 1)) → PosterAt size p
  finds_again : p.place ≡ 4 → reg p 2 ≡ 0 → reg p 7 ≡ 3 → PosterAt size p
  has : p.place ≡ 5 → reg p 2 ≡ 0 → Writes p (reg p 1) → PosterAt size p
  sets_size : p.place ≡ 6 → reg p 2 ≡ 0 → Writes p (reg p 8) → PosterAt size p
  sets_count : p.place ≡ 7 → reg p 2 ≡ 0 → Writes p (reg p 8) → reg p 5 ≡ size → PosterAt size p
  sets_first : p.place ≡ 8 → reg p 2 ≡ 0 → Writes p (reg p 8) → reg p 5 ≡ size → PosterAt size p
  sets_one : p.place ≡ 9 → reg p 2 ≡ 0 → Writes p (reg p 8) → reg p 5 ≡ size → PosterAt size p
  goes : p.place ≡ 10 → Posting size p → PosterAt size p
  draws : p.place ≡ 11 → Posting size p → PosterAt size p
  has_drawn : p.place ≡ 12 → Posting size p → PosterAt size p
  tests_room : p.place ≡ 13 → Posting size p → PosterAt size p
  no_room : p.place ≡ 14 → Posting size p → PosterAt size p
  awaits : p.place ≡ 15 → Posting size p → reg p 11 < size → PosterAt size p
  came_through : p.place ≡ 16 → Posting size p → reg p 11 < size → PosterAt size p
  writes : p.place ≡ 17 → Posting size p → reg p 11 < size → slice_index_or p.pad 0 0 ≡ reg p 9 → PosterAt size p
  tests_written : p.place ≡ 18 → Posting size p → reg p 11 < size → slice_index_or p.pad 0 0 ≡ reg p 9 → PosterAt size p
  writes_again : p.place ≡ 19 → Posting size p → reg p 11 < size → slice_index_or p.pad 0 0 ≡ reg p 9 → PosterAt size p
  serves : p.place ≡ 20 → Posting size p → reg p 11 < size → PosterAt size p
  next_value : p.place ≡ 21 → Posting size p → PosterAt size p
  one_less : p.place ≡ 22 → Posting size p → PosterAt size p
  goes_back : p.place ≡ 23 → Posting size p → PosterAt size p
  ends : p.place ≡ 24 → Posting size p → PosterAt size p

-- a hold of the ticket in a register for the value in r9
abbrev pub hold : Process → ℕ → Bool → Bool → Option Hold
hold p r through written = Some (record { ticket = reg p r; value = reg p 9; through = through; written = written })

-- what a poster holds at a place of its script
abbrev pub held_at : ℕ → Process → Option Hold
held_at place p =
    if place == 12 then hold p 1 false false
    else if place == 13 || place == 15 then hold p 11 false false
    else if place == 16 || place == 17 || place == 19 then hold p 11 true false
    else if place == 18 then hold p 11 true (reg p 0 == 0)
    else if place == 20 then hold p 11 true true
    else None

-- what it holds at its place
abbrev pub held : Process → Option Hold
held p = held_at p.place p

-- the pad words below n are the first ones of these posts, and so many are served
pub record HasCollected (posts : List ℕ) (count n : ℕ) (p : Process) : Type 0 where
  pub served : n ≤ count
  pub same : (i : ℕ) → i < n → slice_index_or p.pad i 0 ≡ slice_index_or posts i 0

-- it has made no segment known, or this one alone
abbrev pub KnowsNone : Process → Type 0
KnowsNone p = (i : ℕ) (x : Known) → 1 ≤ i → known_at p i ≡ Some x → ⊥

abbrev pub KnowsOne : Process → ℕ → Type 0
KnowsOne p segno = (i : ℕ) (x : Known) → 1 ≤ i → known_at p i ≡ Some x → i ≡ segno

-- a segment is known there, its ring may read, and no other one was made known
pub record Found (p : Process) (segno : ℕ) : Type 0 where
  pub reads : Reads p segno
  pub only : KnowsOne p segno

-- from place 8 of a Collect script on: its segment is known, and r10 is 1
pub record Collecting (p : Process) : Type 0 where
  pub found : Found p (reg p 8)
  pub one : reg p 10 ≡ 1

-- a collector at each place of its script
pub data CollectorAt (p : Process) : Type 0 where
  sets_entry : p.place ≡ 0 → reg p 9 ≡ 0 → KnowsNone p → CollectorAt p
  sets_mode : p.place ≡ 1 → reg p 9 ≡ 0 → KnowsNone p → CollectorAt p
  finds : p.place ≡ 2 → reg p 9 ≡ 0 → reg p 7 ≡ 1 → KnowsNone p → CollectorAt p
  tests_found : p.place ≡ 3 → reg p 9 ≡ 0 → reg p 7 ≡ 1 → (reg p 0 ≡ 0 → Found p (reg p 1)) → ((reg p 0 ≡ 0 → ⊥) → KnowsNone p) → CollectorAt p
  finds_again : p.place ≡ 4 → reg p 9 ≡ 0 → reg p 7 ≡ 1 → KnowsNone p → CollectorAt p
  has : p.place ≡ 5 → reg p 9 ≡ 0 → Found p (reg p 1) → CollectorAt p
  sets_count : p.place ≡ 6 → reg p 9 ≡ 0 → Found p (reg p 8) → CollectorAt p
  sets_one : p.place ≡ 7 → reg p 9 ≡ 0 → Found p (reg p 8) → CollectorAt p
  goes : p.place ≡ 8 → Collecting p → CollectorAt p
  ends : p.place ≡ 9 → Collecting p → CollectorAt p
  copies : p.place ≡ 10 → Collecting p → CollectorAt p
  adds : p.place ≡ 11 → Collecting p → reg p 11 ≡ reg p 9 → CollectorAt p
  awaits : p.place ≡ 12 → Collecting p → reg p 11 ≡ (reg p 9 + 1) % 2 ^ 64 → CollectorAt p
  fetches : p.place ≡ 13 → Collecting p → CollectorAt p
  tests_fetched : p.place ≡ 14 → Collecting p → CollectorAt p
  fetches_again : p.place ≡ 15 → Collecting p → CollectorAt p
  has_fetched : p.place ≡ 16 → Collecting p → CollectorAt p
  prints : p.place ≡ 17 → Collecting p → CollectorAt p
  counts : p.place ≡ 18 → Collecting p → CollectorAt p
  goes_back : p.place ≡ 19 → Collecting p → CollectorAt p

-- What a collector holds at its place, where these were posted to its segment and so many served. Behind its await one more is
-- served than it holds, and with the word fetched it holds that too. Its r9 stays below 64, since it fetches pad word r9.
abbrev pub Collected : (posts : List ℕ) (count : ℕ) (p : Process) → CollectorAt p → Type 0
Collected posts count p (fetches at c) = HasCollected posts count (reg p 9) p × (reg p 9 < count)
Collected posts count p (tests_fetched at c) = HasCollected posts count (reg p 9) p × (reg p 9 < count) × (reg p 0 ≡ 0 → HasCollected posts count (reg p 9 + 1) p)
Collected posts count p (fetches_again at c) = HasCollected posts count (reg p 9) p × (reg p 9 < count)
Collected posts count p (has_fetched at c) = HasCollected posts count (reg p 9 + 1) p
Collected posts count p (prints at c) = HasCollected posts count (reg p 9 + 1) p
Collected posts count p (counts at c) = HasCollected posts count (reg p 9 + 1) p
Collected posts count p place = HasCollected posts count (reg p 9) p

-- it runs these instructions, with 16 registers and 64 pad words
pub record Runs (s : Shared) (instrs : List Instr) (p : Process) : Type 0 where
  pub program : program_of (slice_index_or s.scripts p.script None) ≡ instrs
  pub regs : length p.regs ≡ 16
  pub pad : length p.pad ≡ 64

-- a poster at its place
pub record Poster (a : State) (k : Config) (n : ProcName) (i : IsPoster k n) (p : Process) : Type 0 where
  pub runs : Runs a.shared (post_program i.entry i.size i.first i.count) p
  pub at : PosterAt i.size p

-- a collector at its place, and what it holds if it knows u at r8
pub record Collector (a : State) (k : Config) (posts : List ℕ) (count : ℕ) (u : SegId) (n : ProcName) (i : IsCollector k n) (p : Process) : Type 0 where
  pub runs : Runs a.shared (collect_program i.entry i.count) p
  pub at : CollectorAt p
  pub has : (x : Known) → known_at p (reg p 8) ≡ Some x → same_seg x.seg u ≡ true → Collected posts count p at

-- a poster that knows u at r8 holds this
pub record PosterHolds (k : Config) (a : State) (u : SegId) (n : ProcName) (h : Hold) : Type 0 where
  pub is_poster : IsPoster k n
  pub process : Process
  pub there : process_at a n ≡ Some process
  pub seen : Known
  pub known : known_at process (reg process 8) ≡ Some seen
  pub of_u : same_seg seen.seg u ≡ true
  pub holds : held process ≡ Some h

-- What holds of each state of a run in which only posters serve u: the mail of u, by what is posted and written and by its eventcount,
-- which is at most 64; each poster at its place, and each collector at its place with what it holds. A name whose slot is
-- empty has no process line.
pub record MailStands (k : Config) (u : SegId) (posts words : List ℕ) (count : ℕ) (a : State) : Type 0 where
  pub mail : Mail posts words count (PosterHolds k a u)
  pub few : count ≤ 64
  pub posters : (n : ProcName) (p : Process) (i : IsPoster k n) → process_at a n ≡ Some p → Poster a k n i p
  pub collectors : (n : ProcName) (p : Process) (i : IsCollector k n) → process_at a n ≡ Some p → Collector a k posts count u n i p
  pub slots : (n : ProcName) → length ((a.part n.class).slots n.processor) ≡ 4
  pub lines : (n : ProcName) → process_at a n ≡ None → n.slot < 4 → line_of k n ≡ None
