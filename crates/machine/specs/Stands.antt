-- When the words and virtual processors stand for a state of the machine of whole instructions.
use Rattle.std.specs.Prelude.{ℕ, ◌+◌, ◌<◌, ◌≡◌, ◌≢◌, Bool, true, false, List, ◌==◌, Option, Some, None}
use Rattle.words_layout.specs.Segments.{seg_number}
use Rattle.words_layout.specs.Words.{Guard, OfClass, OfSegment, GuardedWords, NextSerial, HomeOf, WritesOf, EntryOf, FrameTenant, FrameWord, PageTenant, PageWord}
use Rattle.words_layout.specs.Coding.{home_of, entry_of}
use Rattle.words_layout.specs.declared.segment.SegId.{SegId}
use Rattle.words_layout.specs.declared.coding.Home.{Home}
use Rattle.words_layout.specs.declared.coding.Home.TheVariants as H
use Rattle.turns.specs.Stage.{stage, inside}
use Rattle.class_model.specs.Config.{Shared, Pool, pool_of}
use Rattle.class_model.specs.State.{State, Part, Cell, CellHome, Never, Stored, In, Deleted, entry_at}
use Rattle.process.specs.Running.{Running}
use Rattle.machine.specs.Machine.{Machine, ClassPart, slot_at}
use Rattle.machine.specs.Reading.{processes_of, printed, words_from}

-- the running process of a slot isn't inside a turn of a guard
abbrev pub NotInTurn : Guard → Option Running → Type 0
NotInTurn g None = Unit {0}
NotInTurn g (Some r) = inside (stage g r.doing) ≡ false

-- no process of the class is inside a turn of a guard
abbrev pub NoTurn : Guard → ClassPart → Type 0
NoTurn g part = (p slot : ℕ) → NotInTurn g (slot_at (part.vp p) slot)

-- the home names frame n
abbrev pub names_frame : Home → ℕ → Bool
names_frame (H.Resident f page size) n = f == n
names_frame _ n = false

-- it is page n
abbrev pub is_page : Option ℕ → ℕ → Bool
is_page None n = false
is_page (Some g) n = g == n

-- the home names page n
abbrev pub names_page : Home → ℕ → Bool
names_page (H.Resident f page size) n = is_page page n
names_page (H.Stored g size) n = g == n
names_page _ n = false

-- the stored words are those of the page, if there is one
abbrev pub PageHolds : GuardedWords → ℕ → Option ℕ → Option (List ℕ) → Type 0
PageHolds w size None stored = stored ≡ None
PageHolds w size (Some g) stored = stored ≡ Some (words_from (λ i. w (PageWord g i)) size)

-- the stored words of a cell are those of the page that its home names
abbrev pub StoredHolds : GuardedWords → Home → Option (List ℕ) → Type 0
StoredHolds w (H.Stored g size) stored = PageHolds w size (Some g) stored
StoredHolds w (H.Resident f page size) stored = PageHolds w size page stored
StoredHolds w _ stored = stored ≡ None

-- a tenant is u + 1 exactly where the home of u names its frame or page, else 0
pub record IsTenant (named : SegId → Bool) (tenant : ℕ) : Type 0 where
  pub is : (u : SegId) → named u ≡ true → tenant ≡ seg_number u + 1
  pub of_one : tenant ≢ 0 → (u : SegId) × (named u ≡ true)

-- the words that the class's turn guards hold what the part of the class is
pub record ClassHolds (pool : Pool) (w : GuardedWords) (part : Part) : Type 0 where
  pub next_serial : w NextSerial ≡ part.next_serial
  pub entries : (u : SegId) (e : ℕ) → entry_of (w (EntryOf u e)) ≡ entry_at (part.cell u) e
  pub stored : (u : SegId) → StoredHolds w (home_of (w (HomeOf u))) (part.cell u).stored
  pub frames_below : (u : SegId) (f : ℕ) → names_frame (home_of (w (HomeOf u))) f ≡ true → f < pool.frames
  pub pages_below : (u : SegId) (g : ℕ) → names_page (home_of (w (HomeOf u))) g ≡ true → g < pool.pages
  pub frames : (f : ℕ) → IsTenant (λ u. names_frame (home_of (w (HomeOf u))) f) (w (FrameTenant f))
  pub pages : (g : ℕ) → IsTenant (λ u. names_page (home_of (w (HomeOf u))) g) (w (PageTenant g))

-- a home is that of a cell, and the words of its frame are the live words
abbrev pub HomeHolds : GuardedWords → Home → CellHome → Type 0
HomeHolds w H.Never home = home ≡ Never
HomeHolds w (H.Stored g size) home = home ≡ Stored
HomeHolds w (H.Resident f page size) home = home ≡ In (words_from (λ i. w (FrameWord f i)) size)
HomeHolds w H.Deleted home = home ≡ Deleted

-- the words that a segment's turn guards hold what its cell is
pub record SegmentHolds (w : GuardedWords) (u : SegId) (cell : Cell) : Type 0 where
  pub home : HomeHolds w (home_of (w (HomeOf u))) cell.home
  pub writes : w (WritesOf u) ≡ cell.writes

-- words hold what a part is, for the class and for each segment
pub record Holds (pool : Pool) (w : GuardedWords) (part : Part) : Type 0 where
  pub of_class : ClassHolds pool w part
  pub of_segments : (u : SegId) → SegmentHolds w u (part.cell u)

-- the part of a class stands for that of the other machine
pub record PartStands (s : Shared) (d : ℕ) (m : ClassPart) (a : Part) : Type 0 where
  pub processes : (p : ℕ) → processes_of (m.vp p) ≡ a.slots p
  pub lines : printed s m ≡ a.lines
  pub used : m.words.places ≡ a.used
  pub components : (x : ℕ) (u : SegId) → m.words.component x u ≡ a.component x u
  pub sequencers : (u : SegId) → m.words.sequencer u ≡ (a.cell u).sequencer
  pub of_class : NoTurn OfClass m → ClassHolds (pool_of s d) m.words.guarded a
  pub of_segments : (u : SegId) → NoTurn (OfSegment u) m → SegmentHolds m.words.guarded u (a.cell u)

-- the machine of words stands for a state
pub record StandsFor (m : Machine) (a : State) : Type 0 where
  pub shared : m.shared ≡ a.shared
  pub parts : (d : ℕ) → PartStands m.shared d (m.part d) (a.part d)
