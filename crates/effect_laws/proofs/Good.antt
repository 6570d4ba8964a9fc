-- What is true of each state that a valid configuration leads to: sizes and brackets agree with one table of identities,
-- processes fit, and counts are at most the number of steps.
use Rattle.std.proofs.Common.{ℕ, ◌≤◌, ◌<◌, true, List, ◌≡◌, Some, length}
use Rattle.rings.specs.Brackets.{Brackets, in_order}
use Rattle.words_layout.specs.Segments.{seg}
use Rattle.words_layout.specs.declared.segment.SegId.{SegId}
use Rattle.words_layout.specs.declared.coding.Alias.{Alias}
use Rattle.policy.specs.Known.{Known, alias_brackets}
use Rattle.class_model.specs.Config.{classes, flows}
use Rattle.class_model.specs.Process.{Process, ProcName, known_at}
use Rattle.class_model.specs.State.{State, Cell, In, cell_at, entry_at, process_at}
use Rattle.turns.specs.Doing.{Fresh}
use Rattle.process.specs.Running.{Running}
use Rattle.process.specs.Fits.{IsSound, Fits, KnownFits}

-- the size and the brackets that each identity, with its class, has or will have
pub record Given : Type 0 where
  pub size : ℕ → SegId → ℕ
  pub brackets : ℕ → SegId → Brackets

-- the identity was given out: its serial is below the next one of its mentor's class
pub record InUse (a : State) (u : SegId) : Type 0 where
  pub mentor : u.mentor < classes a.shared
  pub serial : u.serial < (a.part u.mentor).next_serial

-- an entry of a cell of class c names a segment in use, with its size and brackets
pub record EntryGood (t : Given) (a : State) (c : ℕ) (x : Alias) : Type 0 where
  pub in_use : InUse a (seg c x.serial)
  pub class : x.class < classes a.shared
  pub above : flows a.shared c x.class ≡ true
  pub size : x.size ≡ t.size x.class (seg c x.serial)
  pub in_range : (1 ≤ x.size) × (x.size ≤ 64)
  pub brackets : alias_brackets x ≡ t.brackets x.class (seg c x.serial)
  pub in_order : in_order (alias_brackets x) ≡ true

-- words of a cell are as many as its size, and its identity is in use
pub record WordsGood (t : Given) (a : State) (c : ℕ) (u : SegId) (words : List ℕ) : Type 0 where
  pub size : length words ≡ t.size c u
  pub in_use : InUse a u
  pub in_range : (1 ≤ length words) × (length words ≤ 64)

-- a cell has eight entries, and its counts are at most n
pub record CellGood (n : ℕ) (t : Given) (a : State) (c : ℕ) (u : SegId) (cell : Cell) : Type 0 where
  pub eight : length cell.entries ≡ 8
  pub entries : (e : ℕ) (x : Alias) → entry_at cell e ≡ Some x → EntryGood t a c x
  pub live : (words : List ℕ) → cell.home ≡ In words → WordsGood t a c u words
  pub stored : (words : List ℕ) → cell.stored ≡ Some words → WordsGood t a c u words
  pub writes : cell.writes ≤ n
  pub sequencer : cell.sequencer ≤ n

-- what a process of class d knows fits, and is a segment in use
pub record KnownGood (t : Given) (a : State) (d : ℕ) (k : Known) : Type 0 where
  pub fits : KnownFits a.shared d k
  pub in_use : InUse a k.seg
  pub size : k.size ≡ t.size k.class k.seg
  pub brackets : k.brackets ≡ t.brackets k.class k.seg

-- before the next instruction of a process
abbrev pub at_rest : Process → Running
at_rest p = record { process = p; doing = Fresh }

-- a process fits, what it knows is good, and its pad has 64 words
pub record ProcessGood (t : Given) (a : State) (d : ℕ) (p : Process) : Type 0 where
  pub fits : Fits a.shared d (at_rest p)
  pub known : (i : ℕ) (k : Known) → known_at p i ≡ Some k → KnownGood t a d k
  pub pad : length p.pad ≡ 64

-- the root is in use, with no words and the brackets 7 7 7
pub record RootGood (t : Given) (a : State) : Type 0 where
  pub in_use : InUse a (seg 0 0)
  pub size : t.size 0 (seg 0 0) ≡ 0
  pub brackets : t.brackets 0 (seg 0 0) ≡ record { r1 = 7; r2 = 7; r3 = 7 }

-- all of a state, after at most n steps
pub record Good (n : ℕ) (a : State) : Type 0 where
  pub given : Given
  pub sound : IsSound a.shared
  pub root : RootGood given a
  pub serials : (c : ℕ) → (a.part c).next_serial ≤ 64
  pub cells : (c : ℕ) (u : SegId) → CellGood n given a c u (cell_at a c u)
  pub processes : (name : ProcName) (p : Process) → process_at a name ≡ Some p → ProcessGood given a name.class p
  pub used : (c : ℕ) → (a.part c).used ≤ n
  pub components : (c x : ℕ) (u : SegId) → (a.part c).component x u ≤ n
