-- The opening state, and the state after a list of steps.
use Rattle.std.specs.Prelude.{ℕ, ◌+◌, ◌&&◌, List, [], ◌∷◌, ◌==◌, if◌then◌else◌, map, max, fold, Option, Some, None, slice_get}
use Rattle.std.specs.List.{filter, find}
use Rattle.std.specs.Option.{option_map, option_and_then}
use Rattle.lists.specs.Lists.{below}
use Rattle.words_layout.specs.Segments.{same_seg}
use Rattle.words_layout.specs.declared.segment.SegId.{SegId}
use Rattle.words_layout.specs.declared.coding.Alias.{Alias}
use Rattle.class_model.specs.Config.{Config, SegRecord, ProcessLine, shared_of}
use Rattle.class_model.specs.Process.{Process, ProcName, new_process}
use Rattle.class_model.specs.State.{State, Part, Cell, CellHome, Never, Stored}
use Rattle.policy.specs.Known.{new_alias}
use Rattle.class_model.specs.Step.{Deed, deed, step}

-- the record of identity u and class c, if there is one
abbrev pub record_of : Config → ℕ → SegId → Option SegRecord
record_of k c u = find (λ r. r.class == c && same_seg r.seg u) k.records

-- the words that were kept of the cell of class c and identity u
abbrev pub kept_of : Config → ℕ → SegId → Option (List ℕ)
kept_of k c u = option_and_then (λ (r : SegRecord). r.kept) (record_of k c u)

-- the alias of a record
abbrev pub alias_of : SegRecord → Alias
alias_of r = new_alias r.class r.brackets r.size r.seg.serial

-- what stands at the opening in entry e of the cell of class c and identity u
abbrev pub opening_entry : Config → ℕ → SegId → ℕ → Option Alias
opening_entry k c u e = option_map alias_of (find (λ r. r.seg.mentor == c && same_seg r.mentor u && r.entry == e) k.records)

-- Stored where words were kept, else Never
abbrev pub opening_home : Option (List ℕ) → CellHome
opening_home None = Never
opening_home (Some words) = Stored

-- a cell at the opening: what the records say, else blank
abbrev pub opening_cell : Config → ℕ → SegId → Cell
opening_cell k c u = record {
  home = opening_home (kept_of k c u);
  stored = kept_of k c u;
  writes = 0;
  sequencer = 0;
  entries = map (opening_entry k c u) (below 8);
}

-- one more than the greatest serial under mentors of class c, the root's among them, or 0
abbrev pub opening_serial : Config → ℕ → ℕ
opening_serial k c =
    fold (λ n (r : SegRecord). if r.seg.mentor == c then max n (r.seg.serial + 1) else n) (if c == 0 then 1 else 0) k.records

-- the processes of a processor and class, in the order of their lines
abbrev pub opening_slots : Config → ℕ → ℕ → List (Option Process)
opening_slots k c p =
    let lines = filter (λ (l : ProcessLine). l.processor == p && l.class == c) k.processes in
    map (λ i. option_map (λ (l : ProcessLine). new_process c l.script l.ring 0) (slice_get lines i)) (below 4)

-- the part of class c at the opening
abbrev pub opening_part : Config → ℕ → Part
opening_part k c = record {
  cell = opening_cell k c;
  component = λ x u. 0;
  next_serial = opening_serial k c;
  lines = [];
  used = 0;
  slots = opening_slots k c;
}

-- the opening state of a configuration
abbrev pub opening : Config → State
opening k = record { shared = shared_of k; part = opening_part k }

-- the state after the steps of these processes
abbrev pub steps : State → List ProcName → State
steps a [] = a
steps a (n ∷ names) = steps (step a n) names

-- A(K, E)
abbrev pub run : Config → List ProcName → State
run k names = steps (opening k) names

-- an effect in a run: who, the state before, and the deed
pub record Happened : Type 0 where
  pub who : ProcName
  pub before : State
  pub deed : Deed

-- a step that was made stands in front of those behind it
abbrev pub happened : State → ProcName → Option Deed → List Happened → List Happened
happened a n None rest = rest
happened a n (Some x) rest = record { who = n; before = a; deed = x } ∷ rest

-- the effects of a run, in order
abbrev pub history : State → List ProcName → List Happened
history a [] = []
history a (n ∷ names) = happened a n (deed a n) (history (step a n) names)
