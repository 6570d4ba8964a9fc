-- The summary of a run of the large configuration: for each class how many console lines it has, how many of its processes have
-- ended and how many are live, and how many tickets were drawn from its segments.
use Rattle.std.specs.Prelude.{ℕ, Bool, true, false, not, List, [], ◌∷◌, ◌++◌, codes, length, count_by, Option, Some, None, slice_index_or}
use Rattle.std.specs.List.{flat_map, sum_by}
use Rattle.std.specs.Fmt.{decimal}
use Rattle.lists.specs.Lists.{below}
use Rattle.class_model.specs.Config.{classes}
use Rattle.class_model.specs.Process.{Process}
use Rattle.class_model.specs.Report.{line_of}
use Rattle.class_model.specs.State.{State, identities}
use Rattle.machine.specs.Machine.{Machine}
use Rattle.machine.specs.Reading.{buffered, processes_of}
use Rattle.summary.specs.declared.totals.Totals.{Totals}

-- ---- what a class comes to

-- the slot holds a process that is live, or else one that has ended
abbrev pub is_in_state : Bool → Option Process → Bool
is_in_state live None = false
is_in_state true (Some p) = p.live
is_in_state false (Some p) = not p.live

-- how many processes are in that state, over four slots of each of four processors
abbrev pub processes_in : Bool → (ℕ → List (Option Process)) → ℕ
processes_in live slots = sum_by (λ p. count_by (λ i. is_in_state live (slice_index_or (slots p) i None)) (below 4)) (below 4)

-- class c in a state of the machine of whole instructions
abbrev pub totals : State → ℕ → Totals
totals a c = let part = a.part c in record {
  lines = length part.lines;
  ended = processes_in false part.slots;
  live = processes_in true part.slots;
  tickets = sum_by (λ u. (part.cell u).sequencer) (identities (classes a.shared));
}

-- class c in the step machine: its lines are in its console buffers, and its tickets are told by the words of its sequencers
abbrev pub machine_totals : Machine → ℕ → Totals
machine_totals m c = let part = m.part c in record {
  lines = length (buffered part);
  ended = processes_in false (λ p. processes_of (part.vp p));
  live = processes_in true (λ p. processes_of (part.vp p));
  tickets = sum_by part.words.sequencer (identities (classes m.shared));
}

-- ---- the text

-- the first line: the number, and how large the configuration is
abbrev pub heading : ℕ → List ℕ
heading number = line_of (codes "large" ∷ decimal number ∷ codes "classes" ∷ codes "8" ∷ codes "processors" ∷ codes "4" ∷
    codes "processes" ∷ codes "128" ∷ codes "events" ∷ codes "4000000" ∷ [])

-- the line of a class
abbrev pub totals_line : ℕ → Totals → List ℕ
totals_line c t = line_of (codes "class" ∷ decimal c ∷ codes "lines" ∷ decimal t.lines ∷ codes "ended" ∷ decimal t.ended ∷
    codes "live" ∷ decimal t.live ∷ codes "tickets" ∷ decimal t.tickets ∷ [])

-- the first line, and a line for each class in order
abbrev pub summary_text : ℕ → ℕ → (ℕ → Totals) → List ℕ
summary_text number count totals_of = heading number ++ flat_map (λ c. totals_line c (totals_of c)) (below count)

-- the summary that a state of the machine of whole instructions tells
abbrev pub summary : ℕ → State → List ℕ
summary number a = summary_text number (classes a.shared) (totals a)

-- the summary that the step machine tells
abbrev pub machine_summary : ℕ → Machine → List ℕ
machine_summary number m = summary_text number (classes m.shared) (machine_totals m)
