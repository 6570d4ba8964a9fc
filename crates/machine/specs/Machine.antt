-- The machine of words: one operation of one virtual processor at a time.
use Rattle.std.specs.Prelude.{ℕ, ◌+◌, ◌%◌, Bool, false, List, [], ◌∷◌, ◌++◌, if◌then◌else◌, nat_lt, map, length, Option, Some, None, is_none, slice_index_or, slice_set}
use Rattle.std.specs.List.{find, position}
use Rattle.std.specs.Option.{option_map}
use Rattle.lists.specs.Lists.{below, put}
use Rattle.words_layout.specs.Words.{Words, WordOp, answer_to, words_after}
use Rattle.words_layout.specs.declared.op.Event.{Event}
use Rattle.class_model.specs.Config.{Shared}
use Rattle.class_model.specs.Process.{ProcName}
use Rattle.turns.specs.Doing.{Fresh, Ending, Goes}
use Rattle.process.specs.Running.{Running, Made, Line, Child, Absorbed, next_op, absorb}

-- the virtual processor of a class on a processor: four slots, the current one, and console lines by place
pub record VirtualProcessor : Type 0 where
  pub slots : List (Option Running)
  pub current : ℕ
  pub lines : List (ℕ × ℕ)

-- the part of one class: its words, and its virtual processor on each processor
pub record ClassPart : Type 0 where
  pub words : Words
  pub vp : ℕ → VirtualProcessor

-- what no step changes, and the part of each class
pub record Machine : Type 0 where
  pub shared : Shared
  pub part : ℕ → ClassPart

-- the process of a slot, if it ever held one
abbrev pub slot_at : VirtualProcessor → ℕ → Option Running
slot_at v i = slice_index_or v.slots i None

-- there is a process, and it is live
abbrev pub is_live : Option Running → Bool
is_live None = false
is_live (Some r) = r.process.live

-- the first slot with a live process, from the current one on, cyclically
abbrev pub live_slot : VirtualProcessor → Option ℕ
live_slot v = find (λ i. is_live (slot_at v i)) (map (λ j. (v.current + j) % 4) (below 4))

-- the process that takes the next step, with its slot
abbrev pub turn_of : VirtualProcessor → Option ℕ → Option (ℕ × Running)
turn_of v None = None
turn_of v (Some i) = option_map (λ (r : Running). (i, r)) (slot_at v i)

-- the process that takes the next step, from the current slot on
abbrev pub chosen : VirtualProcessor → Option (ℕ × Running)
chosen v = turn_of v (live_slot v)

-- the operation of the step of a virtual processor of class d, none where no process is live
abbrev pub vp_op : Shared → ℕ → VirtualProcessor → Option WordOp
vp_op s d v = option_map (λ (x : ℕ × Running). next_op s d x.1) (chosen v)

-- the least slot that never held a process
abbrev pub free_slot : VirtualProcessor → Option ℕ
free_slot v = position (λ r. is_none r) v.slots

-- after a Poll and at the end of an instruction the next slot is current
abbrev pub slot_after : ℕ → Ending → ℕ
slot_after i Goes = i
slot_after i _ = (i + 1) % 4

-- a new process stands in its slot
abbrev pub slots_after : List (Option Running) → Made → List (Option Running)
slots_after slots (Child slot child) = slice_set slots slot (Some (record { process = child; doing = Fresh }))
slots_after slots _ = slots

-- a line that finds the console buffer full isn't kept
abbrev pub lines_after : Shared → List (ℕ × ℕ) → Made → List (ℕ × ℕ)
lines_after s lines (Line place value) = if nat_lt (length lines) s.console then lines ++ (place, value) ∷ [] else lines
lines_after s lines _ = lines

-- the virtual processor with the process of slot i after its step
abbrev pub vp_absorbed : Shared → VirtualProcessor → ℕ → Absorbed → VirtualProcessor
vp_absorbed s v i x = record {
  slots = slots_after (slice_set v.slots i (Some x.running)) x.made;
  current = slot_after i x.ending;
  lines = lines_after s v.lines x.made;
}

-- what the process that was chosen makes of the answer
abbrev pub absorbed : Shared → ℕ → VirtualProcessor → ℕ → ℕ × Running → Absorbed
absorbed s d v answer x = absorb s d x.1 (free_slot v) answer

-- where no process is live it stays as it is
abbrev pub vp_chosen : Shared → ℕ → VirtualProcessor → ℕ → Option (ℕ × Running) → VirtualProcessor
vp_chosen s d v answer None = v
vp_chosen s d v answer (Some x) = vp_absorbed s v x.0 (absorbed s d v answer x)

-- the virtual processor after the answer to its operation
abbrev pub vp_after : Shared → ℕ → VirtualProcessor → ℕ → VirtualProcessor
vp_after s d v answer = vp_chosen s d v answer (chosen v)

-- the slot, where there was an effect
abbrev pub effect_slot : ℕ → Bool → List ℕ
effect_slot i effect = if effect then i ∷ [] else []

-- the slot of the process that was chosen, where there was an effect
abbrev pub effect_chosen : Shared → ℕ → VirtualProcessor → ℕ → Option (ℕ × Running) → List ℕ
effect_chosen s d v answer None = []
effect_chosen s d v answer (Some x) = effect_slot x.0 (absorbed s d v answer x).effect

-- the slot whose instruction or look takes effect by this answer, if one does
abbrev pub vp_effect : Shared → ℕ → VirtualProcessor → ℕ → List ℕ
vp_effect s d v answer = effect_chosen s d v answer (chosen v)

-- the words of each class
abbrev pub words_of : Machine → ℕ → Words
words_of m class = (m.part class).words

-- the operation is done on the words, and its answer absorbed; where there is none nothing changes
abbrev pub part_done : Shared → (ℕ → Words) → ℕ → ClassPart → ℕ → Option WordOp → ClassPart
part_done s words d here p None = here
part_done s words d here p (Some op) = record {
  words = words_after here.words op;
  vp = put here.vp p (vp_after s d (here.vp p) (answer_to words d op));
}

-- the part of class d after a step of its virtual processor on p, given the words of each class
abbrev pub part_step : Shared → (ℕ → Words) → ℕ → ClassPart → ℕ → ClassPart
part_step s words d here p = part_done s words d here p (vp_op s d (here.vp p))

-- one event: the part of its class takes the step, and no other part changes
abbrev pub step : Machine → Event → Machine
step m e = record m { part = put m.part e.class (part_step m.shared (words_of m) e.class (m.part e.class) e.processor) }

-- a list of events
abbrev pub run : Machine → List Event → Machine
run m [] = m
run m (e ∷ events) = run (step m e) events

-- the slot of the effect by the answer to that operation
abbrev pub part_ends : Shared → (ℕ → Words) → ℕ → ClassPart → ℕ → Option WordOp → List ℕ
part_ends s words d here p None = []
part_ends s words d here p (Some op) = vp_effect s d (here.vp p) (answer_to words d op)

-- the slot, if any, whose instruction takes effect at such a step
abbrev pub part_effect : Shared → (ℕ → Words) → ℕ → ClassPart → ℕ → List ℕ
part_effect s words d here p = part_ends s words d here p (vp_op s d (here.vp p))

-- the process, if any, whose instruction takes effect at an event
abbrev pub effect_at : Machine → Event → List ProcName
effect_at m e =
    map (λ slot. record { processor = e.processor; class = e.class; slot = slot })
    (part_effect m.shared (words_of m) e.class (m.part e.class) e.processor)

-- the order of effect of a list of events
abbrev pub order_of_effect : Machine → List Event → List ProcName
order_of_effect m [] = []
order_of_effect m (e ∷ events) = effect_at m e ++ order_of_effect (step m e) events
