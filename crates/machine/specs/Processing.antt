-- A virtual processor in memory, as plain data, and the one of the step machine that it stands for.
use Rattle.std.specs.Prelude.{ℕ, ◌+◌, ◌%◌, Bool, false, List, [], ◌∷◌, ◌++◌, map, length, nat_lt, if◌then◌else◌, Option, Some, None, is_none, slice_index_or, slice_set, count_by}
use Rattle.std.specs.Option.{option_map}
use Rattle.class_model.specs.Config.{Shared}
use Rattle.policy.specs.declared.answers.Outcome.{Outcome as Answer}
use Rattle.policy.specs.declared.answers.Outcome.TheVariants as A
use Rattle.process.specs.declared.doing.Made.{Made as Given}
use Rattle.process.specs.declared.doing.Made.TheVariants as G
use Rattle.process.specs.Standing.{Standing, running_of, new_standing}
use Rattle.machine.specs.Machine.{VirtualProcessor}

-- console lines by place, and for how many there is room
pub record Console : Type 0 where
  pub pairs : List (ℕ × ℕ)
  pub room : ℕ

-- Its class, its four slots, the current one, its console lines by place, and for how many lines there is room.
pub record Processing : Type 0 where
  pub class : ℕ
  pub slots : List (Option Standing)
  pub current : ℕ
  pub lines : List (ℕ × ℕ)
  pub room : ℕ

-- the virtual processor that it stands for
abbrev pub vp_of : Shared → Processing → VirtualProcessor
vp_of s v = record { slots = map (option_map (running_of s)) v.slots; current = v.current; lines = v.lines }

-- the slot holds a live process
abbrev pub holds_live : Option Standing → Bool
holds_live None = false
holds_live (Some p) = p.process.live

-- how many of its processes are live
abbrev pub live_count : List (Option Standing) → ℕ
live_count slots = count_by holds_live slots

-- ---- what private functions speak of

-- one line more, where there is room
abbrev pub lines_with : ℕ → List (ℕ × ℕ) → ℕ → ℕ → List (ℕ × ℕ)
lines_with room lines place value = if nat_lt (length lines) room then lines ++ (place, value) ∷ [] else lines

-- slot i holds a live process
abbrev pub lives_in : List (Option Standing) → ℕ → Bool
lives_in slots i = holds_live (slice_index_or slots i None)

-- the first slot with a live process, from the current one on
abbrev pub first_live : List (Option Standing) → ℕ → Option ℕ
first_live slots c =
    if lives_in slots c then Some c
    else if lives_in slots ((c + 1) % 4) then Some ((c + 1) % 4)
    else if lives_in slots ((c + 2) % 4) then Some ((c + 2) % 4)
    else if lives_in slots ((c + 3) % 4) then Some ((c + 3) % 4)
    else None

-- slot i never held a process
abbrev pub is_free : List (Option Standing) → ℕ → Bool
is_free slots i = is_none (slice_index_or slots i None)

-- the least slot that never held a process
abbrev pub free_in : List (Option Standing) → Option ℕ
free_in slots =
    if is_free slots 0 then Some 0
    else if is_free slots 1 then Some 1
    else if is_free slots 2 then Some 2
    else if is_free slots 3 then Some 3
    else None

-- the slots with a new process in its slot, if there is one
abbrev pub slots_with : ℕ → List (Option Standing) → Given → List (Option Standing)
slots_with class slots (G.Child slot script ring start) = slice_set slots slot (Some (new_standing class script ring start))
slots_with class slots _ = slots

-- the lines with a new one, if there is one
abbrev pub lines_given : ℕ → List (ℕ × ℕ) → Given → List (ℕ × ℕ)
lines_given room lines (G.Line place value) = lines_with room lines place value
lines_given room lines _ = lines

-- the virtual processor with what a step gave beside
abbrev pub with_made : Processing → Given → Processing
with_made v made = record v { slots = slots_with v.class v.slots made; lines = lines_given v.room v.lines made }

-- the slot that is current after a step of slot i
abbrev pub current_after : ℕ → Answer → ℕ
current_after i A.Going = i
current_after i _ = (i + 1) % 4
