-- The events of a schedule.
use Rattle.std.specs.Prelude.{ℕ, zero, suc, ◌+◌, ◌*◌, ◌/◌, ◌%◌, ◌^◌, List, [], ◌∷◌, ◌++◌, map, length, replicate, slice_index}
use Rattle.std.specs.List.{flat_map}
use Rattle.lists.specs.Lists.{below}
use Rattle.words_layout.specs.declared.op.Event.{Event}
use Rattle.config_text.specs.declared.config.Config.{Config}
use Rattle.config_text.specs.declared.config.Item.{Item}
use Rattle.config_text.specs.declared.config.Item.TheVariants.{Events, Mix, Sweep}

-- an event of processor p and class c
abbrev pub event : ℕ → ℕ → Event
event p c = record { processor = p; class = c }

-- the next number of a draw
abbrev pub drawn : ℕ → ℕ
drawn x = (x * 6364136223846793005 + 1442695040888963407) % 2 ^ 64

-- count events drawn behind x
abbrev pub mixed : (processors classes : ℕ) → ℕ → ℕ → List Event
mixed processors classes x zero = []
mixed processors classes x (suc count) =
    event (drawn x / 2 ^ 33 % processors) (drawn x / 2 ^ 48 % classes) ∷ mixed processors classes (drawn x) count

-- a round from the place in the cycle that each processor has reached: a quantum of each processor, one after the other
abbrev pub swept_round : (processors quantum : ℕ) → List ℕ → ℕ → List Event
swept_round processors quantum cycle place =
    flat_map (λ p. map (λ k. event p (slice_index cycle ((place + k) % length cycle))) (below quantum)) (below processors)

-- the header that a schedule needs
pub record Shape : Type 0 where
  pub processors : ℕ
  pub classes : ℕ
  pub cycle : List ℕ
  pub quantum : ℕ

-- so many rounds, the first one at this place of the cycle
abbrev pub swept : Shape → ℕ → ℕ → List Event
swept shape place zero = []
swept shape place (suc rounds) =
    swept_round shape.processors shape.quantum shape.cycle place ++ swept shape (place + shape.quantum) rounds

-- the events of the items, where each processor stands at this place of its cycle; only a sweep moves it
abbrev pub scheduled : Shape → ℕ → List Item → List Event
scheduled shape place [] = []
scheduled shape place (Events p c n ∷ items) = replicate n (event p c) ++ scheduled shape place items
scheduled shape place (Mix x n ∷ items) = mixed shape.processors shape.classes x n ++ scheduled shape place items
scheduled shape place (Sweep n ∷ items) = swept shape place n ++ scheduled shape (place + n * shape.quantum) items

-- the header of a configuration
abbrev pub shape_of : Config → Shape
shape_of k = record { processors = k.processors; classes = length k.table; cycle = k.cycle; quantum = k.quantum }

-- Sched(K): the events of a configuration's schedule
abbrev pub events_of : Config → List Event
events_of k = scheduled (shape_of k) 0 k.schedule
