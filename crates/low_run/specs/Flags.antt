-- The classes at or below a class, as a list of flags.
use Rattle.std.specs.Prelude.{◌≡◌, ◌<◌, ◌≤◌, ℕ, Bool, false, List, [], ◌∷◌, length, slice_index_or, if◌then◌else◌}
use Rattle.std.specs.List.{filter}
use Rattle.labels.specs.Label.{ClassEntry, at_or_below}
use Rattle.words_layout.specs.declared.op.Event.{Event}

-- the flag of a class
abbrev pub is_low : List Bool → ℕ → Bool
is_low flags c = slice_index_or flags c false

-- The flags stand for just those classes of the table that are at or below the class.
pub record AreLow (table : List ClassEntry) (class : ℕ) (flags : List Bool) : Type 0 where
  pub low : (c : ℕ) → c < length table → is_low flags c ≡ at_or_below table c class
  pub others : (c : ℕ) → length table ≤ c → is_low flags c ≡ false

-- the events of classes whose flags stand, in order
abbrev pub low_of : List Bool → List Event → List Event
low_of flags events = filter (λ (e : Event). is_low flags e.class) events

-- the event, where it is picked
abbrev pub picked : Bool → Event → List Event
picked low e = if low then e ∷ [] else []
