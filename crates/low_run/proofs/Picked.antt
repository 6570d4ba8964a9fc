-- The events of classes whose flags stand: one more at a time, and those at or below a class.
use Rattle.std.proofs.Common.{◌≡◌, ℕ, ◌+◌, ◌<◌, Bool, List, [], ◌∷◌, ◌++◌, length, take, get_or, refl, ap, ◌∙◌}
use Rattle.std.specs.Prelude.{if◌then◌else◌}
use Rattle.std.specs.List.{All, AllByRecursion}
use Rattle.std.proofs.lemmas.List.{take_more}
use Rattle.std.proofs.lemmas.List.Elements.{filter-append, All-filter, recursion_from_All}
use Rattle.labels.specs.Label.{ClassEntry, at_or_below}
use Rattle.words_layout.specs.declared.op.Event.{Event}
use Rattle.machine.specs.Low.{low_events}
use Rattle.low_run.specs.Flags.{AreLow, is_low, low_of, picked}

-- the event at a place
abbrev pub event_at : List Event → ℕ → Event
event_at events i = get_or events i record { processor = 0; class = 0 }

module _ (flags : List Bool) where
  pub low_more : (events : List Event) (i : ℕ) → i < length events →
      low_of flags (take (i + 1) events) ≡ low_of flags (take i events) ++ picked (is_low flags (event_at events i).class) (event_at events i)
  low_more events i lt =
      let e : Event = event_at events i in
      ap (low_of flags) (take_more events i record { processor = 0; class = 0 } lt) ∙ filter-append (λ (x : Event). is_low flags x.class) (take i events) (e ∷ [])

module _ (table : List ClassEntry) (c : ℕ) where
  module _ (flags : List Bool) (low : AreLow table c flags) where
    at_or_below_by : (events : List Event) → AllByRecursion (λ (e : Event). e.class < length table) events → low_of flags events ≡ low_events table c events
    at_or_below_by [] h = refl
    at_or_below_by (e ∷ es) h =
        ap (λ (b : Bool). if b then e ∷ low_of flags es else low_of flags es) (low.low e.class h.0)
        ∙ ap (λ (xs : List Event). if at_or_below table e.class c then e ∷ xs else xs) (at_or_below_by es h.1)

    -- where the flags are those of the classes at or below the class, these are the events there
    pub low_is : (events : List Event) → All (λ (e : Event). e.class < length table) events → low_of flags events ≡ low_events table c events
    low_is events h = at_or_below_by events (recursion_from_All (λ (e : Event). e.class < length table) events h)

  -- what holds of each event holds of each one at or below the class
  pub low_all : (P : Event → Type 0) (events : List Event) → All P events → All P (low_events table c events)
  low_all P events all = All-filter (λ (x : Event). at_or_below table x.class c) P events all
