-- What the laws of flow say: what is at or below a class goes on by what is at or below it alone.
use Rattle.std.specs.Prelude.{ℕ, ◌≡◌, List, [], ◌∷◌, Some}
use Rattle.words_layout.specs.declared.op.Event.{Event}
use Rattle.class_model.specs.Config.{Config, low_config}
use Rattle.class_model.specs.Valid.{IsConfig}
use Rattle.process.specs.Running.{Running}
use Rattle.process.specs.Fits.{IsSound, Fits}
use Rattle.machine.specs.Machine.{Machine, slot_at, step, run, order_of_effect}
use Rattle.machine.specs.Low.{low_events, low_names, low_part}
use Rattle.machine.specs.Opening.{opening, machine}

-- each process of a machine fits it
abbrev pub AllFit : Machine → Type 0
AllFit m = (d p i : ℕ) (r : Running) → slot_at ((m.part d).vp p) i ≡ Some r → Fits m.shared d r

-- so it is before and after each of these events
abbrev pub AlwaysFit : Machine → List Event → Type 0
AlwaysFit m [] = AllFit m
AlwaysFit m (e ∷ events) = AllFit m × AlwaysFit (step m e) events

-- Two machines, one after these events, the other after those of them at or below c, agree at or below c, and the same
-- processes at or below c took effect in the same order.
pub record GoAlike (c : ℕ) (m n : Machine) (events : List Event) : Type 0 where
  pub parts : low_part c (run m events) ≡ low_part c (run n (low_events m.shared.table c events))
  pub order : low_names m.shared.table c (order_of_effect m events) ≡ order_of_effect n (low_events m.shared.table c events)

-- the part of a valid configuration at or below a class is valid
abbrev pub PartsAreValid : Type 0
PartsAreValid = (k : Config) → IsConfig k → (c : ℕ) → IsConfig (low_config c k)

-- machines that agree at or below a class go on alike, where the processes of the first one fit all along
abbrev pub MachinesGoOnAlike : Type 0
MachinesGoOnAlike = (c : ℕ) (m n : Machine) (events : List Event) → IsSound m.shared → AlwaysFit m events → low_part c m ≡ low_part c n → GoAlike c m n events

-- the processes of a valid configuration fit all along
abbrev pub ProcessesFit : Type 0
ProcessesFit = (k : Config) → IsConfig k → (events : List Event) → AlwaysFit (opening k) events

-- the opening of a valid configuration agrees at or below a class with that of its part there
abbrev pub OpeningsAgree : Type 0
OpeningsAgree = (k : Config) → IsConfig k → (c : ℕ) → low_part c (opening k) ≡ low_part c (opening (low_config c k))

-- so the run of a valid configuration goes at or below a class as that of its part there, by the events there alone
abbrev pub RunsGoOnAlike : Type 0
RunsGoOnAlike = (k : Config) → IsConfig k → (events : List Event) (c : ℕ) → GoAlike c (opening k) (opening (low_config c k)) events

-- where two valid configurations and their events are the same at or below a class, so are the machines after them
abbrev pub NothingFlowsDown : Type 0
NothingFlowsDown =
    (k j : Config) → IsConfig k → IsConfig j → (events others : List Event) (c : ℕ) → low_config c k ≡ low_config c j →
    low_events k.table c events ≡ low_events j.table c others → low_part c (machine k events) ≡ low_part c (machine j others)
