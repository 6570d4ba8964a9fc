-- The quanta of the processors of a team, side by side.
use Rattle.std.specs.Prelude.{◌≡◌, ℕ, ◌+◌, length, Option, Some, None}
use Rattle.class_model.specs.Config.{Shared, classes}
use Rattle.machine.specs.Steps.{IsBank}
use Rattle.shared_words.specs.Ports.{Opened, Port, PortGains, Whole, first_view, port_at, with_port}
use Rattle.shared_words.specs.declared.seats.Seats.{Seats}
use Rattle.shared_words.specs.declared.view.View.{View}
use Rattle.processors.specs.declared.team.Team.{Team}
use Rattle.processors.specs.Turns.{ProcessorState, Takes, IsReady}

-- a processor takes its quantum through its port
pub record Quantum (s : Shared) (p : ProcessorState) (port : Port) (p' : ProcessorState) (port' : Port) : Type 0 where
  pub takes : Takes PortGains s p.quantum p port p' port'
  pub bank : IsBank s p'.bank

-- the same where both are there, and nothing where neither is
abbrev pub QuantumAt : Shared → Option ProcessorState → Option Port → Option ProcessorState → Option Port → Type 0
QuantumAt s None port p' port' = (p' ≡ None) × (port' ≡ port)
QuantumAt s (Some p) None p' port' = ⊥
QuantumAt s (Some p) (Some port) p' port' = (q : ProcessorState) × (t : Port) × (p' ≡ Some q) × (port' ≡ Some t) × Quantum s p port q t

-- a processor that is there has a port, and can take a quantum through it
abbrev pub ReadyAt : Shared → Option ProcessorState → Option Port → Type 0
ReadyAt s None port = Unit {0}
ReadyAt s (Some p) None = ⊥
ReadyAt s (Some p) (Some port) = IsReady s p port.words

-- a later processor is there only where the one before it is
abbrev pub Follows : Option ProcessorState → Option ProcessorState → Type 0
Follows None None = Unit {0}
Follows None (Some p) = ⊥
Follows (Some p) next = Unit {0}

-- what holds of a processor, if it is there
abbrev pub IfThere : Option ProcessorState → (ProcessorState → Type 0) → Type 0
IfThere None P = Unit {0}
IfThere (Some p) P = P p

-- each processor has a port, and can take a quantum through it
pub record AreReady (s : Shared) (team : Team) (seats : Seats) : Type 0 where
  pub first : IsReady s team.first seats.first.words
  pub second : ReadyAt s team.second seats.second
  pub third : ReadyAt s team.third seats.third
  pub fourth : ReadyAt s team.fourth seats.fourth
  pub third_follows : Follows team.second team.third
  pub fourth_follows : Follows team.third team.fourth

-- each processor took its quantum through its port
pub record QuantaTaken (s : Shared) (team : Team) (seats : Seats) (team' : Team) (seats' : Seats) : Type 0 where
  pub first : Quantum s team.first seats.first team'.first seats'.first
  pub second : QuantumAt s team.second seats.second team'.second seats'.second
  pub third : QuantumAt s team.third seats.third team'.third seats'.third
  pub fourth : QuantumAt s team.fourth seats.fourth team'.fourth seats'.fourth

abbrev pub count_with : Option ProcessorState → ℕ → ℕ
count_with None n = 1
count_with (Some p) n = n + 1

-- how many processors there are
abbrev pub team_count : Team → ℕ
team_count team = count_with team.second (count_with team.third (count_with team.fourth 1))

-- each processor can take a quantum on these words, and a later one is there only where the one before it is
pub record TeamReady (s : Shared) (team : Team) (words : Opened) : Type 0 where
  pub first : IsReady s team.first words
  pub second : IfThere team.second (λ p. IsReady s p words)
  pub third : IfThere team.third (λ p. IsReady s p words)
  pub fourth : IfThere team.fourth (λ p. IsReady s p words)
  pub third_follows : Follows team.second team.third
  pub fourth_follows : Follows team.third team.fourth

-- each processor has one virtual processor for each class
pub record HasWidth (s : Shared) (team : Team) : Type 0 where
  pub first : length team.first.bank ≡ classes s
  pub second : IfThere team.second (λ p. length p.bank ≡ classes s)
  pub third : IfThere team.third (λ p. length p.bank ≡ classes s)
  pub fourth : IfThere team.fourth (λ p. length p.bank ≡ classes s)

-- the seats of a deal
abbrev pub dealt : Opened → ℕ → Whole → Seats
dealt words count w = record { first = record { words = words; view = first_view count w }; second = port_at words 1 count w; third = port_at words 2 count w; fourth = port_at words 3 count w }

-- what the seats hold together
abbrev pub gathered : Seats → View
gathered seats = with_port (with_port (with_port seats.first.view seats.second) seats.third) seats.fourth
