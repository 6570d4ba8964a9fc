-- The steps that a processor takes, one after another.
use Rattle.std.specs.Prelude.{◌≡◌, ℕ, ◌+◌, ◌/◌, ◌^◌, ◌<◌, List, length}
use Rattle.words_layout.specs.Sizes.{class_words}
use Rattle.words_layout.specs.declared.op.Op.{Op}
use Rattle.class_model.specs.Config.{Shared, classes}
use Rattle.machine.specs.Processing.{Processing}
use Rattle.machine.specs.Steps.{IsBank}
use Rattle.shared_words.specs.Ports.{Opened}
use Rattle.round_laws.specs.Turns.{classes_from, TurnsBy}

-- a processor: its number, its virtual processors by class, the cycle of classes, the steps of a quantum, and the steps taken
pub record ProcessorState : Type 0 where
  pub number : ℕ
  pub bank : List Processing
  pub cycle : List ℕ
  pub quantum : ℕ
  pub taken : ℕ

-- a processor takes exactly so many steps, the classes following its cycle from where it stood, and nothing else of it changes
pub record Takes {W : Type 0} (related : W → Op → ℕ → W → Type 0) (s : Shared) (count : ℕ) (p : ProcessorState) (words : W) (p' : ProcessorState) (words' : W) : Type 0 where
  pub turns : TurnsBy related s (classes_from p.cycle p.taken count) p.bank words p'.bank words'
  pub taken : p'.taken ≡ p.taken + count
  pub number : p'.number ≡ p.number
  pub cycle : p'.cycle ≡ p.cycle
  pub quantum : p'.quantum ≡ p.quantum

-- a processor can take a quantum on these words
pub record IsReady (s : Shared) (p : ProcessorState) (words : Opened) : Type 0 where
  pub bank : IsBank s p.bank
  pub layout : length words.words / class_words ≡ classes s
  pub room : p.taken + p.quantum < 2 ^ 64
