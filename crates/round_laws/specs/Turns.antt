-- The turns of one processor: steps of its virtual processors, one after another.
use Rattle.std.specs.Prelude.{◌≡◌, ℕ, zero, suc, ◌+◌, ◌%◌, List, [], ◌∷◌, length, Option, slice_index, slice_set}
use Rattle.words_layout.specs.declared.op.Op.{Op}
use Rattle.class_model.specs.Config.{Shared}
use Rattle.machine.specs.Processing.{Processing}
use Rattle.machine.specs.Banks.{vp_in}
use Rattle.machine.specs.Steps.{StepsBy}

-- the class of step k, from 0: the cycle is gone through again and again
abbrev pub class_at : List ℕ → ℕ → ℕ
class_at cycle k = slice_index cycle (k % length cycle)

-- the classes of n steps from step k on
abbrev pub classes_from : List ℕ → ℕ → ℕ → List ℕ
classes_from cycle k zero = []
classes_from cycle k (suc n) = class_at cycle k ∷ classes_from cycle (k + 1) n

-- the virtual processor of a class of the bank takes a step
pub record TurnBy {W : Type 0} (related : W → Op → ℕ → W → Type 0) (s : Shared) (class : ℕ) (bank : List Processing) (words : W) (bank' : List Processing) (words' : W) : Type 0 where
  pub after : Processing
  pub effect : Option ℕ
  pub step : StepsBy related s (vp_in bank class) words after words' effect
  pub bank_is : bank' ≡ slice_set bank class after

-- those of these classes, one after another
abbrev pub TurnsBy : {W : Type 0} → (W → Op → ℕ → W → Type 0) → Shared → List ℕ → List Processing → W → List Processing → W → Type 0
TurnsBy related s [] bank words bank' words' = (bank' ≡ bank) × (words' ≡ words)
TurnsBy {W} related s (c ∷ cs) bank words bank' words' =
    (m : List Processing) × (u : W) × TurnBy related s c bank words m u × TurnsBy related s cs m u bank' words'
