-- An instruction by itself on the words of one class: how many steps it takes.
use Rattle.std.specs.Prelude.{ℕ, zero, suc, ◌-◌, ◌≡◌}
use Rattle.words_layout.specs.Words.{Guard, Words, answer_to, words_after}
use Rattle.turns.specs.Doing.{Doing, Fresh, Goes, Ends, Told, Act}
use Rattle.turns.specs.Stands.{step_op, step_told}

-- what its next step tells a process of class d, on these words
abbrev pub told_alone : {R : Type 0} → (d : ℕ) → Act R → Doing R → Words → Told R
told_alone d act doing w = step_told act doing (answer_to (λ class. w) d (step_op d act doing))

-- so many steps go on, and the next one ends it
abbrev pub EndsBehind : {R : Type 0} → (steps d : ℕ) → Act R → Doing R → Words → Type 0
EndsBehind zero d act doing w = (told_alone d act doing w).ending ≡ Ends
EndsBehind (suc steps) d act doing w = ((told_alone d act doing w).ending ≡ Goes)
    × EndsBehind steps d act (told_alone d act doing w).doing (words_after w (step_op d act doing))

-- it takes so many steps, without a poll
abbrev pub TakesSteps : {R : Type 0} → (steps d : ℕ) → Act R → Words → Type 0
TakesSteps steps d act w = EndsBehind (steps - 1) d act Fresh w

-- no turn is under way
pub record NoTurns (w : Words) : Type 0 where
  pub tickets : (g : Guard) → w.finished g ≡ w.tickets g
  pub started : (g : Guard) → w.finished g ≡ w.started g
