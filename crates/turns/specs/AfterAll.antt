-- How far an instruction is after a whole list of answers.
use Rattle.std.specs.Prelude.{ℕ, List, [], ◌∷◌}
use Rattle.turns.specs.Doing.{Doing, Fresh, Act}
use Rattle.turns.specs.Stands.{step_told}

-- one answer after the other, from there on
abbrev pub doing_after : {R : Type 0} → Act R → Doing R → List ℕ → Doing R
doing_after act doing [] = doing
doing_after act doing (answer ∷ answers) = doing_after act (step_told act doing answer).doing answers

-- from the start on
abbrev pub after_all : {R : Type 0} → Act R → List ℕ → Doing R
after_all act answers = doing_after act Fresh answers
