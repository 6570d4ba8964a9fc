-- A text has at most as many lines as bytes.
use Rattle.std.proofs.Common.{ℕ, suc, ◌≤◌, true, false, cond, eqb, List, [], ◌∷◌, length, arith}
use Rattle.std.specs.List.{onto_first}
use Rattle.text_lines.specs.Lines.{lines}

first_more : (b : ℕ) (ls : List (List ℕ)) (n : ℕ) → length ls ≤ n → length (onto_first b ls) ≤ suc n
first_more b [] n le = omega arith
first_more b (l ∷ ls) n le = omega arith

pub few_lines : (text : List ℕ) → length (lines text) ≤ length text
few_lines [] = omega arith
few_lines (b ∷ bs) =
    elim (eqb b 10) as (λ t. length (cond t ([] ∷ lines bs) (onto_first b (lines bs))) ≤ suc (length bs)) [
      | true ↦ omega (arith, few_lines bs)
      | false ↦ first_more b (lines bs) (length bs) (few_lines bs)
    ]
