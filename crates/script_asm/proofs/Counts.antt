-- Lines counted, and names noted, one line after the other.
use Rattle.std.proofs.Common.{◌≡◌, ℕ, ◌+◌, ◌<◌, ◌≤◌, true, false, cond, List, [], ◌∷◌, ◌++◌, length, get_or, take, Option, Some, None, refl, sym, ap, ◌∙◌, arith, add_assoc}
use Rattle.std.specs.Borrow.{Bor}
use Rattle.std.proofs.lemmas.List.{take_more, map_push, length-map, length-take-le, take_all}
use Rattle.text_lines.specs.Lines.{views, words_of}
use Rattle.script_asm.specs.declared.named.Named.{Named}
use Rattle.script_asm.specs.Operand.{Word}
use Rattle.script_asm.specs.Script.{instructions, is_instruction, starts_instruction, head_of, is_word, first_named, words_in}
use Rattle.script_asm.specs.Noting.{noted}

-- the words of one more line
words_more : (ls : List (Bor (List ℕ))) (i : ℕ) (d : Bor (List ℕ)) → i < length ls → words_in (views (take (i + 1) ls)) ≡ words_in (views (take i ls)) ++ words_of (get_or ls i d).now ∷ []
words_more ls i d within =
    rw (take_more ls i d within, map_push (λ w. w.now) (take i ls) (get_or ls i d), map_push words_of (views (take i ls)) (get_or ls i d).now) refl

instructions-push : (all : List (List Word)) (ws : List Word) → instructions (all ++ ws ∷ []) ≡ instructions all + cond (is_instruction ws) 1 0
instructions-push [] ws = omega arith
instructions-push (vs ∷ more) ws = ap (λ n. cond (is_instruction vs) 1 0 + n) (instructions-push more ws) ∙ sym (add_assoc (cond (is_instruction vs) 1 0) (instructions more) (cond (is_instruction ws) 1 0))

named-push : (all : List (List Word)) (ws : List Word) (w : Word) (n p : ℕ) → first_named (all ++ ws ∷ []) w n p ≡ noted (first_named all w n p) (is_word w (head_of ws)) (record { line = n + length all; place = p + instructions all })
named-push [] ws w n p = elim (is_word w (head_of ws)) as (λ b. cond b (Some (record { line = n; place = p })) None ≡ noted None b (record { line = n + 0; place = p + 0 })) [ true ↦ grind arith | false ↦ refl ]
named-push (vs ∷ more) ws w n p =
    elim (is_word w (head_of vs)) as (λ b. cond b (Some (record { line = n; place = p })) (first_named (more ++ ws ∷ []) w (n + 1) (p + cond (is_instruction vs) 1 0)) ≡ noted (cond b (Some (record { line = n; place = p })) (first_named more w (n + 1) (p + cond (is_instruction vs) 1 0))) (is_word w (head_of ws)) (record { line = n + length (vs ∷ more); place = p + instructions (vs ∷ more) })) [
      | true ↦ refl
      | false ↦
          let same : (n + 1) + length more ≡ n + length (vs ∷ more) = omega arith in
          let place : (p + cond (is_instruction vs) 1 0) + instructions more ≡ p + instructions (vs ∷ more) = add_assoc p (cond (is_instruction vs) 1 0) (instructions more) in
          rw (named-push more ws w (n + 1) (p + cond (is_instruction vs) 1 0), same, place) refl
    ]

-- one more instruction, or none
pub count_step : (ls : List (Bor (List ℕ))) (i : ℕ) (d : Bor (List ℕ)) (first : Option Word) (p more : ℕ) → i < length ls → first ≡ head_of (words_of (get_or ls i d).now) → p ≡ instructions (words_in (views (take i ls))) → more ≡ cond (starts_instruction first) 1 0 → p + more ≡ instructions (words_in (views (take (i + 1) ls)))
count_step ls i d first p more within is so_far one =
    let last = words_more ls i d within in
    let all = instructions-push (words_in (views (take i ls))) (words_of (get_or ls i d).now) in
    rw (so_far, one, is, last) (sym all)

-- one more name, or none
pub name_step : (ls : List (Bor (List ℕ))) (i : ℕ) (d : Bor (List ℕ)) (w : Word) (o : Option Named) (first : Option Word) (n p : ℕ) → i < length ls → first ≡ head_of (words_of (get_or ls i d).now) → o ≡ first_named (words_in (views (take i ls))) w 0 0 → n ≡ i → p ≡ instructions (words_in (views (take i ls))) → noted o (is_word w first) (record { line = n; place = p }) ≡ first_named (words_in (views (take (i + 1) ls))) w 0 0
name_step ls i d w o first n p within is so_far number place =
    let many : 0 + length (words_in (views (take i ls))) ≡ i = omega (arith, length-map (views (take i ls)) words_of, length-map (take i ls) (λ v. v.now), length-take-le i ls (omega arith)) in
    let none : 0 + instructions (words_in (views (take i ls))) ≡ instructions (words_in (views (take i ls))) = omega arith in
    rw (so_far, is, number, place, words_more ls i d within, named-push (words_in (views (take i ls))) (words_of (get_or ls i d).now) w 0 0, many, none) refl

-- all lines
pub all_lines : (ls : List (Bor (List ℕ))) (i : ℕ) → length ls ≤ i → take i ls ≡ ls
all_lines ls i past = take_all i ls past

pub ruleset counts = (all_lines)
