-- The loops of a sweep.
use Rattle.std.proofs.Common.{◌≡◌, ℕ, zero, suc, ◌+◌, ◌-◌, ◌*◌, ◌<◌, List, [], ◌∷◌, ◌++◌, map, refl, ap, sym, ◌∙◌, subst, arith, append_assoc, append-nil}
use Rattle.std.specs.List.{flat_map}
use Rattle.std.proofs.lemmas.List.{map-append}
use Rattle.std.proofs.lemmas.Grind.{flat_map-append}
use Rattle.lists.specs.Lists.{below, numbers_from}
use Rattle.words_layout.specs.declared.op.Event.{Event}
use Rattle.schedule.specs.Schedule.{Shape, swept_round, swept}

-- the header by its parts
abbrev pub shaped : (processors classes : ℕ) → List ℕ → ℕ → Shape
shaped processors classes cycle quantum = record { processors = processors; classes = classes; cycle = cycle; quantum = quantum }

-- one number more
numbers_more : (start n : ℕ) → numbers_from start (suc n) ≡ numbers_from start n ++ (start + n) ∷ []
numbers_more start zero = let e : start + 0 ≡ start = omega arith in rw e refl
numbers_more start (suc n) = let e : start + suc n ≡ start + 1 + n = omega arith in rw e (ap (λ xs. start ∷ xs) (numbers_more (start + 1) n))

below_more : (n : ℕ) → below (n + 1) ≡ below n ++ n ∷ []
below_more n = let e : n + 1 ≡ suc n = omega arith in let z : 0 + n ≡ n = omega arith in
    rw e (subst (λ (m : ℕ). below (suc n) ≡ below n ++ m ∷ []) z (numbers_more 0 n))

-- one event of a quantum more
pub quantum_on : (f : ℕ → Event) (i : ℕ) (xs now after : List Event) → after ≡ now ++ f i ∷ [] → now ≡ xs ++ map f (below i) → after ≡ xs ++ map f (below (i + 1))
quantum_on f i xs now after pushed same = rw (pushed, same) (append_assoc xs (map f (below i)) (f i ∷ [])
    ∙ ap (λ (ys : List Event). xs ++ ys) (sym (ap (map f) (below_more i) ∙ map-append f (below i) (i ∷ []))))

-- one quantum of a round more
pub round_on : (f : ℕ → List Event) (i : ℕ) (xs now after : List Event) → after ≡ now ++ f i → now ≡ xs ++ flat_map f (below i) → after ≡ xs ++ flat_map f (below (i + 1))
round_on f i xs now after pushed same = rw (pushed, same) (append_assoc xs (flat_map f (below i)) (f i)
    ∙ ap (λ (ys : List Event). xs ++ ys) (sym (ap (flat_map f) (below_more i)
    ∙ (flat_map-append f (below i) (i ∷ []) ∙ ap (λ (ys : List Event). flat_map f (below i) ++ ys) (append-nil (f i))))))

-- one round of a sweep more: what is still to be swept comes to the same
pub sweep_on : (s : Shape) (place i n : ℕ) (xs after whole : List Event) → after ≡ xs ++ swept_round s.processors s.quantum s.cycle place → i < n →
    xs ++ swept s place (n - i) ≡ whole → after ++ swept s (place + s.quantum) (n - (i + 1)) ≡ whole
sweep_on s place i n xs after whole pushed inside same =
    let e : n - i ≡ suc (n - (i + 1)) = omega (arith, inside) in
    let more : (xs ++ swept_round s.processors s.quantum s.cycle place) ++ swept s (place + s.quantum) (n - (i + 1)) ≡ xs ++ swept s place (n - i) =
    rw e (append_assoc xs (swept_round s.processors s.quantum s.cycle place) (swept s (place + s.quantum) (n - (i + 1)))) in
    rw pushed (more ∙ same)

-- the rounds that are left
pub rounds_left : (quantum i n : ℕ) → i < n → (n - i) * quantum ≡ quantum + (n - (i + 1)) * quantum
rounds_left quantum i n inside = let e : n - i ≡ suc (n - (i + 1)) = omega (arith, inside) in rw e (omega arith)
