-- The events of a schedule are in range of its machine, and so are the names of the order of effect.
use Rattle.std.proofs.Common.{◌≡◌, ℕ, ◌<◌, List, [], ◌∷◌, ◌++◌, length, map, sym, subst}
use Rattle.std.specs.List.{All, AllByRecursion}
use Rattle.std.proofs.lemmas.List.Elements.{All-from_recursion, recursion_from_All}
use Rattle.words_layout.specs.declared.op.Event.{Event}
use Rattle.class_model.specs.Process.{ProcName}
use Rattle.config_text.specs.declared.config.Config.{Config as ConfigText}
use Rattle.machine.specs.Banks.{State}
use Rattle.machine.specs.Machine.{Machine, step, words_of, part_effect, effect_at, order_of_effect}
use Rattle.machine.specs.Steps.{InRange}
use Rattle.schedule.specs.Ranges.{IsEventOf}

pub in_range : (k : ConfigText) (m : State (List ℕ)) (events : List Event) → length m.banks ≡ k.processors → length m.shared.table ≡ length k.table →
    All (λ (e : Event). IsEventOf k e) events → All (λ (e : Event). InRange m e) events
in_range k m events banks table h = λ i d lt. (let x = h i d lt in (rw banks x.0, rw table x.1))

both : (n : ℕ) (xs ys : List ProcName) → AllByRecursion (λ (x : ProcName). x.class < n) xs → AllByRecursion (λ (x : ProcName). x.class < n) ys → AllByRecursion (λ (x : ProcName). x.class < n) (xs ++ ys)
both n [] ys h g = g
both n (x ∷ xs) ys h g = (h.0, both n xs ys h.1 g)

named : (n : ℕ) (e : Event) → e.class < n → (slots : List ℕ) →
    AllByRecursion (λ (x : ProcName). x.class < n) (map (λ slot. let x : ProcName = record { processor = e.processor; class = e.class; slot = slot } in x) slots)
named n e h [] = tt
named n e h (slot ∷ slots) = (h, named n e h slots)

by_steps : (n : ℕ) (m : Machine) (events : List Event) → AllByRecursion (λ (e : Event). e.class < n) events → AllByRecursion (λ (x : ProcName). x.class < n) (order_of_effect m events)
by_steps n m [] h = tt
by_steps n m (e ∷ events) h =
    both n (effect_at m e) (order_of_effect (step m e) events) (named n e h.0 (part_effect m.shared (words_of m) e.class (m.part e.class) e.processor)) (by_steps n (step m e) events h.1)

-- the names of an order of effect have the classes of its events
pub names_below : (k : ConfigText) (m : Machine) (events : List Event) → All (λ (e : Event). IsEventOf k e) events → All (λ (x : ProcName). x.class < length k.table) (order_of_effect m events)
names_below k m events h =
    let n : ℕ = length k.table in
    All-from_recursion (λ (x : ProcName). x.class < n) (order_of_effect m events)
    (by_steps n m events (recursion_from_All (λ (e : Event). e.class < n) events (λ i d lt. (h i d lt).1)))

-- the same list, below the same number
pub below_as : (n m : ℕ) (xs ys : List ProcName) → xs ≡ ys → m ≡ n → All (λ (x : ProcName). x.class < n) ys → All (λ (x : ProcName). x.class < m) xs
below_as n m xs ys same e h = subst (λ (z : List ProcName). All (λ (x : ProcName). x.class < m) z) (sym same) (subst (λ (c : ℕ). All (λ (x : ProcName). x.class < c) ys) (sym e) h)
