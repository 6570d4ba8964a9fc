-- Each event is of a processor and a class of the configuration.
use Rattle.std.proofs.Common.{◌≡◌, ℕ, zero, suc, ◌+◌, ◌*◌, ◌/◌, ◌%◌, ◌^◌, ◌<◌, ◌≤◌, Bool, true, false, List, [], ◌∷◌, ◌++◌, length, map, replicate, get_or, refl, sym, ◌∙◌, arith}
use Rattle.std.specs.Prelude.{◌&&◌, slice_index, nat_lt}
use Rattle.std.specs.List.{All, list_all, flat_map}
use Rattle.std.proofs.lemmas.Bool.{and_parts, ltb-true}
use Rattle.std.proofs.Math.Nat.{mod-lt}
use Rattle.std.proofs.lemmas.List.Elements.{All-append, All-replicate, All-cons, All-map}
use Rattle.std.proofs.lemmas.List.Folds.{list_all_at}
use Rattle.lists.specs.Lists.{below, numbers_from}
use Rattle.words_layout.specs.declared.op.Event.{Event}
use Rattle.config_text.specs.declared.config.Config.{Config}
use Rattle.config_text.specs.declared.config.Item.{Item}
use Rattle.config_text.specs.declared.config.Item.TheVariants.{Events, Mix, Sweep}
use Rattle.words_layout.specs.Sizes.{max_events}
use Rattle.config_text.specs.Valid.{IsValid, within, is_class, item_ok}
use Rattle.schedule.specs.Schedule.{event, drawn, mixed, swept_round, swept, shape_of, scheduled, events_of}
use Rattle.schedule.specs.Ranges.{IsEventOf}
use Rattle.schedule.proofs.Ranges.{some_processors, some_classes, some_cycle}

is_true : (b : Bool) → (b ≡ false → ⊥) → b ≡ true
is_true true not_false = refl
is_true false not_false = absurd (not_false refl)

below_mod : (n m : ℕ) → 1 ≤ m → n % m < m
below_mod n m some = let positive : 0 < m = omega (arith, some) in mod-lt n positive

nothing : (P : Event → Type 0) → All P []
nothing P = λ i d inside. absurd (omega (arith, inside))

each_of : (p : ℕ → Bool) (xs : List ℕ) (i : ℕ) → list_all p xs ≡ true → i < length xs → p (slice_index xs i) ≡ true
each_of p xs i all inside = is_true (p (slice_index xs i)) (λ no. let false_too = list_all_at p xs i 0 inside no in cc)

mixed_in_range : (k : Config) (x n : ℕ) → IsValid k → All (IsEventOf k) (mixed k.processors (length k.table) x n)
mixed_in_range k x zero valid = nothing (IsEventOf k)
mixed_in_range k x (suc n) valid =
    let p : drawn x / 2 ^ 33 % k.processors < k.processors = below_mod (drawn x / 2 ^ 33) k.processors (some_processors k valid) in
    let c : drawn x / 2 ^ 48 % length k.table < length k.table = below_mod (drawn x / 2 ^ 48) (length k.table) (some_classes k valid) in
    All-cons (IsEventOf k) (event (drawn x / 2 ^ 33 % k.processors) (drawn x / 2 ^ 48 % length k.table)) (mixed k.processors (length k.table) (drawn x) n) (p, c)
    (mixed_in_range k (drawn x) n valid)

flat_in_range : (P : Event → Type 0) (f : ℕ → List Event) (start n : ℕ) → ((p : ℕ) → p < start + n → All P (f p)) → All P (flat_map f (numbers_from start n))
flat_in_range P f start zero each = nothing P
flat_in_range P f start (suc n) each = All-append P (f start) (flat_map f (numbers_from (start + 1) n)) (each start (omega arith))
    (flat_in_range P f (start + 1) n (λ p inside. each p (omega (arith, inside))))

cycle_in_range : (k : Config) (j : ℕ) → IsValid k → slice_index k.cycle (j % length k.cycle) < length k.table
cycle_in_range k j valid =
    let inside : j % length k.cycle < length k.cycle = below_mod j (length k.cycle) (some_cycle k valid) in
    ltb-true (slice_index k.cycle (j % length k.cycle)) (length k.table)
    (each_of (is_class k) k.cycle (j % length k.cycle) (and_parts (within 1 16 (length k.cycle)) (list_all (is_class k) k.cycle) valid.cycle).1 inside)

round_in_range : (k : Config) (place : ℕ) → IsValid k → All (IsEventOf k) (swept_round k.processors k.quantum k.cycle place)
round_in_range k place valid = flat_in_range (IsEventOf k) (λ p. map (λ j. event p (slice_index k.cycle ((place + j) % length k.cycle))) (below k.quantum)) 0 k.processors
    (λ p inside. All-map (IsEventOf k) (λ j. event p (slice_index k.cycle ((place + j) % length k.cycle))) (below k.quantum)
    (λ i d within. ((let low : p < k.processors = omega (arith, inside) in low), cycle_in_range k (place + get_or (below k.quantum) i d) valid)))

swept_in_range : (k : Config) (place n : ℕ) → IsValid k → All (IsEventOf k) (swept (shape_of k) place n)
swept_in_range k place zero valid = nothing (IsEventOf k)
swept_in_range k place (suc n) valid = All-append (IsEventOf k) (swept_round k.processors k.quantum k.cycle place) (swept (shape_of k) (place + k.quantum) n)
    (round_in_range k place valid) (swept_in_range k (place + k.quantum) n valid)

scheduled_in_range : (k : Config) (place : ℕ) (items : List Item) → IsValid k → list_all (item_ok k) items ≡ true → All (IsEventOf k) (scheduled (shape_of k) place items)
scheduled_in_range k place [] valid ok = nothing (IsEventOf k)
scheduled_in_range k place (Events p c n ∷ items) valid ok =
    let parts = and_parts (item_ok k (Events p c n)) (list_all (item_ok k) items) ok in
    let here = and_parts (nat_lt p k.processors && is_class k c) (within 1 max_events n) parts.0 in
    let each = and_parts (nat_lt p k.processors) (is_class k c) here.0 in
    All-append (IsEventOf k) (replicate n (event p c)) (scheduled (shape_of k) place items)
    (All-replicate (IsEventOf k) n (event p c) (ltb-true p k.processors each.0, ltb-true c (length k.table) each.1))
    (scheduled_in_range k place items valid parts.1)
scheduled_in_range k place (Mix x n ∷ items) valid ok = All-append (IsEventOf k) (mixed k.processors (length k.table) x n) (scheduled (shape_of k) place items)
    (mixed_in_range k x n valid) (scheduled_in_range k place items valid (and_parts (item_ok k (Mix x n)) (list_all (item_ok k) items) ok).1)
scheduled_in_range k place (Sweep n ∷ items) valid ok = All-append (IsEventOf k) (swept (shape_of k) place n) (scheduled (shape_of k) (place + n * k.quantum) items)
    (swept_in_range k place n valid) (scheduled_in_range k (place + n * k.quantum) items valid (and_parts (item_ok k (Sweep n)) (list_all (item_ok k) items) ok).1)

pub events_in_range : (k : Config) (listed : List Event) → IsValid k → listed ≡ events_of k → All (IsEventOf k) listed
events_in_range k listed valid is = rw is (scheduled_in_range k 0 k.schedule valid valid.items)
