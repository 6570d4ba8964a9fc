-- How many events a schedule comes to.
use Rattle.std.proofs.Common.{◌≡◌, ℕ, zero, suc, ◌+◌, ◌*◌, ◌≤◌, List, [], ◌∷◌, ◌++◌, length, map, replicate, refl, ap, sym, ◌∙◌, arith, length-append}
use Rattle.std.specs.Prelude.{◌%◌, slice_index}
use Rattle.std.specs.List.{sum_by, flat_map}
use Rattle.std.proofs.lemmas.List.{length-replicate, length-map}
use Rattle.std.proofs.lemmas.List.Sums.{sum_by-cons}
use Rattle.lists.specs.Lists.{below, numbers_from}
use Rattle.words_layout.specs.declared.op.Event.{Event}
use Rattle.config_text.specs.declared.config.Config.{Config}
use Rattle.config_text.specs.declared.config.Item.{Item}
use Rattle.config_text.specs.declared.config.Item.TheVariants.{Events, Mix, Sweep}
use Rattle.words_layout.specs.Sizes.{max_events}
use Rattle.config_text.specs.Valid.{IsValid, events_of as item_total}
use Rattle.schedule.specs.Schedule.{Shape, event, drawn, mixed, swept_round, swept, shape_of, scheduled, events_of}

numbers_counted : (start n : ℕ) → length (numbers_from start n) ≡ n
numbers_counted start zero = refl
numbers_counted start (suc n) = ap (λ m. suc m) (numbers_counted (start + 1) n)

mixed_counted : (p c x n : ℕ) → length (mixed p c x n) ≡ n
mixed_counted p c x zero = refl
mixed_counted p c x (suc n) = ap (λ m. suc m) (mixed_counted p c (drawn x) n)

flat_counted : (f : ℕ → List Event) (each : ℕ) → ((p : ℕ) → length (f p) ≡ each) → (start n : ℕ) → length (flat_map f (numbers_from start n)) ≡ n * each
flat_counted f each counted start zero = let e : 0 * each ≡ 0 = omega arith in rw e refl
flat_counted f each counted start (suc n) =
    let here = counted start in
    let rest = flat_counted f each counted (start + 1) n in
    let e : suc n * each ≡ each + n * each = omega arith in
    rw (length-append (f start) (flat_map f (numbers_from (start + 1) n)), here, rest, e) refl

round_counted : (p q : ℕ) (cycle : List ℕ) (place : ℕ) → length (swept_round p q cycle place) ≡ p * q
round_counted p q cycle place = flat_counted (λ p. map (λ k. event p (slice_index cycle ((place + k) % length cycle))) (below q)) q
    (λ p. length-map (below q) (λ k. event p (slice_index cycle ((place + k) % length cycle))) ∙ numbers_counted 0 q) 0 p

swept_counted : (s : Shape) (place n : ℕ) → length (swept s place n) ≡ n * (s.processors * s.quantum)
swept_counted s place zero = let e : 0 * (s.processors * s.quantum) ≡ 0 = omega arith in rw e refl
swept_counted s place (suc n) =
    let here = round_counted s.processors s.quantum s.cycle place in
    let rest = swept_counted s (place + s.quantum) n in
    let e : suc n * (s.processors * s.quantum) ≡ s.processors * s.quantum + n * (s.processors * s.quantum) = omega arith in
    rw (length-append (swept_round s.processors s.quantum s.cycle place) (swept s (place + s.quantum) n), here, rest, e) refl

scheduled_counted : (k : Config) (place : ℕ) (items : List Item) → length (scheduled (shape_of k) place items) ≡ sum_by (item_total k) items
scheduled_counted k place [] = refl
scheduled_counted k place (Events p c n ∷ items) =
    rw (length-append (replicate n (event p c)) (scheduled (shape_of k) place items), length-replicate n (event p c), scheduled_counted k place items)
    (sym (sum_by-cons (item_total k) (Events p c n) items))
scheduled_counted k place (Mix x n ∷ items) =
    rw (length-append (mixed k.processors (length k.table) x n) (scheduled (shape_of k) place items), mixed_counted k.processors (length k.table) x n, scheduled_counted k place items)
    (sym (sum_by-cons (item_total k) (Mix x n) items))
scheduled_counted k place (Sweep n ∷ items) =
    let e : n * (k.processors * k.quantum) ≡ n * k.quantum * k.processors = omega arith in
    rw (length-append (swept (shape_of k) place n) (scheduled (shape_of k) (place + n * k.quantum) items), swept_counted (shape_of k) place n, scheduled_counted k (place + n * k.quantum) items, e)
    (sym (sum_by-cons (item_total k) (Sweep n) items))

-- at most the limit
pub few_events : (k : Config) (listed : List Event) → IsValid k → listed ≡ events_of k → length listed ≤ max_events
few_events k listed valid is =
    let all : length listed ≡ sum_by (item_total k) k.schedule = ap (λ (xs : List Event). length xs) is ∙ scheduled_counted k 0 k.schedule in
    let few = valid.few_events in omega (arith, all, few)
