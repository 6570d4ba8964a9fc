-- The loop that draws events.
use Rattle.std.proofs.Common.{◌≡◌, ℕ, suc, ◌+◌, ◌-◌, ◌*◌, ◌/◌, ◌%◌, ◌^◌, ◌<◌, List, [], ◌∷◌, ◌++◌, ◌∙◌, arith, append_assoc, replicate}
use Rattle.std.proofs.Math.Nat.{mod-add-mod}
use Rattle.words_layout.specs.declared.op.Event.{Event}
use Rattle.schedule.specs.Schedule.{event, drawn, mixed}

-- the product and the sum may each wrap
pub wrapped : (x : ℕ) → ((x * 6364136223846793005) % 2 ^ 64 + 1442695040888963407) % 2 ^ 64 ≡ drawn x
wrapped x = mod-add-mod (x * 6364136223846793005) (2 ^ 64) 1442695040888963407

-- one event more: what is still to be drawn comes to the same
pub drawn_on : (p c x y i n : ℕ) (xs after whole : List Event) → y ≡ drawn x → after ≡ xs ++ event (y / 2 ^ 33 % p) (y / 2 ^ 48 % c) ∷ [] → i < n →
    xs ++ mixed p c x (n - i) ≡ whole → after ++ mixed p c y (n - (i + 1)) ≡ whole
drawn_on p c x y i n xs after whole next pushed inside same =
    let e : n - i ≡ suc (n - (i + 1)) = omega (arith, inside) in
    let more : (xs ++ event (drawn x / 2 ^ 33 % p) (drawn x / 2 ^ 48 % c) ∷ []) ++ mixed p c (drawn x) (n - (i + 1)) ≡ xs ++ mixed p c x (n - i) =
    rw e (append_assoc xs (event (drawn x / 2 ^ 33 % p) (drawn x / 2 ^ 48 % c) ∷ []) (mixed p c (drawn x) (n - (i + 1)))) in
    rw (pushed, next) (more ∙ same)

-- one event of a repetition more
pub repeat_on : (e : Event) (i n : ℕ) (xs after whole : List Event) → after ≡ xs ++ e ∷ [] → i < n → xs ++ replicate (n - i) e ≡ whole →
    after ++ replicate (n - (i + 1)) e ≡ whole
repeat_on e i n xs after whole pushed inside same =
    let s : n - i ≡ suc (n - (i + 1)) = omega (arith, inside) in
    let more : (xs ++ e ∷ []) ++ replicate (n - (i + 1)) e ≡ xs ++ replicate (n - i) e = rw s (append_assoc xs (e ∷ []) (replicate (n - (i + 1)) e)) in
    rw pushed (more ∙ same)
