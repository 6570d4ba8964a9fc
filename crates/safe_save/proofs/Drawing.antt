-- The image that a record draws.
use Rattle.std.proofs.Common.{◌≡◌, ℕ, List, [], ◌∷◌, ◌++◌, map, take, drop, refl, sym, ◌∙◌, ap, subst}
use Rattle.std.proofs.lemmas.List.{map-append, take-append-drop}
use Rattle.safe_save.specs.declared.fill.Fill.{Fill}
use Rattle.safe_save.specs.declared.fill.Fill.TheVariants.{Zeros, Ones, Written}
use Rattle.safe_save.specs.Memory.{Call, Wrote, Synced, Idle, State, fresh, after_call, after_calls, filled, image_of, put_call, put_calls, IsSettled, HasNoSync}

-- calls after calls
pub after_append : (calls more : List Call) (s : State) → after_calls (calls ++ more) s ≡ after_calls more (after_calls calls s)
after_append [] more s = refl
after_append (call ∷ calls) more s = after_append calls more (after_call call s)

pub put_append : (fill : Fill) (calls more : List Call) (image : List ℕ) → put_calls fill (calls ++ more) image ≡ put_calls fill more (put_calls fill calls image)
put_append fill [] more image = refl
put_append fill (call ∷ calls) more image = put_append fill calls more (put_call fill call image)

-- what was written gives what a read gives
pub put_written : (calls : List Call) (s : State) → put_calls Written calls s.bytes ≡ (after_calls calls s).bytes
put_written [] s = refl
put_written (Wrote at bytes ∷ calls) s = put_written calls (after_call (Wrote at bytes) s)
put_written (Synced ∷ calls) s = put_written calls (after_call Synced s)
put_written (Idle ∷ calls) s = put_written calls s

-- without a sync the ranges are filled
pub put_filled : (fill : Fill) (calls : List Call) (s : State) → HasNoSync calls → put_calls fill calls (image_of fill s) ≡ image_of fill (after_calls calls s)
put_filled fill [] s none = refl
put_filled Zeros (Wrote at bytes ∷ calls) s none = put_filled Zeros calls (after_call (Wrote at bytes) s) none
put_filled Ones (Wrote at bytes ∷ calls) s none = put_filled Ones calls (after_call (Wrote at bytes) s) none
put_filled Written (Wrote at bytes ∷ calls) s none = put_filled Written calls (after_call (Wrote at bytes) s) none
put_filled fill (Synced ∷ calls) s none = absurd none
put_filled Zeros (Idle ∷ calls) s none = put_filled Zeros calls s none
put_filled Ones (Idle ∷ calls) s none = put_filled Ones calls s none
put_filled Written (Idle ∷ calls) s none = put_filled Written calls s none

-- where all stands, nothing is filled
settled_image : (fill : Fill) (s : State) → IsSettled s → image_of fill s ≡ s.bytes
settled_image Zeros s settled = ap (λ (ranges : List (ℕ × ℕ)). filled 0 ranges s.stood) settled.ranges ∙ settled.stood
settled_image Ones s settled = ap (λ (ranges : List (ℕ × ℕ)). filled 255 ranges s.stood) settled.ranges ∙ settled.stood
settled_image Written s settled = refl

-- the calls up to the last sync as they were written, and then those since it, filled
pub drawn : (fill : Fill) (early later : List Call) (opening : List ℕ) → IsSettled (after_calls early (fresh opening)) → HasNoSync later
    → put_calls fill later (put_calls Written early opening) ≡ image_of fill (after_calls (early ++ later) (fresh opening))
drawn fill early later opening settled none =
    let s = after_calls early (fresh opening) in
    ap (λ (image : List ℕ). put_calls fill later image) (put_written early (fresh opening) ∙ sym (settled_image fill s settled))
    ∙ (put_filled fill later s none ∙ ap (image_of fill) (sym (after_append early later (fresh opening))))

-- the parts of a record are the record
pub parts : {X : Type 0} (call : X → Call) (n : ℕ) (xs : List X) → map call (take n xs) ++ map call (drop n xs) ≡ map call xs
parts call n xs = sym (map-append call (take n xs) (drop n xs)) ∙ ap (map call) (take-append-drop n xs)

-- after a sync all stands
pub settled_after : (calls : List Call) (s : State) → IsSettled (after_calls (calls ++ Synced ∷ []) s)
settled_after calls s = subst IsSettled (sym (after_append calls (Synced ∷ []) s)) (record { stood = refl; ranges = refl })
