-- The operations of the bodies of fetch and update, counted.
use Rattle.std.proofs.Common.{ℕ, zero, suc, ◌+◌, ◌≡◌, List, [], ◌∷◌, ◌++◌, length, refl, ap, arith}
use Rattle.words_layout.specs.Words.{Words, GuardedWords, HomeOf, OfSegment, FrameWord, set_guarded}
use Rattle.words_layout.specs.declared.segment.SegId.{SegId}
use Rattle.policy.specs.Outcome.{Outcome}
use Rattle.turns.specs.Doing.{Look, SegmentTurn}
use Rattle.turns.proofs.ByItself.{loads_taken, inner_taken, look_by_itself, segment_by_itself, steps_in_all}
use Rattle.data_gates.specs.Data.{load_words, fetch_body, store_words, count_write, update_body}
use Rattle.data_gates.specs.StepCounts.{FetchSteps, UpdateSteps}

words_counted : (f at n : ℕ) (got : List ℕ) (pad : ℕ) (g : GuardedWords) → loads_taken (load_words f at n got pad) g ≡ n
words_counted f at zero got pad g = refl
words_counted f at (suc n) got pad g = ap (λ m. suc m) (words_counted f (at + 1) n (got ++ g (FrameWord f at) ∷ []) pad g)

pub fetch_steps : FetchSteps
fetch_steps d class u offset n pad f page size w quiet home =
    let body : loads_taken (fetch_body u offset n pad) w.guarded ≡ suc n = rw home (ap (λ m. suc m) (words_counted f offset n [] pad w.guarded)) in
    steps_in_all d (Look class (OfSegment u) (fetch_body u offset n pad)) w (suc (suc (loads_taken (fetch_body u offset n pad) w.guarded))) (n + 4) (omega (arith, body))
    (look_by_itself d class (OfSegment u) (fetch_body u offset n pad) w quiet)

stores_counted : (u : SegId) (f at : ℕ) (words : List ℕ) (g : GuardedWords) → inner_taken 0 (store_words f at words (count_write u)) g ≡ suc (length words)
stores_counted u f at [] g = refl
stores_counted u f at (v ∷ vs) g = ap (λ m. suc m) (stores_counted u f (at + 1) vs (set_guarded g (FrameWord f at) v))

pub update_steps : UpdateSteps
update_steps d u offset words f page size w quiet home =
    let body : inner_taken 0 (update_body u offset words) w.guarded ≡ suc (suc (length words)) =
    rw home (ap (λ m. suc m) (stores_counted u f offset words w.guarded)) in
    steps_in_all d (SegmentTurn u (update_body u offset words)) w (suc (suc (suc (inner_taken 0 (update_body u offset words) w.guarded)))) (length words + 6) (omega (arith, body))
    (segment_by_itself d u (update_body u offset words) w quiet)
