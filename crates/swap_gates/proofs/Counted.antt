-- The operations of the bodies of swapin and swapout, counted.
use Rattle.std.proofs.Common.{ℕ, zero, suc, ◌+◌, ◌*◌, ◌-◌, ◌<◌, ◌≤◌, ◌≡◌, ◌⊎◌, inl, inr, refl, ap, arith, Option, Some, None}
use Rattle.std.specs.Prelude.{◌==◌}
use Rattle.std.proofs.lemmas.Bool.{eq-eqb, ne_eqb}
use Rattle.std.proofs.Math.Nat.{eq-or-lt_of_le}
use Rattle.words_layout.specs.Words.{Words, GuardedWord, GuardedWords, HomeOf, FrameTenant, FrameWord, PageTenant, PageWord, set_guarded}
use Rattle.words_layout.specs.Coding.{home_of, pack_home}
use Rattle.words_layout.specs.Segments.{seg_number}
use Rattle.words_layout.specs.declared.coding.Home.TheVariants as H
use Rattle.policy.specs.Known.{Known}
use Rattle.policy.specs.Outcome.{Outcome, Refused, Value}
use Rattle.policy.specs.declared.rule.Rule.TheVariants.{NoFrame, NoPage}
use Rattle.turns.specs.Bodies.{Inner, Outer}
use Rattle.turns.specs.Doing.{ClassTurn}
use Rattle.turns.specs.Alone.{NoTurns, TakesSteps}
use Rattle.turns.proofs.ByItself.{inner_taken, outer_taken, class_by_itself, steps_in_all}
use Rattle.swap_gates.specs.Swap.{find_free, zero_words, copy_words, bring_in, swap_in_home, take_out, take_page, swap_out_home}
use Rattle.swap_gates.specs.StepCounts.{LeastFree, SwapInSteps, SwapOutSteps, SwapOutNewSteps}

-- so many operations follow, whatever the words
abbrev Counts : Inner Outcome → ℕ → Type 0
Counts body c = (g : GuardedWords) → inner_taken 1 body g ≡ c

zeros_counted : (f i n c : ℕ) (rest : Inner Outcome) → Counts rest c → Counts (zero_words f i n rest) (n + c)
zeros_counted f i zero c rest counts g = let e : 0 + c ≡ c = omega arith in rw e (counts g)
zeros_counted f i (suc n) c rest counts g =
    let ih = zeros_counted f (i + 1) n c rest counts (set_guarded g (FrameWord f i) 0) in
    let e : suc n + c ≡ suc (n + c) = omega arith in rw e (ap (λ m. suc m) ih)

copy_counted : (from to : ℕ → GuardedWord) (i n c : ℕ) (rest : Inner Outcome) → Counts rest c → Counts (copy_words from to i n rest) (2 * n + c)
copy_counted from to i zero c rest counts g = let e : 2 * 0 + c ≡ c = omega arith in rw e (counts g)
copy_counted from to i (suc n) c rest counts g =
    let ih = copy_counted from to (i + 1) n c rest counts (set_guarded g (to i) (g (from i))) in
    let e : 2 * suc n + c ≡ suc (suc (2 * n + c)) = omega arith in rw e (ap (λ m. suc (suc m)) ih)

-- the tenants up to the least that is free, of n from place i on
find_counted : (tenant : ℕ → GuardedWord) (n i f c : ℕ) (found : ℕ → Inner Outcome) (none : Inner Outcome) (g : GuardedWords) →
    i ≤ f → f < i + n → g (tenant f) ≡ 0 → ((j : ℕ) → j < f → g (tenant j) ≡ 0 → ⊥) → inner_taken 1 (found f) g ≡ c →
    inner_taken 1 (find_free tenant i n found none) g ≡ f - i + 1 + c
find_counted tenant zero i f c found none g low high free least counts = absurd (omega (arith, low, high))
find_counted tenant (suc n) i f c found none g low high free least counts = elim (eq-or-lt_of_le low) [
  | inl same ↦
      let at : g (tenant i) ≡ 0 = rw same free in
      let e : f - i + 1 + c ≡ suc c = omega (arith, same) in
      rw (eq-eqb (g (tenant i)) 0 at, e, same) (ap (λ m. suc m) counts)
  | inr less ↦
      let e : f - i + 1 + c ≡ suc (f - (i + 1) + 1 + c) = omega (arith, less) in
      rw (ne_eqb (g (tenant i)) 0 (least i less), e)
      (ap (λ m. suc m) (find_counted tenant n (i + 1) f c found none g (omega (arith, less)) (omega (arith, high)) free least counts))
]

-- a segment that comes into frame f, with no page or with page g
never_counted : (k : Known) (f : ℕ) → Counts (bring_in k None f) (k.size + 3)
never_counted k f g =
    let rest = zeros_counted f 0 k.size 2 (Inner.Store (HomeOf k.seg) (pack_home (H.Resident f None k.size)) (Inner.Shows (Value 0))) (λ h. refl)
    (set_guarded g (FrameTenant f) (seg_number k.seg + 1)) in
    let e : k.size + 3 ≡ suc (k.size + 2) = omega arith in rw e (ap (λ m. suc m) rest)

stored_counted : (k : Known) (g f : ℕ) → Counts (bring_in k (Some g) f) (2 * k.size + 3)
stored_counted k g f h =
    let rest = copy_counted (PageWord g) (FrameWord f) 0 k.size 2 (Inner.Store (HomeOf k.seg) (pack_home (H.Resident f (Some g) k.size)) (Inner.Shows (Value 0))) (λ h. refl)
    (set_guarded h (FrameTenant f) (seg_number k.seg + 1)) in
    let e : 2 * k.size + 3 ≡ suc (2 * k.size + 2) = omega arith in rw e (ap (λ m. suc m) rest)

-- a segment that goes out of frame f to page g, which it has or takes
out_counted : (k : Known) (f size g : ℕ) → Counts (take_out k f size g) (2 * k.size + 3)
out_counted k f size g h = copy_counted (FrameWord f) (PageWord g) 0 k.size 3
    (Inner.Store (FrameTenant f) 0 (Inner.Store (HomeOf k.seg) (pack_home (H.Stored g size)) (Inner.Shows (Value 0)))) (λ h. refl) h

page_counted : (k : Known) (f size g : ℕ) → Counts (take_page k f size g) (2 * k.size + 4)
page_counted k f size g h = let e : 2 * k.size + 4 ≡ suc (2 * k.size + 3) = omega arith in
    rw e (ap (λ m. suc m) (out_counted k f size g (set_guarded h (PageTenant g) (seg_number k.seg + 1))))

-- the steps of a swap, from those of its inner body behind the load of the home
swap_steps : (d : ℕ) (k : Known) (body : ℕ → Inner Outcome) (w : Words) (c steps : ℕ) → NoTurns w → inner_taken 1 (body (w.guarded (HomeOf k.seg))) w.guarded ≡ c → steps ≡ c + 8 →
    TakesSteps steps d (ClassTurn (Outer.Enter k.seg (Inner.Load (HomeOf k.seg) body))) w
swap_steps d k body w c steps quiet counted is =
    let whole : Outer Outcome = Outer.Enter k.seg (Inner.Load (HomeOf k.seg) body) in
    let taken : outer_taken whole w.guarded ≡ suc (suc (suc (suc c))) = ap (λ m. suc (suc (suc (suc m)))) counted in
    steps_in_all d (ClassTurn whole) w (suc (suc (suc (outer_taken whole w.guarded)))) steps (omega (arith, taken, is)) (class_by_itself d whole w quiet)

pub swap_in_steps : SwapInSteps
swap_in_steps d frames f k w quiet low free = (
  (λ home. swap_steps d k (λ v. swap_in_home frames k (home_of v)) w (f - 0 + 1 + (k.size + 3)) (k.size + f + 12) quiet
      (rw home (find_counted FrameTenant frames 0 f (k.size + 3) (bring_in k None) (Inner.Shows (Refused NoFrame)) w.guarded (omega arith) (omega (arith, low)) free.free free.least (never_counted k f w.guarded)))
      (omega arith)),
  (λ g size home. swap_steps d k (λ v. swap_in_home frames k (home_of v)) w (f - 0 + 1 + (2 * k.size + 3)) (2 * k.size + f + 12) quiet
      (rw home (find_counted FrameTenant frames 0 f (2 * k.size + 3) (bring_in k (Some g)) (Inner.Shows (Refused NoFrame)) w.guarded (omega arith) (omega (arith, low)) free.free free.least (stored_counted k g f w.guarded)))
      (omega arith)),
)

pub swap_out_steps : SwapOutSteps
swap_out_steps d pages f g size k w quiet home = swap_steps d k (λ v. swap_out_home pages k (home_of v)) w (2 * k.size + 3) (2 * k.size + 11) quiet
    (rw home (out_counted k f size g w.guarded)) (omega arith)

pub swap_out_new_steps : SwapOutNewSteps
swap_out_new_steps d pages f g size k w quiet home low free = swap_steps d k (λ v. swap_out_home pages k (home_of v)) w (g - 0 + 1 + (2 * k.size + 4)) (2 * k.size + g + 13) quiet
    (rw home (find_counted PageTenant pages 0 g (2 * k.size + 4) (take_page k f size) (Inner.Shows (Refused NoPage)) w.guarded (omega arith) (omega (arith, low)) free.free free.least (page_counted k f size g w.guarded)))
    (omega arith)
