-- How many steps swapin and swapout take by themselves, on words on which no turn is under way.
use Rattle.std.specs.Prelude.{ℕ, ◌+◌, ◌*◌, ◌<◌, ◌≡◌, Option, Some, None}
use Rattle.words_layout.specs.Words.{Words, HomeOf, FrameTenant, PageTenant}
use Rattle.words_layout.specs.Coding.{home_of}
use Rattle.words_layout.specs.declared.coding.Home.{Home}
use Rattle.words_layout.specs.declared.coding.Home.TheVariants as H
use Rattle.policy.specs.Known.{Known}
use Rattle.turns.specs.Doing.{ClassTurn}
use Rattle.turns.specs.Alone.{NoTurns, TakesSteps}
use Rattle.swap_gates.specs.Swap.{swap_in_body, swap_out_body}

-- the least place whose tenant is 0
pub record LeastFree (tenants : ℕ → ℕ) (i : ℕ) : Type 0 where
  pub free : tenants i ≡ 0
  pub least : (j : ℕ) → j < i → tenants j ≡ 0 → ⊥

-- the home of the known segment
abbrev pub home_in : Words → Known → Home
home_in w k = home_of (w.guarded (HomeOf k.seg))

-- a swapin of n words into frame f: n + f + 12 where the segment was Never in, 2 n + f + 12 where it is Stored
abbrev pub SwapInSteps : Type 0
SwapInSteps = (d frames f : ℕ) (k : Known) (w : Words) → NoTurns w → f < frames → LeastFree (λ i. w.guarded (FrameTenant i)) f →
    (home_in w k ≡ H.Never → TakesSteps (k.size + f + 12) d (ClassTurn (swap_in_body frames k)) w) ×
    ((g size : ℕ) → home_in w k ≡ H.Stored g size → TakesSteps (2 * k.size + f + 12) d (ClassTurn (swap_in_body frames k)) w)

-- a swapout of n words to the segment's own page: 2 n + 11
abbrev pub SwapOutSteps : Type 0
SwapOutSteps = (d pages f g size : ℕ) (k : Known) (w : Words) → NoTurns w → home_in w k ≡ H.Resident f (Some g) size →
    TakesSteps (2 * k.size + 11) d (ClassTurn (swap_out_body pages k)) w

-- to the least free page g: 2 n + g + 13
abbrev pub SwapOutNewSteps : Type 0
SwapOutNewSteps = (d pages f g size : ℕ) (k : Known) (w : Words) → NoTurns w → home_in w k ≡ H.Resident f None size → g < pages →
    LeastFree (λ i. w.guarded (PageTenant i)) g → TakesSteps (2 * k.size + g + 13) d (ClassTurn (swap_out_body pages k)) w
