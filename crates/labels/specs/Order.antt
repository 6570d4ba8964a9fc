-- The order of labels as a relation: levels are compared as numbers, and categories as sets. Its Bool twins stand in
-- `Label`; the laws that tie them together are those of `order_laws` and `twin_laws`.
use Rattle.std.specs.Prelude.{◌≡◌, ℕ, ◌≤◌, ◌<◌, ◌^◌}
use Rattle.std.specs.Int.{bit_at}
use Rattle.labels.specs.Label.{Label}

-- the set that the word stands for has category k
abbrev pub HasCategory : ℕ → ℕ → Type 0
HasCategory word k = bit_at word k ≡ 1

-- each of the 32 categories that b has is a category of a
abbrev pub Includes : ℕ → ℕ → Type 0
Includes a b = (k : ℕ) → k < 32 → HasCategory b k → HasCategory a k

-- a is at least as secret as b
abbrev pub SecrecyDominates : Label → Label → Type 0
SecrecyDominates a b = (b.secrecy_level ≤ a.secrecy_level) × Includes a.secrecy_cats b.secrecy_cats

-- a is at least as trusted as b
abbrev pub IntegrityDominates : Label → Label → Type 0
IntegrityDominates a b = (b.integrity_level ≤ a.integrity_level) × Includes a.integrity_cats b.integrity_cats

-- a is at or above b: at least as secret, and at most as trusted
abbrev pub Dominates : Label → Label → Type 0
Dominates a b = SecrecyDominates a b × IntegrityDominates b a

-- what holds of each label of the program: levels from 0 to 15, categories from 0 to 31
pub record IsLabel (l : Label) : Type 0 where
  pub secrecy_level : l.secrecy_level ≤ 15
  pub secrecy_cats : l.secrecy_cats < 2 ^ 32
  pub integrity_level : l.integrity_level ≤ 15
  pub integrity_cats : l.integrity_cats < 2 ^ 32

-- j is the least label that dominates both
pub record IsJoin (j a b : Label) : Type 0 where
  pub first : Dominates j a
  pub second : Dominates j b
  pub least : (l : Label) → Dominates l a → Dominates l b → Dominates l j

-- m is the greatest label that both dominate
pub record IsMeet (m a b : Label) : Type 0 where
  pub first : Dominates a m
  pub second : Dominates b m
  pub greatest : (l : Label) → Dominates a l → Dominates b l → Dominates m l
