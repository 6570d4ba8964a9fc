-- A pool names a volume exactly where the volume is among the numbers that pools name.
use Rattle.std.proofs.Common.{ℕ, zero, suc, ◌⊎◌, inl, inr, Bool, true, false, List, [], ◌∷◌, ◌≡◌, refl, sym, ◌∙◌, arith, map}
use Rattle.std.proofs.lemmas.Bool.{eqb-true, eq-eqb}
use Rattle.std.specs.Prelude.{◌==◌, ◌||◌, Contains}
use Rattle.std.specs.List.{list_any}
use Rattle.config_text.specs.declared.config.Config.{Config as ConfigText}
use Rattle.config_text.specs.declared.config.Pool.{Pool as PoolText}
use Rattle.loader.specs.Records.{named_by, names_volume}

-- the first number, or one behind it
pub contains_cases : (x : ℕ) (xs : List ℕ) (n : ℕ) → Contains (x ∷ xs) n → (x ≡ n) ⊎ Contains xs n
contains_cases x xs n (zero, lt, e) = inl e
contains_cases x xs n (suc i, lt, e) = inr (i, omega (arith, lt), e)

pub contains_behind : (x : ℕ) (xs : List ℕ) (p : ℕ) → Contains xs p → Contains (x ∷ xs) p
contains_behind x xs p h = let lt = h.1 in (suc h.0, omega arith, h.2)

abbrev volumes_in : List PoolText → List ℕ
volumes_in pools = map (λ (p : PoolText). p.volume) pools

abbrev names : ℕ → List PoolText → Bool
names n pools = list_any (λ (p : PoolText). p.volume == n) pools

named_first : (p : PoolText) (pools : List PoolText) (n : ℕ) (b : Bool) → (p.volume == n) ≡ b → (names n pools ≡ true → Contains (volumes_in pools) n) → (b || names n pools) ≡ true →
    Contains (volumes_in (p ∷ pools)) n
named_first p pools n true e rest h = (0, omega arith, eqb-true p.volume n e)
named_first p pools n false e rest h = contains_behind p.volume (volumes_in pools) n (rest h)

named_in : (pools : List PoolText) (n : ℕ) → names n pools ≡ true → Contains (volumes_in pools) n
named_in [] n h = absurd (cc)
named_in (p ∷ pools) n h = named_first p pools n (p.volume == n) refl (named_in pools n) h

unnamed_first : (p : PoolText) (pools : List PoolText) (n : ℕ) (b : Bool) → (p.volume == n) ≡ b → (names n pools ≡ false → Contains (volumes_in pools) n → ⊥) → (b || names n pools) ≡ false →
    (p.volume ≡ n) ⊎ Contains (volumes_in pools) n → ⊥
unnamed_first p pools n true e rest h c = absurd (cc)
unnamed_first p pools n false e rest h (inl same) = let t = eq-eqb p.volume n same in absurd (cc)
unnamed_first p pools n false e rest h (inr d) = rest h d

unnamed_in : (pools : List PoolText) (n : ℕ) → names n pools ≡ false → Contains (volumes_in pools) n → ⊥
unnamed_in [] n h c = let lt = c.1 in absurd (omega arith)
unnamed_in (p ∷ pools) n h c = unnamed_first p pools n (p.volume == n) refl (unnamed_in pools n) h (contains_cases p.volume (volumes_in pools) n c)

pub named_yes : (k : ConfigText) (n : ℕ) (b : Bool) → b ≡ names_volume k n → b ≡ true → Contains (named_by k) n
named_yes k n b e h = named_in k.pools n (sym e ∙ h)

pub named_no : (k : ConfigText) (n : ℕ) (b : Bool) → b ≡ names_volume k n → b ≡ false → Contains (named_by k) n → ⊥
named_no k n b e h = unnamed_in k.pools n (sym e ∙ h)
