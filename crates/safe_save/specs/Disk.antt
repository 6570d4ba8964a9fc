-- What the calls of a disk do, and what a crash may leave of it. For `Disk`.
use Rattle.std.specs.Prelude.{◌≡◌, ◌⊎◌, ◌↔◌, ℕ, ◌+◌, ◌≤◌, List, ◌++◌, length, take, drop}

-- the image with these bytes written over its own from this place on
abbrev pub written : List ℕ → ℕ → List ℕ → List ℕ
written image at bytes = take at image ++ (bytes ++ drop (at + length bytes) image)

-- the two images have one size, and differ at most in these n bytes from this place on
pub record DiffersIn (at n : ℕ) (old new : List ℕ) : Type 0 where
  pub size : length new ≡ length old
  pub before : take at new ≡ take at old
  pub behind : drop (at + n) new ≡ drop (at + n) old

-- a crash leaves this image and no other
abbrev pub Only : List ℕ → (List ℕ → Type 0) → Type 0
Only image images = (c : List ℕ) → images c ↔ c ≡ image

-- a crash leaves the same images as before
abbrev pub SameImages : (List ℕ → Type 0) → (List ℕ → Type 0) → Type 0
SameImages old new = (c : List ℕ) → new c ↔ old c

-- a crash leaves an image of before, with other bytes at most in these n from this place on
abbrev pub OnlyBytesIn : ℕ → ℕ → (List ℕ → Type 0) → (List ℕ → Type 0) → Type 0
OnlyBytesIn at n old new = (c : List ℕ) → new c → (d : List ℕ) × old d × DiffersIn at n d c

-- a crash may leave each image of before, with any bytes in these n from this place on
abbrev pub AnyBytesIn : ℕ → ℕ → (List ℕ → Type 0) → (List ℕ → Type 0) → Type 0
AnyBytesIn at n old new = (d c : List ℕ) → old d → DiffersIn at n d c → new c

-- Time goes on: a crash since t might have left what it might have left before, or what it may leave now.
pub record Elapses (before now : ℕ) (past since : ℕ → List ℕ → Type 0) (images : List ℕ → Type 0) : Type 0 where
  pub later : before ≤ now
  pub nothing_else : (t : ℕ) (c : List ℕ) → t ≤ before → since t c → past t c ⊎ images c
  pub keeps : (t : ℕ) (c : List ℕ) → t ≤ before → past t c → since t c

-- A crash at any moment since old leaves an image that has P.
pub record LeavesOnly {D : Type 0} (moment : D → ℕ) (left_since : D → ℕ → List ℕ → Type 0) (old new : D) (P : List ℕ → Type 0) : Type 0 where
  pub later : moment old ≤ moment new
  pub each : (c : List ℕ) → left_since new (moment old) c → P c
  -- for a run that began earlier
  pub before : (t : ℕ) (c : List ℕ) → t ≤ moment old → left_since new t c → left_since old t c ⊎ P c
