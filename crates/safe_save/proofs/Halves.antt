-- What each half keeps while an image is saved.
use Rattle.std.proofs.Common.{◌≡◌, ◌⊎◌, inl, inr, ℕ, zero, suc, ◌+◌, ◌-◌, ◌%◌, ◌<◌, ◌≤◌, List, [], ◌∷◌, length, drop, refl, sym, ◌∙◌, ap, subst, arith, length-drop}
use Rattle.std.proofs.lemmas.Bool.Decides.{nat_tests}
use Rattle.std.specs.Prelude.{nat_le, if◌then◌else◌}
use Rattle.std.specs.Int.{w64, from_be_bytes}
use Rattle.lists.specs.Lists.{part_of}
use Rattle.safe_save.specs.Disk.{written, DiffersIn}
use Rattle.safe_save.specs.Kept.{start_of, half_in_use, length_of, Kept, Image, Broken, kept_bytes, kept_in, kept, IsStored, IsOldOrNew}
use Rattle.safe_save.specs.Writing.{written_differs}
use Rattle.safe_save.proofs.Images.{outside, first_same, written_front, written_rest}

-- the same length and the same bytes
fits_same : (n a : ℕ) (old new : List ℕ) → (n ≤ 4194304 → part_of new a n ≡ part_of old a n)
    → (if nat_le n 4194304 then kept_bytes (part_of new a n) else Broken) ≡ (if nat_le n 4194304 then kept_bytes (part_of old a n) else Broken)
fits_same n a old new same = grind (arith, nat_tests)

-- where a half begins is none of the bytes of a range, and neither is any byte of it
abbrev pub IsApart : ℕ → ℕ → ℕ → Type 0
IsApart half at n = (start_of half + 4194312 ≤ at) ⊎ (at + n ≤ start_of half)

part_apart : (half at n k m : ℕ) → IsApart half at n → k + m ≤ 4194312 → (start_of half + k + m ≤ at) ⊎ (at + n ≤ start_of half + k)
part_apart half at n k m (inl front) fits = inl (omega arith)
part_apart half at n k m (inr back) fits = inr (omega arith)

-- a half that is apart from what was written keeps its length
pub length_same : (half at n : ℕ) (old new : List ℕ) → DiffersIn at n old new → IsApart half at n → length_of new half ≡ length_of old half
length_same half at n old new differs (inl front) = ap (from_be_bytes w64) (outside at n (start_of half) 8 old new differs (inl (omega arith)))
length_same half at n old new differs (inr back) = ap (from_be_bytes w64) (outside at n (start_of half) 8 old new differs (inr back))

-- and what it keeps
pub half_same : (half at n : ℕ) (old new : List ℕ) → DiffersIn at n old new → IsApart half at n → kept_in new half ≡ kept_in old half
half_same half at n old new differs apart =
    let start = start_of half in
    ap (λ (m : ℕ). if nat_le m 4194304 then kept_bytes (part_of new (start + 8) m) else Broken) (length_same half at n old new differs apart)
    ∙ fits_same (length_of old half) (start + 8) old new (λ few. outside at n (start + 8) (length_of old half) old new differs (part_apart half at n 8 (length_of old half) apart (omega arith)))

-- the halves are apart
pub halves_apart : (half n : ℕ) → half < 2 → n ≤ 4194312 → IsApart half (start_of (1 - half)) n
halves_apart zero n low fits = inl (omega arith)
halves_apart (suc zero) n low fits = inr (omega arith)
halves_apart (suc (suc half)) n low fits = absurd (omega arith)

-- a write into the other half leaves the gate
pub gate_same : (half n : ℕ) (old new : List ℕ) → DiffersIn (start_of half) n old new → half_in_use new ≡ half_in_use old
gate_same half n old new differs = ap (λ (gate : ℕ). gate % 2) (first_same (start_of half) n old new differs (omega arith))

-- and what the disk keeps
pub other_half : (half n : ℕ) (old new : List ℕ) → half ≡ half_in_use old → half < 2 → n ≤ 4194312 → DiffersIn (start_of (1 - half)) n old new → kept new ≡ kept old
other_half half n old new is low fits differs =
    let gate = gate_same (1 - half) n old new differs in
    ap (λ (h : ℕ). kept_in new h) (gate ∙ sym is) ∙ (half_same half (start_of (1 - half)) n old new differs (halves_apart half n low fits) ∙ ap (λ (h : ℕ). kept_in old h) is)

-- a write of the gate leaves both halves
gate_apart : (half : ℕ) → IsApart half 0 1
gate_apart half = inr (omega arith)

pub under_gate : (half : ℕ) (old new : List ℕ) → DiffersIn 0 1 old new → kept_in new half ≡ kept_in old half
under_gate half old new differs = half_same half 0 1 old new differs (gate_apart half)

-- a gate of any byte picks one of the two halves
either_half : (half h : ℕ) → half < 2 → h < 2 → (h ≡ half) ⊎ (h ≡ 1 - half)
either_half zero zero low small = inl refl
either_half zero (suc zero) low small = inr refl
either_half (suc zero) zero low small = inr refl
either_half (suc zero) (suc zero) low small = inl refl
either_half (suc (suc half)) h low small = absurd (omega arith)
either_half zero (suc (suc h)) low small = absurd (omega arith)
either_half (suc zero) (suc (suc h)) low small = absurd (omega arith)

picks : (half : ℕ) (bytes old c : List ℕ) (k : Kept) → kept_in old half ≡ k → kept_in old (1 - half) ≡ Image (drop 8 bytes) → DiffersIn 0 1 old c → (half_in_use c ≡ half) ⊎ (half_in_use c ≡ 1 - half) → IsOldOrNew k bytes c
picks half bytes old c k first second differs (inl one) = inl (ap (λ (h : ℕ). kept_in c h) one ∙ (under_gate half old c differs ∙ first))
picks half bytes old c k first second differs (inr other) = inr (ap (λ (h : ℕ). kept_in c h) other ∙ (under_gate (1 - half) old c differs ∙ second))

pub any_gate : (half : ℕ) (bytes old c : List ℕ) (k : Kept) → half < 2 → kept_in old half ≡ k → kept_in old (1 - half) ≡ Image (drop 8 bytes) → DiffersIn 0 1 old c → IsOldOrNew k bytes c
any_gate half bytes old c k low first second differs = picks half bytes old c k first second differs (either_half half (half_in_use c) low (omega arith))

-- bytes that are there are an image
some_bytes : (bytes : List ℕ) → 0 < length bytes → kept_bytes bytes ≡ Image bytes
some_bytes [] some = absurd (omega arith)
some_bytes (byte ∷ bytes) some = refl

fits_kept : (n a : ℕ) (image bytes : List ℕ) → n ≤ 4194304 → part_of image a n ≡ bytes → (if nat_le n 4194304 then kept_bytes (part_of image a n) else Broken) ≡ kept_bytes bytes
fits_kept n a image bytes few is = grind (arith, nat_tests)

-- what a half keeps whose length fits
pub kept_there : (half : ℕ) (image bytes : List ℕ) → length_of image half ≤ 4194304 → part_of image (start_of half + 8) (length_of image half) ≡ bytes → kept_in image half ≡ kept_bytes bytes
kept_there half image bytes few is = fits_kept (length_of image half) (start_of half + 8) image bytes few is

half_fits : (half : ℕ) (bytes image : List ℕ) → half < 2 → IsStored bytes → length image ≡ 8388640 → start_of half + length bytes ≤ length image
half_fits zero bytes image low stored size = let fits = stored.fits in omega arith
half_fits (suc zero) bytes image low stored size = let fits = stored.fits in omega arith
half_fits (suc (suc half)) bytes image low stored size = absurd (omega arith)

-- the length that was written into a half
pub stored_length : (half : ℕ) (bytes image : List ℕ) → half < 2 → IsStored bytes → length image ≡ 8388640 → length_of (written image (start_of half) bytes) half ≡ length bytes - 8
stored_length half bytes image low stored size =
    let some = stored.some in
    let is = stored.length in
    let front = ap (from_be_bytes w64) (written_front (start_of half) 8 bytes image (half_fits half bytes image low stored size) (omega arith)) in
    omega (arith, front, is)

-- what was written into a half is kept there
pub stored_there : (half : ℕ) (bytes image : List ℕ) → half < 2 → IsStored bytes → length image ≡ 8388640 → kept_in (written image (start_of half) bytes) half ≡ Image (drop 8 bytes)
stored_there half bytes image low stored size =
    let some = stored.some in
    let fits = stored.fits in
    let is = stored_length half bytes image low stored size in
    let new = written image (start_of half) bytes in
    let there = ap (λ (n : ℕ). part_of new (start_of half + 8) n) is ∙ written_rest (start_of half) 8 (length bytes - 8) bytes image (half_fits half bytes image low stored size) (omega arith) in
    kept_there half new (drop 8 bytes) (omega arith) there ∙ some_bytes (drop 8 bytes) (omega (arith, length-drop 8 bytes))

-- the other half has the new image, and the half in use has the old one still
pub record IsStaged (half : ℕ) (bytes old new : List ℕ) : Type 0 where
  pub size : length new ≡ 8388640
  pub first : kept_in new half ≡ kept old
  pub second : kept_in new (1 - half) ≡ Image (drop 8 bytes)
  pub length : length_of new (1 - half) ≡ length bytes - 8

pub staged : (half at : ℕ) (bytes old new : List ℕ) → half < 2 → half ≡ half_in_use old → IsStored bytes → length old ≡ 8388640 → at ≡ start_of (1 - half) → new ≡ written old at bytes → IsStaged half bytes old new
staged half at bytes old new low is stored size place done =
    let other : 1 - half < 2 = omega arith in
    let fits = stored.fits in
    let same : new ≡ written old (start_of (1 - half)) bytes = done ∙ ap (λ (k : ℕ). written old k bytes) place in
    let differs = written_differs (start_of (1 - half)) bytes old (half_fits (1 - half) bytes old other stored size) in
    let here = subst (λ (image : List ℕ). DiffersIn (start_of (1 - half)) (length bytes) old image) (sym same) differs in
    record {
      size = here.size ∙ size;
      first = half_same half (start_of (1 - half)) (length bytes) old new here (halves_apart half (length bytes) low fits) ∙ ap (λ (h : ℕ). kept_in old h) is;
      second = ap (λ (image : List ℕ). kept_in image (1 - half)) same ∙ stored_there (1 - half) bytes old other stored size;
      length = ap (λ (image : List ℕ). length_of image (1 - half)) same ∙ stored_length (1 - half) bytes old other stored size;
    }

-- while the new image is written
pub staging : (half at n : ℕ) (bytes old c : List ℕ) → half ≡ half_in_use old → half < 2 → n ≤ 4194312 → at ≡ start_of (1 - half) → DiffersIn at n old c → IsOldOrNew (kept old) bytes c
staging half at n bytes old c is low fits place differs = inl (other_half half n old c is low fits (subst (λ (k : ℕ). DiffersIn k n old c) place differs))

-- while the gate is written
pub switching : (half : ℕ) (bytes old mid c : List ℕ) → half < 2 → IsStaged half bytes old mid → DiffersIn 0 1 mid c → IsOldOrNew (kept old) bytes c
switching half bytes old mid c low ready differs = any_gate half bytes mid c (kept old) low ready.first ready.second differs

-- the gate picks the other half
pub record IsSwitched (half : ℕ) (bytes new : List ℕ) : Type 0 where
  pub in_use : half_in_use new ≡ 1 - half
  pub length : length_of new (half_in_use new) ≡ length bytes - 8
  pub kept : kept new ≡ Image (drop 8 bytes)

gate_is : (half : ℕ) → half < 2 → (1 - half) % 2 ≡ 1 - half
gate_is zero low = refl
gate_is (suc zero) low = refl
gate_is (suc (suc half)) low = absurd (omega arith)

pub switched : (half : ℕ) (bytes old mid new : List ℕ) → half < 2 → IsStaged half bytes old mid → new ≡ written mid 0 ((1 - half) ∷ []) → IsSwitched half bytes new
switched half bytes old mid new low ready done =
    let size = ready.size in
    let differs = written_differs 0 ((1 - half) ∷ []) mid (omega arith) in
    let here = subst (λ (image : List ℕ). DiffersIn 0 1 mid image) (sym done) differs in
    let gate : half_in_use new ≡ 1 - half = ap half_in_use done ∙ gate_is half low in
    let same : length_of new (1 - half) ≡ length_of mid (1 - half) = length_same (1 - half) 0 1 mid new here (gate_apart (1 - half)) in
    record {
      in_use = gate;
      length = ap (λ (h : ℕ). length_of new h) gate ∙ (same ∙ ready.length);
      kept = ap (λ (h : ℕ). kept_in new h) gate ∙ (under_gate (1 - half) mid new here ∙ ready.second);
    }
