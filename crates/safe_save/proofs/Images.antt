-- What a write leaves of an image.
use Rattle.std.proofs.Common.{◌≡◌, ◌⊎◌, inl, inr, ℕ, zero, suc, ◌+◌, ◌-◌, ◌<◌, ◌≤◌, List, [], ◌∷◌, ◌++◌, length, get_or, take, drop, refl, sym, ◌∙◌, ap, subst, arith, length-drop}
use Rattle.std.proofs.lemmas.List.{drop-drop, drop-take, drop-append-le, take-append-le, take_at, drop_at, length-take-le, get_or-take}
use Rattle.lists.specs.Lists.{part_of}
use Rattle.safe_save.specs.Disk.{written, DiffersIn, Only, OnlyBytesIn}

-- an image differs nowhere from itself
pub same_image : (at n : ℕ) (image c : List ℕ) → c ≡ image → DiffersIn at n image c
same_image at n image c is = record { size = ap length is; before = ap (λ (l : List ℕ). take at l) is; behind = ap (λ (l : List ℕ). drop (at + n) l) is }

-- where a crash left one image, it leaves after a write what differs from it in the range
pub written_images : (at n : ℕ) (image : List ℕ) (old new : List ℕ → Type 0) → Only image old → OnlyBytesIn at n old new → (c : List ℕ) → new c → DiffersIn at n image c
written_images at n image old new only any c left =
    let from = any c left in
    subst (λ (d : List ℕ). DiffersIn at n d c) ((only from.0).0 from.1) from.2

take_take : (n m : ℕ) (xs : List ℕ) → n ≤ m → take n (take m xs) ≡ take n xs
take_take zero m xs le = refl
take_take (suc n) zero xs le = absurd (omega arith)
take_take (suc n) (suc m) [] le = refl
take_take (suc n) (suc m) (x ∷ xs) le = ap (λ (l : List ℕ). x ∷ l) (take_take n m xs (omega arith))

front_part : (at a k : ℕ) (xs : List ℕ) → a + k ≤ at → part_of xs a k ≡ drop a (take (a + k) (take at xs))
front_part at a k xs le = sym (drop-take a k xs) ∙ ap (λ (l : List ℕ). drop a l) (sym (take_take (a + k) at xs le))

-- what lies before the range is the same
part_before : (at a k : ℕ) (old new : List ℕ) → take at new ≡ take at old → a + k ≤ at → part_of new a k ≡ part_of old a k
part_before at a k old new same le = front_part at a k new le ∙ (ap (λ (l : List ℕ). drop a (take (a + k) l)) same ∙ sym (front_part at a k old le))

drop_from : (p a : ℕ) (xs : List ℕ) → p ≤ a → drop a xs ≡ drop (a - p) (drop p xs)
drop_from p a xs le = let e : p + (a - p) ≡ a = omega arith in sym (drop-drop (a - p) p xs ∙ ap (λ (m : ℕ). drop m xs) e)

-- and so is what lies behind it
part_behind : (p a k : ℕ) (old new : List ℕ) → drop p new ≡ drop p old → p ≤ a → part_of new a k ≡ part_of old a k
part_behind p a k old new same le = ap (λ (l : List ℕ). take k l) (drop_from p a new le ∙ (ap (λ (l : List ℕ). drop (a - p) l) same ∙ sym (drop_from p a old le)))

-- what lies outside of the range is the same
pub outside : (at n a k : ℕ) (old new : List ℕ) → DiffersIn at n old new → (a + k ≤ at) ⊎ (at + n ≤ a) → part_of new a k ≡ part_of old a k
outside at n a k old new differs (inl front) = part_before at a k old new differs.before front
outside at n a k old new differs (inr back) = part_behind (at + n) a k old new differs.behind back

-- the first byte lies before a range that doesn't begin with it
pub first_same : (at n : ℕ) (old new : List ℕ) → DiffersIn at n old new → 0 < at → get_or new 0 0 ≡ get_or old 0 0
first_same at n old new differs some =
    sym (get_or-take at new 0 0 some) ∙ (ap (λ (l : List ℕ). get_or l 0 0) differs.before ∙ get_or-take at old 0 0 some)

-- what was written is there
pub written_there : (at : ℕ) (bytes image : List ℕ) → at + length bytes ≤ length image → drop at (written image at bytes) ≡ bytes ++ drop (at + length bytes) image
written_there at bytes image fits = drop_at (take at image) (bytes ++ drop (at + length bytes) image) at (length-take-le at image (omega arith))

-- the first bytes of what was written
pub written_front : (at k : ℕ) (bytes image : List ℕ) → at + length bytes ≤ length image → k ≤ length bytes → part_of (written image at bytes) at k ≡ take k bytes
written_front at k bytes image fits few =
    ap (λ (l : List ℕ). take k l) (written_there at bytes image fits) ∙ take-append-le k bytes (drop (at + length bytes) image) few

-- and the rest of them
pub written_rest : (at k n : ℕ) (bytes image : List ℕ) → at + length bytes ≤ length image → n + k ≡ length bytes → part_of (written image at bytes) (at + k) n ≡ drop k bytes
written_rest at k n bytes image fits is =
    let rest = drop (at + length bytes) image in
    ap (λ (l : List ℕ). take n l) (sym (drop-drop k at (written image at bytes)) ∙ (ap (λ (l : List ℕ). drop k l) (written_there at bytes image fits) ∙ drop-append-le k bytes rest (omega arith)))
    ∙ take_at (drop k bytes) rest n (omega (arith, length-drop k bytes))

-- a part of the front of a list
pub part_front : (xs ys : List ℕ) (a k : ℕ) → a + k ≤ length xs → part_of (xs ++ ys) a k ≡ part_of xs a k
part_front xs ys a k fits = ap (λ (l : List ℕ). take k l) (drop-append-le a xs ys (omega arith)) ∙ take-append-le k (drop a xs) ys (omega (arith, length-drop a xs))
