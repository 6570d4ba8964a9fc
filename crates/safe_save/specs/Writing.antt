-- What a write leaves of an image: a law on which other laws of a disk stand.
use Rattle.std.proofs.Common.{◌≡◌, ℕ, ◌+◌, ◌≤◌, List, ◌++◌, length, take, drop, refl, sym, ◌∙◌, ap, arith, length-append, length-drop}
use Rattle.std.proofs.lemmas.List.{drop-drop, take_at, drop_at, length-take-le}
use Rattle.safe_save.specs.Disk.{written, DiffersIn}

-- a write changes its range alone
pub written_differs : (at : ℕ) (bytes image : List ℕ) → at + length bytes ≤ length image → DiffersIn at (length bytes) image (written image at bytes)
written_differs at bytes image fits =
    let front : length (take at image) ≡ at = length-take-le at image (omega arith) in
    let rest = drop (at + length bytes) image in
    record {
      size = omega (arith, front, length-append (take at image) (bytes ++ rest), length-append bytes rest, length-drop (at + length bytes) image);
      before = take_at (take at image) (bytes ++ rest) at front;
      behind = sym (drop-drop (length bytes) at (written image at bytes)) ∙ (ap (λ (l : List ℕ). drop (length bytes) l) (drop_at (take at image) (bytes ++ rest) at front) ∙ drop_at bytes rest (length bytes) refl);
    }
