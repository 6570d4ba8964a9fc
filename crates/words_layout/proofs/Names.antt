-- Names that are tested to be the same are equal.
use Rattle.std.proofs.Common.{ℕ, Bool, true, ◌≡◌, refl, ap, ◌∙◌}
use Rattle.std.specs.Prelude.{◌==◌}
use Rattle.std.proofs.lemmas.Bool.{and_parts, and_from, eqb-true, eq-eqb}
use Rattle.words_layout.specs.Segments.{same_seg}
use Rattle.words_layout.specs.Words.{Guard, OfClass, OfSegment, GuardedWord, NextSerial, HomeOf, WritesOf, EntryOf, FrameTenant, FrameWord, PageTenant, PageWord, same_guard, same_word}
use Rattle.words_layout.specs.declared.segment.SegId.{SegId}

pub same_seg-true : (u v : SegId) → same_seg u v ≡ true → u ≡ v
same_seg-true u v h =
    let parts : ((u.mentor == v.mentor) ≡ true) × ((u.serial == v.serial) ≡ true) = and_parts _ _ h in
    let m : u.mentor ≡ v.mentor = eqb-true u.mentor v.mentor parts.0 in
    let s : u.serial ≡ v.serial = eqb-true u.serial v.serial parts.1 in
    λ i. record { mentor = m i; serial = s i }

pub same_seg-refl : (u : SegId) → same_seg u u ≡ true
same_seg-refl u = and_from _ _ (eq-eqb u.mentor u.mentor refl) (eq-eqb u.serial u.serial refl)

pub same_guard-true : (g h : Guard) → same_guard g h ≡ true → g ≡ h
same_guard-true OfClass OfClass e = refl
same_guard-true (OfSegment u) (OfSegment v) e = λ k. OfSegment ((same_seg-true u v e) k)
same_guard-true OfClass (OfSegment v) e = cc
same_guard-true (OfSegment u) OfClass e = cc

pub same_guard-refl : (g : Guard) → same_guard g g ≡ true
same_guard-refl OfClass = refl
same_guard-refl (OfSegment u) = same_seg-refl u

pub same_word-refl : (w : GuardedWord) → same_word w w ≡ true
same_word-refl NextSerial = refl
same_word-refl (HomeOf u) = same_seg-refl u
same_word-refl (WritesOf u) = same_seg-refl u
same_word-refl (EntryOf u e) = and_from _ _ (same_seg-refl u) (eq-eqb e e refl)
same_word-refl (FrameTenant f) = eq-eqb f f refl
same_word-refl (FrameWord f i) = and_from _ _ (eq-eqb f f refl) (eq-eqb i i refl)
same_word-refl (PageTenant f) = eq-eqb f f refl
same_word-refl (PageWord f i) = and_from _ _ (eq-eqb f f refl) (eq-eqb i i refl)

pub same_word-true : (q w : GuardedWord) → same_word q w ≡ true → q ≡ w
same_word-true NextSerial NextSerial h = refl
same_word-true (HomeOf u) (HomeOf v) h = ap HomeOf (same_seg-true u v h)
same_word-true (WritesOf u) (WritesOf v) h = ap WritesOf (same_seg-true u v h)
same_word-true (EntryOf u e) (EntryOf v f) h =
    let parts = and_parts (same_seg u v) (e == f) h in ap (λ x. EntryOf x e) (same_seg-true u v parts.0) ∙ ap (EntryOf v) (eqb-true e f parts.1)
same_word-true (FrameTenant f) (FrameTenant g) h = ap FrameTenant (eqb-true f g h)
same_word-true (FrameWord f i) (FrameWord g j) h =
    let parts = and_parts (f == g) (i == j) h in ap (λ x. FrameWord x i) (eqb-true f g parts.0) ∙ ap (FrameWord g) (eqb-true i j parts.1)
same_word-true (PageTenant f) (PageTenant g) h = ap PageTenant (eqb-true f g h)
same_word-true (PageWord f i) (PageWord g j) h =
    let parts = and_parts (f == g) (i == j) h in ap (λ x. PageWord x i) (eqb-true f g parts.0) ∙ ap (PageWord g) (eqb-true i j parts.1)
same_word-true _ _ h = cc
