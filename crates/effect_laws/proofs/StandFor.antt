-- What the words hold where no process is inside a turn of their guard: the two points on words of when the machine of words
-- stands for a state.
use Rattle.std.proofs.Common.{ℕ, ◌+◌, ◌-◌, ◌*◌, ◌/◌, ◌%◌, ◌<◌, true, false, List, ◌≡◌, refl, ap, ◌∙◌, arith}
use Rattle.std.specs.Prelude.{◌==◌}
use Rattle.std.proofs.lemmas.Bool.{ne_eqb}
use Rattle.words_layout.specs.declared.segment.SegId.{SegId}
use Rattle.words_layout.specs.declared.coding.Home.{Home}
use Rattle.words_layout.specs.declared.coding.Home.TheVariants as H
use Rattle.words_layout.specs.Segments.{seg_number, numbered}
use Rattle.words_layout.specs.Words.{OfClass, OfSegment, GuardedWord, GuardedWords, NextSerial, HomeOf, WritesOf, EntryOf, FrameTenant, FrameWord, PageTenant, PageWord}
use Rattle.words_layout.specs.Coding.{home_of}
use Rattle.words_layout.proofs.Names.{same_seg-refl}
use Rattle.class_model.specs.Config.{Shared, pool_of}
use Rattle.class_model.specs.State.{State, CellHome}
use Rattle.machine.specs.Machine.{ClassPart}
use Rattle.machine.specs.Stands.{ClassHolds, SegmentHolds, HomeHolds, NoTurn, names_frame}
use Rattle.effect_laws.proofs.Same.{of_class_word, class_same, segment_same}
use Rattle.effect_laws.proofs.Guards.{just, covers, frame_guard}
use Rattle.effect_laws.proofs.Turns.{at_slot}
use Rattle.effect_laws.proofs.Committed.{free_outside}
use Rattle.effect_laws.proofs.WholeRun.{Together}

class_covers : (c : GuardedWords) (w : GuardedWord) → of_class_word w ≡ true → covers c (just OfClass) w ≡ true
class_covers c (HomeOf u) k = refl
class_covers c NextSerial k = refl
class_covers c (EntryOf u e) k = refl
class_covers c (FrameTenant f) k = refl
class_covers c (PageTenant g) k = refl
class_covers c (PageWord g i) k = refl
class_covers c (WritesOf u) k = cc
class_covers c (FrameWord f i) k = cc

-- the tenant of a segment's frame makes it the guard of the frame's words
pub tenant_guard : (u : SegId) → u.serial < 64 → frame_guard (seg_number u + 1) ≡ OfSegment u
tenant_guard u small =
    let m : (64 * u.mentor + u.serial + 1 - 1) / 64 ≡ u.mentor = omega (arith, small) in
    let s : (64 * u.mentor + u.serial + 1 - 1) % 64 ≡ u.serial = omega (arith, small) in
    let some : (seg_number u + 1 == 0) ≡ false = ne_eqb (seg_number u + 1) 0 (λ x. absurd (omega (arith, x))) in
    let same : numbered (seg_number u + 1 - 1) ≡ u = (λ k. record { mentor = m k; serial = s k }) in
    rw some (ap OfSegment same)

-- where no process of a class is inside its turn, its words hold what the other machine's part is
pub class_stands : (s : Shared) (n : ℕ) (m : ℕ → ClassPart) (a : State) → Together s n m a → (d : ℕ) → NoTurn OfClass (m d) →
    ClassHolds (pool_of s d) (m d).words.guarded (a.part d)
class_stands s n m a t d none = class_same (t.committed d) (m d).words.guarded
    (λ w k. t.keeps.idle d OfClass (λ p i. free_outside OfClass (at_slot (m d) p i) (none p i)) w (class_covers (t.committed d) w k))
    (pool_of s d) (a.part d) (a.part d) refl (λ u. refl) (λ u. refl) (t.agrees.holds d).of_class

-- likewise of a segment, if those that have a frame have serials in range
pub segment_stands : (s : Shared) (n : ℕ) (m : ℕ → ClassPart) (a : State) → Together s n m a → (d : ℕ) (u : SegId) →
    ((live : List ℕ) → ((a.part d).cell u).home ≡ CellHome.In live → u.serial < 64) → NoTurn (OfSegment u) (m d) →
    SegmentHolds (m d).words.guarded u ((a.part d).cell u)
segment_stands s n m a t d u range none = segment_same (t.committed d) (m d).words.guarded u ((a.part d).cell u)
    (idle (HomeOf u) (same_seg-refl u)) (idle (WritesOf u) (same_seg-refl u)) word ((t.agrees.holds d).of_segments u)
  where
    idle : (w : GuardedWord) → covers (t.committed d) (just (OfSegment u)) w ≡ true → (m d).words.guarded w ≡ t.committed d w
    idle = t.keeps.idle d (OfSegment u) (λ p i. free_outside (OfSegment u) (at_slot (m d) p i) (none p i))

    by_home : (h : Home) (f : ℕ) → names_frame h f ≡ true → HomeHolds (t.committed d) h ((a.part d).cell u).home → u.serial < 64
    by_home (H.Resident f page size) g k h = range _ h
    by_home H.Never g k h = cc
    by_home (H.Stored f size) g k h = cc
    by_home H.Deleted g k h = cc

    word : (f i : ℕ) → names_frame (home_of (t.committed d (HomeOf u))) f ≡ true → (m d).words.guarded (FrameWord f i) ≡ t.committed d (FrameWord f i)
    word f i k =
        let tenant : t.committed d (FrameTenant f) ≡ seg_number u + 1 = ((t.agrees.holds d).of_class.frames f).is u k in
        let small : u.serial < 64 = by_home (home_of (t.committed d (HomeOf u))) f k ((t.agrees.holds d).of_segments u).home in
        idle (FrameWord f i) (ap (λ z. just (OfSegment u) (frame_guard z)) tenant ∙ ap (just (OfSegment u)) (tenant_guard u small) ∙ same_seg-refl u)
