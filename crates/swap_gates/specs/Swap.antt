-- The rows of the step table for swapin and swapout: the class's turn, and within it the segment's.
use Rattle.std.specs.Prelude.{ℕ, zero, suc, ◌+◌, ◌==◌, if◌then◌else◌, Option, Some, None}
use Rattle.words_layout.specs.Segments.{seg_number}
use Rattle.words_layout.specs.Words.{GuardedWord, HomeOf, FrameTenant, FrameWord, PageTenant, PageWord}
use Rattle.words_layout.specs.Coding.{home_of, pack_home}
use Rattle.words_layout.specs.declared.coding.Home.{Home}
use Rattle.words_layout.specs.declared.coding.Home.TheVariants as H
use Rattle.policy.specs.Known.{Known}
use Rattle.policy.specs.Outcome.{Outcome, Refused, Value}
use Rattle.policy.specs.declared.rule.Rule.TheVariants.{Gone, NotIn, AlreadyIn, NoFrame, NoPage}
use Rattle.turns.specs.Bodies.{Inner, Outer}

-- n tenants from place i on are loaded, up to the first that is 0
abbrev pub find_free : (ℕ → GuardedWord) → ℕ → ℕ → (ℕ → Inner Outcome) → Inner Outcome → Inner Outcome
find_free tenant i zero found none = none
find_free tenant i (suc n) found none =
    Inner.Load (tenant i) (λ w. if w == 0 then found i else find_free tenant (i + 1) n found none)

-- n words of a frame from place i on are stored as 0
abbrev pub zero_words : ℕ → ℕ → ℕ → Inner Outcome → Inner Outcome
zero_words f i zero rest = rest
zero_words f i (suc n) rest = Inner.Store (FrameWord f i) 0 (zero_words f (i + 1) n rest)

-- n words from place i on are copied, each loaded and then stored
abbrev pub copy_words : (ℕ → GuardedWord) → (ℕ → GuardedWord) → ℕ → ℕ → Inner Outcome → Inner Outcome
copy_words from to i zero rest = rest
copy_words from to i (suc n) rest = Inner.Load (from i) (λ w. Inner.Store (to i) w (copy_words from to (i + 1) n rest))

-- the words of a segment that comes in: zeros, or those of its page
abbrev pub fill_frame : ℕ → ℕ → Option ℕ → Inner Outcome → Inner Outcome
fill_frame f size None rest = zero_words f 0 size rest
fill_frame f size (Some g) rest = copy_words (PageWord g) (FrameWord f) 0 size rest

-- it comes into a frame
abbrev pub bring_in : Known → Option ℕ → ℕ → Inner Outcome
bring_in k page f = Inner.Store (FrameTenant f) (seg_number k.seg + 1) (fill_frame f k.size page
    (Inner.Store (HomeOf k.seg) (pack_home (H.Resident f page k.size)) (Inner.Shows (Value 0))))

-- swapin, once the home is known
abbrev pub swap_in_home : ℕ → Known → Home → Inner Outcome
swap_in_home frames k H.Deleted = Inner.Shows (Refused Gone)
swap_in_home frames k (H.Resident f page size) = Inner.Shows (Refused AlreadyIn)
swap_in_home frames k H.Never = find_free FrameTenant 0 frames (bring_in k None) (Inner.Shows (Refused NoFrame))
swap_in_home frames k (H.Stored g size) = find_free FrameTenant 0 frames (bring_in k (Some g)) (Inner.Shows (Refused NoFrame))

-- swapin: load the home; find the least free frame and store its tenant; fill it; store the home
abbrev pub swap_in_body : ℕ → Known → Outer Outcome
swap_in_body frames k = Outer.Enter k.seg (Inner.Load (HomeOf k.seg) (λ w. swap_in_home frames k (home_of w)))

-- it goes out of frame f to page g
abbrev pub take_out : Known → ℕ → ℕ → ℕ → Inner Outcome
take_out k f size g = copy_words (FrameWord f) (PageWord g) 0 k.size (Inner.Store (FrameTenant f) 0
    (Inner.Store (HomeOf k.seg) (pack_home (H.Stored g size)) (Inner.Shows (Value 0))))

-- a page without a tenant takes it
abbrev pub take_page : Known → ℕ → ℕ → ℕ → Inner Outcome
take_page k f size g = Inner.Store (PageTenant g) (seg_number k.seg + 1) (take_out k f size g)

-- swapout, once the home is known
abbrev pub swap_out_home : ℕ → Known → Home → Inner Outcome
swap_out_home pages k H.Deleted = Inner.Shows (Refused Gone)
swap_out_home pages k (H.Resident f (Some g) size) = take_out k f size g
swap_out_home pages k (H.Resident f None size) = find_free PageTenant 0 pages (take_page k f size) (Inner.Shows (Refused NoPage))
swap_out_home pages k _ = Inner.Shows (Refused NotIn)

-- swapout: load the home; where it has no page, find the least free page and store its tenant; copy the words; store 0 to
-- the frame's tenant; store the home
abbrev pub swap_out_body : ℕ → Known → Outer Outcome
swap_out_body pages k = Outer.Enter k.seg (Inner.Load (HomeOf k.seg) (λ w. swap_out_home pages k (home_of w)))
