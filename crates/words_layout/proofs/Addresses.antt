-- Each offset within the limits names one word, so different words have different addresses.
use Rattle.std.proofs.Common.{ℕ, ◌+◌, ◌-◌, ◌*◌, ◌/◌, ◌%◌, ◌<◌, ◌≤◌, Bool, true, false, cond, ◌&&◌, ◌≡◌, refl, sym, ap, ◌∙◌, arith}
use Rattle.std.specs.Prelude.{◌==◌, nat_lt, if◌then◌else◌}
use Rattle.std.proofs.lemmas.Bool.{and_parts, ltb-true, lt-ltb, le-ltb, ne_eqb}
use Rattle.words_layout.specs.Segments.{seg, seg_number, numbered}
use Rattle.words_layout.specs.Words.{Guard, OfClass, OfSegment, GuardedWord, NextSerial, HomeOf, WritesOf, EntryOf, FrameTenant, FrameWord, PageTenant, PageWord, Word, Started, Tickets, Finished, Places, ComponentOf, SequencerOf, Guarded, offset, address, class_of}
use Rattle.words_layout.specs.Limits.{IsIdentity, identity_in_limits, word_in_limits}
use Rattle.words_layout.specs.declared.segment.SegId.{SegId}

-- the words of a class by itself
abbrev class_word : ℕ → Word
class_word o =
    if o == 0 then Started OfClass else (if o == 1 then Tickets OfClass else (if o == 2 then Finished OfClass else (if o == 3 then Places else Guarded NextSerial)))

-- word k, below 7, of the segment
abbrev turn_word : SegId → ℕ → Word
turn_word u k =
    if k == 0 then Guarded (HomeOf u) else (if k == 1 then Guarded (WritesOf u) else (if k == 3 then SequencerOf u
    else (if k == 4 then Started (OfSegment u) else (if k == 5 then Tickets (OfSegment u) else Finished (OfSegment u)))))

-- word k, below 15, of the segment of number n
abbrev segment_word : ℕ → ℕ → Word
segment_word n k = if nat_lt k 7 then turn_word (numbered n) k else Guarded (EntryOf (numbered n) (k - 7))

-- word k, below 65, of a frame or a page
abbrev frame_word : ℕ → ℕ → Word
frame_word f k = if k == 0 then Guarded (FrameTenant f) else Guarded (FrameWord f (k - 1))

abbrev page_word : ℕ → ℕ → Word
page_word g k = if k == 0 then Guarded (PageTenant g) else Guarded (PageWord g (k - 1))

-- the word at an offset
abbrev word_of : ℕ → Word
word_of o =
    if nat_lt o 5 then class_word o
    else (if nat_lt o 15365 then segment_word ((o - 5) / 15) ((o - 5) % 15)
    else (if nat_lt o 16405 then frame_word ((o - 15365) / 65) ((o - 15365) % 65)
    else (if nat_lt o 18485 then page_word ((o - 16405) / 65) ((o - 16405) % 65)
    else ComponentOf ((o - 18485) / 1024) (numbered ((o - 18485) % 1024)))))

-- the parts of a segment's words, of a frame, of a page and of the components, in turn
in_segment : (o n k : ℕ) → n < 1024 → k < 15 → o ≡ 5 + 15 * n + k → word_of o ≡ segment_word n k
in_segment o n k a b e =
    let low : nat_lt o 5 ≡ false = le-ltb o 5 (omega arith) in
    let high : nat_lt o 15365 ≡ true = lt-ltb o 15365 (omega arith) in
    let q : (o - 5) / 15 ≡ n = omega arith in
    let r : (o - 5) % 15 ≡ k = omega arith in
    rw (low, high, q, r) refl

in_frame : (o f k : ℕ) → f < 16 → k < 65 → o ≡ 15365 + 65 * f + k → word_of o ≡ frame_word f k
in_frame o f k a b e =
    let low : nat_lt o 5 ≡ false = le-ltb o 5 (omega arith) in
    let mid : nat_lt o 15365 ≡ false = le-ltb o 15365 (omega arith) in
    let high : nat_lt o 16405 ≡ true = lt-ltb o 16405 (omega arith) in
    let q : (o - 15365) / 65 ≡ f = omega arith in
    let r : (o - 15365) % 65 ≡ k = omega arith in
    rw (low, mid, high, q, r) refl

in_page : (o g k : ℕ) → g < 32 → k < 65 → o ≡ 16405 + 65 * g + k → word_of o ≡ page_word g k
in_page o g k a b e =
    let low : nat_lt o 5 ≡ false = le-ltb o 5 (omega arith) in
    let mid : nat_lt o 15365 ≡ false = le-ltb o 15365 (omega arith) in
    let more : nat_lt o 16405 ≡ false = le-ltb o 16405 (omega arith) in
    let high : nat_lt o 18485 ≡ true = lt-ltb o 18485 (omega arith) in
    let q : (o - 16405) / 65 ≡ g = omega arith in
    let r : (o - 16405) % 65 ≡ k = omega arith in
    rw (low, mid, more, high, q, r) refl

in_component : (o x n : ℕ) → n < 1024 → o ≡ 18485 + 1024 * x + n → word_of o ≡ ComponentOf x (numbered n)
in_component o x n a e =
    let low : nat_lt o 5 ≡ false = le-ltb o 5 (omega arith) in
    let mid : nat_lt o 15365 ≡ false = le-ltb o 15365 (omega arith) in
    let more : nat_lt o 16405 ≡ false = le-ltb o 16405 (omega arith) in
    let high : nat_lt o 18485 ≡ false = le-ltb o 18485 (omega arith) in
    let q : (o - 18485) / 1024 ≡ x = omega arith in
    let r : (o - 18485) % 1024 ≡ n = omega arith in
    rw (low, mid, more, high, q, r) refl

pub identity_limits : (u : SegId) → identity_in_limits u ≡ true → IsIdentity u
identity_limits u h =
    let parts = and_parts (nat_lt u.mentor 16) (nat_lt u.serial 64) h in
    (ltb-true u.mentor 16 parts.0, ltb-true u.serial 64 parts.1)

pub number_limit : (u : SegId) → identity_in_limits u ≡ true → seg_number u < 1024
number_limit u h = let i : IsIdentity u = identity_limits u h in omega (arith, i.0, i.1)

pub numbered-seg_number : (u : SegId) → identity_in_limits u ≡ true → numbered (seg_number u) ≡ u
numbered-seg_number u h =
    let i : IsIdentity u = identity_limits u h in
    let m : (64 * u.mentor + u.serial) / 64 ≡ u.mentor = omega (arith, i.1) in
    let s : (64 * u.mentor + u.serial) % 64 ≡ u.serial = omega (arith, i.1) in
    λ k. record { mentor = m k; serial = s k }

-- a word of a segment, by the segment
of_segment : (o k : ℕ) (u : SegId) → identity_in_limits u ≡ true → k < 15 → o ≡ 5 + 15 * seg_number u + k →
    word_of o ≡ (if nat_lt k 7 then turn_word u k else Guarded (EntryOf u (k - 7)))
of_segment o k u h b e =
    in_segment o (seg_number u) k (number_limit u h) b e ∙ ap (λ v. if nat_lt k 7 then turn_word v k else Guarded (EntryOf v (k - 7))) (numbered-seg_number u h)

-- each word within the limits is the word at its offset
pub word_of-offset : (w : Word) → word_in_limits w ≡ true → word_of (offset w) ≡ w
word_of-offset (Started OfClass) h = refl
word_of-offset (Tickets OfClass) h = refl
word_of-offset (Finished OfClass) h = refl
word_of-offset Places h = refl
word_of-offset (Guarded NextSerial) h = refl
word_of-offset (Guarded (HomeOf u)) h = of_segment (offset (Guarded (HomeOf u))) 0 u h (omega arith) (omega arith)
word_of-offset (Guarded (WritesOf u)) h = of_segment (offset (Guarded (WritesOf u))) 1 u h (omega arith) (omega arith)
word_of-offset (SequencerOf u) h = of_segment (offset (SequencerOf u)) 3 u h (omega arith) (omega arith)
word_of-offset (Started (OfSegment u)) h = of_segment (offset (Started (OfSegment u))) 4 u h (omega arith) (omega arith)
word_of-offset (Tickets (OfSegment u)) h = of_segment (offset (Tickets (OfSegment u))) 5 u h (omega arith) (omega arith)
word_of-offset (Finished (OfSegment u)) h = of_segment (offset (Finished (OfSegment u))) 6 u h (omega arith) (omega arith)
word_of-offset (Guarded (EntryOf u e)) h =
    let parts = and_parts (identity_in_limits u) (nat_lt e 8) h in
    let small : e < 8 = ltb-true e 8 parts.1 in
    let past : nat_lt (7 + e) 7 ≡ false = le-ltb (7 + e) 7 (omega arith) in
    let back : 7 + e - 7 ≡ e = omega arith in
    of_segment (offset (Guarded (EntryOf u e))) (7 + e) u parts.0 (omega arith) (omega arith) ∙ rw (past, back) refl
word_of-offset (Guarded (FrameTenant f)) h = in_frame (offset (Guarded (FrameTenant f))) f 0 (ltb-true f 16 h) (omega arith) (omega arith)
word_of-offset (Guarded (FrameWord f i)) h =
    let parts = and_parts (nat_lt f 16) (nat_lt i 64) h in
    let small : i < 64 = ltb-true i 64 parts.1 in
    let past : (i + 1 == 0) ≡ false = ne_eqb (i + 1) 0 (λ x. absurd (omega arith)) in
    let back : i + 1 - 1 ≡ i = omega arith in
    in_frame (offset (Guarded (FrameWord f i))) f (i + 1) (ltb-true f 16 parts.0) (omega arith) (omega arith) ∙ rw (past, back) refl
word_of-offset (Guarded (PageTenant g)) h = in_page (offset (Guarded (PageTenant g))) g 0 (ltb-true g 32 h) (omega arith) (omega arith)
word_of-offset (Guarded (PageWord g i)) h =
    let parts = and_parts (nat_lt g 32) (nat_lt i 64) h in
    let small : i < 64 = ltb-true i 64 parts.1 in
    let past : (i + 1 == 0) ≡ false = ne_eqb (i + 1) 0 (λ x. absurd (omega arith)) in
    let back : i + 1 - 1 ≡ i = omega arith in
    in_page (offset (Guarded (PageWord g i))) g (i + 1) (ltb-true g 32 parts.0) (omega arith) (omega arith) ∙ rw (past, back) refl
word_of-offset (ComponentOf x u) h =
    let parts = and_parts (nat_lt x 16) (identity_in_limits u) h in
    in_component (offset (ComponentOf x u)) x (seg_number u) (number_limit u parts.1) (omega arith) ∙ ap (ComponentOf x) (numbered-seg_number u parts.1)

-- an offset within the limits is below the number of words of a class
pub offset_limit : (w : Word) → word_in_limits w ≡ true → offset w < 34869
offset_limit (Started OfClass) h = omega arith
offset_limit (Tickets OfClass) h = omega arith
offset_limit (Finished OfClass) h = omega arith
offset_limit Places h = omega arith
offset_limit (Guarded NextSerial) h = omega arith
offset_limit (Guarded (HomeOf u)) h = omega (arith, number_limit u h)
offset_limit (Guarded (WritesOf u)) h = omega (arith, number_limit u h)
offset_limit (SequencerOf u) h = omega (arith, number_limit u h)
offset_limit (Started (OfSegment u)) h = omega (arith, number_limit u h)
offset_limit (Tickets (OfSegment u)) h = omega (arith, number_limit u h)
offset_limit (Finished (OfSegment u)) h = omega (arith, number_limit u h)
offset_limit (Guarded (EntryOf u e)) h =
    let parts = and_parts (identity_in_limits u) (nat_lt e 8) h in omega (arith, number_limit u parts.0, ltb-true e 8 parts.1)
offset_limit (Guarded (FrameTenant f)) h = omega (arith, ltb-true f 16 h)
offset_limit (Guarded (FrameWord f i)) h =
    let parts = and_parts (nat_lt f 16) (nat_lt i 64) h in omega (arith, ltb-true f 16 parts.0, ltb-true i 64 parts.1)
offset_limit (Guarded (PageTenant g)) h = omega (arith, ltb-true g 32 h)
offset_limit (Guarded (PageWord g i)) h =
    let parts = and_parts (nat_lt g 32) (nat_lt i 64) h in omega (arith, ltb-true g 32 parts.0, ltb-true i 64 parts.1)
offset_limit (ComponentOf x u) h =
    let parts = and_parts (nat_lt x 16) (identity_in_limits u) h in omega (arith, number_limit u parts.1, ltb-true x 16 parts.0)

-- the class of an address is the class that it was made for
pub class_of-address : (c : ℕ) (w : Word) → word_in_limits w ≡ true → class_of (address c w) ≡ c
class_of-address c w h = class_of-sum c (offset w) (offset_limit w h)
  where
    class_of-sum : (c o : ℕ) → o < 34869 → (34869 * c + o) / 34869 ≡ c
    class_of-sum c o h = omega arith

-- different words have different addresses
pub addresses_apart : (c d : ℕ) (v w : Word) → word_in_limits v ≡ true → word_in_limits w ≡ true → address c v ≡ address d w → (c ≡ d) × (v ≡ w)
addresses_apart c d v w hv hw e = (
  same_class c d (offset v) (offset w) (offset_limit v hv) (offset_limit w hw) e,
  sym (word_of-offset v hv) ∙ ap word_of (same_offset c d (offset v) (offset w) (offset_limit v hv) (offset_limit w hw) e) ∙ word_of-offset w hw,
)
  where
    same_class : (c d a b : ℕ) → a < 34869 → b < 34869 → 34869 * c + a ≡ 34869 * d + b → c ≡ d
    same_class c d a b x y e = omega arith

    same_offset : (c d a b : ℕ) → a < 34869 → b < 34869 → 34869 * c + a ≡ 34869 * d + b → a ≡ b
    same_offset c d a b x y e = omega arith

-- each address lies in the layout
pub address_limit : (classes c : ℕ) (w : Word) → c < classes → word_in_limits w ≡ true → address c w < 34869 * classes
address_limit classes c w a h = limit classes c (offset w) a (offset_limit w h)
  where
    limit : (n c o : ℕ) → c < n → o < 34869 → 34869 * c + o < 34869 * n
    limit n c o a b = omega arith
