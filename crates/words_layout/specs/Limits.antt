-- Which names of words the layout has: those within its limits.
use Rattle.std.specs.Prelude.{ℕ, Bool, true, ◌&&◌, ◌<◌, nat_lt}
use Rattle.words_layout.specs.Sizes.{most_classes, most_serials, entry_count, most_frames, most_pages, most_words}
use Rattle.words_layout.specs.Words.{Guard, OfClass, OfSegment, GuardedWord, NextSerial, HomeOf, WritesOf, EntryOf, FrameTenant, FrameWord, PageTenant, PageWord, Word, Started, Tickets, Finished, Places, ComponentOf, SequencerOf, Guarded, WordOp, Nothing, Load, Store, Add}
use Rattle.words_layout.specs.declared.segment.SegId.{SegId}

-- the identity has one of the 16 classes and a serial below 64
abbrev pub IsIdentity : SegId → Type 0
IsIdentity u = (u.mentor < most_classes) × (u.serial < most_serials)

-- likewise, as a test
abbrev pub identity_in_limits : SegId → Bool
identity_in_limits u = nat_lt u.mentor most_classes && nat_lt u.serial most_serials

-- the class itself, or a segment within the limits
abbrev pub guard_in_limits : Guard → Bool
guard_in_limits OfClass = true
guard_in_limits (OfSegment u) = identity_in_limits u

-- eight entries, 16 frames and 32 pages of 64 words
abbrev pub guarded_in_limits : GuardedWord → Bool
guarded_in_limits NextSerial = true
guarded_in_limits (HomeOf u) = identity_in_limits u
guarded_in_limits (WritesOf u) = identity_in_limits u
guarded_in_limits (EntryOf u entry) = identity_in_limits u && nat_lt entry entry_count
guarded_in_limits (FrameTenant frame) = nat_lt frame most_frames
guarded_in_limits (FrameWord frame place) = nat_lt frame most_frames && nat_lt place most_words
guarded_in_limits (PageTenant page) = nat_lt page most_pages
guarded_in_limits (PageWord page place) = nat_lt page most_pages && nat_lt place most_words

-- the layout has a word of that name
abbrev pub word_in_limits : Word → Bool
word_in_limits (Started g) = guard_in_limits g
word_in_limits (Tickets g) = guard_in_limits g
word_in_limits (Finished g) = guard_in_limits g
word_in_limits Places = true
word_in_limits (ComponentOf class u) = nat_lt class most_classes && identity_in_limits u
word_in_limits (SequencerOf u) = identity_in_limits u
word_in_limits (Guarded w) = guarded_in_limits w

-- the layout of so many classes has the word of the operation
abbrev pub op_in_limits : ℕ → WordOp → Bool
op_in_limits classes Nothing = true
op_in_limits classes (Load class word) = nat_lt class classes && word_in_limits word
op_in_limits classes (Store word v) = word_in_limits word
op_in_limits classes (Add word v) = word_in_limits word
