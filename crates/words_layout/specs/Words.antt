-- The words of a class by kind, their addresses, and the one operation of a step.
use Rattle.std.specs.Prelude.{ℕ, ◌+◌, ◌*◌, ◌/◌, ◌%◌, ◌^◌, Bool, true, false, ◌&&◌, ◌==◌, if◌then◌else◌}
use Rattle.lists.specs.Lists.{put}
use Rattle.words_layout.specs.Sizes.{class_words}
use Rattle.words_layout.specs.Segments.{seg_number, same_seg, put_seg}
use Rattle.words_layout.specs.declared.segment.SegId.{SegId}

-- What a look or a turn goes by, within a class: the class itself, or one of its segments.
pub data Guard : Type 0 where
  OfClass : Guard
  OfSegment : SegId → Guard

-- the words that only turns may change
pub data GuardedWord : Type 0 where
  NextSerial : GuardedWord
  HomeOf : SegId → GuardedWord
  WritesOf : SegId → GuardedWord
  EntryOf : SegId → (entry : ℕ) → GuardedWord
  FrameTenant : (frame : ℕ) → GuardedWord
  FrameWord : (frame place : ℕ) → GuardedWord
  PageTenant : (page : ℕ) → GuardedWord
  PageWord : (page place : ℕ) → GuardedWord

-- the name of a word of a class
pub data Word : Type 0 where
  Started : Guard → Word  -- turns started
  Tickets : Guard → Word  -- turn tickets
  Finished : Guard → Word  -- turns finished
  Places : Word  -- console places used
  ComponentOf : (class : ℕ) → SegId → Word  -- of the eventcount of the segment of that class
  SequencerOf : SegId → Word
  Guarded : GuardedWord → Word

-- the same guard
abbrev pub same_guard : Guard → Guard → Bool
same_guard OfClass OfClass = true
same_guard (OfSegment u) (OfSegment v) = same_seg u v
same_guard _ _ = false

-- the same guarded word
abbrev pub same_word : GuardedWord → GuardedWord → Bool
same_word NextSerial NextSerial = true
same_word (HomeOf u) (HomeOf v) = same_seg u v
same_word (WritesOf u) (WritesOf v) = same_seg u v
same_word (EntryOf u e) (EntryOf v f) = same_seg u v && e == f
same_word (FrameTenant f) (FrameTenant g) = f == g
same_word (FrameWord f i) (FrameWord g j) = f == g && i == j
same_word (PageTenant f) (PageTenant g) = f == g
same_word (PageWord f i) (PageWord g j) = f == g && i == j
same_word _ _ = false

-- the place of a guarded word among the words of its class
abbrev pub guarded_offset : GuardedWord → ℕ
guarded_offset NextSerial = 4
guarded_offset (HomeOf u) = 5 + 15 * seg_number u
guarded_offset (WritesOf u) = 6 + 15 * seg_number u
guarded_offset (EntryOf u e) = 12 + 15 * seg_number u + e
guarded_offset (FrameTenant f) = 15365 + 65 * f
guarded_offset (FrameWord f i) = 15366 + 65 * f + i
guarded_offset (PageTenant g) = 16405 + 65 * g
guarded_offset (PageWord g i) = 16406 + 65 * g + i

-- the first of the three words of a guard's turns
abbrev pub turn_offset : Guard → ℕ
turn_offset OfClass = 0
turn_offset (OfSegment u) = 9 + 15 * seg_number u

-- the place of a word among those of its class
abbrev pub offset : Word → ℕ
offset (Started g) = turn_offset g
offset (Tickets g) = turn_offset g + 1
offset (Finished g) = turn_offset g + 2
offset Places = 3
offset (ComponentOf x u) = 18485 + 1024 * x + seg_number u
offset (SequencerOf u) = 8 + 15 * seg_number u
offset (Guarded w) = guarded_offset w

-- the address of a word of a class; each class has 34,869 words
abbrev pub address : ℕ → Word → ℕ
address class word = class_words * class + offset word

-- the class of an address
abbrev pub class_of : ℕ → ℕ
class_of a = a / class_words

-- the guarded words of one class, by name
abbrev pub GuardedWords : Type 0
GuardedWords = GuardedWord → ℕ

-- the words of one class, by kind
pub record Words : Type 0 where
  pub started : Guard → ℕ
  pub tickets : Guard → ℕ
  pub finished : Guard → ℕ
  pub places : ℕ
  pub component : ℕ → SegId → ℕ
  pub sequencer : SegId → ℕ
  pub guarded : GuardedWords

-- the table f with v at g
abbrev pub put_guard : (Guard → ℕ) → Guard → ℕ → Guard → ℕ
put_guard f g v h = let rest = f h in if same_guard h g then v else rest

-- the guarded words with that one changed
abbrev pub set_guarded : GuardedWords → GuardedWord → ℕ → GuardedWords
set_guarded f w v q = let rest = f q in if same_word q w then v else rest

-- the word of that name
abbrev pub word_at : Words → Word → ℕ
word_at w (Started g) = w.started g
word_at w (Tickets g) = w.tickets g
word_at w (Finished g) = w.finished g
word_at w Places = w.places
word_at w (ComponentOf x u) = w.component x u
word_at w (SequencerOf u) = w.sequencer u
word_at w (Guarded g) = w.guarded g

-- the words with that one changed
abbrev pub set_word : Words → Word → ℕ → Words
set_word w (Started g) v = record w { started = put_guard w.started g v }
set_word w (Tickets g) v = record w { tickets = put_guard w.tickets g v }
set_word w (Finished g) v = record w { finished = put_guard w.finished g v }
set_word w Places v = record w { places = v }
set_word w (ComponentOf x u) v = record w { component = put w.component x (put_seg (w.component x) u v) }
set_word w (SequencerOf u) v = record w { sequencer = put_seg w.sequencer u v }
set_word w (Guarded g) v = record w { guarded = set_guarded w.guarded g v }

-- one more, modulo 2^64
abbrev pub plus_one : ℕ → ℕ
plus_one n = (n + 1) % 2 ^ 64

-- The operation of a step. It loads a word of some class, or changes a word of the caller's own class.
pub data WordOp : Type 0 where
  Nothing : WordOp
  Load : (class : ℕ) → Word → WordOp
  Store : Word → ℕ → WordOp
  Add : Word → ℕ → WordOp

-- what the operation of a caller of class d answers, given the words of each class
abbrev pub answer_to : (ℕ → Words) → ℕ → WordOp → ℕ
answer_to words d Nothing = 0
answer_to words d (Load class word) = word_at (words class) word
answer_to words d (Store word v) = 0
answer_to words d (Add word v) = word_at (words d) word

-- the words of the caller's class after it
abbrev pub words_after : Words → WordOp → Words
words_after w Nothing = w
words_after w (Load class word) = w
words_after w (Store word v) = set_word w word v
words_after w (Add word v) = set_word w word ((word_at w word + v) % 2 ^ 64)
