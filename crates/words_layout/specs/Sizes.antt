-- The sizes of the layout.
use Rattle.std.specs.Prelude.{ℕ}

-- how many classes there are at most
abbrev pub most_classes : ℕ
most_classes = 16

-- how many segments may have mentors of one class: their serials are below this
abbrev pub most_serials : ℕ
most_serials = 64

-- how many entries a segment has
abbrev pub entry_count : ℕ
entry_count = 8

-- how many frames and how many pages a class may have
abbrev pub most_frames : ℕ
most_frames = 16

abbrev pub most_pages : ℕ
most_pages = 32

-- how many words a segment has at most, and how many a frame or a page has room for
abbrev pub most_words : ℕ
most_words = 64

-- how many words the layout has for each class
abbrev pub class_words : ℕ
class_words = 34869

-- how many events a run has at most
abbrev pub max_events : ℕ
max_events = 4194304
