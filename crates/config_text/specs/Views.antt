-- Parts of lines in memory, as lists of bytes.
use Rattle.config_text.specs.declared.words.ClassWords.{ClassWords as ClassBorrow}
use Rattle.config_text.specs.declared.words.EventParts.{EventParts as EventBorrow}
use Rattle.config_text.specs.Rules.{ClassText, EventParts}

-- the words of a class line
abbrev pub class_view : ClassBorrow → ClassText
class_view w = record {
  keyword = w.keyword.now;
  name = w.name.now;
  label = w.label.now;
  frames_word = w.frames_word.now;
  frames = w.frames.now;
  pages_word = w.pages_word.now;
  pages = w.pages.now;
  volume_word = w.volume_word.now;
  volume = w.volume.now;
}

-- the parts of an event word
abbrev pub event_view : EventBorrow → EventParts
event_view e = record { processor = e.processor.now; class = e.class.now; count = e.count.now }
