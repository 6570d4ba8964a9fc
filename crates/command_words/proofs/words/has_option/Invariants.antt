use Rattle.std.proofs.Common.{◌≡◌, drop}
use Rattle.std.specs.List.{list_any}
use Rattle.text_lines.specs.Lines.{views}
use Rattle.command_words.specs.Words.{is_option}
use Rattle.command_words.proofs.words.has_option.Given as goal

abbrev pub invariant-loop-word : goal.invariant-loop-word
invariant-loop-word l = list_any is_option (views (drop l.word-index l.words)) ≡ list_any is_option (views l.words)
