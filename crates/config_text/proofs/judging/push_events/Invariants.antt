use Rattle.std.proofs.Common.{◌≡◌, ◌++◌, drop}
use Rattle.std.specs.Prelude.{map}
use Rattle.text_lines.specs.Lines.{views}
use Rattle.config_text.specs.Rules.{event_item}
use Rattle.config_text.proofs.judging.push_events.Given as goal

abbrev pub invariant-loop-word : goal.invariant-loop-word
invariant-loop-word l = l.schedule.items ++ map event_item (views (drop l.word-index l.words)) ≡ l.initial.schedule.items ++ map event_item (views l.words)
