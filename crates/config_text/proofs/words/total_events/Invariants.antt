use Rattle.std.proofs.Common.{◌≡◌, ◌+◌, drop}
use Rattle.std.specs.List.{sum_by}
use Rattle.text_lines.specs.Lines.{views}
use Rattle.config_text.specs.Rules.{event_count}
use Rattle.config_text.proofs.words.total_events.Given as goal

abbrev pub invariant-loop-word : goal.invariant-loop-word
invariant-loop-word l = l.total + sum_by event_count (views (drop l.word-index l.words)) ≡ l.used + sum_by event_count (views l.words)
