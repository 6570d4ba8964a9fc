use Rattle.std.proofs.Common.{◌≡◌, ◌+◌, drop, length}
use Rattle.text_lines.specs.Lines.{views}
use Rattle.config_text.specs.Rules.{body_of}
use Rattle.config_text.proofs.steps.body_length.Given as goal

abbrev pub invariant-loop-line : goal.invariant-loop-line
invariant-loop-line l = (l.count + length (body_of (views (drop l.line-index l.lines))) ≡ length (body_of (views l.lines))) × (l.count ≡ l.line-index)
