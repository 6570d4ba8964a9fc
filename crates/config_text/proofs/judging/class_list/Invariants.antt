use Rattle.std.proofs.Common.{◌≡◌, ◌++◌, drop}
use Rattle.std.specs.Prelude.{map}
use Rattle.text_lines.specs.Lines.{views}
use Rattle.text_lines.specs.Number.{value_of}
use Rattle.config_text.specs.Rules.{byte}
use Rattle.config_text.proofs.judging.class_list.Given as goal

abbrev pub invariant-loop-word : goal.invariant-loop-word
invariant-loop-word l = l.classes.items ++ map (λ w. byte (value_of w)) (views (drop l.word-index l.words)) ≡ map (λ w. byte (value_of w)) (views l.words)
