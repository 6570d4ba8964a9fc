use Rattle.std.proofs.Common.{◌∙◌, sym, rules, tests}
use Rattle.std.specs.Prelude.{nat_le}
use Rattle.std.proofs.lemmas.Iterator.{YieldsList-from_slice}
use Rattle.std.proofs.lemmas.Iterator.Search.{any_from_yields_List}
use Rattle.text_lines.specs.Number.{value_of}
use Rattle.config_text.proofs.WordTests.{any_word}
use Rattle.config_text.proofs.words.has_past.Goals as goal

pub returns : goal.returns
returns c =
    any_from_yields_List (λ w. nat_le c.args.limit (value_of w.now)) _ _ _ c.any.ensures.ran (YieldsList-from_slice c.args.words.now cc) (λ x b q k. search (rules, tests))
    ∙ sym (any_word (λ w. nat_le c.args.limit (value_of w)) c.args.words.now)
