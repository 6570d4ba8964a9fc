use Rattle.std.proofs.Common.{◌∙◌, sym, rules, tests}
use Rattle.std.proofs.lemmas.Iterator.{YieldsList-from_slice}
use Rattle.std.proofs.lemmas.Iterator.Search.{any_from_yields_List}
use Rattle.config_text.specs.Rules.{is_no_event}
use Rattle.config_text.proofs.WordTests.{any_word}
use Rattle.config_text.proofs.words.has_no_event.Goals as goal

pub returns : goal.returns
returns c =
    any_from_yields_List (λ w. is_no_event w.now) _ _ _ c.any.ensures.ran (YieldsList-from_slice c.args.words.now cc) (λ x b q k. search (rules, tests))
    ∙ sym (any_word is_no_event c.args.words.now)
