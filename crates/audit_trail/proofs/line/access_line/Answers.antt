use Rattle.std.proofs.Common.{◌∙◌, ap, List, ℕ, ◌++◌, ◌∷◌}
use Rattle.audit_trail.proofs.LineText.{access_text}
use Rattle.audit_trail.proofs.line.access_line.Goals as goal

pub returns-clause-text : goal.returns-clause-text
returns-clause-text c =
    access_text _ _ _ _ _ _ _ _ _ _ _ _ _ _ _ c.new-line.ensures c.push_str.ensures.bytes c.push_name.ensures.text
    (c.push_word.ensures.text ∙ ap (λ (t : List ℕ). c.push_name.new.line.bytes ++ 32 ∷ t) c.kind_text.ensures.text)
    c.push_number.ensures.text c.push_number-2.ensures.text c.push_number-3.ensures.text
