-- The lines of a trail, pushed one after the other.
use Rattle.std.proofs.Common.{◌≡◌, ℕ, suc, zero, ◌+◌, ◌<◌, ◌≤◌, List, [], ◌∷◌, ◌++◌, length, take, drop, get_or, sym, ap, subst, ◌∙◌, arith}
use Rattle.std.proofs.lemmas.List.{append-nil, take_more, take_all, take-append-drop}
use Rattle.std.proofs.lemmas.List.Concat.{flat_map-append}
use Rattle.std.specs.List.{AllByRecursion}
use Rattle.host_ports.specs.Ports.{Port}
use Rattle.report.specs.Printing.{Pushed, Torn}
use Rattle.report.proofs.Texts.{pushed_then, pushed_torn, torn_more}
use Rattle.audit_trail.specs.Lines.{line_text, lines_text, HasLine}
use Rattle.audit_trail.specs.declared.entry.Entry.{Entry}

-- one line more
lines_more : (es : List Entry) (i : ℕ) (e : Entry) → i < length es → e ≡ get_or es i e → lines_text (take (i + 1) es) ≡ lines_text (take i es) ++ (line_text e ++ 10 ∷ [])
lines_more es i e lt is =
    ap lines_text (take_more es i e lt ∙ ap (λ (x : Entry). take i es ++ x ∷ []) (sym is))
    ∙ flat_map-append (λ (x : Entry). line_text x ++ 10 ∷ []) (take i es) (e ∷ [])
    ∙ ap (λ (t : List ℕ). lines_text (take i es) ++ t) (append-nil (line_text e ++ 10 ∷ []))

module _ (before now after : ℕ → Port) (es : List Entry) (i : ℕ) (e : Entry) (lt : i < length es) (is : e ≡ get_or es i e) where
  pub line_pushed : Pushed before now (lines_text (take i es)) → Pushed now after (line_text e ++ 10 ∷ []) → Pushed before after (lines_text (take (i + 1) es))
  line_pushed p q = subst (Pushed before after) (sym (lines_more es i e lt is)) (pushed_then before now after (lines_text (take i es)) (line_text e ++ 10 ∷ []) p q)

  pub line_torn : Pushed before now (lines_text (take i es)) → Torn now after (line_text e ++ 10 ∷ []) → Torn before after (lines_text es)
  line_torn p q = subst (Torn before after) whole
      (torn_more before after (lines_text (take (i + 1) es)) (lines_text (drop (i + 1) es))
      (subst (Torn before after) (sym (lines_more es i e lt is)) (pushed_torn before now after (lines_text (take i es)) (line_text e ++ 10 ∷ []) p q)))
    where
      whole : lines_text (take (i + 1) es) ++ lines_text (drop (i + 1) es) ≡ lines_text es
      whole = sym (flat_map-append (λ (x : Entry). line_text x ++ 10 ∷ []) (take (i + 1) es) (drop (i + 1) es)) ∙ ap lines_text (take-append-drop (i + 1) es)

-- all lines
pub lines_pushed : (before now : ℕ → Port) (es : List Entry) (i : ℕ) → length es ≤ i → Pushed before now (lines_text (take i es)) → Pushed before now (lines_text es)
lines_pushed before now es i le p = subst (λ (xs : List Entry). Pushed before now (lines_text xs)) (take_all i es le) p

-- each entry of the list has a line
pub has_line : (es : List Entry) (i : ℕ) (e : Entry) → i < length es → e ≡ get_or es i e → AllByRecursion HasLine es → HasLine e
has_line es i e lt is h = subst HasLine (sym is) (at es i lt h)
  where
    at : (es : List Entry) (i : ℕ) → i < length es → AllByRecursion HasLine es → HasLine (get_or es i e)
    at [] i lt h = absurd (omega arith)
    at (x ∷ xs) zero lt h = h.0
    at (x ∷ xs) (suc i) lt h = at xs i (omega arith) h.1
