-- The tables of tests rise, and no two codes have the same number.
use Rattle.std.proofs.Common.{◌≡◌, ℕ, true, false, cond, eqb, not, List, [], ◌∷◌, Option, Some, None, refl, sym, ap, ◌∙◌, arith}
use Rattle.std.specs.Prelude.{codes}
use Rattle.std.specs.Str.{bytes_eq}
use Rattle.text_lines.specs.Lines.{words_of}
use Rattle.text_lines.specs.Faults.{Rises, Rising}
use Rattle.labels.specs.Label.{Label, ClassEntry}
use Rattle.labels.specs.Reading.{label_of_text}
use Rattle.config_text.specs.Rules.{Text}
use Rattle.release_guard.specs.declared.fault.Code.{Code}
use Rattle.release_guard.specs.declared.fault.Code.TheVariants as code
use Rattle.release_guard.specs.declared.order.Stage.{Stage}
use Rattle.release_guard.specs.declared.order.Stage.TheVariants as stage
use Rattle.release_guard.specs.Codes.{code_number}
use Rattle.release_guard.specs.Place.{Place}
use Rattle.release_guard.specs.Rules.{header_tests, count_tests, entry_tests, class_tests, release_tests, export_tests, body_tests, end_tests, stage_tests, word_tests, order_rules}

numbered : ℕ → Code
numbered n =
    cond (eqb n 1) code.Bytes (cond (eqb n 2) code.Form (cond (eqb n 3) code.Number (cond (eqb n 4) code.Range (cond (eqb n 5) code.Label (cond (eqb n 6) code.Name (cond (eqb n 7) code.Twice (cond (eqb n 8) code.Low (cond (eqb n 11) code.Limit code.Missing))))))))

its_number : (c : Code) → numbered (code_number c) ≡ c
unfolding numbered
its_number code.Bytes = refl
its_number code.Form = refl
its_number code.Number = refl
its_number code.Range = refl
its_number code.Label = refl
its_number code.Name = refl
its_number code.Twice = refl
its_number code.Low = refl
its_number code.Limit = refl
its_number code.Missing = refl

-- No two codes have the same number.
pub apart : (a b : Code) → code_number a ≡ code_number b → a ≡ b
apart a b e = sym (its_number a) ∙ ap numbered e ∙ its_number b

header_rises : (ws : List Text) → Rises code_number 1 (header_tests ws)
header_rises (k ∷ v ∷ []) = (omega arith, (omega arith, tt))
header_rises ws = (omega arith, tt)

count_rises : (ws : List Text) → Rises code_number 1 (count_tests ws)
count_rises (k ∷ n ∷ []) = (omega arith, (omega arith, (omega arith, tt)))
count_rises ws = (omega arith, tt)

entry_rises : (t : List ClassEntry) (name : Text) (l : Option Label) → Rises code_number 2 (entry_tests t name l)
unfolding entry_tests
entry_rises t name None = (omega arith, tt)
entry_rises t name (Some l) = (omega arith, (omega arith, (omega arith, tt)))

class_rises : (t : List ClassEntry) (ws : List Text) → Rises code_number 1 (class_tests t ws)
class_rises t (k ∷ name ∷ label ∷ []) = (omega arith, entry_rises t name (label_of_text label))
class_rises t ws = (omega arith, tt)

release_rises : (p : Place) (ws : List Text) → Rises code_number 1 (release_tests p ws)
release_rises p (a ∷ b ∷ t ∷ c ∷ d ∷ []) = (omega arith, (omega arith, (omega arith, (omega arith, (omega arith, tt)))))
release_rises p ws = (omega arith, tt)

export_rises : (p : Place) (ws : List Text) → Rises code_number 2 (export_tests p ws)
export_rises p (c ∷ []) = (omega arith, (omega arith, tt))
export_rises p ws = (omega arith, tt)

body_rises : (p : Place) (ws : List Text) → Rises code_number 1 (body_tests p ws)
body_rises p [] = tt
body_rises p (k ∷ ws) =
    elim (bytes_eq k (codes "release")) as (λ b. Rises code_number 1 (cond b (release_tests p ws) ((not (bytes_eq k (codes "export")), code.Form) ∷ export_tests p ws))) [
      | true ↦ release_rises p ws
      | false ↦ (omega arith, export_rises p ws)
    ]

end_rises : (ws : List Text) → Rises code_number 1 (end_tests ws)
end_rises (k ∷ []) = (omega arith, tt)
end_rises ws = (omega arith, tt)

stage_rises : (s : Stage) (p : Place) (ws : List Text) → Rises code_number 1 (stage_tests s p ws)
stage_rises stage.Header p ws = header_rises ws
stage_rises stage.Count p ws = count_rises ws
stage_rises stage.Classes p ws = class_rises p.table ws
stage_rises stage.Releases p ws = body_rises p ws
stage_rises stage.End p ws = end_rises ws
stage_rises stage.Ended p ws = (omega arith, tt)

word_rises : (p : Place) (ws : List Text) → Rises code_number 1 (word_tests p ws)
word_rises p [] = tt
word_rises p (w ∷ ws) = stage_rises p.stage p (w ∷ ws)

pub rising : Rising order_rules
rising = record { lines = λ p line more. (omega arith, word_rises p (words_of line)); last = λ p. (omega arith, tt) }
