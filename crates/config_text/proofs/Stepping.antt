-- A text's lines, one step after the other.
use Rattle.std.proofs.Common.{◌≡◌, ℕ, suc, ◌+◌, ◌-◌, ◌<◌, ◌≤◌, true, false, ◌^◌, List, [], ◌∷◌, length, get_or, take, drop, Result, Ok, Err, refl, sym, ap, subst, ◌∙◌, arith}
use Rattle.std.specs.Prelude.{map}
use Rattle.std.specs.Borrow.{Bor}
use Rattle.std.proofs.lemmas.List.{nil_from_length, length-drop, length-map, drop-map, drop-drop, take_all}
use Rattle.text_lines.specs.Lines.{views}
use Rattle.config_text.specs.declared.fault.Code.{Code}
use Rattle.config_text.specs.declared.fault.Code.TheVariants as code
use Rattle.config_text.specs.declared.fault.Stop.{Stop}
use Rattle.config_text.specs.declared.fault.Stop.TheVariants as stop
use Rattle.config_text.specs.Place.{Place}
use Rattle.config_text.specs.Rules.{Line, is_unended}
use Rattle.config_text.specs.Reading.{lines_answer_from, fault_at, Steps, StopFits, error_of, Reads}
use Rattle.config_text.proofs.ScriptSteps.{here_at, past_all}

-- the lines behind the i-th
behind_is : (ls more : List (Bor Line)) (i : ℕ) → more ≡ take (length ls - (i + 1)) (drop (i + 1) ls) → more ≡ drop (i + 1) ls
behind_is ls more i e = e ∙ take_all (length ls - (i + 1)) (drop (i + 1) ls) (omega (arith, length-drop (i + 1) ls))

lines_at : (ls more : List (Bor Line)) (i : ℕ) (x d : Bor Line) → i < length ls → x ≡ get_or ls i d → more ≡ take (length ls - (i + 1)) (drop (i + 1) ls) → views (drop i ls) ≡ x.now ∷ views more
lines_at ls more i x d lt is e =
    let rest = behind_is ls more i e in
    sym (drop-map (λ (y : Bor Line). y.now) i ls) ∙ here_at ls i x d lt is ∙ ap (λ (t : List Line). x.now ∷ t) (drop-map (λ (y : Bor Line). y.now) (i + 1) ls ∙ ap views (sym rest))

-- so many lines are taken
pub goes : (ls more : List (Bor Line)) (p q : Place) (i j count : ℕ) (x d : Bor Line) (total : Result Place (ℕ × Code)) → i < length ls → x ≡ get_or ls i d → more ≡ take (length ls - (i + 1)) (drop (i + 1) ls) →
    j ≡ i + (1 + count) → Steps p x.now (views more) q (Ok count) → lines_answer_from p (i + 1) (views (drop i ls)) ≡ total → (j ≤ length ls) × (lines_answer_from q (j + 1) (views (drop j ls)) ≡ total)
goes ls more p q i j count x d total lt is e at steps so_far =
    let rest = behind_is ls more i e in
    let number : (i + 1) + 1 + count ≡ j + 1 = omega (arith, at) in
    let place : (i + 1) + count ≡ j = omega (arith, at) in
    let left : drop count (views more) ≡ views (drop j ls) = drop-map (λ (y : Bor Line). y.now) count more ∙ ap views (ap (drop count) rest ∙ drop-drop count (i + 1) ls ∙ ap (λ k. drop k ls) place) in (
      omega (arith, at, steps.0, length-map more (λ (y : Bor Line). y.now), ap length rest, length-drop (i + 1) ls),
      rw (← left, ← number) (sym (steps.1 (i + 1))) ∙ ap (lines_answer_from p (i + 1)) (sym (lines_at ls more i x d lt is e)) ∙ so_far,
    )

-- a line has a code, or memory runs out
pub halts : (ls more : List (Bor Line)) (p q : Place) (i : ℕ) (s : Stop) (x d : Bor Line) (total : Result Place (ℕ × Code)) → i < length ls → x ≡ get_or ls i d → more ≡ take (length ls - (i + 1)) (drop (i + 1) ls) →
    length ls + 2 < 2 ^ 32 → Steps p x.now (views more) q (Err s) → lines_answer_from p (i + 1) (views (drop i ls)) ≡ total → StopFits (i + 1) s × Reads (Err (error_of (i + 1) s)) total
halts ls more p q i (stop.Fault offset c) x d total lt is e fits steps so_far =
    let rest = behind_is ls more i e in (
      omega (arith, steps.0, length-map more (λ (y : Bor Line). y.now), ap length rest, length-drop (i + 1) ls, lt, fits),
      (c, sym so_far ∙ ap (lines_answer_from p (i + 1)) (lines_at ls more i x d lt is e) ∙ steps.1 (i + 1), refl),
    )
halts ls more p q i stop.Memory x d total lt is e fits steps so_far = (tt, tt)

nothing : (ls : List (Bor Line)) (i : ℕ) → length ls ≤ i → views (drop i ls) ≡ []
nothing ls i past = sym (drop-map (λ (y : Bor Line). y.now) i ls) ∙ past_all ls i past

-- no line is left
pub finishes : (ls : List (Bor Line)) (p : Place) (i : ℕ) (total : Result Place (ℕ × Code)) → length ls ≤ i → is_unended p.stage ≡ false → lines_answer_from p (i + 1) (views (drop i ls)) ≡ total → total ≡ Ok p
finishes ls p i total past ended so_far = sym so_far ∙ ap (lines_answer_from p (i + 1)) (nothing ls i past) ∙ rw ended refl

pub misses : (ls : List (Bor Line)) (p : Place) (i : ℕ) (total : Result Place (ℕ × Code)) → length ls ≤ i → is_unended p.stage ≡ true → lines_answer_from p (i + 1) (views (drop i ls)) ≡ total → total ≡ fault_at (i + 1) code.Missing
misses ls p i total past unended so_far = sym so_far ∙ ap (lines_answer_from p (i + 1)) (nothing ls i past) ∙ rw unended refl
