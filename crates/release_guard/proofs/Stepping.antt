-- A text's lines, one step after the other.
use Rattle.std.proofs.Common.{◌≡◌, ℕ, ◌+◌, ◌<◌, ◌≤◌, true, false, List, [], ◌∷◌, length, get_or, drop, Result, Ok, Err, refl, sym, ap, add-one}
use Rattle.std.proofs.Math.Seq.{drop-cons}
use Rattle.std.specs.Borrow.{Bor}
use Rattle.text_lines.specs.Lines.{views}
use Rattle.text_lines.specs.Faults.{line_answer, lines_answer}
use Rattle.text_lines.proofs.FirstFault.{judged_ok, goes_on, stops, ends, ends_short}
use Rattle.text_lines.proofs.Passing.{views_past}
use Rattle.config_text.specs.Rules.{Line}
use Rattle.release_guard.specs.declared.fault.Code.{Code}
use Rattle.release_guard.specs.declared.fault.Code.TheVariants as code
use Rattle.release_guard.specs.declared.fault.Refusal.{Refusal}
use Rattle.release_guard.specs.declared.fault.Refusal.TheVariants as refusal
use Rattle.release_guard.specs.Place.{Place}
use Rattle.release_guard.specs.Rules.{is_unended, order_rules}
use Rattle.release_guard.specs.Reading.{Answers, Reads, error_of}

here_at : (ls : List (Bor Line)) (i : ℕ) (x d : Bor Line) → i < length ls → x ≡ get_or ls i d → views (drop i ls) ≡ x.now ∷ views (drop (i + 1) ls)
here_at ls i x d within is = rw (add-one, drop-cons ls i d within, ← is) refl

-- A line is taken, and its place counts it.
pub taken : (ls : List (Bor Line)) (i n : ℕ) (x d : Bor Line) (p q : Place) (u : Unit {0}) (total : Result Place (ℕ × Code)) → i < length ls → x ≡ get_or ls i d → ((more : List Line) → Answers q (Ok u) (line_answer order_rules p x.now more)) →
    lines_answer order_rules p n (views (drop i ls)) ≡ total → (q.line ≡ p.line + 1) × (lines_answer order_rules q (n + 1) (views (drop (i + 1) ls)) ≡ total)
taken ls i n x d p q u total within is answer so_far = (
  ap (λ (s : Place). s.line) (sym (judged_ok (order_rules.tests p x.now []) (order_rules.next p x.now []) q (answer [])).1),
  goes_on order_rules p q n (views (drop i ls)) (views (drop (i + 1) ls)) x.now total (here_at ls i x d within is) (answer (views (drop (i + 1) ls))) so_far,
)

-- A line isn't taken.
pub halts : (ls : List (Bor Line)) (i n : ℕ) (x d : Bor Line) (p q : Place) (r : Refusal) (total : Result Place (ℕ × Code)) → i < length ls → x ≡ get_or ls i d → ((more : List Line) → Answers q (Err r) (line_answer order_rules p x.now more)) →
    lines_answer order_rules p n (views (drop i ls)) ≡ total → Reads (Err (error_of n r)) total
halts ls i n x d p q (refusal.Code c) total within is answer so_far = (c, stops order_rules p n (views (drop i ls)) (views (drop (i + 1) ls)) x.now c total (here_at ls i x d within is) (answer (views (drop (i + 1) ls))) so_far, refl)
halts ls i n x d p q refusal.Memory total within is answer so_far = tt

-- No line is left, and the last one was the final `end`.
pub ended : (ls : List (Bor Line)) (i n : ℕ) (p : Place) (total : Result Place (ℕ × Code)) → length ls ≤ i → is_unended p.stage ≡ false → lines_answer order_rules p n (views (drop i ls)) ≡ total → total ≡ Ok p
ended ls i n p total past is so_far = ends order_rules p n (views (drop i ls)) total (views_past ls i past) (rw is refl) so_far

-- Or it wasn't.
pub unended : (ls : List (Bor Line)) (i n : ℕ) (p : Place) (total : Result Place (ℕ × Code)) → length ls ≤ i → is_unended p.stage ≡ true → lines_answer order_rules p n (views (drop i ls)) ≡ total → total ≡ Err (n, code.Missing)
unended ls i n p total past is so_far = ends_short order_rules p n (views (drop i ls)) code.Missing total (views_past ls i past) (rw is refl) so_far
