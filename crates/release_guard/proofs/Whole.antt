-- A whole text that is spelled is read, what is read is spelled, and what is answered is right.
use Rattle.std.proofs.Common.{◌≡◌, ℕ, ◌+◌, true, false, List, [], ◌∷◌, ◌++◌, Result, Ok, Err, refl, sym, ap, subst, ◌∙◌}
use Rattle.std.specs.Prelude.{map}
use Rattle.std.specs.Result.{result_err}
use Rattle.std.specs.List.{AllZip, list_all}
use Rattle.std.proofs.lemmas.Bool.{and_parts}
use Rattle.std.proofs.lemmas.Option.{some_pair_parts}
use Rattle.text_lines.specs.Lines.{lines, words_of}
use Rattle.text_lines.specs.Name.{all_allowed}
use Rattle.text_lines.specs.Faults.{judged, line_answer, and_then, lines_answer}
use Rattle.text_lines.proofs.FirstFault.{NoneHolds, no_code, judged_ok, first_fault, first_fault_read}
use Rattle.labels.specs.Label.{ClassEntry}
use Rattle.config_text.specs.Rules.{Text, Line}
use Rattle.config_text.proofs.WordFacts.{not_false}
use Rattle.release_guard.specs.declared.order.Release.{Release}
use Rattle.release_guard.specs.declared.order.Order.{Order}
use Rattle.release_guard.specs.declared.order.Stage.{Stage}
use Rattle.release_guard.specs.declared.order.Stage.TheVariants as stage
use Rattle.release_guard.specs.declared.fault.Code.{Code}
use Rattle.release_guard.specs.declared.fault.Code.TheVariants as code
use Rattle.release_guard.specs.declared.fault.OrderError.{OrderError}
use Rattle.release_guard.specs.declared.fault.OrderError.TheVariants as error
use Rattle.release_guard.specs.Codes.{code_number}
use Rattle.release_guard.specs.Valid.{IsOrder}
use Rattle.release_guard.specs.Place.{Place, start, order_in}
use Rattle.release_guard.specs.Rules.{stage_next, word_tests, word_next, is_unended, order_rules}
use Rattle.release_guard.specs.Reading.{Reads}
use Rattle.release_guard.specs.Text.{release_line, last_lines, with_words, lines_with_words, SpellsLine, Spells, IsFault, AnswersText, IsReadAs, IsRefusedWith}
use Rattle.release_guard.proofs.Faults.{rising, apart}
use Rattle.release_guard.proofs.Left.{Left, left_line, GoodAt, good_line, good_next, fore, back, lines_from_classes}

abbrev pub AllAllowed : List Line → Type 0
AllAllowed ls = list_all all_allowed ls ≡ true

abbrev pub read_to : Place → Result Place (ℕ × Code)
read_to q = Ok q

abbrev pub fault_at : ℕ → Code → Result Place (ℕ × Code)
fault_at n c = Err (n, c)

-- ---- what is read is spelled

-- lines that are read to the place q
record Found (p : Place) (n : ℕ) (ls : List Line) (q : Place) : Type 0 where
  allowed : AllAllowed ls
  left : Left p.stage p (lines_with_words n ls) (order_in q)
  valid : IsOrder (order_in q)

at_end : (s : Stage) (p : Place) (n : ℕ) (q : Place) → p.stage ≡ s → is_unended s ≡ false → GoodAt s p → p ≡ q → Found p n [] q
at_end stage.Ended p n q at un g same = record {
  allowed = refl;
  left = subst (λ (s : Stage). Left s p [] (order_in q)) (sym at) (record { order = ap order_in (sym same); spelled = tt });
  valid = subst (λ (x : Place). IsOrder (order_in x)) same g;
}
at_end stage.Header p n q at un g same = absurd cc
at_end stage.Count p n q at un g same = absurd cc
at_end stage.Classes p n q at un g same = absurd cc
at_end stage.Releases p n q at un g same = absurd cc
at_end stage.End p n q at un g same = absurd cc

from_words : (p q : Place) (n : ℕ) (line : Line) (more : List Line) (ws : List Text) → words_of line ≡ ws → p.line ≡ n → GoodAt p.stage p → all_allowed line ≡ true → NoneHolds (word_tests p ws) →
    ((r : Place) → r ≡ record (word_next p ws) { line = p.line + 1 } → GoodAt r.stage r → Found r (n + 1) more q) → Found p n (line ∷ more) q
from_words p q n line more [] is number g fine none again =
    let r = again (record p { line = p.line + 1 }) refl (good_line p.stage p (p.line + 1) g) in
    record {
      allowed = rw (fine, r.allowed) refl;
      left = rw is (left_line p.stage (record p { line = p.line + 1 }) p.line (lines_with_words (n + 1) more) (order_in q) r.left);
      valid = r.valid;
    }
from_words p q n line more (w ∷ ws) is number g fine none again =
    let next : Place = stage_next p.stage p (w ∷ ws) in
    let good = good_next p.stage p w ws refl g none in
    let r = again (record next { line = p.line + 1 }) refl (good_line next.stage next (p.line + 1) good) in
    let left = left_line next.stage (record next { line = p.line + 1 }) next.line (lines_with_words (n + 1) more) (order_in q) r.left in
    record {
      allowed = rw (fine, r.allowed) refl;
      left = rw is (fore p.stage p n w ws (lines_with_words (n + 1) more) (order_in q) refl number g none left);
      valid = r.valid;
    }

found : (ls : List Line) (p q : Place) (n : ℕ) → p.line ≡ n → GoodAt p.stage p → lines_answer order_rules p n ls ≡ read_to q → Found p n ls q
found [] p q n number g e =
    elim (is_unended p.stage) as (λ b. is_unended p.stage ≡ b → and_then n (judged ((b, code.Missing) ∷ []) p) Ok ≡ read_to q → Found p n [] q) [
      | true ↦ λ un f. absurd cc
      | false ↦ λ un f. let same : p ≡ q = cc in at_end p.stage p n q refl un g same
    ] refl e
found (line ∷ more) p q n number g e =
    elim (line_answer order_rules p line more) as (λ a. line_answer order_rules p line more ≡ a → and_then n a (λ s. lines_answer order_rules s (n + 1) more) ≡ read_to q → Found p n (line ∷ more) q) [
      | Ok s ↦ λ taken rest.
          let t = judged_ok (order_rules.tests p line more) (order_rules.next p line more) s taken in
          from_words p q n line more (words_of line) refl number g (not_false (all_allowed line) t.0.0) t.0.1
          (λ r is good. found more r q (n + 1) (ap (λ (x : Place). x.line) is ∙ ap (λ (m : ℕ). m + 1) number) good (subst (λ x. lines_answer order_rules x (n + 1) more ≡ read_to q) (sym t.1 ∙ sym is) rest))
      | Err d ↦ λ refused rest. absurd cc
    ] refl e

pub value_is : (text : List ℕ) (q : Place) → lines_answer order_rules start 1 (lines text) ≡ read_to q → Spells text (order_in q)
value_is text q e =
    let f = found (lines text) start q 1 refl (refl, refl) e in
    record { bytes = f.allowed; spelled = f.left.spelled; valid = f.valid }

-- ---- what is spelled is read

-- The lines are read to a place that says the order.
record Reached (p : Place) (n : ℕ) (ls : List Line) (k : Order) : Type 0 where
  place : Place
  answer : lines_answer order_rules p n ls ≡ read_to place
  says : order_in place ≡ k

some_last : (k : Order) (rs : List Release) → AllZip SpellsLine [] (map release_line rs ++ last_lines k) → ⊥
some_last k [] all = all
some_last k (r ∷ rs) all = all

some_classes : (k : Order) (cs : List ClassEntry) → AllZip SpellsLine [] (lines_from_classes k cs) → ⊥
some_classes k [] all = some_last k k.releases all
some_classes k (c ∷ cs) all = all

reach_end : (s : Stage) (p : Place) (n : ℕ) (k : Order) → p.stage ≡ s → Left s p [] k → Reached p n [] k
reach_end stage.Header p n k at left = absurd left.spelled
reach_end stage.Count p n k at left = absurd left.spelled
reach_end stage.Classes p n k at left = absurd (some_classes k left.rest left.spelled)
reach_end stage.Releases p n k at left = absurd (some_last k left.rest left.spelled)
reach_end stage.End p n k at left = absurd left.spelled
reach_end stage.Ended p n k at left = record { place = p; answer = rw at refl; says = sym left.order }

go_on : (p q : Place) (n : ℕ) (line : Line) (more : List Line) (k : Order) → order_rules.next p line more ≡ q → NoneHolds (order_rules.tests p line more) → Reached q (n + 1) more k → Reached p n (line ∷ more) k
go_on p q n line more k next none r = record {
  place = r.place;
  answer = rw (no_code (order_rules.tests p line more) none) (subst (λ x. lines_answer order_rules x (n + 1) more ≡ read_to r.place) (sym next) r.answer);
  says = r.says;
}

with_its_words : (p : Place) (n : ℕ) (line : Line) (more : List Line) (k : Order) (ws : List Text) → words_of line ≡ ws → IsOrder k → p.line ≡ n → all_allowed line ≡ true → Left p.stage p (with_words n ws (lines_with_words (n + 1) more)) k →
    ((r : Place) → r.line ≡ n + 1 → Left r.stage r (lines_with_words (n + 1) more) k → Reached r (n + 1) more k) → Reached p n (line ∷ more) k
with_its_words p n line more k [] is v number fine left again =
    let q : Place = record p { line = p.line + 1 } in
    go_on p q n line more k (rw is refl) (rw fine refl, rw is tt) (again q (ap (λ (m : ℕ). m + 1) number) (left_line p.stage p (p.line + 1) (lines_with_words (n + 1) more) k left))
with_its_words p n line more k (w ∷ ws) is v number fine left again =
    let t = back p.stage p n w ws (lines_with_words (n + 1) more) k v refl number left in
    let next : Place = stage_next p.stage p (w ∷ ws) in
    let q : Place = record next { line = p.line + 1 } in
    go_on p q n line more k (rw is refl) (rw fine refl, rw is t.none) (again q (ap (λ (m : ℕ). m + 1) number) (left_line next.stage next (p.line + 1) (lines_with_words (n + 1) more) k t.left))

reached : (ls : List Line) (p : Place) (n : ℕ) (k : Order) → IsOrder k → p.line ≡ n → AllAllowed ls → Left p.stage p (lines_with_words n ls) k → Reached p n ls k
reached [] p n k v number fine left = reach_end p.stage p n k refl left
reached (line ∷ more) p n k v number fine left =
    let both = and_parts (all_allowed line) (list_all all_allowed more) fine in
    with_its_words p n line more k (words_of line) refl v number both.0 left (λ r is l. reached more r (n + 1) k v is both.1 l)

pub record IsRead (text : List ℕ) (k : Order) : Type 0 where
  pub place : Place
  pub answer : lines_answer order_rules start 1 (lines text) ≡ read_to place
  pub says : order_in place ≡ k

pub spelled_is_read : (text : List ℕ) (k : Order) → Spells text k → IsRead text k
spelled_is_read text k s =
    let r = reached (lines text) start 1 k s.valid refl s.bytes (record { table = refl; releases = refl; spelled = s.spelled }) in
    record { place = r.place; answer = r.answer; says = r.says }

-- ---- what is answered

same_place : (p q : Place) → read_to p ≡ read_to q → p ≡ q
same_place p q e = cc

pub only_value : (text : List ℕ) (q : Place) → lines_answer order_rules start 1 (lines text) ≡ read_to q → (k : Order) → Spells text k → order_in q ≡ k
only_value text q reads k s =
    let r = spelled_is_read text k s in
    ap order_in (same_place q r.place (sym reads ∙ r.answer)) ∙ r.says

pub only_error : (text : List ℕ) (e : OrderError) → Reads (Err e) (lines_answer order_rules start 1 (lines text)) → (k : Order) → Spells text k → IsReadAs k (Err e)
only_error text (error.Fault at n) reads k s =
    let r = spelled_is_read text k s in
    absurd (let both : read_to r.place ≡ fault_at at reads.0 = sym r.answer ∙ reads.1 in cc)
only_error text error.NoMemory reads k s = tt

pub refused_right : (text : List ℕ) (e : OrderError) → Reads (Err e) (lines_answer order_rules start 1 (lines text)) → AnswersText text (Err e)
refused_right text (error.Fault at n) reads = (reads.0, reads.2, first_fault order_rules rising start (lines text) at reads.0 reads.1)
refused_right text error.NoMemory reads = tt

pub fault_value : (text : List ℕ) (q : Place) → lines_answer order_rules start 1 (lines text) ≡ read_to q → (at n : ℕ) → IsFault text at n → ⊥
fault_value text q reads at n f =
    let r = first_fault_read order_rules rising apart start (lines text) at f.0 f.2 in
    absurd (let both : read_to q ≡ fault_at at f.0 = sym reads ∙ r in cc)

pub fault_error : (text : List ℕ) (e : OrderError) → Reads (Err e) (lines_answer order_rules start 1 (lines text)) → (at n : ℕ) → IsFault text at n → IsRefusedWith at n (Err e)
fault_error text (error.Fault a m) reads at n f =
    let r = first_fault_read order_rules rising apart start (lines text) at f.0 f.2 in
    let both : fault_at a reads.0 ≡ fault_at at f.0 = sym reads.1 ∙ r in
    let parts = some_pair_parts a at reads.0 f.0 (ap result_err both) in
    (parts.0, reads.2 ∙ ap code_number parts.1 ∙ sym f.1)
fault_error text error.NoMemory reads at n f = tt
