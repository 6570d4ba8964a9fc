-- Where lines are read to the end, the next line with words has no code, and a script that begins has its end.
use Rattle.std.proofs.Common.{◌≡◌, ℕ, suc, ◌+◌, ◌<◌, ◌≤◌, true, false, cond, List, [], ◌∷◌, ◌++◌, length, Option, Some, None, Result, Ok, Err, refl, sym, ap, subst, ◌∙◌, arith}
use Rattle.std.specs.Prelude.{map}
use Rattle.std.specs.List.{AllByRecursion, list_all}
use Rattle.std.proofs.lemmas.Bool.{and_parts, and_from}
use Rattle.text_lines.specs.Lines.{words_of}
use Rattle.text_lines.specs.Name.{all_allowed}
use Rattle.text_lines.specs.Faults.{judged, line_answer, and_then, lines_answer}
use Rattle.text_lines.proofs.FirstFault.{NoneHolds, judged_ok}
use Rattle.script_lang.specs.declared.instr.Instr.{Instr}
use Rattle.script_asm.specs.declared.fault.Code.{Code as ScriptCode}
use Rattle.script_asm.specs.Script.{Place as ScriptPlace, start as script_start, words_in}
use Rattle.script_asm.specs.Spelling.{Spells as SpellsScript}
use Rattle.script_asm.proofs.Outcome.{answer_of, read_spells}
use Rattle.config_text.specs.declared.fault.Code.{Code}
use Rattle.config_text.specs.declared.fault.Code.TheVariants as code
use Rattle.config_text.specs.declared.stage.Stage.TheVariants as stage
use Rattle.config_text.specs.Place.{Inside, Place}
use Rattle.config_text.specs.Rules.{Text, Line, is_end, body_of, begun, with_script, is_unended, stage_tests, stage_next, word_tests, word_next, inside_tests, inside_next, config_rules}
use Rattle.config_text.specs.Reading.{after_body, fault_at, lines_answer_from}
use Rattle.config_text.specs.Text.{IsBlank}
use Rattle.config_text.proofs.InScript.{within_script, script_ended, behind, Follows, follows}
use Rattle.config_text.proofs.WordFacts.{not_false}

abbrev pub AllAllowed : List Line → Type 0
AllAllowed ls = list_all all_allowed ls ≡ true

abbrev pub read_to : Place → Result Place (ℕ × Code)
read_to q = Ok q

-- the next line with words, where the lines are read to the place q
pub record Next (p : Place) (ls : List Line) (q : Place) : Type 0 where
  pub blank : List Line
  pub line : Line
  pub after : List Line
  pub number : ℕ
  pub whole : ls ≡ blank ++ line ∷ after
  pub nothing : AllByRecursion IsBlank blank
  pub some : 0 < length (words_of line)
  pub fewer : length after < length ls
  pub bytes : AllAllowed after → AllAllowed ls
  pub none : NoneHolds (stage_tests p.stage p (words_of line))
  pub rest : lines_answer_from (stage_next p.stage p (words_of line) after) number after ≡ read_to q

from_words : (line : Line) (more : List Line) (p q : Place) (n : ℕ) (ws : List Text) → words_of line ≡ ws → all_allowed line ≡ true → NoneHolds (word_tests p ws) → lines_answer_from (word_next p ws more) (n + 1) more ≡ read_to q →
    (lines_answer_from p (n + 1) more ≡ read_to q → Next p more q) → Next p (line ∷ more) q
from_words line more p q n [] is fine none rest again =
    let r = again rest in
    record { blank = line ∷ r.blank; line = r.line; after = r.after; number = r.number; whole = ap (λ (ls : List Line). line ∷ ls) r.whole; nothing = (is, r.nothing); some = r.some; fewer = omega (arith, r.fewer); bytes = λ b. rw (fine, r.bytes b) refl; none = r.none; rest = r.rest }
from_words line more p q n (w ∷ ws) is fine none rest again =
    record { blank = []; line = line; after = more; number = n + 1; whole = refl; nothing = tt; some = subst (λ (x : List Text). 0 < length x) (sym is) (omega arith); fewer = omega arith; bytes = λ b. rw (fine, b) refl; none = subst (λ x. NoneHolds (stage_tests p.stage p x)) (sym is) none; rest = subst (λ x. lines_answer_from (stage_next p.stage p x more) (n + 1) more ≡ read_to q) (sym is) rest }

pub next_of : (ls : List Line) (p q : Place) (n : ℕ) → p.inside ≡ None → is_unended p.stage ≡ true → lines_answer_from p n ls ≡ read_to q → Next p ls q
next_of [] p q n out un e = absurd (let f : fault_at n code.Missing ≡ read_to q = rw un at e in cc)
next_of (line ∷ more) p q n out un e =
    elim (line_answer config_rules p line more) as (λ a. line_answer config_rules p line more ≡ a → and_then n a (λ s. lines_answer config_rules s (n + 1) more) ≡ read_to q → Next p (line ∷ more) q) [
      | Ok s ↦ λ taken rest.
          let t = judged_ok (config_rules.tests p line more) (config_rules.next p line more) s taken in
          let none = subst (λ i. NoneHolds (inside_tests i p line)) out t.0.1 in
          let to : inside_next None p line more ≡ s = subst (λ i. inside_next i p line more ≡ s) out t.1 in
          from_words line more p q n (words_of line) refl (not_false (all_allowed line) t.0.0) none (subst (λ x. lines_answer_from x (n + 1) more ≡ read_to q) (sym to) rest) (λ again. next_of more p q (n + 1) out un again)
      | Err d ↦ λ refused rest. absurd cc
    ] refl e

-- ---- the end of a text

-- Nothing but lines without words follows the final `end`.
pub ended_blank : (ls : List Line) (p q : Place) (n : ℕ) → p.inside ≡ None → p.stage ≡ stage.Ended → lines_answer_from p n ls ≡ read_to q → AllByRecursion IsBlank ls × AllAllowed ls × (p ≡ q)
ended_blank [] p q n out at e =
    let un : is_unended p.stage ≡ false = rw at refl in
    let f : read_to p ≡ read_to q = rw un at e in
    (tt, refl, cc)
ended_blank (line ∷ more) p q n out at e =
    elim (line_answer config_rules p line more) as (λ a. line_answer config_rules p line more ≡ a → and_then n a (λ s. lines_answer config_rules s (n + 1) more) ≡ read_to q → AllByRecursion IsBlank (line ∷ more) × AllAllowed (line ∷ more) × (p ≡ q)) [
      | Ok s ↦ λ taken rest.
          let t = judged_ok (config_rules.tests p line more) (config_rules.next p line more) s taken in
          let none = subst (λ i. NoneHolds (inside_tests i p line)) out t.0.1 in
          let to : inside_next None p line more ≡ s = subst (λ i. inside_next i p line more ≡ s) out t.1 in
          let fine = not_false (all_allowed line) t.0.0 in
          elim (words_of line) as (λ ws. words_of line ≡ ws → NoneHolds (word_tests p ws) → word_next p ws more ≡ s → AllByRecursion IsBlank (line ∷ more) × AllAllowed (line ∷ more) × (p ≡ q)) [
            | [] ↦ λ is nothing same.
                let r = ended_blank more p q (n + 1) out at (subst (λ x. lines_answer_from x (n + 1) more ≡ read_to q) (sym same) rest) in
                ((is, r.0), rw (fine, r.1) refl, r.2)
            | w ∷ ws ↦ λ is some same. absurd (let f = subst (λ x. NoneHolds (stage_tests x p (w ∷ ws))) at some in let g : true ≡ false = f.0 in cc)
          ] refl none to
      | Err d ↦ λ refused rest. absurd cc
    ] refl e

-- ---- a script

pub body_split : (ls : List Line) → ls ≡ body_of ls ++ after_body ls
body_split [] = refl
body_split (line ∷ more) =
    elim (is_end (words_of line)) as (λ b. line ∷ more ≡ cond b [] (line ∷ body_of more) ++ cond b (line ∷ more) (after_body more)) [
      | true ↦ refl
      | false ↦ ap (λ (ls : List Line). line ∷ ls) (body_split more)
    ]

pub body_goes : (ls : List Line) → AllByRecursion (λ line. is_end (words_of line) ≡ false) (body_of ls)
body_goes [] = tt
body_goes (line ∷ more) =
    elim (is_end (words_of line)) as (λ b. is_end (words_of line) ≡ b → AllByRecursion (λ line. is_end (words_of line) ≡ false) (cond b [] (line ∷ body_of more))) [
      | true ↦ λ is. tt
      | false ↦ λ goes. (goes, body_goes more)
    ] refl

end_first : (ls : List Line) (end : Line) (rest : List Line) → after_body ls ≡ end ∷ rest → is_end (words_of end) ≡ true
end_first [] end rest e = absurd cc
end_first (line ∷ more) end rest e =
    elim (is_end (words_of line)) as (λ b. is_end (words_of line) ≡ b → cond b (line ∷ more) (after_body more) ≡ end ∷ rest → is_end (words_of end) ≡ true) [
      | true ↦ λ is same. let first : line ≡ end = cc in subst (λ x. is_end (words_of x) ≡ true) first is
      | false ↦ λ goes same. end_first more end rest same
    ] refl e

pub allowed_append : (xs ys : List Line) → AllAllowed xs → AllAllowed ys → AllAllowed (xs ++ ys)
allowed_append [] ys a b = b
allowed_append (x ∷ xs) ys a b = let both = and_parts (all_allowed x) (list_all all_allowed xs) a in rw (both.0, allowed_append xs ys both.1 b) refl

-- the script that begins here, where the lines behind its first one are read to the place q
pub record FoundScript (p : Place) (class : ℕ) (ls : List Line) (q : Place) : Type 0 where
  pub inside : List Line
  pub end : Line
  pub after : List Line
  pub program : List Instr
  pub number : ℕ
  pub whole : ls ≡ inside ++ end ∷ after
  pub goes_on : AllByRecursion (λ line. is_end (words_of line) ≡ false) inside
  pub ends : is_end (words_of end) ≡ true
  pub spelled : SpellsScript inside program
  pub fewer : length after < length ls
  pub bytes : AllAllowed after → AllAllowed ls
  pub rest : lines_answer_from (with_script (record p { stage = stage.Scripts }) (record { class = class; program = program })) number after ≡ read_to q

script_behind : (p : Place) (class : ℕ) (ls : List Line) (q : Place) (t : ScriptPlace) (n : ℕ) (more : List Line) → after_body ls ≡ more → SpellsScript (body_of ls) t.program → behind (record p { stage = stage.Scripts }) class t n more ≡ read_to q → FoundScript p class ls q
script_behind p class ls q t n [] is spelled e = absurd cc
script_behind p class ls q t n (end ∷ rest) is spelled e =
    elim (all_allowed end) as (λ b. all_allowed end ≡ b → cond b (lines_answer_from (script_ended (record p { stage = stage.Scripts }) class t) (n + 1) rest) (fault_at n code.Bytes) ≡ read_to q → FoundScript p class ls q) [
      | true ↦ λ fine reads.
          let whole : ls ≡ body_of ls ++ end ∷ rest = body_split ls ∙ ap (λ (x : List Line). body_of ls ++ x) is in
          record {
            inside = body_of ls;
            end = end;
            after = rest;
            program = t.program;
            number = n + 1;
            whole = whole;
            goes_on = body_goes ls;
            ends = end_first ls end rest is;
            spelled = spelled;
            fewer = omega (arith, ap length whole, Rattle.std.proofs.Common.length-append (body_of ls) (end ∷ rest));
            bytes = λ b. subst AllAllowed (sym whole) (allowed_append (body_of ls) (end ∷ rest) spelled.bytes (rw (fine, b) refl));
            rest = reads;
          }
      | false ↦ λ bad reads. absurd cc
    ] refl e

pub script_found : (p : Place) (class : ℕ) (ls : List Line) (q : Place) (n : ℕ) → lines_answer_from (begun p class ls) n ls ≡ read_to q → FoundScript p class ls q
script_found p class ls q n e =
    let f = follows (record p { stage = stage.Scripts }) class (words_in (body_of ls)) ls script_start 1 n refl in
    elim (answer_of (body_of ls)) as (λ a. answer_of (body_of ls) ≡ a → Follows (record p { stage = stage.Scripts }) class (words_in (body_of ls)) script_start 1 n ls a → FoundScript p class ls q) [
      | Ok t ↦ λ is h. script_behind p class ls q t (n + length (body_of ls)) (after_body ls) refl (read_spells (body_of ls) t is) (sym h ∙ e)
      | Err d ↦ λ is h. absurd (let both = sym h.1 ∙ e in cc)
    ] refl f
