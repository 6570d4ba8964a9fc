-- What the lines of a script answer in a configuration, by what they answer as a script's lines.
use Rattle.std.proofs.Common.{◌≡◌, ℕ, suc, ◌+◌, ◌-◌, ◌≤◌, Bool, true, false, not, cond, List, [], ◌∷◌, ◌++◌, length, drop, Option, Some, None, Result, Ok, Err, refl, sym, ap, subst, ◌∙◌, arith}
use Rattle.std.specs.Prelude.{map, option_map}
use Rattle.text_lines.specs.Lines.{words_of}
use Rattle.text_lines.specs.Name.{all_allowed}
use Rattle.text_lines.specs.Faults.{Tests, first_code, code_or, judged, line_answer, and_then, lines_answer}
use Rattle.script_lang.specs.Fault.{ends_well}
use Rattle.script_asm.specs.declared.fault.Code.{Code as ScriptCode}
use Rattle.script_asm.specs.declared.fault.Code.TheVariants as script
use Rattle.script_asm.specs.Script.{Place as ScriptPlace, script_rules, line_tests, word_tests as script_word_tests, end_tests, next_place}
use Rattle.config_text.specs.declared.config.Script.{Script}
use Rattle.config_text.specs.declared.fault.Code.{Code}
use Rattle.config_text.specs.declared.fault.Code.TheVariants as code
use Rattle.config_text.specs.declared.stage.Stage.TheVariants as stage
use Rattle.config_text.specs.Codes.{of_script}
use Rattle.config_text.specs.Place.{Inside, Place}
use Rattle.config_text.specs.Rules.{Line, is_end, body_of, lifted, with_script, config_rules}
use Rattle.config_text.specs.Reading.{code_at, next_code, lines_answer_from, after_body}

-- ---- one line

lifted_code : (ts : Tests ScriptCode) → first_code (lifted ts) ≡ option_map of_script (first_code ts)
lifted_code [] = refl
lifted_code (t ∷ ts) =
    elim t.0 as (λ b. cond b (Some (of_script t.1)) (first_code (lifted ts)) ≡ option_map of_script (cond b (Some t.1) (first_code ts))) [
      | true ↦ refl
      | false ↦ lifted_code ts
    ]

-- inside a script of the class, whose lines so far say this
abbrev pub within_script : Place → ℕ → List (List (List ℕ)) → ScriptPlace → Place
within_script p class all s = record p { inside = Some (record { class = class; all = all; place = s }) }

abbrev place_is : Place → Result Place Code
place_is p = Ok p

abbrev fault_is : Code → Result Place Code
fault_is c = Err c

abbrev script_at : ScriptPlace → Result ScriptPlace ScriptCode
script_at s = Ok s

-- what a line that isn't `end` answers, by what it answers as a script's line
abbrev Lifts : Place → ℕ → List (List (List ℕ)) → Line → List Line → ScriptPlace → Result ScriptPlace ScriptCode → Type 0
Lifts p class all line more s (Ok t) = line_answer config_rules (within_script p class all s) line more ≡ place_is (within_script p class all t)
Lifts p class all line more s (Err c) = line_answer config_rules (within_script p class all s) line more ≡ fault_is (code_at line c)

-- the tests of the line's words
abbrev rest_of : List (List (List ℕ)) → ScriptPlace → Line → Tests ScriptCode
rest_of all s line = script_word_tests all s (words_of line)

line_lifts : (p : Place) (class : ℕ) (all : List (List (List ℕ))) (line : Line) (more : List Line) (s : ScriptPlace) → is_end (words_of line) ≡ false → Lifts p class all line more s (judged (line_tests all s line) (next_place all s (words_of line)))
line_lifts p class all line more s goes =
    elim (all_allowed line) as (λ b. all_allowed line ≡ b → Lifts p class all line more s (code_or (cond (not b) (Some script.Mnemonic) (first_code (rest_of all s line))) (next_place all s (words_of line)))) [
      | false ↦ λ bad. rw (goes, bad) refl
      | true ↦ λ fine. elim (first_code (rest_of all s line)) as (λ o. first_code (rest_of all s line) ≡ o → Lifts p class all line more s (code_or o (next_place all s (words_of line)))) [
        | None ↦ λ none. rw (goes, fine, lifted_code (rest_of all s line), none) refl
        | Some c ↦ λ some. rw (goes, fine, lifted_code (rest_of all s line), some) refl
      ] refl
    ] refl

-- what the line that ends a script answers
end_bad : (p : Place) (class : ℕ) (all : List (List (List ℕ))) (end : Line) (more : List Line) (s : ScriptPlace) → is_end (words_of end) ≡ true → all_allowed end ≡ false → line_answer config_rules (within_script p class all s) end more ≡ fault_is code.Bytes
end_bad p class all end more s is bad = rw (is, bad) refl

end_unwell : (p : Place) (class : ℕ) (all : List (List (List ℕ))) (end : Line) (more : List Line) (s : ScriptPlace) → is_end (words_of end) ≡ true → all_allowed end ≡ true → ends_well s.program ≡ false → line_answer config_rules (within_script p class all s) end more ≡ fault_is code.ScriptEnd
end_unwell p class all end more s is fine unwell = rw (is, fine, unwell) refl

-- the place after the script
abbrev pub script_ended : Place → ℕ → ScriptPlace → Place
script_ended p class s = with_script p (record { class = class; program = s.program })

end_well : (p : Place) (class : ℕ) (all : List (List (List ℕ))) (end : Line) (more : List Line) (s : ScriptPlace) → is_end (words_of end) ≡ true → all_allowed end ≡ true → ends_well s.program ≡ true → line_answer config_rules (within_script p class all s) end more ≡ place_is (script_ended p class s)
end_well p class all end more s is fine well = rw (is, fine, well) refl

-- ---- all its lines

abbrev line_fault : ℕ → Code → Result Place (ℕ × Code)
line_fault n c = Err (n, c)

-- what follows a script whose lines say this
abbrev pub behind : Place → ℕ → ScriptPlace → ℕ → List Line → Result Place (ℕ × Code)
behind p class t n [] = line_fault n code.Missing
behind p class t n (end ∷ rest) = cond (all_allowed end) (lines_answer_from (script_ended p class t) (n + 1) rest) (line_fault n code.Bytes)

-- what lines inside a script answer, by what those up to its end answer as a script's lines
abbrev pub Follows : Place → ℕ → List (List (List ℕ)) → ScriptPlace → ℕ → ℕ → List Line → Result ScriptPlace (ℕ × ScriptCode) → Type 0
Follows p class all s m n ls (Ok t) = lines_answer_from (within_script p class all s) n ls ≡ behind p class t (n + length (body_of ls)) (after_body ls)
Follows p class all s m n ls (Err f) = (m ≤ f.0) × (lines_answer_from (within_script p class all s) n ls ≡ line_fault (n + (f.0 - m)) (next_code f.1 (drop (f.0 - m) ls)))

-- no line is left
nothing_left : (p : Place) (class : ℕ) (all : List (List (List ℕ))) (s : ScriptPlace) (m n : ℕ) → p.stage ≡ stage.Scripts → Follows p class all s m n [] (lines_answer (script_rules all) s m [])
nothing_left p class all s m n at =
    let zero_more : n + 0 ≡ n = omega arith in
    let none : m - m ≡ 0 = omega arith in
    elim (ends_well s.program) as (λ b. Follows p class all s m n [] (and_then m (code_or (cond (not b) (Some script.End) None) s) Ok)) [
      | true ↦ rw (at, zero_more) refl
      | false ↦ (omega arith, rw (at, none, zero_more) refl)
    ]

-- the script ends here
at_end : (p : Place) (class : ℕ) (all : List (List (List ℕ))) (s : ScriptPlace) (m n : ℕ) (end : Line) (more : List Line) → is_end (words_of end) ≡ true → Follows p class all s m n (end ∷ more) (lines_answer (script_rules all) s m [])
at_end p class all s m n end more is =
    let zero_more : n + 0 ≡ n = omega arith in
    let none : m - m ≡ 0 = omega arith in
    elim (all_allowed end) as (λ a. all_allowed end ≡ a → Follows p class all s m n (end ∷ more) (lines_answer (script_rules all) s m [])) [
      | true ↦ λ fine. elim (ends_well s.program) as (λ b. ends_well s.program ≡ b → Follows p class all s m n (end ∷ more) (and_then m (code_or (cond (not b) (Some script.End) None) s) Ok)) [
        | true ↦ λ well. rw (end_well p class all end more s is fine well, is, fine, zero_more) refl
        | false ↦ λ unwell. (omega arith, rw (end_unwell p class all end more s is fine unwell, none, fine, zero_more) refl)
      ] refl
      | false ↦ λ bad. elim (ends_well s.program) as (λ b. ends_well s.program ≡ b → Follows p class all s m n (end ∷ more) (and_then m (code_or (cond (not b) (Some script.End) None) s) Ok)) [
        | true ↦ λ well. rw (end_bad p class all end more s is bad, is, bad, zero_more) refl
        | false ↦ λ unwell. (omega arith, rw (end_bad p class all end more s is bad, none, bad, zero_more) refl)
      ] refl
    ] refl

-- a line is taken, and the others follow
taken_on : (p : Place) (class : ℕ) (all : List (List (List ℕ))) (s q : ScriptPlace) (m n : ℕ) (line : Line) (more : List Line) (a : Result ScriptPlace (ℕ × ScriptCode)) → is_end (words_of line) ≡ false →
    line_answer config_rules (within_script p class all s) line more ≡ place_is (within_script p class all q) → Follows p class all q (m + 1) (n + 1) more a → Follows p class all s m n (line ∷ more) a
taken_on p class all s q m n line more (Ok t) goes taken h =
    let count : (n + 1) + length (body_of more) ≡ n + suc (length (body_of more)) = omega arith in
    rw (taken, goes, ← count) h
taken_on p class all s q m n line more (Err f) goes taken h =
    let low : m ≤ f.0 = omega (arith, h.0) in
    let count : (n + 1) + (f.0 - (m + 1)) ≡ n + (f.0 - m) = omega (arith, h.0) in
    let past : f.0 - m ≡ suc (f.0 - (m + 1)) = omega (arith, h.0) in
    (low, rw taken (h.1 ∙ rw (count, past) refl))

pub follows : (p : Place) (class : ℕ) (all : List (List (List ℕ))) (ls : List Line) (s : ScriptPlace) (m n : ℕ) → p.stage ≡ stage.Scripts → Follows p class all s m n ls (lines_answer (script_rules all) s m (body_of ls))
follows p class all [] s m n at = nothing_left p class all s m n at
follows p class all (line ∷ more) s m n at =
    elim (is_end (words_of line)) as (λ b. is_end (words_of line) ≡ b → Follows p class all s m n (line ∷ more) (lines_answer (script_rules all) s m (cond b [] (line ∷ body_of more)))) [
      | true ↦ λ is. at_end p class all s m n line more is
      | false ↦ λ goes. elim (judged (line_tests all s line) (next_place all s (words_of line))) as (λ r. Lifts p class all line more s r → Follows p class all s m n (line ∷ more) (and_then m r (λ q. lines_answer (script_rules all) q (m + 1) (body_of more)))) [
        | Ok q ↦ λ lifts. taken_on p class all s q m n line more (lines_answer (script_rules all) q (m + 1) (body_of more)) goes lifts (follows p class all more q (m + 1) (n + 1) at)
        | Err c ↦ λ lifts.
            let none : m - m ≡ 0 = omega arith in
            let zero_more : n + 0 ≡ n = omega arith in
            (omega arith, rw (lifts, none, zero_more) refl)
      ] (line_lifts p class all line more s goes)
    ] refl
