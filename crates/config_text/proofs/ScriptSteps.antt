-- The lines of a script in memory: those before its end, the end, and those behind it.
use Rattle.std.proofs.Common.{◌≡◌, ℕ, zero, suc, ◌+◌, ◌-◌, ◌<◌, ◌≤◌, true, false, cond, List, [], ◌∷◌, ◌++◌, length, get_or, take, drop, slice_get, Option, Some, None, Result, Ok, Err, refl, sym, ap, subst, ◌∙◌, inl, inr, arith, add-one}
use Rattle.std.specs.Prelude.{map}
use Rattle.std.specs.Borrow.{Bor}
use Rattle.std.specs.Result.{result_err}
use Rattle.std.proofs.lemmas.List.{nil_from_length, length-drop, length-map, drop-map}
use Rattle.std.proofs.lemmas.Option.{slice_get_within, slice_get_cases, get_or_from_slice_get, some_pair_parts}
use Rattle.std.proofs.Math.Seq.{drop-cons}
use Rattle.text_lines.specs.Lines.{views, words_of}
use Rattle.text_lines.specs.Name.{all_allowed}
use Rattle.text_lines.specs.Faults.{LineRules, judged, line_answer, and_then, lines_answer}
use Rattle.script_lang.specs.declared.instr.Instr.{Instr}
use Rattle.script_asm.specs.declared.fault.Code.{Code as ScriptCode}
use Rattle.script_asm.specs.Script.{Place as ScriptPlace, start as script_start, code_number as script_number, script_rules, words_in}
use Rattle.script_asm.specs.Answer.{IsFault}
use Rattle.script_asm.specs.Spelling.{Spells as SpellsScript}
use Rattle.script_asm.proofs.Spelled.{spells_says}
use Rattle.script_asm.proofs.Outcome.{answer_of, says_read, fault_read, apart}
use Rattle.config_text.specs.declared.fault.Code.{Code}
use Rattle.config_text.specs.declared.fault.Code.TheVariants as code
use Rattle.config_text.specs.declared.stage.Stage.TheVariants as stage
use Rattle.config_text.specs.declared.fault.Stop.TheVariants as stop
use Rattle.config_text.specs.Place.{Place}
use Rattle.config_text.specs.Rules.{Line, is_end, body_of, begun, with_script}
use Rattle.config_text.specs.Reading.{after_body, next_code, lines_answer_from, fault_at, ScriptSteps}
use Rattle.config_text.proofs.InScript.{within_script, script_ended, behind, Follows, follows}

-- ---- lists

pub body_drop : (ls : List Line) → drop (length (body_of ls)) ls ≡ after_body ls
body_drop [] = refl
body_drop (line ∷ more) =
    elim (is_end (words_of line)) as (λ b. drop (length (cond b [] (line ∷ body_of more))) (line ∷ more) ≡ cond b (line ∷ more) (after_body more)) [
      | true ↦ refl
      | false ↦ body_drop more
    ]

pub body_take : (ls : List Line) → take (length (body_of ls)) ls ≡ body_of ls
body_take [] = refl
body_take (line ∷ more) =
    elim (is_end (words_of line)) as (λ b. take (length (cond b [] (line ∷ body_of more))) (line ∷ more) ≡ cond b [] (line ∷ body_of more)) [
      | true ↦ refl
      | false ↦ ap (λ (ls : List Line). line ∷ ls) (body_take more)
    ]

pub body_few : (ls : List Line) → length (body_of ls) ≤ length ls
body_few [] = omega arith
body_few (line ∷ more) =
    elim (is_end (words_of line)) as (λ b. length (cond b [] (line ∷ body_of more)) ≤ suc (length more)) [
      | true ↦ omega arith
      | false ↦ omega (arith, body_few more)
    ]

views_take : (n : ℕ) (xs : List (Bor Line)) → views (take n xs) ≡ take n (views xs)
views_take zero xs = refl
views_take (suc n) [] = refl
views_take (suc n) (x ∷ xs) = ap (λ (ls : List Line). x.now ∷ ls) (views_take n xs)

-- the lines of a script in memory
pub body_views : (xs : List (Bor Line)) (count : ℕ) → count ≡ length (body_of (views xs)) → views (take count xs) ≡ body_of (views xs)
body_views xs count e = views_take count xs ∙ rw e (body_take (views xs))

pub few_views : (xs : List (Bor Line)) (count : ℕ) → count ≡ length (body_of (views xs)) → count ≤ length xs
few_views xs count e = omega (arith, body_few (views xs), length-map xs (λ (x : Bor Line). x.now))

pub past_all : (xs : List (Bor Line)) (i : ℕ) → length xs ≤ i → drop i (views xs) ≡ []
past_all xs i past = nil_from_length (drop i (views xs)) (omega (arith, length-drop i (views xs), length-map xs (λ (x : Bor Line). x.now), past))

pub here_at : (xs : List (Bor Line)) (i : ℕ) (x d : Bor Line) → i < length xs → x ≡ get_or xs i d → drop i (views xs) ≡ x.now ∷ drop (i + 1) (views xs)
here_at xs i x d lt is =
    drop-map (λ (y : Bor Line). y.now) i xs ∙ rw (add-one, drop-cons xs i d lt, ← is) (ap (λ (ls : List Line). x.now ∷ ls) (sym (drop-map (λ (y : Bor Line). y.now) (suc i) xs)))

-- ---- answers

abbrev one_fault : {C P : Type 0} → ℕ → C → Result P (ℕ × C)
one_fault n c = Err (n, c)

-- a fault is at one of the lines, or behind the last one
fault_within : {C P : Type 0} (r : LineRules C P) (ls : List Line) (p : P) (n m : ℕ) (c : C) → lines_answer r p n ls ≡ Err (m, c) → m ≤ n + length ls
fault_within {C} {P} r [] p n m c e =
    elim (judged (r.last p) p) as (λ a. and_then n a Ok ≡ one_fault m c → m ≤ n + 0) [
      | Ok q ↦ λ rest. absurd cc
      | Err d ↦ λ rest. omega (arith, (some_pair_parts n m d c (ap result_err rest)).0)
    ] e
fault_within {C} {P} r (line ∷ more) p n m c e =
    elim (line_answer r p line more) as (λ a. and_then n a (λ q. lines_answer r q (n + 1) more) ≡ one_fault m c → m ≤ n + suc (length more)) [
      | Ok q ↦ λ rest. omega (arith, fault_within r more q (n + 1) m c rest)
      | Err d ↦ λ rest. omega (arith, (some_pair_parts n m d c (ap result_err rest)).0)
    ] e

-- the place behind a script's first line
abbrev at_script : Place → Place
at_script p = record p { stage = stage.Scripts }

-- the lines of the script have a fault
pub script_faulty : (p : Place) (class : ℕ) (ls body : List Line) (at : ℕ) (d : ScriptCode) → body ≡ body_of ls → IsFault body at (script_number d) →
    (at ≤ length ls + 1) × ((c : Code) → c ≡ next_code d (drop (at - 1) ls) → (n : ℕ) → lines_answer_from (begun p class ls) (n + 1) ls ≡ fault_at (n + at) c)
script_faulty p class ls body at d e f =
    let r = fault_read (body_of ls) at (script_number d) (subst (λ b. IsFault b at (script_number d)) e f) in
    let h = λ (n : ℕ). subst (Follows (at_script p) class (words_in (body_of ls)) script_start 1 (n + 1) ls) r.1 (follows (at_script p) class (words_in (body_of ls)) ls script_start 1 (n + 1) refl) in (
      omega (arith, fault_within (script_rules (words_in (body_of ls))) (body_of ls) script_start 1 at r.0 r.1, body_few ls),
      λ c is n.
          let count : (n + 1) + (at - 1) ≡ n + at = omega (arith, (h n).0) in
          let code : c ≡ next_code r.0 (drop (at - 1) ls) = is ∙ ap (λ (x : ScriptCode). next_code x (drop (at - 1) ls)) (apart d r.0 r.2) in
          (h n).1 ∙ rw (count, code) refl,
    )

-- the lines of the script spell a program
script_said : (p : Place) (class : ℕ) (ls body : List Line) (program : List Instr) → body ≡ body_of ls → SpellsScript body program →
    (t : ScriptPlace) × (t.program ≡ program) × ((n : ℕ) → lines_answer_from (begun p class ls) (n + 1) ls ≡ behind (at_script p) class t ((n + 1) + length (body_of ls)) (after_body ls))
script_said p class ls body program e s =
    let r = says_read (body_of ls) program (spells_says (body_of ls) program (subst (λ b. SpellsScript b program) e s)) in
    (r.0, r.2, λ n. subst (Follows (at_script p) class (words_in (body_of ls)) script_start 1 (n + 1) ls) r.1 (follows (at_script p) class (words_in (body_of ls)) ls script_start 1 (n + 1) refl))

-- and no line ends it
pub script_open : (p : Place) (class count : ℕ) (ls body : List Line) (program : List Instr) → body ≡ body_of ls → count ≡ length (body_of ls) → SpellsScript body program → drop count ls ≡ [] →
    (count + 1 ≤ length ls + 1) × ((n : ℕ) → lines_answer_from (begun p class ls) (n + 1) ls ≡ fault_at (n + (count + 1)) code.Missing)
script_open p class count ls body program e few s none =
    let r = script_said p class ls body program e s in
    let left : after_body ls ≡ [] = sym (body_drop ls) ∙ ap (λ k. drop k ls) (sym few) ∙ none in (
      omega (arith, few, body_few ls),
      λ n.
          let at : (n + 1) + length (body_of ls) ≡ n + (count + 1) = omega (arith, few) in
          r.2 n ∙ rw (left, at) refl,
    )

-- or the line that ends it has a byte that isn't allowed
pub script_end_bad : (p : Place) (class count : ℕ) (ls body : List Line) (program : List Instr) (end : Line) → body ≡ body_of ls → count ≡ length (body_of ls) → SpellsScript body program → drop count ls ≡ end ∷ drop (count + 1) ls →
    all_allowed end ≡ false → (count + 1 ≤ length ls + 1) × ((n : ℕ) → lines_answer_from (begun p class ls) (n + 1) ls ≡ fault_at (n + (count + 1)) code.Bytes)
script_end_bad p class count ls body program end e few s some bad =
    let r = script_said p class ls body program e s in
    let left : after_body ls ≡ end ∷ drop (count + 1) ls = sym (body_drop ls) ∙ ap (λ k. drop k ls) (sym few) ∙ some in (
      omega (arith, few, body_few ls),
      λ n.
          let at : (n + 1) + length (body_of ls) ≡ n + (count + 1) = omega (arith, few) in
          r.2 n ∙ rw (left, at, bad) refl,
    )

-- or it is taken
pub script_taken : (p : Place) (class count : ℕ) (ls body : List Line) (program : List Instr) (end : Line) → body ≡ body_of ls → count ≡ length (body_of ls) → SpellsScript body program → drop count ls ≡ end ∷ drop (count + 1) ls →
    all_allowed end ≡ true → (count + 1 ≤ length ls) × ((n : ℕ) → lines_answer_from (begun p class ls) (n + 1) ls ≡ lines_answer_from (with_script (at_script p) (record { class = class; program = program })) (n + 1 + (count + 1)) (drop (count + 1) ls))
script_taken p class count ls body program end e few s some fine =
    let r = script_said p class ls body program e s in
    let left : after_body ls ≡ end ∷ drop (count + 1) ls = sym (body_drop ls) ∙ ap (λ k. drop k ls) (sym few) ∙ some in (
      omega (arith, ap length some, length-drop count ls),
      λ n.
          let at : ((n + 1) + length (body_of ls)) + 1 ≡ n + 1 + (count + 1) = omega (arith, few) in
          r.2 n ∙ rw (left, fine, at, r.1) refl,
    )
