-- What is read is a program: 1 to 256 instructions, targets among them, and the last one halt or jump.
use Rattle.std.proofs.Common.{◌≡◌, ℕ, ◌+◌, ◌<◌, ◌≤◌, Bool, true, false, cond, not, eqb, leb, ltb, ◌||◌, List, [], ◌∷◌, ◌++◌, length, min, Option, Some, None, Result, Ok, Err, refl, sym, subst, arith}
use Rattle.std.specs.Prelude.{map, option_map}
use Rattle.std.specs.Result.{result_unwrap_or}
use Rattle.std.specs.List.{list_all}
use Rattle.std.proofs.lemmas.Bool.{and_from, and_parts, leb-false, lt-ltb, le-leb}
use Rattle.std.proofs.lemmas.List.{append-nil, length_push}
use Rattle.text_lines.specs.Lines.{words_of}
use Rattle.text_lines.specs.Faults.{judged, and_then, lines_answer}
use Rattle.text_lines.proofs.FirstFault.{NoneHolds, judged_ok}
use Rattle.script_lang.specs.declared.instr.Instr.{Instr}
use Rattle.script_lang.specs.Program.{target_ok, program_ok}
use Rattle.script_lang.specs.Fault.{ends_well}
use Rattle.script_asm.specs.declared.op.Op.{Op}
use Rattle.script_asm.specs.declared.op.Op.TheVariants as op
use Rattle.script_asm.specs.declared.op.Kind.{Kind}
use Rattle.script_asm.specs.declared.op.Kind.TheVariants.{Register, Target}
use Rattle.script_asm.specs.declared.fault.Code.{Code}
use Rattle.script_asm.specs.declared.fault.Code.TheVariants as code
use Rattle.script_asm.specs.Operand.{Word, kinds}
use Rattle.script_asm.specs.Script.{begins_at, op_of, instructions, is_instruction, spelled, named, number_or, within, operand, is_code, has_code, Place, start, name_tests, operand_tests, instr_tests, word_tests, made, added, next_place, line_tests, end_tests, script_rules, words_in}

-- ---- targets

not_false : (b : Bool) → not b ≡ false → b ≡ true
not_false true e = refl
not_false false e = absurd cc

or_false : (a b : Bool) → (a || b) ≡ false → (a ≡ false) × (b ≡ false)
or_false true b e = absurd cc
or_false false b e = (refl, e)

-- a result with none of the codes of a target
record HasNone (r : Result ℕ Code) : Type 0 where
  number : is_code code.Number r ≡ false
  nameless : is_code code.Nameless r ≡ false
  past : is_code code.Past r ≡ false

abbrev failed : Code → Result ℕ Code
failed c = Err c

abbrev given : ℕ → Result ℕ Code
given n = Ok n

no_past : HasNone (failed code.Past) → ⊥
no_past h = absurd (let e : true ≡ false = h.past in cc)

no_nameless : HasNone (failed code.Nameless) → ⊥
no_nameless h = absurd (let e : true ≡ false = h.nameless in cc)

no_number : HasNone (failed code.Number) → ⊥
no_number h = absurd (let e : true ≡ false = h.number in cc)

bounded : (count : ℕ) (o : Option ℕ) (c : Code) → (HasNone (failed c) → ⊥) → HasNone (within count (number_or o c)) → result_unwrap_or (within count (number_or o c)) 0 < count
bounded count None c other none = absurd (other none)
bounded count (Some n) c other none =
    elim (leb count n) as (λ b. leb count n ≡ b → HasNone (cond b (failed code.Past) (given n)) → result_unwrap_or (cond b (failed code.Past) (given n)) 0 < count) [
      | true ↦ λ e h. absurd (no_past h)
      | false ↦ λ e h. omega (arith, leb-false count n e)
    ] refl none

target_low : (all : List (List Word)) (w : Word) → HasNone (operand all Target w) → result_unwrap_or (operand all Target w) 0 < instructions all
unfolding operand
target_low all w none =
    elim (begins_at w) as (λ b. HasNone (within (instructions all) (cond b (number_or (option_map (λ n. n.place) (named all w)) code.Nameless) (number_or (spelled w) code.Number))) → result_unwrap_or (within (instructions all) (cond b (number_or (option_map (λ n. n.place) (named all w)) code.Nameless) (number_or (spelled w) code.Number))) 0 < instructions all) [
      | true ↦ λ h. bounded (instructions all) (option_map (λ n. n.place) (named all w)) code.Nameless no_nameless h
      | false ↦ λ h. bounded (instructions all) (spelled w) code.Number no_number h
    ] none

cut_low : (v count : ℕ) → v < count → ltb (min v 65535) count ≡ true
cut_low v count lt = lt-ltb (min v 65535) count (omega arith)

-- none of the operands has a code of a target
record AllHaveNone (all : List (List Word)) (ks : List Kind) (ws : List Word) : Type 0 where
  number : has_code all code.Number ks ws ≡ false
  nameless : has_code all code.Nameless ks ws ≡ false
  past : has_code all code.Past ks ws ≡ false

first_none : (all : List (List Word)) (k : Kind) (ks : List Kind) (w : Word) (ws : List Word) → AllHaveNone all (k ∷ ks) (w ∷ ws) → HasNone (operand all k w)
first_none all k ks w ws h = record {
  number = (or_false (is_code code.Number (operand all k w)) (has_code all code.Number ks ws) h.number).0;
  nameless = (or_false (is_code code.Nameless (operand all k w)) (has_code all code.Nameless ks ws) h.nameless).0;
  past = (or_false (is_code code.Past (operand all k w)) (has_code all code.Past ks ws) h.past).0;
}

later_none : (all : List (List Word)) (k : Kind) (ks : List Kind) (w : Word) (ws : List Word) → AllHaveNone all (k ∷ ks) (w ∷ ws) → AllHaveNone all ks ws
later_none all k ks w ws h = record {
  number = (or_false (is_code code.Number (operand all k w)) (has_code all code.Number ks ws) h.number).1;
  nameless = (or_false (is_code code.Nameless (operand all k w)) (has_code all code.Nameless ks ws) h.nameless).1;
  past = (or_false (is_code code.Past (operand all k w)) (has_code all code.Past ks ws) h.past).1;
}

made_low : (all : List (List Word)) (o : Op) (ws : List Word) → not (eqb (length ws) (length (kinds o))) ≡ false → AllHaveNone all (kinds o) ws → target_ok (instructions all) (made all o ws) ≡ true
unfolding made
made_low all op.Jump [] few h = absurd (let e : true ≡ false = few in cc)
made_low all op.Jump (w ∷ ws) few h = cut_low _ (instructions all) (target_low all w (first_none all Target [] w ws h))
made_low all op.JumpZ [] few h = absurd (let e : true ≡ false = few in cc)
made_low all op.JumpZ (a ∷ []) few h = absurd (let e : true ≡ false = few in cc)
made_low all op.JumpZ (a ∷ w ∷ ws) few h = cut_low _ (instructions all) (target_low all w (first_none all Target [] w ws (later_none all Register (Target ∷ []) a (w ∷ ws) h)))
made_low all op.JumpL [] few h = absurd (let e : true ≡ false = few in cc)
made_low all op.JumpL (a ∷ []) few h = absurd (let e : true ≡ false = few in cc)
made_low all op.JumpL (a ∷ b ∷ []) few h = absurd (let e : true ≡ false = few in cc)
made_low all op.JumpL (a ∷ b ∷ w ∷ ws) few h =
    cut_low _ (instructions all) (target_low all w (first_none all Target [] w ws (later_none all Register (Target ∷ []) b (w ∷ ws) (later_none all Register (Register ∷ Target ∷ []) a (b ∷ w ∷ ws) h))))
made_low all o ws few h = refl

instr_low : (all : List (List Word)) (at : ℕ) (o : Op) (ws : List Word) → NoneHolds (instr_tests all at (Some o) ws) → (at < 256) × (target_ok (instructions all) (made all o ws) ≡ true)
unfolding operand_tests
instr_low all at o ws none =
    (leb-false 256 at none.1.1.1.1.0, made_low all o ws none.0 (record { number = none.1.0; nameless = none.1.1.1.0; past = none.1.1.1.1.1.0 }))

-- ---- line after line

-- what holds of the instructions so far
record IsGood (all : List (List Word)) (program : List Instr) : Type 0 where
  few : length program ≤ 256
  targets : list_all (λ i. target_ok (instructions all) i) program ≡ true

all_push : (f : Instr → Bool) (is : List Instr) (i : Instr) → list_all f is ≡ true → f i ≡ true → list_all f (is ++ i ∷ []) ≡ true
all_push f [] i all here = and_from (f i) true here refl
all_push f (j ∷ js) i all here = let both = and_parts (f j) (list_all f js) all in and_from (f j) (list_all f (js ++ i ∷ [])) both.0 (all_push f js i both.1 here)

-- the program grows by one instruction, or stays
record Grows (all : List (List Word)) (old new : List Instr) (one : Bool) : Type 0 where
  good : IsGood all new
  longer : length new ≡ length old + cond one 1 0

stays : (all : List (List Word)) (program : List Instr) → IsGood all program → Grows all program (program ++ []) false
stays all program good = rw (append-nil program) (record { good = good; longer = omega arith })

op_grows : (all : List (List Word)) (program : List Instr) (o : Option Op) (ws : List Word) → IsGood all program → NoneHolds (instr_tests all (length program) o ws) → Grows all program (program ++ added all o ws) true
op_grows all program None ws good none = absurd (let e : true ≡ false = none.0 in cc)
op_grows all program (Some o) ws good none =
    let low = instr_low all (length program) o ws none in
    let more : length (program ++ made all o ws ∷ []) ≡ length program + 1 = length_push program (made all o ws) in
    record { good = record { few = omega (arith, low.0, more); targets = all_push (λ i. target_ok (instructions all) i) program (made all o ws) good.targets low.1 }; longer = more }

line_grows : (all : List (List Word)) (p : Place) (ws : List Word) → IsGood all p.program → NoneHolds (word_tests all p ws) → Grows all p.program (next_place all p ws).program (is_instruction ws)
line_grows all p [] good none = stays all p.program good
line_grows all p (w ∷ ws) good none =
    elim (begins_at w) as (λ b. NoneHolds (cond b (name_tests all p.line w ws) (instr_tests all (length p.program) (op_of w) ws)) → Grows all p.program (p.program ++ cond b [] (added all (op_of w) ws)) (not b)) [
      | true ↦ λ h. stays all p.program good
      | false ↦ λ h. op_grows all p.program (op_of w) ws good h
    ] none

record Reaches (all : List (List Word)) (old new : List Instr) (ls : List (List ℕ)) : Type 0 where
  good : IsGood all new
  longer : length new ≡ length old + instructions (map words_of ls)
  ends : ends_well new ≡ true

reaches : (all : List (List Word)) (ls : List (List ℕ)) (p : Place) (n : ℕ) (q : Place) → IsGood all p.program → lines_answer (script_rules all) p n ls ≡ Ok q → Reaches all p.program q.program ls
reaches all [] p n q good e =
    elim (judged (end_tests p) p) as (λ a. judged (end_tests p) p ≡ a → and_then n a Ok ≡ Ok q → Reaches all p.program q.program []) [
      | Ok s ↦ λ taken rest.
          let t = judged_ok (end_tests p) p s taken in
          let same : p ≡ q = cc in
          subst (λ x. Reaches all p.program x.program []) same (record { good = good; longer = omega arith; ends = not_false (ends_well p.program) t.0.0 })
      | Err d ↦ λ refused rest. absurd cc
    ] refl e
reaches all (line ∷ more) p n q good e =
    elim (judged (line_tests all p line) (next_place all p (words_of line))) as (λ a. judged (line_tests all p line) (next_place all p (words_of line)) ≡ a → and_then n a (λ s. lines_answer (script_rules all) s (n + 1) more) ≡ Ok q → Reaches all p.program q.program (line ∷ more)) [
      | Ok s ↦ λ taken rest.
          let t = judged_ok (line_tests all p line) (next_place all p (words_of line)) s taken in
          let g = subst (λ x. Grows all p.program x.program (is_instruction (words_of line))) t.1 (line_grows all p (words_of line) good t.0.1) in
          let r = reaches all more s (n + 1) q g.good rest in
          record { good = r.good; longer = omega (arith, r.longer, g.longer); ends = r.ends }
      | Err d ↦ λ refused rest. absurd cc
    ] refl e

some_last : (program : List Instr) → ends_well program ≡ true → 1 ≤ length program
some_last [] e = absurd (let f : false ≡ true = e in cc)
some_last (i ∷ is) e = omega arith

valid : (program : List Instr) (count : ℕ) → length program ≡ count → length program ≤ 256 → list_all (λ i. target_ok count i) program ≡ true → ends_well program ≡ true → program_ok program ≡ true
valid program count same few targets good =
    and_from _ _ (and_from _ _ (and_from _ _ (le-leb 1 (length program) (some_last program good)) (le-leb (length program) 256 few)) (subst (λ n. list_all (λ i. target_ok n i) program ≡ true) (sym same) targets)) good

pub program_is : (ls : List (List ℕ)) (q : Place) → lines_answer (script_rules (words_in ls)) start 1 ls ≡ Ok q → program_ok q.program ≡ true
program_is ls q e =
    let r = reaches (words_in ls) ls start 1 q (record { few = omega arith; targets = refl }) e in
    valid q.program (instructions (words_in ls)) (omega (arith, r.longer)) r.good.few r.good.targets r.ends

pub few_instructions : (ls : List (List ℕ)) (q : Place) → lines_answer (script_rules (words_in ls)) start 1 ls ≡ Ok q → instructions (words_in ls) ≤ 256
few_instructions ls q e =
    let r = reaches (words_in ls) ls start 1 q (record { few = omega arith; targets = refl }) e in
    omega (arith, r.longer, r.good.few)
