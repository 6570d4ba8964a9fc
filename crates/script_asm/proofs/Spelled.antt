-- Lines say a program exactly where they spell it.
use Rattle.std.proofs.Common.{◌≡◌, ℕ, ◌+◌, ◌≤◌, Bool, true, false, cond, not, eqb, leb, ◌&&◌, List, [], ◌∷◌, ◌++◌, length, Option, Some, None, IsTrue, refl, sym, ap, subst, ◌∙◌, append_assoc, length-append, arith}
use Rattle.std.specs.Prelude.{filter}
use Rattle.std.specs.List.{AllZip, list_all}
use Rattle.std.proofs.lemmas.Bool.{and_parts, leb-true, ltb-false, lt-leb, eqb-true, eq-eqb}
use Rattle.std.proofs.lemmas.List.{append-nil, nil_from_length, take_all}
use Rattle.std.proofs.lemmas.Slice.Zip.{AllZip-long}
use Rattle.text_lines.specs.Lines.{words_of}
use Rattle.text_lines.specs.Name.{all_allowed}
use Rattle.text_lines.specs.Faults.{Tests, Leads}
use Rattle.text_lines.proofs.FirstFault.{NoneHolds, no_code_none, has_no_code, faultless_read}
use Rattle.script_lang.specs.declared.instr.Instr.{Instr}
use Rattle.script_lang.specs.Program.{target_ok, program_ok}
use Rattle.script_lang.specs.Fault.{ends_well}
use Rattle.script_asm.specs.declared.op.Op.{Op}
use Rattle.script_asm.specs.declared.fault.Code.{Code}
use Rattle.script_asm.specs.declared.fault.Code.TheVariants as code
use Rattle.script_asm.specs.Operand.{Word, kinds}
use Rattle.script_asm.specs.Script.{begins_at, names_place, op_of, is_instruction, instructions, Place, start, stood_before, name_tests, operand_tests, instr_tests, word_tests, added, added_by, next_place, line_tests, end_tests, script_rules, words_in}
use Rattle.script_asm.specs.Answer.{Says}
use Rattle.script_asm.specs.Item.{op_for}
use Rattle.script_asm.specs.Spelling.{IsInstr, is_name_line, is_named, NamesNew, AreNewNames, are_allowed, Spells}
use Rattle.script_asm.proofs.Bytes.{led_allowed}
use Rattle.script_asm.proofs.Places.{not_stood, is_new}
use Rattle.script_asm.proofs.InstrWords.{IsMade, op_again, op_is, line_is, is_made}
use Rattle.script_asm.proofs.Valid.{program_is, few_instructions}

not_false : (b : Bool) → not b ≡ false → b ≡ true
not_false true e = refl
not_false false e = absurd cc

-- ---- names, where no line has a code

-- a line at the place that the lines before lead to
record LineAt (all : List (List Word)) (p : Place) (count : ℕ) (ws : List Word) : Type 0 where
  place : Place
  line : place.line ≡ p.line + count
  none : NoneHolds (word_tests all place ws)

first_words : (ws vs : List Word) (more after : List (List Word)) → ws ∷ more ≡ vs ∷ after → ws ≡ vs
first_words ws vs more after e = cc

later_words : (ws b vs : List Word) (more bs after : List (List Word)) → ws ∷ more ≡ b ∷ (bs ++ vs ∷ after) → more ≡ bs ++ vs ∷ after
later_words ws b vs more bs after e = cc

line_at : (all : List (List Word)) (ls : List (List ℕ)) (p q : Place) → Leads (script_rules all) p ls (length ls) q → (before after : List (List Word)) (ws : List Word) → words_in ls ≡ before ++ ws ∷ after → LineAt all p (length before) ws
line_at all [] p q leads [] after ws split = absurd cc
line_at all [] p q leads (b ∷ bs) after ws split = absurd cc
line_at all (line ∷ more) p q leads [] after ws split =
    let same = first_words (words_of line) ws (words_in more) after split in
    record { place = p; line = omega arith; none = subst (λ v. NoneHolds (word_tests all p v)) same (no_code_none (line_tests all p line) leads.0).1 }
line_at all (line ∷ more) p q leads (b ∷ bs) after ws split =
    let rest = line_at all more (next_place all p (words_of line)) q leads.1 bs after ws (later_words (words_of line) b ws (words_in more) bs after split) in
    record { place = rest.place; line = omega (arith, rest.line); none = rest.none }

new_name : (all before after : List (List Word)) (ws : List Word) (p : Place) → all ≡ before ++ ws ∷ after → IsTrue (is_name_line ws) → p.line ≡ length before → NoneHolds (word_tests all p ws) → NamesNew before ws
unfolding name_tests
new_name all before after [] p split begins line none = absurd (let e : false ≡ true = begins in cc)
new_name all before after (w ∷ ws) p split begins line none =
    let tests : NoneHolds (name_tests all p.line w ws) = subst (λ t. NoneHolds (cond t (name_tests all p.line w ws) (instr_tests all (length p.program) (op_of w) ws))) begins none in
    let name : names_place w ≡ true = not_false (names_place w) tests.0 in
    let rest : ws ≡ [] = nil_from_length ws (omega (arith, ltb-false 0 (length ws) tests.1.0)) in
    let stood : stood_before (before ++ (w ∷ ws) ∷ after) (length before) w ≡ false = subst (λ t. stood_before t (length before) w ≡ false) split (subst (λ n. stood_before all n w ≡ false) line tests.1.1.0) in
    record { word = w; alone = ap (λ t. w ∷ t) rest; name = name; new = is_new before ((w ∷ ws) ∷ after) w name stood }

-- ---- instructions, where no line has a code

record GrowsBy (all : List (List Word)) (wss : List (List Word)) (old new : List Instr) : Type 0 where
  more : List Instr
  grown : new ≡ old ++ more
  zip : AllZip (IsInstr all) (filter is_instruction wss) more

op_adds : (all : List (List Word)) (at : ℕ) (o : Option Op) (w : Word) (ws : List Word) (wss : List (List Word)) (rest : List Instr) → AreNewNames all → instructions all ≤ 256 → op_of w ≡ o → NoneHolds (instr_tests all at o ws) → AllZip (IsInstr all) wss rest → AllZip (IsInstr all) ((w ∷ ws) ∷ wss) (added all o ws ++ rest)
unfolding operand_tests
op_adds all at None w ws wss rest names few is none zip = absurd (let e : true ≡ false = none.0 in cc)
op_adds all at (Some o) w ws wss rest names few is none zip =
    let long : length ws ≡ length (kinds o) = eqb-true _ _ (not_false (eqb (length ws) (length (kinds o))) none.0) in
    (line_is all o w ws names few (op_is w o is) long (record { number = none.1.0; register = none.1.1.0; nameless = none.1.1.1.0; past = none.1.1.1.1.1.0 }), zip)

line_adds : (all : List (List Word)) (p : Place) (ws : List Word) (wss : List (List Word)) (rest : List Instr) → AreNewNames all → instructions all ≤ 256 → NoneHolds (word_tests all p ws) → AllZip (IsInstr all) (filter is_instruction wss) rest → AllZip (IsInstr all) (filter is_instruction (ws ∷ wss)) (added_by all ws ++ rest)
line_adds all p [] wss rest names few none zip = zip
line_adds all p (w ∷ ws) wss rest names few none zip =
    elim (begins_at w) as (λ t. NoneHolds (cond t (name_tests all p.line w ws) (instr_tests all (length p.program) (op_of w) ws)) → AllZip (IsInstr all) (cond (not t) ((w ∷ ws) ∷ filter is_instruction wss) (filter is_instruction wss)) (cond t [] (added all (op_of w) ws) ++ rest)) [
      | true ↦ λ h. zip
      | false ↦ λ h. op_adds all (length p.program) (op_of w) w ws (filter is_instruction wss) rest names few refl h zip
    ] none

lines_add : (all : List (List Word)) (ls : List (List ℕ)) (p q : Place) → AreNewNames all → instructions all ≤ 256 → Leads (script_rules all) p ls (length ls) q → GrowsBy all (words_in ls) p.program q.program
lines_add all [] p q names few leads = record { more = []; grown = ap (λ x. x.program) (sym leads) ∙ sym (append-nil p.program); zip = tt }
lines_add all (line ∷ more) p q names few leads =
    let rest = lines_add all more (next_place all p (words_of line)) q names few leads.1 in
    record {
      more = added_by all (words_of line) ++ rest.more;
      grown = rest.grown ∙ append_assoc p.program (added_by all (words_of line)) rest.more;
      zip = line_adds all p (words_of line) (words_in more) rest.more names few (no_code_none (line_tests all p line) leads.0).1 rest.zip;
    }

-- What lines say is spelled by them.
pub says_spells : (ls : List (List ℕ)) (program : List Instr) → Says ls program → Spells ls program
says_spells ls program says =
    let read = faultless_read (script_rules (words_in ls)) ls start 1 says.0 says.1 in
    let names : AreNewNames (words_in ls) = λ before after ws split begins.
    let at = line_at (words_in ls) ls start says.0 says.1.leads before after ws split in
    new_name (words_in ls) before after ws at.place split begins (omega (arith, at.line)) at.none
    in
    let grown = lines_add (words_in ls) ls start says.0 names (few_instructions ls says.0 read) says.1.leads in
    let same : grown.more ≡ program = sym grown.grown ∙ says.2 in
    record {
      bytes = subst (λ t. are_allowed t ≡ true) (take_all (length ls) ls (omega arith)) (led_allowed (words_in ls) start says.0 ls (length ls) says.1.leads);
      instrs = subst (AllZip (IsInstr (words_in ls)) (filter is_instruction (words_in ls))) same grown.zip;
      names = names;
      valid = subst (λ t. program_ok t ≡ true) says.2 (program_is ls says.0 read);
    }

-- ---- the other way round

record StepBy (all : List (List Word)) (tests : Tests Code) (more : List Instr) (after : List (List Word)) (program : List Instr) : Type 0 where
  rest : List Instr
  none : NoneHolds tests
  split : program ≡ more ++ rest
  zip : AllZip (IsInstr all) (filter is_instruction after) rest

first_word : (w v : Word) (ws : List Word) → w ∷ ws ≡ v ∷ [] → w ≡ v
first_word w v ws e = cc

rest_none : (w v : Word) (ws : List Word) → w ∷ ws ≡ v ∷ [] → ws ≡ []
rest_none w v ws e = cc

name_step : (all before after : List (List Word)) (p : Place) (w : Word) (ws : List Word) (program : List Instr) → all ≡ before ++ (w ∷ ws) ∷ after → p.line ≡ length before → NamesNew before (w ∷ ws) → AllZip (IsInstr all) (filter is_instruction after) program → StepBy all (name_tests all p.line w ws) [] after program
unfolding name_tests
name_step all before after p w ws program split line new zip =
    let same : new.word ≡ w = sym (first_word w new.word ws new.alone) in
    let rest : ws ≡ [] = rest_none w new.word ws new.alone in
    let name : names_place w ≡ true = subst (λ v. names_place v ≡ true) same new.name in
    let only : is_named before w ≡ false = subst (λ v. is_named before v ≡ false) same new.new in
    let stood : stood_before all p.line w ≡ false = subst (λ t. stood_before t p.line w ≡ false) (sym split) (subst (λ n. stood_before (before ++ (w ∷ ws) ∷ after) n w ≡ false) (sym line) (not_stood before ws after w name only)) in
    record { rest = program; none = (rw name refl, (rw rest refl, (stood, tt))); split = refl; zip = zip }

instr_step : (all after : List (List Word)) (at : ℕ) (w : Word) (ws : List Word) (i : Instr) (is : List Instr) → at + length (i ∷ is) ≤ 256 → IsMade all w ws i → AllZip (IsInstr all) (filter is_instruction after) is → StepBy all (instr_tests all at (op_of w) ws) (added all (op_of w) ws) after (i ∷ is)
unfolding operand_tests
instr_step all after at w ws i is room m zip =
    let found : op_of w ≡ Some (op_for i) = ap op_of m.word ∙ op_again (op_for i) in
    let long : eqb (length ws) (length (kinds (op_for i))) ≡ true = eq-eqb (length ws) (length (kinds (op_for i))) m.long in
    subst (λ o. StepBy all (instr_tests all at o ws) (added all o ws) after (i ∷ is)) (sym found) (record {
      rest = is;
      none = (rw long refl, (m.clean code.Number, (m.clean code.Register, (m.clean code.Nameless, (lt-leb 256 at (omega (arith, room)), (m.clean code.Past, tt))))));
      split = ap (λ x. x ∷ is) (sym m.same);
      zip = zip;
    })

other_step : (all after : List (List Word)) (at : ℕ) (w : Word) (ws : List Word) (program : List Instr) → AreNewNames all → instructions all ≤ 256 → at + length program ≤ 256 → list_all (λ i. target_ok (instructions all) i) program ≡ true → AllZip (IsInstr all) ((w ∷ ws) ∷ filter is_instruction after) program → StepBy all (instr_tests all at (op_of w) ws) (added all (op_of w) ws) after program
other_step all after at w ws [] names few room low zip = absurd zip
other_step all after at w ws (i ∷ is) names few room low zip =
    instr_step all after at w ws i is room (is_made all w ws i names few (and_parts (target_ok (instructions all) i) (list_all (λ j. target_ok (instructions all) j) is) low).0 zip.0) zip.1

line_step : (all before after : List (List Word)) (p : Place) (ws : List Word) (program : List Instr) → AreNewNames all → instructions all ≤ 256 → all ≡ before ++ ws ∷ after → p.line ≡ length before → length p.program + length program ≤ 256 → list_all (λ i. target_ok (instructions all) i) program ≡ true → AllZip (IsInstr all) (filter is_instruction (ws ∷ after)) program → StepBy all (word_tests all p ws) (added_by all ws) after program
line_step all before after p [] program names few split line room low zip = record { rest = program; none = tt; split = refl; zip = zip }
line_step all before after p (w ∷ ws) program names few split line room low zip =
    elim (begins_at w) as (λ t. begins_at w ≡ t → AllZip (IsInstr all) (cond (not t) ((w ∷ ws) ∷ filter is_instruction after) (filter is_instruction after)) program → StepBy all (cond t (name_tests all p.line w ws) (instr_tests all (length p.program) (op_of w) ws)) (cond t [] (added all (op_of w) ws)) after program) [
      | true ↦ λ begins z. name_step all before after p w ws program split line (names before after (w ∷ ws) split begins) z
      | false ↦ λ other z. other_step all after (length p.program) w ws program names few room low z
    ] refl zip

record Continues (all : List (List Word)) (p : Place) (ls : List (List ℕ)) (program : List Instr) : Type 0 where
  place : Place
  leads : Leads (script_rules all) p ls (length ls) place
  grown : place.program ≡ p.program ++ program

ends_here : (all : List (List Word)) (p : Place) (program : List Instr) → AllZip (IsInstr all) [] program → Continues all p [] program
ends_here all p [] zip = record { place = p; leads = refl; grown = sym (append-nil p.program) }
ends_here all p (i ∷ is) zip = absurd zip

low_rest : (f : Instr → Bool) (xs ys : List Instr) → list_all f (xs ++ ys) ≡ true → list_all f ys ≡ true
low_rest f [] ys e = e
low_rest f (x ∷ xs) ys e = low_rest f xs ys (and_parts (f x) (list_all f (xs ++ ys)) e).1

continues : (all before : List (List Word)) (ls : List (List ℕ)) (p : Place) (program : List Instr) → AreNewNames all → instructions all ≤ 256 → all ≡ before ++ words_in ls → p.line ≡ length before → length p.program + length program ≤ 256 → list_all (λ i. target_ok (instructions all) i) program ≡ true → are_allowed ls ≡ true → AllZip (IsInstr all) (filter is_instruction (words_in ls)) program → Continues all p ls program
continues all before [] p program names few split line room low bytes zip = ends_here all p program zip
continues all before (l ∷ ls) p program names few split line room low bytes zip =
    let allowed = and_parts (all_allowed l) (are_allowed ls) bytes in
    let step = line_step all before (words_in ls) p (words_of l) program names few split line room low zip in
    let split_on : all ≡ (before ++ words_of l ∷ []) ++ words_in ls = split ∙ sym (append_assoc before (words_of l ∷ []) (words_in ls)) in
    let line_on : p.line + 1 ≡ length (before ++ words_of l ∷ []) = omega (arith, length-append before (words_of l ∷ []), line) in
    let total = ap length step.split in
    let room_on : length (p.program ++ added_by all (words_of l)) + length step.rest ≤ 256 = omega (arith, length-append p.program (added_by all (words_of l)), length-append (added_by all (words_of l)) step.rest, total, room) in
    let low_on = low_rest (λ i. target_ok (instructions all) i) (added_by all (words_of l)) step.rest (subst (λ t. list_all (λ i. target_ok (instructions all) i) t ≡ true) step.split low) in
    let rest = continues all (before ++ words_of l ∷ []) ls (next_place all p (words_of l)) step.rest names few split_on line_on room_on low_on allowed.1 step.zip in
    record {
      place = rest.place;
      leads = (has_no_code (line_tests all p l) (rw allowed.0 refl, step.none), rest.leads);
      grown = rest.grown ∙ append_assoc p.program (added_by all (words_of l)) step.rest ∙ ap (λ t. p.program ++ t) (sym step.split);
    }

counted : (wss : List (List Word)) → length (filter is_instruction wss) ≡ instructions wss
counted [] = refl
counted (ws ∷ wss) =
    elim (is_instruction ws) as (λ t. length (cond t (ws ∷ filter is_instruction wss) (filter is_instruction wss)) ≡ cond t 1 0 + instructions wss) [
      | true ↦ omega (arith, counted wss)
      | false ↦ omega (arith, counted wss)
    ]

-- What lines spell is said by them.
pub spells_says : (ls : List (List ℕ)) (program : List Instr) → Spells ls program → Says ls program
spells_says ls program s =
    let count : length program ≡ instructions (words_in ls) = AllZip-long (IsInstr (words_in ls)) (filter is_instruction (words_in ls)) program s.instrs ∙ counted (words_in ls) in
    let parts = and_parts (leb 1 (length program) && leb (length program) 256 && list_all (λ i. target_ok (length program) i) program) (ends_well program) s.valid in
    let more = and_parts (leb 1 (length program) && leb (length program) 256) (list_all (λ i. target_ok (length program) i) program) parts.0 in
    let few : length program ≤ 256 = leb-true (length program) 256 (and_parts (leb 1 (length program)) (leb (length program) 256) more.0).1 in
    let low = subst (λ n. list_all (λ i. target_ok n i) program ≡ true) count more.1 in
    let c = continues (words_in ls) [] ls start program s.names (omega (arith, few, count)) refl refl (omega (arith, few)) low s.bytes s.instrs in
    let ends : ends_well c.place.program ≡ true = subst (λ t. ends_well t ≡ true) (sym c.grown) parts.1 in
    (c.place, record { leads = c.leads; ends = has_no_code (end_tests c.place) (rw ends refl, tt) }, c.grown)
