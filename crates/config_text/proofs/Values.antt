-- What is read is spelled so.
use Rattle.std.proofs.Common.{◌≡◌, ℕ, zero, suc, ◌+◌, ◌-◌, ◌^◌, ◌<◌, ◌≤◌, Bool, true, false, not, cond, eqb, ltb, leb, ◌&&◌, ◌||◌, List, [], ◌∷◌, ◌++◌, length, get_or, min, Option, Some, None, Result, Ok, Err, refl, sym, ap, subst, ◌∙◌, append_assoc, arith, inl, inr, ◌⊎◌}
use Rattle.std.specs.Prelude.{codes, map}
use Rattle.std.specs.List.{AllZip, AllByRecursion, list_all, list_any, sum_by, flat_map}
use Rattle.std.specs.Str.{bytes_eq}
use Rattle.std.proofs.lemmas.Bool.{and_parts, and_from, leb-true, leb-false, ltb-false, lt-ltb, le-leb, eq-eqb, ne_eqb}
use Rattle.std.specs.Str.Parse.{AllDigits, digits_value}
use Rattle.std.proofs.lemmas.Int.Digits.{digits_value-lt}
use Rattle.std.proofs.Math.Nat.{pow-le-pow_right}
use Rattle.std.proofs.lemmas.Bool.Decides.{eqb_tells}
use Rattle.std.proofs.lemmas.List.{append-nil, map_push, length_push, map-append}
use Rattle.text_lines.specs.Number.{IsNumber, misspelt, value_of}
use Rattle.text_lines.specs.Lines.{lines, words_of}
use Rattle.text_lines.proofs.FirstFault.{NoneHolds}
use Rattle.script_lang.specs.declared.instr.Instr.{Instr}
use Rattle.script_lang.specs.declared.instr.Instr.TheVariants as I
use Rattle.script_asm.specs.declared.op.Kind.TheVariants.{Register, Immediate, Target, Index}
use Rattle.script_asm.specs.Operand.{Word as ScriptWord}
use Rattle.script_asm.specs.Item.{Item as ScriptItem, mnemonic, value, instr_items}
use Rattle.script_asm.specs.Script.{is_instruction, words_in}
use Rattle.script_asm.specs.Spelling.{IsItem, IsInstr, Spells as SpellsScript}
use Rattle.config_text.specs.declared.config.Script.{Script}
use Rattle.config_text.specs.declared.config.Item.{Item}
use Rattle.config_text.specs.declared.config.Config.{Config}
use Rattle.config_text.specs.declared.stage.Stage.{Stage}
use Rattle.config_text.specs.declared.stage.Stage.TheVariants as stage
use Rattle.config_text.specs.declared.stage.Kind.{Kind}
use Rattle.config_text.specs.declared.stage.Kind.TheVariants as kind
use Rattle.config_text.specs.Written.{Word, number_line, end_line, front_lines}
use Rattle.config_text.specs.Valid.{IsValid, instr_ok, script_ok, is_class}
use Rattle.config_text.specs.Place.{Place, config_in}
use Rattle.config_text.specs.Rules.{Text, Line, byte, kind_of, may_stand, script_tests, script_next_place, gate_next, process_next, events_next, mix_next, sweep_next, kind_next, begun, with_script, some_kind_tests, some_kind_next, kind_tests, body_tests, body_next, end_tests, is_unended}
use Rattle.config_text.specs.Reading.{lines_answer_from}
use Rattle.config_text.specs.Text.{SpellsWord, IsBlank, Part, one_line, body, StartsWith, AreParts, IsGroup, script_parts, body_parts}
use Rattle.config_text.proofs.WordFacts.{not_false, is_fixed, is_spelled}
use Rattle.config_text.proofs.BodyLine.{IsBody, body_stage_tests, body_stage_next}
use Rattle.config_text.proofs.Found.{AllAllowed, read_to, Next, next_of, ended_blank, FoundScript, script_found}
use Rattle.config_text.proofs.Good.{IsEmptyBehind, IsGood, Adds, all_push, scripts_push, last_scripts}
use Rattle.config_text.proofs.Adds.{adds_gate, adds_process, adds_mix, adds_sweep, adds_events}

-- ---- instructions that are spelled are within their ranges

abbrev item_fits : ScriptItem → Bool
item_fits (mnemonic o) = true
item_fits (value Register n) = ltb n 16
item_fits (value Immediate n) = ltb n 18446744073709551616
item_fits (value Target n) = true
item_fits (value Index n) = ltb n 32

fits_ok : (i : Instr) → list_all item_fits (instr_items i) ≡ true → instr_ok i ≡ true
fits_ok I.Halt e = refl
fits_ok (I.Set a n) e = let both = and_parts (ltb a 16) (ltb n 18446744073709551616 && true) e in and_from _ _ (and_from _ _ both.0 refl) (and_parts (ltb n 18446744073709551616) true both.1).0
fits_ok (I.Copy a b) e = e
fits_ok (I.Add a b) e = e
fits_ok (I.Sub a b) e = e
fits_ok (I.Jump to) e = refl
fits_ok (I.JumpZ a to) e = e
fits_ok (I.JumpL a b to) e = e
fits_ok (I.Get a b) e = e
fits_ok (I.Put a b) e = e
fits_ok (I.Call g) e = (and_parts (ltb g 32) true e).0
fits_ok I.Ret e = refl
fits_ok (I.Spawn s b) e = e
fits_ok (I.MakeKnown a b c) e = e
fits_ok (I.Terminate a) e = e
fits_ok (I.Create a b c d f) e = e
fits_ok (I.Delete a b) e = e
fits_ok (I.SwapIn a) e = e
fits_ok (I.SwapOut a) e = e
fits_ok (I.Fetch a b c d) e = e
fits_ok (I.Update a b c d) e = e
fits_ok (I.Read a) e = e
fits_ok (I.Await a b) e = e
fits_ok (I.Advance a) e = e
fits_ok (I.Ticket a) e = e
fits_ok (I.Out a) e = e

hex_low : (ds : List ℕ) → AllDigits 16 ds → length ds ≤ 16 → digits_value 16 ds < 2 ^ 64
hex_low ds all few =
    let power : 16 ^ length ds ≤ 16 ^ 16 = pow-le-pow_right (omega arith) few in
    omega (arith, digits_value-lt 16 ds all, power)

item_is : (all : List (List ScriptWord)) (w : ScriptWord) (x : ScriptItem) → IsItem all w x → item_fits x ≡ true
item_is all w (mnemonic o) is = refl
item_is all w (value Register n) is = lt-ltb n 16 (omega (arith, is.range))
item_is all w (value Immediate n) is = elim is [
  | inl d ↦ lt-ltb n 18446744073709551616 (omega (arith, d.range))
  | inr h ↦ lt-ltb n 18446744073709551616 (omega (arith, hex_low h.digits h.numeral.1 h.few, h.number))
]
item_is all w (value Target n) is = refl
item_is all w (value Index n) is = lt-ltb n 32 (omega (arith, is.range))

items_are : (all : List (List ScriptWord)) (ws : List ScriptWord) (xs : List ScriptItem) → AllZip (IsItem all) ws xs → list_all item_fits xs ≡ true
items_are all [] [] are = refl
items_are all [] (x ∷ xs) are = absurd are
items_are all (w ∷ ws) [] are = absurd are
items_are all (w ∷ ws) (x ∷ xs) are = and_from _ _ (item_is all w x are.0) (items_are all ws xs are.1)

program_fits : (all wss : List (List ScriptWord)) (is : List Instr) → AllZip (IsInstr all) wss is → list_all instr_ok is ≡ true
program_fits all [] [] are = refl
program_fits all [] (i ∷ is) are = absurd are
program_fits all (ws ∷ wss) [] are = absurd are
program_fits all (ws ∷ wss) (i ∷ is) are = and_from _ _ (fits_ok i (items_are all ws (instr_items i) are.0)) (program_fits all wss is are.1)

-- ---- a script more

script_valid : (p : Place) (s : Script) → IsValid (config_in p) → p.gates ≡ [] → p.processes ≡ [] → script_ok (config_in p) s ≡ true → leb 32 (length p.scripts) ≡ false → IsValid (config_in (with_script (record p { stage = stage.Scripts }) s))
script_valid p s v gates processes ok few = record {
  table = v.table;
  names = v.names;
  pools = v.pools;
  header = v.header;
  cycle = v.cycle;
  few_scripts = omega (arith, length_push p.scripts s, leb-false 32 (length p.scripts) few);
  scripts = all_push (script_ok (config_in p)) p.scripts s v.scripts ok;
  few_gates = v.few_gates;
  gates = rw gates refl;
  processes = rw processes refl;
  few_processes = v.few_processes;
  items = v.items;
  few_events = v.few_events;
}

empty_scripts : (s : Stage) (p : Place) (gs : List (List Item)) → may_stand s kind.Script ≡ true → IsEmptyBehind s p gs → (p.gates ≡ []) × (p.processes ≡ []) × (gs ≡ [])
empty_scripts stage.Scripts p gs stands empty = empty
empty_scripts s p gs stands empty = absurd cc

script_good : (p : Place) (s : Script) (gs : List (List Item)) → IsGood p gs → (p.gates ≡ []) × (p.processes ≡ []) × (gs ≡ []) → script_ok (config_in p) s ≡ true → leb 32 (length p.scripts) ≡ false → IsGood (with_script (record p { stage = stage.Scripts }) s) gs
script_good p s gs good none ok few = record {
  inside = refl;
  valid = script_valid p s good.valid none.0 none.1 ok few;
  used = good.used;
  schedule = good.schedule;
  groups = good.groups;
  empty = none;
}

script_grows : (p : Place) (s : Script) (gs : List (List Item)) → (p.gates ≡ []) × (p.processes ≡ []) × (gs ≡ []) → body_parts (config_in (with_script (record p { stage = stage.Scripts }) s)) gs ≡ body_parts (config_in p) gs ++ script_parts s
script_grows p s gs none = rw (none.0, none.1, none.2, scripts_push p.scripts s) (last_scripts (flat_map script_parts p.scripts) (script_parts s))

-- ---- the kind of a line

abbrev kind_text : Kind → Text
kind_text kind.Script = codes "script"
kind_text kind.Gate = codes "gate"
kind_text kind.Process = codes "process"
kind_text kind.Events = codes "events"
kind_text kind.Mix = codes "mix"
kind_text kind.Sweep = codes "sweep"
kind_text kind.End = codes "end"

pick : (w : Text) (a : Kind) (rest : Option Kind) (k : Kind) → (rest ≡ Some k → w ≡ kind_text k) → cond (bytes_eq w (kind_text a)) (Some a) rest ≡ Some k → w ≡ kind_text k
pick w a rest k later e =
    elim (bytes_eq w (kind_text a)) as (λ b. bytes_eq w (kind_text a) ≡ b → cond b (Some a) rest ≡ Some k → w ≡ kind_text k) [
      | true ↦ λ is some. let same : a ≡ k = cc in is_fixed w (kind_text a) (rw is refl) ∙ ap kind_text same
      | false ↦ λ no some. later some
    ] refl e

kind_is : (w : Text) (k : Kind) → kind_of w ≡ Some k → w ≡ kind_text k
unfolding kind_of
kind_is w k e =
    pick w kind.Script _ k (pick w kind.Gate _ k (pick w kind.Process _ k (pick w kind.Events _ k (pick w kind.Mix _ k (pick w kind.Sweep _ k (pick w kind.End None k (λ none. absurd cc))))))) e

-- ---- the lines behind the header

-- the lines, read from p to q, spell what is between them and the final `end`
pub record Body (p : Place) (gs : List (List Item)) (q : Place) (ls : List Line) : Type 0 where
  pub groups : List (List Item)
  pub parts : List Part
  pub bytes : AllAllowed ls
  pub spelled : AreParts ls (parts ++ one_line end_line ∷ [])
  pub grown : body_parts (config_in q) groups ≡ body_parts (config_in p) gs ++ parts
  pub front : front_lines (config_in q) ≡ front_lines (config_in p)
  pub good : IsGood q groups

-- and what is left after a line does so
abbrev Again : List Line → Place → Type 0
Again ls q = (p : Place) (gs : List (List Item)) (n : ℕ) (after : List Line) → IsGood p gs → IsBody p.stage → length after < length ls → lines_answer_from p n after ≡ read_to q → Body p gs q after

pub starts : (p : Place) (ls : List Line) (q : Place) (N : Next p ls q) (items : List Word) → AllZip SpellsWord (words_of N.line) items → StartsWith ls items N.after
starts p ls q N items spelled = record { blank = N.blank; line = N.line; whole = N.whole; nothing = N.nothing; spelled = spelled }

one_more : (p m q : Place) (gs : List (List Item)) (ls : List Line) (N : Next p ls q) → Adds p gs m (words_of N.line) → lines_answer_from m N.number N.after ≡ read_to q → Again ls q → Body p gs q ls
one_more p m q gs ls N a reads again =
    let r = again m a.groups N.number N.after a.good a.stays N.fewer reads in
    record {
      groups = r.groups;
      parts = one_line a.items ∷ r.parts;
      bytes = N.bytes r.bytes;
      spelled = (N.after, starts p ls q N a.items a.spelled, r.spelled);
      grown = r.grown ∙ rw a.grown (append_assoc (body_parts (config_in p) gs) (one_line a.items ∷ []) r.parts);
      front = r.front ∙ a.front;
      good = r.good;
    }

valid_few : (p : Place) → IsValid (config_in p) → (length p.table ≤ 16) × (p.processors ≤ 4)
valid_few p v =
    let a = and_parts ((leb 1 p.processors && leb p.processors 4) && (leb 1 p.rounds && leb p.rounds 4096) && (leb 1 p.quantum && leb p.quantum 256)) (leb p.console 4096) v.header in
    let b = and_parts ((leb 1 p.processors && leb p.processors 4) && (leb 1 p.rounds && leb p.rounds 4096)) (leb 1 p.quantum && leb p.quantum 256) a.0 in
    let d = and_parts (leb 1 p.processors && leb p.processors 4) (leb 1 p.rounds && leb p.rounds 4096) b.0 in
    (v.table.few, leb-true _ _ (and_parts (leb 1 p.processors) (leb p.processors 4) d.0).1)

last_line : (p q : Place) (gs : List (List Item)) (ls : List Line) (N : Next p ls q) (k : Text) (ws : List Text) → words_of N.line ≡ k ∷ ws → k ≡ codes "end" → IsGood p gs → NoneHolds (end_tests ws) → lines_answer_from (record p { stage = stage.Ended }) N.number N.after ≡ read_to q → Body p gs q ls
last_line p q gs ls N k [] is key good none reads =
    let m : Place = record p { stage = stage.Ended } in
    let e = ended_blank N.after m q N.number good.inside refl reads in
    let g : IsGood m gs = record { inside = good.inside; valid = good.valid; used = good.used; schedule = good.schedule; groups = good.groups; empty = tt } in
    subst (λ x. Body p gs x ls) e.2 (record {
      groups = gs;
      parts = [];
      bytes = N.bytes e.1;
      spelled = (N.after, starts p ls q N end_line (subst (λ x. AllZip SpellsWord x end_line) (sym is) (key, tt)), e.0);
      grown = sym (append-nil (body_parts (config_in p) gs));
      front = refl;
      good = g;
    })
last_line p q gs ls N k (w ∷ ws) is key good none reads = absurd cc

script_part : (p q : Place) (gs : List (List Item)) (ls : List Line) (N : Next p ls q) (k : Text) (ws : List Text) → words_of N.line ≡ k ∷ ws → k ≡ codes "script" → may_stand p.stage kind.Script ≡ true → IsGood p gs → NoneHolds (script_tests p ws) →
    lines_answer_from (script_next_place p ws N.after) N.number N.after ≡ read_to q → Again ls q → Body p gs q ls
script_part p q gs ls N k (w ∷ []) is key stands good none reads again =
    let few = valid_few p good.valid in
    let low = leb-false (length p.table) (value_of w) none.1.0 in
    let class_is : byte (value_of w) ≡ value_of w = omega (arith, low, few.0) in
    let f = script_found p (byte (value_of w)) N.after q N.number reads in
    let s : Script = record { class = byte (value_of w); program = f.program } in
    let empty = empty_scripts p.stage p gs stands good.empty in
    let ok : script_ok (config_in p) s ≡ true = and_from _ _ (and_from _ _ (lt-ltb (byte (value_of w)) (length p.table) (omega (arith, low, class_is))) f.spelled.valid) (program_fits _ _ f.program f.spelled.instrs) in
    let m : Place = with_script (record p { stage = stage.Scripts }) s in
    let r = again m gs f.number f.after (script_good p s gs good empty ok none.1.1.0) tt (omega (arith, N.fewer, f.fewer)) f.rest in
    record {
      groups = r.groups;
      parts = script_parts s ++ r.parts;
      bytes = N.bytes (f.bytes r.bytes);
      spelled = (
        N.after,
        starts p ls q N (number_line (codes "script") (byte (value_of w))) (subst (λ x. AllZip SpellsWord x (number_line (codes "script") (byte (value_of w)))) (sym is) (key, (subst (IsNumber w) (sym class_is) (is_spelled w none.0), tt))),
        (f.after, record { inside = f.inside; end = f.end; whole = f.whole; goes_on = f.goes_on; ends = f.ends; spelled = f.spelled }, r.spelled),
      );
      grown = r.grown ∙ rw (script_grows p s gs empty) (append_assoc (body_parts (config_in p) gs) (script_parts s) r.parts);
      front = r.front;
      good = r.good;
    }
script_part p q gs ls N k ws is key stands good none reads again = absurd cc

of_kind : (p q : Place) (gs : List (List Item)) (ls : List Line) (N : Next p ls q) (kd : Kind) (k : Text) (ws : List Text) → words_of N.line ≡ k ∷ ws → k ≡ kind_text kd → may_stand p.stage kd ≡ true → IsGood p gs → NoneHolds (kind_tests kd p ws) →
    lines_answer_from (kind_next kd p ws N.after) N.number N.after ≡ read_to q → Again ls q → Body p gs q ls
of_kind p q gs ls N kind.Script k ws is key stands good none reads again = script_part p q gs ls N k ws is key stands good none reads again
of_kind p q gs ls N kind.Gate k ws is key stands good none reads again =
    one_more p (gate_next p ws) q gs ls N (subst (Adds p gs (gate_next p ws)) (sym is) (adds_gate p gs k ws good (valid_few p good.valid).0 key stands none)) reads again
of_kind p q gs ls N kind.Process k ws is key stands good none reads again =
    let few = valid_few p good.valid in
    one_more p (process_next p ws) q gs ls N (subst (Adds p gs (process_next p ws)) (sym is) (adds_process p gs k ws good few.0 few.1 key stands none)) reads again
of_kind p q gs ls N kind.Events k ws is key stands good none reads again =
    let few = valid_few p good.valid in
    one_more p (events_next p ws) q gs ls N (subst (Adds p gs (events_next p ws)) (sym is) (adds_events p gs k ws good few.0 few.1 key none)) reads again
of_kind p q gs ls N kind.Mix k ws is key stands good none reads again =
    one_more p (mix_next p ws) q gs ls N (subst (Adds p gs (mix_next p ws)) (sym is) (adds_mix p gs k ws good key none)) reads again
of_kind p q gs ls N kind.Sweep k ws is key stands good none reads again =
    one_more p (sweep_next p ws) q gs ls N (subst (Adds p gs (sweep_next p ws)) (sym is) (adds_sweep p gs k ws good key none)) reads again
of_kind p q gs ls N kind.End k ws is key stands good none reads again = last_line p q gs ls N k ws is key good none reads

of_words : (p q : Place) (gs : List (List Item)) (ls : List Line) (N : Next p ls q) (ws : List Text) → words_of N.line ≡ ws → 0 < length ws → IsGood p gs → NoneHolds (body_tests p ws) → lines_answer_from (body_next p ws N.after) N.number N.after ≡ read_to q → Again ls q → Body p gs q ls
of_words p q gs ls N [] is some good none reads again = absurd (omega (arith, some))
of_words p q gs ls N (k ∷ ws) is some good none reads again =
    elim (kind_of k) as (λ o. kind_of k ≡ o → NoneHolds (some_kind_tests o p ws) → lines_answer_from (some_kind_next o p ws N.after) N.number N.after ≡ read_to q → Body p gs q ls) [
      | None ↦ λ no n r. absurd (let f : true ≡ false = n.0 in cc)
      | Some kd ↦ λ of n r. of_kind p q gs ls N kd k ws is (kind_is k kd of) (not_false (may_stand p.stage kd) n.0) good n.1 r again
    ] refl none reads

unended : (s : Stage) → IsBody s → is_unended s ≡ true
unended stage.Scripts is = refl
unended stage.Gates is = refl
unended stage.Processes is = refl
unended stage.Items is = refl
unended stage.Header is = refl
unended stage.Count is = refl
unended stage.Classes is = refl
unended stage.Processors is = refl
unended stage.Cycle is = refl
unended stage.Rounds is = refl
unended stage.Quantum is = refl
unended stage.Console is = refl
unended stage.Ended is = absurd is

pub body_read : (fuel : ℕ) (ls : List Line) (p q : Place) (gs : List (List Item)) (n : ℕ) → length ls < fuel → IsGood p gs → IsBody p.stage → lines_answer_from p n ls ≡ read_to q → Body p gs q ls
body_read zero ls p q gs n few good at e = absurd (omega (arith, few))
body_read (suc fuel) ls p q gs n few good at e =
    let N = next_of ls p q n good.inside (unended p.stage at) e in
    of_words p q gs ls N (words_of N.line) refl N.some good (subst NoneHolds (body_stage_tests p.stage p (words_of N.line) at) N.none)
    (subst (λ x. lines_answer_from x N.number N.after ≡ read_to q) (body_stage_next p.stage p (words_of N.line) N.after at) N.rest)
    (λ p' gs' n' after good' at' fewer reads. body_read fuel after p' q gs' n' (omega (arith, few, fewer)) good' at' reads)
