-- What is spelled is read.
use Rattle.std.proofs.Common.{◌≡◌, ℕ, zero, suc, ◌+◌, ◌-◌, ◌*◌, ◌<◌, ◌≤◌, Bool, true, false, not, cond, eqb, ltb, leb, ◌&&◌, ◌||◌, List, [], ◌∷◌, ◌++◌, length, slice_get, Option, Some, None, Result, Ok, Err, refl, sym, ap, subst, ◌∙◌, append_assoc, arith}
use Rattle.std.specs.Prelude.{codes, map, count_by}
use Rattle.std.specs.Option.{option_map_or}
use Rattle.std.specs.List.{AllZip, AllByRecursion, list_all, sum_by, flat_map}
use Rattle.std.proofs.lemmas.Bool.{and_parts, leb-true, ltb-true, lt-ltb, le-leb, eqb-true, eq-eqb, ne_eqb}
use Rattle.std.proofs.lemmas.List.{append-nil, length_push, length-append, map-append}
use Rattle.std.proofs.lemmas.List.Sums.{sum_by-append, sum_by-cons}
use Rattle.std.proofs.lemmas.Option.{slice_get_within}
use Rattle.text_lines.specs.Lines.{lines, words_of}
use Rattle.text_lines.specs.Name.{all_allowed, is_name}
use Rattle.text_lines.specs.Faults.{judged, line_answer, lines_answer}
use Rattle.labels.specs.Label.{ClassEntry, class_at, at_or_below}
use Rattle.labels.specs.Table.{IsTable, IsSameEntry, StoodBefore}
use Rattle.script_lang.specs.declared.instr.Instr.{Instr}
use Rattle.script_asm.specs.Script.{Place as ScriptPlace, start as script_start, words_in}
use Rattle.script_asm.specs.Spelling.{Spells as SpellsScript}
use Rattle.script_asm.proofs.Outcome.{says_read}
use Rattle.script_asm.proofs.Spelled.{spells_says}
use Rattle.config_text.specs.declared.config.Pool.{Pool}
use Rattle.config_text.specs.declared.config.Script.{Script}
use Rattle.config_text.specs.declared.config.GateLine.{GateLine}
use Rattle.config_text.specs.declared.config.ProcessLine.{ProcessLine}
use Rattle.config_text.specs.declared.config.Item.{Item}
use Rattle.config_text.specs.declared.config.Config.{Config}
use Rattle.config_text.specs.declared.stage.Stage.{Stage}
use Rattle.config_text.specs.declared.stage.Stage.TheVariants as stage
use Rattle.config_text.specs.declared.stage.Kind.{Kind}
use Rattle.config_text.specs.declared.stage.Kind.TheVariants as kind
use Rattle.config_text.specs.Written.{Word, header_line, header_lines, number_line, number_lines, front_lines, class_line, class_lines, cycle_line, gate_line, process_line, end_line}
use Rattle.words_layout.specs.Sizes.{max_events}
use Rattle.config_text.specs.Valid.{IsValid, pool_ok, is_class, script_ok, gate_ok, process_ok, item_ok, uses_script, processes_of, events_of}
use Rattle.config_text.specs.Place.{Place, start, config_in}
use Rattle.config_text.specs.Rules.{Text, Line, is_end, body_of, begun, with_script, with_gate, with_process, with_items, may_stand, stage_rank, kind_rank, word_tests, word_next, stage_tests, stage_next, body_tests, body_next, is_unended, number_in, numbers_in, config_rules}
use Rattle.config_text.specs.Reading.{after_body, lines_answer_from}
use Rattle.config_text.specs.Text.{SpellsWord, IsBlank, StartsWith, StartsWithScript, Part, one_line, body, AreParts, IsGroup, group_line, script_parts, as_lines, body_parts, config_parts, Spells}
use Rattle.config_text.proofs.BodyLine.{IsBody, body_judged}
use Rattle.config_text.proofs.InScript.{Follows, follows, behind, script_ended}
use Rattle.config_text.proofs.Found.{AllAllowed, read_to}
use Rattle.config_text.proofs.Takes.{place_is, takes_header, takes_number, takes_class, takes_cycle, takes_end, takes_script, takes_gate, takes_process, takes_group, HasRoom}

-- ---- one line

allowed_parts : (line : Line) (more : List Line) → AllAllowed (line ∷ more) → (all_allowed line ≡ true) × AllAllowed more
allowed_parts line more a = and_parts (all_allowed line) (list_all all_allowed more) a

-- Reading goes on at the place q, before the lines that are left.
pub record GoesOn (p : Place) (n : ℕ) (ls : List Line) (q : Place) (after : List Line) : Type 0 where
  pub number : ℕ
  pub allowed : AllAllowed after
  pub answer : lines_answer_from p n ls ≡ lines_answer_from q number after

on_words : (p : Place) (line : Line) (more : List Line) → p.inside ≡ None → all_allowed line ≡ true → line_answer config_rules p line more ≡ judged (word_tests p (words_of line)) (word_next p (words_of line) more)
on_words p line more out fine = rw (fine, out) refl

blank_on : (blank : List Line) (line : Line) (after : List Line) (p q : Place) (n : ℕ) → p.inside ≡ None → AllByRecursion IsBlank blank → AllAllowed (blank ++ line ∷ after) → judged (word_tests p (words_of line)) (word_next p (words_of line) after) ≡ place_is q → GoesOn p n (blank ++ line ∷ after) q after
blank_on [] line after p q n out nothing allowed taken =
    let a = allowed_parts line after allowed in
    record { number = n + 1; allowed = a.1; answer = rw (on_words p line after out a.0, taken) refl }
blank_on (b ∷ bs) line after p q n out nothing allowed taken =
    let a = allowed_parts b (bs ++ line ∷ after) allowed in
    let r = blank_on bs line after p q (n + 1) out nothing.1 a.1 taken in
    record { number = r.number; allowed = r.allowed; answer = rw (on_words p b (bs ++ line ∷ after) out a.0, nothing.0) r.answer }

pub line_on : (p q : Place) (n : ℕ) (ls : List Line) (items : List Word) (after : List Line) → p.inside ≡ None → StartsWith ls items after → AllAllowed ls → ((ws : List Text) → AllZip SpellsWord ws items → judged (word_tests p ws) (word_next p ws after) ≡ place_is q) → GoesOn p n ls q after
line_on p q n ls items after out s allowed takes =
    subst (λ x. GoesOn p n x q after) (sym s.whole) (blank_on s.blank s.line after p q n out s.nothing (subst AllAllowed s.whole allowed) (takes (words_of s.line) s.spelled))

pub and_on : (p q s : Place) (n : ℕ) (ls middle after : List Line) → (a : GoesOn p n ls q middle) → GoesOn q a.number middle s after → GoesOn p n ls s after
and_on p q s n ls middle after a b = record { number = b.number; allowed = b.allowed; answer = a.answer ∙ b.answer }

-- a line of the header, by its stage
pub at_stage : (s : Stage) (p q : Place) (x : Word) (xs : List Word) (after : List Line) (ws : List Text) → p.stage ≡ s → AllZip SpellsWord ws (x ∷ xs) → judged (stage_tests s p ws) (stage_next s p ws after) ≡ place_is q → judged (word_tests p ws) (word_next p ws after) ≡ place_is q
at_stage s p q x xs after [] at all taken = absurd all
at_stage s p q x xs after (w ∷ ws) at all taken = subst (λ y. judged (stage_tests y p (w ∷ ws)) (stage_next y p (w ∷ ws) after) ≡ place_is q) (sym at) taken

-- ---- the end

pub blank_end : (ls : List Line) (p : Place) (n : ℕ) → p.inside ≡ None → p.stage ≡ stage.Ended → AllByRecursion IsBlank ls → AllAllowed ls → lines_answer_from p n ls ≡ read_to p
blank_end [] p n out at nothing allowed =
    let un : is_unended p.stage ≡ false = rw at refl in
    rw un refl
blank_end (line ∷ more) p n out at nothing allowed =
    let a = allowed_parts line more allowed in
    rw (on_words p line more out a.0, nothing.0) (blank_end more p (n + 1) out at nothing.1 a.1)

-- ---- scripts

body_is : (inside : List Line) (end : Line) (after : List Line) → AllByRecursion (λ line. is_end (words_of line) ≡ false) inside → is_end (words_of end) ≡ true → (body_of (inside ++ end ∷ after) ≡ inside) × (after_body (inside ++ end ∷ after) ≡ end ∷ after)
body_is [] end after goes ends = (rw ends refl, rw ends refl)
body_is (line ∷ more) end after goes ends =
    let r = body_is more end after goes.1 ends in
    (rw (goes.0, r.0) refl, rw goes.0 r.1)

allowed_end : (inside : List Line) (end : Line) (after : List Line) → AllAllowed (inside ++ end ∷ after) → (all_allowed end ≡ true) × AllAllowed after
allowed_end [] end after a = allowed_parts end after a
allowed_end (line ∷ more) end after a = allowed_end more end after (allowed_parts line (more ++ end ∷ after) a).1

script_lines_on : (p : Place) (class n : ℕ) (inside : List Line) (end : Line) (after : List Line) (program : List Instr) → AllByRecursion (λ line. is_end (words_of line) ≡ false) inside → is_end (words_of end) ≡ true → SpellsScript inside program → AllAllowed (inside ++ end ∷ after) →
    GoesOn (begun p class (inside ++ end ∷ after)) n (inside ++ end ∷ after) (with_script (record p { stage = stage.Scripts }) (record { class = class; program = program })) after
script_lines_on p class n inside end after program goes ends spelled allowed =
    let m : Place = record p { stage = stage.Scripts } in
    let ls = inside ++ end ∷ after in
    let is = body_is inside end after goes ends in
    let r = says_read inside program (spells_says inside program spelled) in
    let f : Follows m class (words_in (body_of ls)) script_start 1 n ls (Rattle.script_asm.proofs.Outcome.answer_of (body_of ls)) = follows m class (words_in (body_of ls)) ls script_start 1 n refl in
    let g : lines_answer_from (begun p class ls) n ls ≡ behind m class r.0 (n + length (body_of ls)) (after_body ls) = subst (Follows m class (words_in (body_of ls)) script_start 1 n ls) (ap Rattle.script_asm.proofs.Outcome.answer_of is.0 ∙ r.1) f in
    let a = allowed_end inside end after allowed in
    record { number = (n + length (body_of ls)) + 1; allowed = a.1; answer = g ∙ rw (is.1, a.0, r.2) refl }

-- ---- the places of a configuration that is read

-- so far of its lists
abbrev pub at : Config → Stage → List Script → List GateLine → List ProcessLine → List Item → ℕ → Place
at k s ss gs ps is used = record {
  stage = s;
  due = 0;
  table = k.table;
  pools = k.pools;
  processors = k.processors;
  cycle = k.cycle;
  rounds = k.rounds;
  quantum = k.quantum;
  console = k.console;
  scripts = ss;
  gates = gs;
  processes = ps;
  schedule = is;
  used = used;
  inside = None;
}

body_stage : (s : Stage) → stage_rank s ≤ 3 → IsBody s
body_stage stage.Scripts le = tt
body_stage stage.Gates le = tt
body_stage stage.Processes le = tt
body_stage stage.Items le = tt
body_stage s le = absurd (omega arith)

pub body_on : (p q : Place) (n : ℕ) (ls : List Line) (items : List Word) (after : List Line) → p.inside ≡ None → stage_rank p.stage ≤ 3 → StartsWith ls items after → AllAllowed ls → ((ws : List Text) → AllZip SpellsWord ws items → judged (body_tests p ws) (body_next p ws after) ≡ place_is q) → GoesOn p n ls q after
body_on p q n ls items after out low s allowed takes =
    line_on p q n ls items after out s allowed (λ ws all. body_judged p ws after (body_stage p.stage low) ∙ takes ws all)

-- Reading goes on, and the lines left are these parts.
pub record Left (p : Place) (n : ℕ) (ls : List Line) (q : Place) (parts : List Part) : Type 0 where
  pub after : List Line
  pub on : GoesOn p n ls q after
  pub are : AreParts after parts

pub scripts_on : (k : Config) (done todo : List Script) (more : List Part) (ls : List Line) (n : ℕ) → length k.table ≤ 16 → length done + length todo ≤ 32 → list_all (script_ok k) todo ≡ true → AllAllowed ls → AreParts ls (flat_map script_parts todo ++ more) → Left (at k stage.Scripts done [] [] [] 0) n ls (at k stage.Scripts (done ++ todo) [] [] [] 0) more
scripts_on k done [] more ls n few room ok allowed are =
    record { after = ls; on = record { number = n; allowed = allowed; answer = ap (λ (x : List Script). lines_answer_from (at k stage.Scripts x [] [] [] 0) n ls) (sym (append-nil done)) }; are = are }
scripts_on k done (s ∷ todo) more ls n few room ok allowed are =
    let both = and_parts (script_ok k s) (list_all (script_ok k) todo) ok in
    let x = and_parts (is_class k s.class && Rattle.script_lang.specs.Program.program_ok s.program) (list_all Rattle.config_text.specs.Valid.instr_ok s.program) both.0 in
    let low = ltb-true s.class (length k.table) (and_parts (is_class k s.class) (Rattle.script_lang.specs.Program.program_ok s.program) x.0).0 in
    let p : Place = at k stage.Scripts done [] [] [] 0 in
    let q : Place = at k stage.Scripts (done ++ s ∷ []) [] [] [] 0 in
    let after = are.0 in
    let first = body_on p (begun p s.class after) n ls (number_line (codes "script") s.class) after refl (omega arith) are.1 allowed (λ ws all. takes_script p s.class ws after refl low few (omega (arith, room)) all) in
    let t = are.2.1 in
    let same : after ≡ t.inside ++ t.end ∷ are.2.0 = t.whole in
    let second = subst (λ y. GoesOn (begun p s.class y) first.number y q are.2.0) (sym same) (script_lines_on p s.class first.number t.inside t.end are.2.0 s.program t.goes_on t.ends t.spelled (subst AllAllowed same first.allowed)) in
    let one = and_on p (begun p s.class after) q n ls after are.2.0 first second in
    let rest = scripts_on k (done ++ s ∷ []) todo more are.2.0 one.number few (omega (arith, room, length_push done s)) both.1 one.allowed are.2.2 in
    record {
      after = rest.after;
      on = subst (λ (y : List Script). GoesOn p n ls (at k stage.Scripts y [] [] [] 0) rest.after) (append_assoc done (s ∷ []) todo) (and_on p q (at k stage.Scripts ((done ++ s ∷ []) ++ todo) [] [] [] 0) n ls are.2.0 rest.after one rest.on);
      are = rest.are;
    }

-- ---- gates

script_there : (k : Config) (d n : ℕ) → uses_script k d n ≡ true → n < length k.scripts
script_there k d n e =
    elim (slice_get k.scripts n) as (λ o. slice_get k.scripts n ≡ o → option_map_or (λ (s : Script). is_class k s.class && at_or_below k.table s.class d) o false ≡ true → n < length k.scripts) [
      | None ↦ λ is f. absurd cc
      | Some s ↦ λ is f. slice_get_within k.scripts n s is
    ] refl e

-- Reading goes on at a stage of this rank at most.
pub record LeftAt (p : Place) (n : ℕ) (ls : List Line) (next : Stage → Place) (rank : ℕ) (parts : List Part) : Type 0 where
  pub s : Stage
  pub low : stage_rank s ≤ rank
  pub left : Left p n ls (next s) parts

pub then_on : (p m q : Place) (n : ℕ) (ls middle : List Line) (parts : List Part) (a : GoesOn p n ls m middle) → Left m a.number middle q parts → Left p n ls q parts
then_on p m q n ls middle parts a b = record { after = b.after; on = and_on p m q n ls middle b.after a b.on; are = b.are }

pub gates_on : (k : Config) (s : Stage) (done todo : List GateLine) (more : List Part) (ls : List Line) (n : ℕ) → stage_rank s ≤ 1 → length k.table ≤ 16 → length k.scripts ≤ 32 → length done + length todo ≤ 32 → list_all (gate_ok k) todo ≡ true → AllAllowed ls → AreParts ls (as_lines (map gate_line todo) ++ more) →
    LeftAt (at k s k.scripts done [] [] 0) n ls (λ t. at k t k.scripts (done ++ todo) [] [] 0) 1 more
gates_on k s done [] more ls n low few many room ok allowed are =
    record { s = s; low = low; left = record { after = ls; on = record { number = n; allowed = allowed; answer = ap (λ (x : List GateLine). lines_answer_from (at k s k.scripts x [] [] 0) n ls) (sym (append-nil done)) }; are = are } }
gates_on k s done (g ∷ todo) more ls n low few many room ok allowed are =
    let both = and_parts (gate_ok k g) (list_all (gate_ok k) todo) ok in
    let x = and_parts (is_class k g.class && uses_script k g.class g.script) (Rattle.rings.specs.Brackets.in_order g.brackets) both.0 in
    let there = script_there k g.class g.script (and_parts (is_class k g.class) (uses_script k g.class g.script) x.0).1 in
    let p : Place = at k s k.scripts done [] [] 0 in
    let q : Place = at k stage.Gates k.scripts (done ++ g ∷ []) [] [] 0 in
    let one = body_on p q n ls (gate_line g) are.0 refl (omega (arith, low)) are.1 allowed (λ ws all. takes_gate p g ws are.0 (le-leb (stage_rank s) 1 low) few many there both.0 (omega (arith, room)) all) in
    let rest = gates_on k stage.Gates (done ++ g ∷ []) todo more are.0 one.number (omega arith) few many (omega (arith, room, length_push done g)) both.1 one.allowed are.2 in
    record {
      s = rest.s;
      low = rest.low;
      left = subst (λ (y : List GateLine). Left p n ls (at k rest.s k.scripts y [] [] 0) more) (append_assoc done (g ∷ []) todo) (then_on p q (at k rest.s k.scripts ((done ++ g ∷ []) ++ todo) [] [] 0) n ls are.0 more one rest.left);
    }

-- ---- processes

few_before : (k : Config) (done todo : List ProcessLine) (x : ProcessLine) → done ++ x ∷ todo ≡ k.processes → ((a c : ℕ) → a < k.processors → c < length k.table → processes_of k a c ≤ 4) → x.processor < k.processors → x.class < length k.table →
    count_by (λ (y : ProcessLine). eqb y.processor x.processor && eqb y.class x.class) done < 4
few_before k done todo x whole few la lc =
    let f : ProcessLine → Bool = λ (y : ProcessLine). eqb y.processor x.processor && eqb y.class x.class in
    let all : count_by f (done ++ x ∷ todo) ≤ 4 = subst (λ (ps : List ProcessLine). count_by f ps ≤ 4) (sym whole) (few x.processor x.class la lc) in
    let here : f x ≡ true = rw (eq-eqb x.processor x.processor refl, eq-eqb x.class x.class refl) refl in
    let one : 0 + cond (f x) 1 0 ≡ 1 = rw here refl in
    omega (arith, all, sum_by-append (λ (y : ProcessLine). cond (f y) 1 0) done (x ∷ todo), sum_by-cons (λ (y : ProcessLine). cond (f y) 1 0) x todo, one)

pub processes_on : (k : Config) (s : Stage) (done todo : List ProcessLine) (more : List Part) (ls : List Line) (n : ℕ) → stage_rank s ≤ 2 → length k.table ≤ 16 → length k.scripts ≤ 32 → k.processors ≤ 4 → done ++ todo ≡ k.processes → ((a c : ℕ) → a < k.processors → c < length k.table → processes_of k a c ≤ 4) → list_all (process_ok k) todo ≡ true →
    AllAllowed ls → AreParts ls (as_lines (map process_line todo) ++ more) → LeftAt (at k s k.scripts k.gates done [] 0) n ls (λ t. at k t k.scripts k.gates (done ++ todo) [] 0) 2 more
processes_on k s done [] more ls n low few many four whole limit ok allowed are =
    record { s = s; low = low; left = record { after = ls; on = record { number = n; allowed = allowed; answer = ap (λ (x : List ProcessLine). lines_answer_from (at k s k.scripts k.gates x [] 0) n ls) (sym (append-nil done)) }; are = are } }
processes_on k s done (x ∷ todo) more ls n low few many four whole limit ok allowed are =
    let both = and_parts (process_ok k x) (list_all (process_ok k) todo) ok in
    let u = and_parts (ltb x.processor k.processors && is_class k x.class && leb x.ring 7) (uses_script k x.class x.script) both.0 in
    let v = and_parts (ltb x.processor k.processors && is_class k x.class) (leb x.ring 7) u.0 in
    let w = and_parts (ltb x.processor k.processors) (is_class k x.class) v.0 in
    let there = script_there k x.class x.script u.1 in
    let room = few_before k done todo x whole limit (ltb-true x.processor k.processors w.0) (ltb-true x.class (length k.table) w.1) in
    let p : Place = at k s k.scripts k.gates done [] 0 in
    let q : Place = at k stage.Processes k.scripts k.gates (done ++ x ∷ []) [] 0 in
    let one = body_on p q n ls (process_line x) are.0 refl (omega (arith, low)) are.1 allowed (λ ws all. takes_process p x ws are.0 (le-leb (stage_rank s) 2 low) few many four there both.0 room all) in
    let rest = processes_on k stage.Processes (done ++ x ∷ []) todo more are.0 one.number (omega arith) few many four (append_assoc done (x ∷ []) todo ∙ whole) limit both.1 one.allowed are.2 in
    record {
      s = rest.s;
      low = rest.low;
      left = subst (λ (y : List ProcessLine). Left p n ls (at k rest.s k.scripts k.gates y [] 0) more) (append_assoc done (x ∷ []) todo) (then_on p q (at k rest.s k.scripts k.gates ((done ++ x ∷ []) ++ todo) [] 0) n ls are.0 more one rest.left);
    }

-- ---- the schedule

list_all_parts : {X : Type 0} (f : X → Bool) (xs ys : List X) → list_all f (xs ++ ys) ≡ true → (list_all f xs ≡ true) × (list_all f ys ≡ true)
list_all_parts f [] ys e = (refl, e)
list_all_parts f (x ∷ xs) ys e =
    let both = and_parts (f x) (list_all f (xs ++ ys)) e in
    let rest = list_all_parts f xs ys both.1 in
    (rw (both.0, rest.0) refl, rest.1)

zero_more : (n z : ℕ) → z ≡ 0 → n ≡ n + z
zero_more n z e = omega (arith, e)

first_room : (used c rest sum : ℕ) → sum ≡ c + rest → used + sum ≤ max_events → used + c ≤ max_events
first_room used c rest sum e le = omega (arith, e, le)

rest_room : (used c rest sum : ℕ) → sum ≡ c + rest → used + sum ≤ max_events → (used + c) + rest ≤ max_events
rest_room used c rest sum e le = omega (arith, e, le)

same_total : (used c rest sum : ℕ) → sum ≡ c + rest → (used + c) + rest ≡ used + sum
same_total used c rest sum e = omega (arith, e)

abbrev pub flat : List (List Item) → List Item
flat gs = flat_map (λ g. g) gs

pub groups_on : (k : Config) (s : Stage) (done : List Item) (used : ℕ) (gs : List (List Item)) (more : List Part) (ls : List Line) (n : ℕ) → stage_rank s ≤ 3 → length k.table ≤ 16 → k.processors ≤ 4 → AllByRecursion IsGroup gs → list_all (item_ok k) (flat gs) ≡ true → used + sum_by (events_of k) (flat gs) ≤ max_events →
    AllAllowed ls → AreParts ls (as_lines (map group_line gs) ++ more) → LeftAt (at k s k.scripts k.gates k.processes done used) n ls (λ t. at k t k.scripts k.gates k.processes (done ++ flat gs) (used + sum_by (events_of k) (flat gs))) 3 more
groups_on k s done used [] more ls n low few four are_groups ok room allowed are =
    let none : used ≡ used + sum_by (events_of k) [] = zero_more used (sum_by (events_of k) []) refl in
    record { s = s; low = low; left = record { after = ls; on = record { number = n; allowed = allowed; answer = ap (λ (x : List Item). lines_answer_from (at k s k.scripts k.gates k.processes x used) n ls) (sym (append-nil done)) ∙ ap (λ (x : ℕ). lines_answer_from (at k s k.scripts k.gates k.processes (done ++ []) x) n ls) none }; are = are } }
groups_on k s done used (g ∷ gs) more ls n low few four are_groups ok room allowed are =
    let both = list_all_parts (item_ok k) g (flat gs) ok in
    let c = sum_by (events_of k) g in
    let sum : sum_by (events_of k) (g ++ flat gs) ≡ c + sum_by (events_of k) (flat gs) = sum_by-append (events_of k) g (flat gs) in
    let p : Place = at k s k.scripts k.gates k.processes done used in
    let q : Place = at k stage.Items k.scripts k.gates k.processes (done ++ g) (used + c) in
    let one = body_on p q n ls (group_line g) are.0 refl low are.1 allowed (λ ws all. takes_group p g ws are.0 (le-leb (stage_rank s) 3 low) few four are_groups.0 both.0 (first_room used c (sum_by (events_of k) (flat gs)) (sum_by (events_of k) (g ++ flat gs)) sum room) all) in
    let rest = groups_on k stage.Items (done ++ g) (used + c) gs more are.0 one.number (omega arith) few four are_groups.1 both.1 (rest_room used c (sum_by (events_of k) (flat gs)) (sum_by (events_of k) (g ++ flat gs)) sum room) one.allowed are.2 in
    let count : (used + c) + sum_by (events_of k) (flat gs) ≡ used + sum_by (events_of k) (g ++ flat gs) = same_total used c (sum_by (events_of k) (flat gs)) (sum_by (events_of k) (g ++ flat gs)) sum in
    record {
      s = rest.s;
      low = rest.low;
      left =
          subst (λ (y : List Item). Left p n ls (at k rest.s k.scripts k.gates k.processes y (used + sum_by (events_of k) (g ++ flat gs))) more) (append_assoc done g (flat gs))
          (subst (λ (y : ℕ). Left p n ls (at k rest.s k.scripts k.gates k.processes ((done ++ g) ++ flat gs) y) more) count (then_on p q (at k rest.s k.scripts k.gates k.processes ((done ++ g) ++ flat gs) ((used + c) + sum_by (events_of k) (flat gs))) n ls are.0 more one rest.left));
    }
