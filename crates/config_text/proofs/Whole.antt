-- A whole text that is spelled is read, and what is answered is right.
use Rattle.std.proofs.Common.{◌≡◌, ℕ, zero, suc, ◌+◌, ◌-◌, ◌<◌, ◌≤◌, Bool, true, false, not, cond, eqb, ltb, leb, ◌&&◌, List, [], ◌∷◌, ◌++◌, length, Option, Some, None, Result, Ok, Err, refl, sym, ap, subst, ◌∙◌, append_assoc, arith, inl, inr}
use Rattle.std.specs.Prelude.{codes, map}
use Rattle.std.specs.Result.{result_err}
use Rattle.std.specs.List.{AllZip, AllByRecursion, list_all, sum_by, flat_map}
use Rattle.std.proofs.lemmas.Bool.{and_parts, leb-true, eqb-true}
use Rattle.std.proofs.lemmas.List.{append-nil, length-append, map-append}
use Rattle.std.proofs.lemmas.Option.{some_pair_parts}
use Rattle.text_lines.specs.Lines.{lines, words_of}
use Rattle.text_lines.specs.Name.{is_name}
use Rattle.text_lines.specs.Faults.{judged, lines_answer}
use Rattle.text_lines.proofs.FirstFault.{first_fault, first_fault_read}
use Rattle.labels.specs.Label.{ClassEntry, class_at, label_of, dominates}
use Rattle.labels.specs.Order.{Dominates}
use Rattle.labels.specs.Table.{IsTable, IsSameEntry}
use Rattle.labels.proofs.OrderLaws.{dominates_twin}
use Rattle.config_text.specs.declared.config.Pool.{Pool}
use Rattle.config_text.specs.declared.config.Item.{Item}
use Rattle.config_text.specs.declared.config.Config.{Config}
use Rattle.config_text.specs.declared.draft.Draft.{Draft}
use Rattle.config_text.specs.declared.fault.Code.{Code}
use Rattle.config_text.specs.declared.fault.ConfigError.{ConfigError}
use Rattle.config_text.specs.declared.fault.ConfigError.TheVariants as error
use Rattle.config_text.specs.declared.stage.Stage.{Stage}
use Rattle.config_text.specs.declared.stage.Stage.TheVariants as stage
use Rattle.config_text.specs.declared.stage.Kind.TheVariants as kind
use Rattle.config_text.specs.Written.{Word, fixed, number, header_line, number_line, number_lines, header_lines, front_lines, class_line, class_lines, cycle_line, gate_line, process_line, end_line}
use Rattle.words_layout.specs.Sizes.{max_events}
use Rattle.config_text.specs.Valid.{IsValid, pool_ok, events_of, within}
use Rattle.config_text.specs.Codes.{code_number}
use Rattle.config_text.specs.Place.{Place, place_of, start, config_in}
use Rattle.config_text.specs.Rules.{Text, Line, stage_rank, number_in, numbers_in, stood_before, is_low, with_class, config_rules}
use Rattle.config_text.specs.Reading.{Reads, fault_at, lines_answer_from}
use Rattle.config_text.specs.Text.{SpellsWord, Part, one_line, AreParts, IsGroup, group_line, script_parts, as_lines, body_parts, config_parts, Spells, IsFault, AnswersText, IsReadAs, IsRefusedWith}
use Rattle.config_text.proofs.Faults.{rising, apart}
use Rattle.config_text.proofs.Found.{AllAllowed, read_to}
use Rattle.config_text.proofs.TableFacts.{entry, stood_none}
use Rattle.config_text.proofs.Headed.{at_class, at_processors, class_more, class_last, value_is}
use Rattle.config_text.proofs.Takes.{place_is, takes_header, takes_number, takes_class, takes_cycle, takes_end}
use Rattle.config_text.proofs.Spelled.{GoesOn, line_on, at_stage, blank_end, at, body_on, Left, then_on, LeftAt, scripts_on, gates_on, processes_on, groups_on, flat}

left_then : (p q s : Place) (n : ℕ) (ls : List Line) (parts more : List Part) → Left p n ls q parts → ((after : List Line) (m : ℕ) → AllAllowed after → AreParts after parts → Left q m after s more) → Left p n ls s more
left_then p q s n ls parts more a rest = then_on p q s n ls a.after more a.on (rest a.after a.on.number a.on.allowed a.are)

-- one line of the header
head_on : (s : Stage) (p q : Place) (n : ℕ) (ls : List Line) (x : Word) (xs : List Word) (more : List Part) → p.inside ≡ None → p.stage ≡ s → AllAllowed ls → AreParts ls (one_line (x ∷ xs) ∷ more) →
    ((ws : List Text) (after : List Line) → AllZip SpellsWord ws (x ∷ xs) → judged (Rattle.config_text.specs.Rules.stage_tests s p ws) (Rattle.config_text.specs.Rules.stage_next s p ws after) ≡ place_is q) → Left p n ls q more
head_on s p q n ls x xs more out is allowed are takes =
    record { after = are.0; on = line_on p q n ls (x ∷ xs) are.0 out are.1 allowed (λ ws all. at_stage s p q x xs are.0 ws is all (takes ws are.0 all)); are = are.2 }

-- ---- classes

front_at : (t cs : List ClassEntry) (c : ClassEntry) (j : ℕ) → j < length t → class_at (t ++ c ∷ cs) j ≡ class_at t j
front_at [] cs c j lt = absurd (omega (arith, lt))
front_at (x ∷ xs) cs c zero lt = refl
front_at (x ∷ xs) cs c (suc j) lt = front_at xs cs c j (omega (arith, lt))

here_at : (t cs : List ClassEntry) (c : ClassEntry) → class_at (t ++ c ∷ cs) (length t) ≡ c
here_at [] cs c = refl
here_at (x ∷ xs) cs c = here_at xs cs c

within_at : (t cs : List ClassEntry) (c : ClassEntry) → length t < length (t ++ c ∷ cs)
within_at t cs c = omega (arith, length-append t (c ∷ cs))

class_new : (t cs : List ClassEntry) (c : ClassEntry) → IsTable (t ++ c ∷ cs) → stood_before t c.name c.label ≡ false
class_new t cs c table =
    stood_none t c.name c.label (λ j lt same.
    (table.sound (length t) (within_at t cs c)).0 (j, lt, subst (λ y. IsSameEntry (class_at (t ++ c ∷ cs) j) y) (sym (here_at t cs c)) (subst (λ y. IsSameEntry y c) (sym (front_at t cs c j lt)) same)))

class_high : (t cs : List ClassEntry) (c : ClassEntry) → IsTable (t ++ c ∷ cs) → is_low t c.label ≡ false
class_high [] cs c table = refl
class_high (x ∷ xs) cs c table =
    let above : Dominates c.label x.label = subst (λ y. Dominates y.label x.label) (here_at (x ∷ xs) cs c) (table.sound (length (x ∷ xs)) (within_at (x ∷ xs) cs c)).1 in
    rw ((dominates_twin c.label x.label).1 above) refl

classes_on : (k : Config) (t cs : List ClassEntry) (c : ClassEntry) (qs os : List Pool) (o : Pool) (more : List Part) (ls : List Line) (n : ℕ) → t ++ c ∷ cs ≡ k.table → IsTable k.table → ((i : ℕ) → i < length k.table → is_name (class_at k.table i).name ≡ true) → list_all pool_ok (o ∷ os) ≡ true → length os ≡ length cs → AllAllowed ls →
    AreParts ls (as_lines (class_lines (c ∷ cs) (o ∷ os)) ++ more) → Left (at_class t qs (suc (length cs))) n ls (at_processors (t ++ c ∷ cs) (qs ++ o ∷ os)) more
classes_on k t [] c qs [] o more ls n whole table names ok same allowed are =
    let here = subst IsTable (sym whole) table in
    let named : is_name c.name ≡ true = subst (λ y. is_name y.name ≡ true) (ap (λ y. class_at y (length t)) (sym whole) ∙ here_at t [] c) (names (length t) (subst (λ y. length t < length y) whole (within_at t [] c))) in
    let both = and_parts (pool_ok o) true ok in
    head_on stage.Classes (at_class t qs 1) (at_processors (t ++ c ∷ []) (qs ++ o ∷ [])) n ls _ _ more refl refl allowed are
    (λ ws after all. takes_class (at_class t qs 1) c o ws both.0 named (class_new t [] c here) (class_high t [] c here) all ∙ ap place_is (class_last t qs c.name c.label o))
classes_on k t [] c qs (p ∷ os) o more ls n whole table names ok same allowed are = absurd (omega (arith, same))
classes_on k t (d ∷ cs) c qs [] o more ls n whole table names ok same allowed are = absurd (omega (arith, same))
classes_on k t (d ∷ cs) c qs (p ∷ os) o more ls n whole table names ok same allowed are =
    let here = subst IsTable (sym whole) table in
    let named : is_name c.name ≡ true = subst (λ y. is_name y.name ≡ true) (ap (λ y. class_at y (length t)) (sym whole) ∙ here_at t (d ∷ cs) c) (names (length t) (subst (λ y. length t < length y) whole (within_at t (d ∷ cs) c))) in
    let both = and_parts (pool_ok o) (list_all pool_ok (p ∷ os)) ok in
    let m = at_class (t ++ c ∷ []) (qs ++ o ∷ []) (suc (length cs)) in
    let one = head_on stage.Classes (at_class t qs (suc (suc (length cs)))) m n ls _ _ (as_lines (class_lines (d ∷ cs) (p ∷ os)) ++ more) refl refl allowed are
    (λ ws after all. takes_class (at_class t qs (suc (suc (length cs)))) c o ws both.0 named (class_new t (d ∷ cs) c here) (class_high t (d ∷ cs) c here) all ∙ ap place_is (class_more t qs (length cs) c.name c.label o)) in
    let rest = left_then (at_class t qs (suc (suc (length cs)))) m (at_processors ((t ++ c ∷ []) ++ d ∷ cs) ((qs ++ o ∷ []) ++ p ∷ os)) n ls (as_lines (class_lines (d ∷ cs) (p ∷ os)) ++ more) more one
    (λ after i fine left. classes_on k (t ++ c ∷ []) cs d (qs ++ o ∷ []) os p more after i (append_assoc t (c ∷ []) (d ∷ cs) ∙ whole) table names both.1 (omega (arith, same)) fine left) in
    subst (λ y. Left (at_class t qs (suc (suc (length cs)))) n ls (at_processors y (qs ++ o ∷ p ∷ os)) more) (append_assoc t (c ∷ []) (d ∷ cs))
    (subst (λ y. Left (at_class t qs (suc (suc (length cs)))) n ls (at_processors ((t ++ c ∷ []) ++ d ∷ cs) y) more) (append_assoc qs (o ∷ []) (p ∷ os)) rest)

classes_all : (k : Config) (cs : List ClassEntry) (os : List Pool) (more : List Part) (ls : List Line) (n : ℕ) → cs ≡ k.table → os ≡ k.pools → IsValid k → AllAllowed ls → AreParts ls (as_lines (class_lines cs os) ++ more) → Left (at_class [] [] (length cs)) n ls (at_processors cs os) more
classes_all k [] os more ls n ct op valid allowed are = absurd (omega (arith, valid.table.some, ap length ct))
classes_all k (c ∷ cs) [] more ls n ct op valid allowed are =
    let same = eqb-true _ _ (and_parts (eqb (length k.pools) (length k.table)) (list_all pool_ok k.pools) valid.pools).0 in
    absurd (omega (arith, same, ap length ct, ap length op))
classes_all k (c ∷ cs) (o ∷ os) more ls n ct op valid allowed are =
    let both = and_parts (eqb (length k.pools) (length k.table)) (list_all pool_ok k.pools) valid.pools in
    let same = eqb-true (length k.pools) (length k.table) both.0 in
    classes_on k [] cs c [] os o more ls n ct valid.table valid.names (subst (λ y. list_all pool_ok y ≡ true) (sym op) both.1) (omega (arith, same, ap length ct, ap length op)) allowed are

-- ---- the numbers of the header

record InRanges (k : Config) : Type 0 where
  processors : (1 ≤ k.processors) × (k.processors ≤ 4)
  rounds : (1 ≤ k.rounds) × (k.rounds ≤ 4096)
  quantum : (1 ≤ k.quantum) × (k.quantum ≤ 256)
  console : k.console ≤ 4096

ranges : (k : Config) → IsValid k → InRanges k
ranges k v =
    let a = and_parts ((leb 1 k.processors && leb k.processors 4) && (leb 1 k.rounds && leb k.rounds 4096) && (leb 1 k.quantum && leb k.quantum 256)) (leb k.console 4096) v.header in
    let b = and_parts ((leb 1 k.processors && leb k.processors 4) && (leb 1 k.rounds && leb k.rounds 4096)) (leb 1 k.quantum && leb k.quantum 256) a.0 in
    let d = and_parts (leb 1 k.processors && leb k.processors 4) (leb 1 k.rounds && leb k.rounds 4096) b.0 in
    let p = and_parts (leb 1 k.processors) (leb k.processors 4) d.0 in
    let r = and_parts (leb 1 k.rounds) (leb k.rounds 4096) d.1 in
    let q = and_parts (leb 1 k.quantum) (leb k.quantum 256) b.1 in
    record { processors = (leb-true _ _ p.0, leb-true _ _ p.1); rounds = (leb-true _ _ r.0, leb-true _ _ r.1); quantum = (leb-true _ _ q.0, leb-true _ _ q.1); console = leb-true _ _ a.1 }

-- the places of the header
abbrev c4 : Config → Place
c4 k = record start { stage = stage.Cycle; table = k.table; pools = k.pools; processors = k.processors }

abbrev c5 : Config → Place
c5 k = record start { stage = stage.Rounds; table = k.table; pools = k.pools; processors = k.processors; cycle = k.cycle }

abbrev c6 : Config → Place
c6 k = record start { stage = stage.Quantum; table = k.table; pools = k.pools; processors = k.processors; cycle = k.cycle; rounds = k.rounds }

abbrev c7 : Config → Place
c7 k = record start { stage = stage.Console; table = k.table; pools = k.pools; processors = k.processors; cycle = k.cycle; rounds = k.rounds; quantum = k.quantum }

abbrev c8 : Config → Place
c8 k = at k stage.Scripts [] [] [] [] 0

on_processors : (k : Config) → InRanges k → (more : List Part) (ls : List Line) (n : ℕ) → AllAllowed ls → AreParts ls (one_line (number_line (codes "processors") k.processors) ∷ more) → Left (at_processors k.table k.pools) n ls (c4 k) more
on_processors k r more ls n allowed are =
    head_on stage.Processors (at_processors k.table k.pools) (c4 k) n ls _ _ more refl refl allowed are (λ ws after all.
    let t = takes_number (codes "processors") 1 4 k.processors ws (record (c4 k) { processors = number_in ws }) r.processors.0 r.processors.1 (omega arith) all in
    t.0 ∙ ap (λ (x : ℕ). place_is (record (c4 k) { processors = x })) t.1)

on_cycle : (k : Config) → IsValid k → (more : List Part) (ls : List Line) (n : ℕ) → AllAllowed ls → AreParts ls (one_line (cycle_line k.cycle) ∷ more) → Left (c4 k) n ls (c5 k) more
on_cycle k v more ls n allowed are =
    head_on stage.Cycle (c4 k) (c5 k) n ls _ _ more refl refl allowed are (λ ws after all.
    let t = takes_cycle (length k.table) k.cycle ws (record (c5 k) { cycle = numbers_in ws }) v.table.few v.cycle all in
    t.0 ∙ ap (λ (x : List ℕ). place_is (record (c5 k) { cycle = x })) t.1)

on_rounds : (k : Config) → InRanges k → (more : List Part) (ls : List Line) (n : ℕ) → AllAllowed ls → AreParts ls (one_line (number_line (codes "rounds") k.rounds) ∷ more) → Left (c5 k) n ls (c6 k) more
on_rounds k r more ls n allowed are =
    head_on stage.Rounds (c5 k) (c6 k) n ls _ _ more refl refl allowed are (λ ws after all.
    let t = takes_number (codes "rounds") 1 4096 k.rounds ws (record (c6 k) { rounds = number_in ws }) r.rounds.0 r.rounds.1 (omega arith) all in
    t.0 ∙ ap (λ (x : ℕ). place_is (record (c6 k) { rounds = x })) t.1)

on_quantum : (k : Config) → InRanges k → (more : List Part) (ls : List Line) (n : ℕ) → AllAllowed ls → AreParts ls (one_line (number_line (codes "quantum") k.quantum) ∷ more) → Left (c6 k) n ls (c7 k) more
on_quantum k r more ls n allowed are =
    head_on stage.Quantum (c6 k) (c7 k) n ls _ _ more refl refl allowed are (λ ws after all.
    let t = takes_number (codes "quantum") 1 256 k.quantum ws (record (c7 k) { quantum = number_in ws }) r.quantum.0 r.quantum.1 (omega arith) all in
    t.0 ∙ ap (λ (x : ℕ). place_is (record (c7 k) { quantum = x })) t.1)

on_console : (k : Config) → InRanges k → (more : List Part) (ls : List Line) (n : ℕ) → AllAllowed ls → AreParts ls (one_line (number_line (codes "console") k.console) ∷ more) → Left (c7 k) n ls (c8 k) more
on_console k r more ls n allowed are =
    head_on stage.Console (c7 k) (c8 k) n ls _ _ more refl refl allowed are (λ ws after all.
    let t = takes_number (codes "console") 0 4096 k.console ws (record (c8 k) { console = number_in ws }) (omega arith) r.console (omega arith) all in
    t.0 ∙ ap (λ (x : ℕ). place_is (record (c8 k) { console = x })) t.1)

numbers_on : (k : Config) → IsValid k → (more : List Part) (ls : List Line) (n : ℕ) → AllAllowed ls → AreParts ls (as_lines (number_lines k) ++ more) → Left (at_processors k.table k.pools) n ls (c8 k) more
numbers_on k v more ls n allowed are =
    let r = ranges k v in
    let w : List Part = one_line (number_line (codes "console") k.console) ∷ more in
    let x : List Part = one_line (number_line (codes "quantum") k.quantum) ∷ w in
    let y : List Part = one_line (number_line (codes "rounds") k.rounds) ∷ x in
    let z : List Part = one_line (cycle_line k.cycle) ∷ y in
    left_then (at_processors k.table k.pools) (c4 k) (c8 k) n ls z more (on_processors k r z ls n allowed are) (λ l4 n4 a4 p4.
    left_then (c4 k) (c5 k) (c8 k) n4 l4 y more (on_cycle k v y l4 n4 a4 p4) (λ l5 n5 a5 p5.
    left_then (c5 k) (c6 k) (c8 k) n5 l5 x more (on_rounds k r x l5 n5 a5 p5) (λ l6 n6 a6 p6.
    left_then (c6 k) (c7 k) (c8 k) n6 l6 w more (on_quantum k r w l6 n6 a6 p6) (λ l7 n7 a7 p7. on_console k r more l7 n7 a7 p7))))

header_on : (k : Config) → IsValid k → (more : List Part) (ls : List Line) (n : ℕ) → AllAllowed ls → AreParts ls (one_line header_line ∷ one_line (number_line (codes "classes") (length k.table)) ∷ (as_lines (class_lines k.table k.pools) ++ (as_lines (number_lines k) ++ more))) → Left start n ls (c8 k) more
header_on k v more ls n allowed are =
    let p1 : Place = record start { stage = stage.Count } in
    let x : List Part = as_lines (number_lines k) ++ more in
    let y : List Part = as_lines (class_lines k.table k.pools) ++ x in
    let z : List Part = one_line (number_line (codes "classes") (length k.table)) ∷ y in
    left_then start p1 (c8 k) n ls z more (head_on stage.Header start p1 n ls _ _ z refl refl allowed are (λ ws after all. takes_header p1 ws all)) (λ l1 n1 a1 r1.
    left_then p1 (at_class [] [] (length k.table)) (c8 k) n1 l1 y more
    (head_on stage.Count p1 (at_class [] [] (length k.table)) n1 l1 _ _ y refl refl a1 r1 (λ ws after all.
    let t = takes_number (codes "classes") 1 16 (length k.table) ws (at_class [] [] (number_in ws)) (omega (arith, v.table.some)) v.table.few (omega arith) all in
    t.0 ∙ ap (λ (d : ℕ). place_is (at_class [] [] d)) t.1)) (λ l2 n2 a2 r2.
    left_then (at_class [] [] (length k.table)) (at_processors k.table k.pools) (c8 k) n2 l2 x more (classes_all k k.table k.pools x l2 n2 refl refl v a2 r2) (λ l3 n3 a3 r3. numbers_on k v more l3 n3 a3 r3)))

-- ---- behind the header

-- the place at the end
abbrev pub end_place : Config → List (List Item) → Place
end_place k gs = at k stage.Ended k.scripts k.gates k.processes (flat gs) (0 + sum_by (events_of k) (flat gs))

end_on : (k : Config) (gs : List (List Item)) (ls : List Line) (n : ℕ) → LeftAt (at k stage.Scripts [] [] [] [] 0) n ls (λ t. at k t k.scripts k.gates k.processes (flat gs) (0 + sum_by (events_of k) (flat gs))) 3 (one_line end_line ∷ []) → lines_answer_from (at k stage.Scripts [] [] [] [] 0) n ls ≡ read_to (end_place k gs)
end_on k gs ls n b =
    let l = b.left in
    let p : Place = at k b.s k.scripts k.gates k.processes (flat gs) (0 + sum_by (events_of k) (flat gs)) in
    let last = body_on p (end_place k gs) l.on.number l.after end_line l.are.0 refl b.low l.are.1 l.on.allowed (λ ws all. takes_end p ws l.are.0 (Rattle.std.proofs.lemmas.Bool.le-leb (stage_rank b.s) 3 b.low) all) in
    l.on.answer ∙ last.answer ∙ blank_end l.are.0 (end_place k gs) last.number refl refl l.are.2 last.allowed

from_at : (p m : Place) (n : ℕ) (ls : List Line) (parts more : List Part) (next : Stage → Place) (rank : ℕ) → Left p n ls m parts → ((after : List Line) (i : ℕ) → AllAllowed after → AreParts after parts → LeftAt m i after next rank more) → LeftAt p n ls next rank more
from_at p m n ls parts more next rank a rest =
    let b = rest a.after a.on.number a.on.allowed a.are in
    record { s = b.s; low = b.low; left = then_on p m (next b.s) n ls a.after more a.on b.left }

up : (s : Stage) → stage_rank s ≤ 1 → stage_rank s ≤ 2
up s low = omega (arith, low)

more_up : (s : Stage) → stage_rank s ≤ 2 → stage_rank s ≤ 3
more_up s low = omega (arith, low)

none_first : (n m : ℕ) → n ≤ m → 0 + n ≤ m
none_first n m le = omega (arith, le)

body_all : (k : Config) (gs : List (List Item)) (ls : List Line) (n : ℕ) → IsValid k → AllByRecursion IsGroup gs → flat gs ≡ k.schedule → AllAllowed ls →
    AreParts ls (flat_map script_parts k.scripts ++ (as_lines (map gate_line k.gates) ++ (as_lines (map process_line k.processes) ++ (as_lines (map group_line gs) ++ one_line end_line ∷ [])))) → lines_answer_from (at k stage.Scripts [] [] [] [] 0) n ls ≡ read_to (end_place k gs)
body_all k gs ls n v groups schedule allowed are =
    let r = ranges k v in
    let ends : List Part = one_line end_line ∷ [] in
    let items = as_lines (map group_line gs) ++ ends in
    let processes = as_lines (map process_line k.processes) ++ items in
    let gates = as_lines (map gate_line k.gates) ++ processes in
    end_on k gs ls n
    (from_at (at k stage.Scripts [] [] [] [] 0) (at k stage.Scripts k.scripts [] [] [] 0) n ls gates ends (λ t. at k t k.scripts k.gates k.processes (flat gs) (0 + sum_by (events_of k) (flat gs))) 3
    (scripts_on k [] k.scripts gates ls n v.table.few (none_first (length k.scripts) 32 v.few_scripts) v.scripts allowed are) (λ l1 n1 a1 r1.
    let G = gates_on k stage.Scripts [] k.gates processes l1 n1 (omega arith) v.table.few v.few_scripts (none_first (length k.gates) 32 v.few_gates) v.gates a1 r1 in
    from_at (at k stage.Scripts k.scripts [] [] [] 0) (at k G.s k.scripts k.gates [] [] 0) n1 l1 processes ends (λ t. at k t k.scripts k.gates k.processes (flat gs) (0 + sum_by (events_of k) (flat gs))) 3 G.left (λ l2 n2 a2 r2.
    let P = processes_on k G.s [] k.processes items l2 n2 (up G.s G.low) v.table.few v.few_scripts r.processors.1 refl v.few_processes v.processes a2 r2 in
    from_at (at k G.s k.scripts k.gates [] [] 0) (at k P.s k.scripts k.gates k.processes [] 0) n2 l2 items ends (λ t. at k t k.scripts k.gates k.processes (flat gs) (0 + sum_by (events_of k) (flat gs))) 3 P.left (λ l3 n3 a3 r3.
    groups_on k P.s [] 0 gs ends l3 n3 (more_up P.s P.low) v.table.few r.processors.1 groups (subst (λ y. list_all (Rattle.config_text.specs.Valid.item_ok k) y ≡ true) (sym schedule) v.items) (subst (λ y. 0 + sum_by (events_of k) y ≤ max_events) (sym schedule) (none_first (sum_by (events_of k) k.schedule) max_events v.few_events)) a3 r3))))

regrouped : (k : Config) (gs : List (List Item)) → config_parts k gs ≡ one_line header_line ∷ one_line (number_line (codes "classes") (length k.table)) ∷ (as_lines (class_lines k.table k.pools) ++ (as_lines (number_lines k) ++
    (flat_map script_parts k.scripts ++ (as_lines (map gate_line k.gates) ++ (as_lines (map process_line k.processes) ++ (as_lines (map group_line gs) ++ one_line end_line ∷ []))))))
regrouped k gs = rw (map-append one_line (class_lines k.table k.pools) (number_lines k)) (simp append_assoc)

pub spelled_is_read : (text : List ℕ) (k : Config) (s : Spells text k) → lines_answer_from start 1 (lines text) ≡ read_to (end_place k s.groups)
spelled_is_read text k s =
    let h = header_on k s.valid (flat_map script_parts k.scripts ++ (as_lines (map gate_line k.gates) ++ (as_lines (map process_line k.processes) ++ (as_lines (map group_line s.groups) ++ one_line end_line ∷ [])))) (lines text) 1 s.bytes (subst (AreParts (lines text)) (regrouped k s.groups) s.parts) in
    h.on.answer ∙ body_all k s.groups h.after h.on.number s.valid s.are_groups s.schedule h.on.allowed h.are

-- ---- what is answered

same_place : (p q : Place) → read_to p ≡ read_to q → p ≡ q
same_place p q e = cc

pub only_value : (text : List ℕ) (q : Place) → lines_answer_from start 1 (lines text) ≡ read_to q → (k : Config) → Spells text k → config_in q ≡ k
only_value text q reads k s =
    ap config_in (same_place q (end_place k s.groups) (sym reads ∙ spelled_is_read text k s)) ∙ ap (λ (y : List Item). record k { schedule = y }) s.schedule

pub only_error : (text : List ℕ) (e : ConfigError) → Reads (Err e) (lines_answer_from start 1 (lines text)) → (k : Config) → Spells text k → IsReadAs k (Err e)
only_error text (error.Fault at n) reads k s = absurd (let both : read_to (end_place k s.groups) ≡ fault_at at reads.0 = sym (spelled_is_read text k s) ∙ reads.1 in cc)
only_error text error.NoMemory reads k s = tt

pub refused_right : (text : List ℕ) (e : ConfigError) → Reads (Err e) (lines_answer_from start 1 (lines text)) → AnswersText text (Err e)
refused_right text (error.Fault at n) reads = (reads.0, reads.2, first_fault config_rules rising start (lines text) at reads.0 reads.1)
refused_right text error.NoMemory reads = tt

pub fault_value : (text : List ℕ) (q : Place) → lines_answer_from start 1 (lines text) ≡ read_to q → (at n : ℕ) → IsFault text at n → ⊥
fault_value text q reads at n f =
    let r = first_fault_read config_rules rising apart start (lines text) at f.0 f.2 in
    absurd (let both : read_to q ≡ fault_at at f.0 = sym reads ∙ r in cc)

pub fault_error : (text : List ℕ) (e : ConfigError) → Reads (Err e) (lines_answer_from start 1 (lines text)) → (at n : ℕ) → IsFault text at n → IsRefusedWith at n (Err e)
fault_error text (error.Fault a m) reads at n f =
    let r = first_fault_read config_rules rising apart start (lines text) at f.0 f.2 in
    let both : fault_at a reads.0 ≡ fault_at at f.0 = sym reads.1 ∙ r in
    let parts = some_pair_parts a at reads.0 f.0 (ap result_err both) in
    (parts.0, reads.2 ∙ ap code_number parts.1 ∙ sym f.1)
fault_error text error.NoMemory reads at n f = tt
