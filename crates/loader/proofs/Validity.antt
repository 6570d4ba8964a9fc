-- A valid configuration, as the machines' plain data, is a valid one there.
use Rattle.std.proofs.Common.{ℕ, zero, suc, ◌+◌, ◌<◌, ◌≤◌, Bool, true, false, not, ◌&&◌, List, [], ◌∷◌, ◌≡◌, inl, inr, refl, sym, ap, subst, ◌∙◌, Some, None, cond, arith, length, map}
use Rattle.std.proofs.lemmas.Bool.{and_from, and_parts, eqb-true, eq-eqb, le-leb, ltb-true, lt-ltb}
use Rattle.std.proofs.lemmas.List.{length-map}
use Rattle.std.proofs.lemmas.List.Sums.{sum_by-cons}
use Rattle.std.specs.Prelude.{◌==◌, nat_le, slice_get, slice_index_or, count_by}
use Rattle.std.specs.List.{list_all}
use Rattle.std.specs.Option.{option_map_or}
use Rattle.lists.specs.Lists.{numbers_from}
use Rattle.labels.specs.Label.{Label, ClassEntry, class_at, label_of, at_or_below, no_class}
use Rattle.labels.specs.Order.{IsLabel}
use Rattle.labels.specs.Table.{IsTable, IsSameEntry}
use Rattle.labels.proofs.Tables.{class_lowest}
use Rattle.config_text.specs.declared.config.Config.{Config as ConfigText}
use Rattle.config_text.specs.declared.config.GateLine.{GateLine}
use Rattle.config_text.specs.declared.config.Pool.{Pool as PoolText}
use Rattle.config_text.specs.declared.config.ProcessLine.{ProcessLine as ProcessText}
use Rattle.config_text.specs.declared.config.Script.{Script as ScriptText}
use Rattle.config_text.specs.Valid.{IsValid, is_class, pool_ok, within}
use Rattle.config_text.specs.Valid.{script_ok as text_script_ok, gate_ok as text_gate_ok, process_ok as text_process_ok}
use Rattle.class_model.specs.Config.{Config, Script, Pool, ProcessLine, pool_of, shared_of}
use Rattle.class_model.specs.Valid.{IsConfig, same_numbers, same_label, label_in_range, all_distinct, table_ok, at_place, script_ok, gate_ok, process_ok, pages_ok}
use Rattle.loader.specs.Configuration.{configuration, pool_of_text, script_of_text, gate_of_text, process_of_text}

-- ---- lists of which each item passes

-- each passes, read off another list
all_to : {X Y : Type 0} (p : X → Bool) (q : Y → Bool) (f : X → Y) → ((x : X) → p x ≡ true → q (f x) ≡ true) → (xs : List X) → list_all p xs ≡ true → list_all q (map f xs) ≡ true
all_to p q f each [] h = refl
all_to p q f each (x ∷ xs) h =
    let a : (p x ≡ true) × (list_all p xs ≡ true) = and_parts _ _ h in and_from _ _ (each x a.0) (all_to p q f each xs a.1)

-- each passes, by its place
all_from_places : {X : Type 0} (test : X → Bool) (xs : List X) (d : X) → ((i : ℕ) → i < length xs → test (slice_index_or xs i d) ≡ true) → list_all test xs ≡ true
all_from_places test [] d h = refl
all_from_places test (x ∷ xs) d h = and_from _ _ (h 0 (omega arith)) (all_from_places test xs d (λ i lt. h (suc i) (omega arith)))

-- each number from start on passes
pub numbers_pass : (test : ℕ → Bool) (n start : ℕ) → ((i : ℕ) → start ≤ i → i < start + n → test i ≡ true) → list_all test (numbers_from start n) ≡ true
numbers_pass test zero start h = refl
numbers_pass test (suc n) start h = and_from _ _ (h start (omega arith) (omega arith)) (numbers_pass test n (start + 1) (λ i a b. h i (omega arith) (omega arith)))

pub count_of_map : (p : ProcessLine → Bool) (xs : List ProcessText) → count_by p (map process_of_text xs) ≡ count_by (λ x. p (process_of_text x)) xs
count_of_map p [] = refl
count_of_map p (x ∷ xs) =
    sum_by-cons (λ y. cond (p y) 1 0) (process_of_text x) (map process_of_text xs)
    ∙ ap (λ n. cond (p (process_of_text x)) 1 0 + n) (count_of_map p xs)
    ∙ sym (sum_by-cons (λ y. cond (p (process_of_text y)) 1 0) x xs)

-- ---- the table

numbers_are : (xs ys : List ℕ) → same_numbers xs ys ≡ true → xs ≡ ys
numbers_are [] [] h = refl
numbers_are [] (y ∷ ys) h = cc
numbers_are (x ∷ xs) [] h = cc
numbers_are (x ∷ xs) (y ∷ ys) h =
    let a : ((x == y) ≡ true) × (same_numbers xs ys ≡ true) = and_parts _ _ h in λ i. (eqb-true x y a.0) i ∷ (numbers_are xs ys a.1) i

labels_are : (a b : Label) → same_label a b ≡ true → a ≡ b
labels_are a b h =
    let x = and_parts (a.secrecy_level == b.secrecy_level && a.secrecy_cats == b.secrecy_cats && a.integrity_level == b.integrity_level) (a.integrity_cats == b.integrity_cats) h in
    let y = and_parts (a.secrecy_level == b.secrecy_level && a.secrecy_cats == b.secrecy_cats) (a.integrity_level == b.integrity_level) x.0 in
    let z = and_parts (a.secrecy_level == b.secrecy_level) (a.secrecy_cats == b.secrecy_cats) y.0 in
    λ i. record {
      secrecy_level = (eqb-true a.secrecy_level b.secrecy_level z.0) i;
      secrecy_cats = (eqb-true a.secrecy_cats b.secrecy_cats z.1) i;
      integrity_level = (eqb-true a.integrity_level b.integrity_level y.1) i;
      integrity_cats = (eqb-true a.integrity_cats b.integrity_cats x.1) i;
    }

not_from : (b : Bool) → (b ≡ true → ⊥) → not b ≡ true
not_from true h = absurd (h refl)
not_from false h = refl

-- an entry is none of the earlier ones
entry_apart : (c x : ClassEntry) → (IsSameEntry c x → ⊥) → (not (same_numbers x.name c.name) && not (same_label x.label c.label)) ≡ true
entry_apart c x h = and_from _ _
    (not_from (same_numbers x.name c.name) (λ e. h (inl (sym (numbers_are x.name c.name e)))))
    (not_from (same_label x.label c.label) (λ e. h (inr (sym (labels_are x.label c.label e)))))

distinct_from : (es : List ClassEntry) → ((i j : ℕ) → j < i → i < length es → IsSameEntry (class_at es j) (class_at es i) → ⊥) → all_distinct es ≡ true
distinct_from [] h = refl
distinct_from (c ∷ cs) h = and_from _ _
    (all_from_places (λ (x : ClassEntry). not (same_numbers x.name c.name) && not (same_label x.label c.label)) cs no_class
    (λ i lt. entry_apart c (class_at cs i) (h (suc i) 0 (omega arith) (omega arith))))
    (distinct_from cs (λ i j less lt. h (suc i) (suc j) (omega arith) (omega arith)))

label_ranges : (l : Label) → IsLabel l → label_in_range l ≡ true
label_ranges l h = and_from _ _ (and_from _ _ (and_from _ _
    (le-leb l.secrecy_level 15 h.secrecy_level) (lt-ltb l.secrecy_cats 4294967296 h.secrecy_cats))
    (le-leb l.integrity_level 15 h.integrity_level)) (lt-ltb l.integrity_cats 4294967296 h.integrity_cats)

table_passes : (es : List ClassEntry) → IsTable es → table_ok es ≡ true
table_passes es t = and_from _ _ (and_from _ _ (and_from _ _
    (and_from _ _ (le-leb 1 (length es) (let some = t.some in omega (arith, some))) (le-leb (length es) 16 t.few))
    (all_from_places (λ (x : ClassEntry). label_in_range x.label) es no_class (λ i lt. label_ranges (label_of es i) (t.labels i lt))))
    (distinct_from es (λ i j less lt same. (t.sound i lt).0 (j, less, same))))
    (numbers_pass (λ c. at_or_below es 0 c) (length es) 0 (λ i a b. class_lowest es t i (omega arith)))

-- ---- the whole

module _ (k : ConfigText) (valid : IsValid k) where
  abbrev here : Config
  here = configuration k []

  pool_tests : ((length k.pools == length k.table) ≡ true) × (list_all pool_ok k.pools ≡ true)
  pool_tests = and_parts _ _ valid.pools

  pub header_tests : ((within 1 4 k.processors ≡ true) × (within 1 4096 k.rounds ≡ true)) × ((within 1 256 k.quantum ≡ true) × (nat_le k.console 4096 ≡ true))
  header_tests =
      let a = and_parts (within 1 4 k.processors && within 1 4096 k.rounds && within 1 256 k.quantum) (nat_le k.console 4096) valid.header in
      let b = and_parts (within 1 4 k.processors && within 1 4096 k.rounds) (within 1 256 k.quantum) a.0 in
      let c = and_parts (within 1 4 k.processors) (within 1 4096 k.rounds) b.0 in
      (c, (b.1, a.1))

  uses_there : (xs : List ScriptText) (n d : ℕ) → option_map_or (λ (s : ScriptText). is_class k s.class && at_or_below k.table s.class d) (slice_get xs n) false ≡ true →
      option_map_or (λ (s : Script). at_or_below k.table s.class d) (slice_index_or (map (λ x. Some (script_of_text x)) xs) n None) false ≡ true
  uses_there [] n d h = h
  uses_there (x ∷ xs) zero d h = (and_parts _ _ h).1
  uses_there (x ∷ xs) (suc n) d h = uses_there xs n d h

  gate_passes : (g : GateLine) → text_gate_ok k g ≡ true → at_place (gate_ok here) (Some (gate_of_text g)) ≡ true
  gate_passes g h =
      let tests = and_parts _ _ h in
      let inside = and_parts _ _ tests.0 in
      and_from _ _ (and_from _ _ inside.0 (uses_there k.scripts g.script g.class inside.1)) tests.1

  line_passes : (x : ProcessText) → text_process_ok k x ≡ true → process_ok here (process_of_text x) ≡ true
  line_passes x h =
      let tests = and_parts _ _ h in
      let inside = and_parts _ _ (and_parts _ _ tests.0).0 in
      and_from _ _ (and_from _ _ tests.0 (uses_there k.scripts x.script x.class tests.1))
      (le-leb (count_by (λ (y : ProcessLine). y.processor == x.processor && y.class == x.class) here.processes) 4
      (subst (λ n. n ≤ 4) (sym (count_of_map (λ (y : ProcessLine). y.processor == x.processor && y.class == x.class) k.processes))
      (valid.few_processes x.processor x.class (ltb-true x.processor k.processors inside.0) (ltb-true x.class (length k.table) inside.1))))

  pub processes_pass : list_all (process_ok here) here.processes ≡ true
  processes_pass = all_to (text_process_ok k) (process_ok here) process_of_text line_passes k.processes valid.processes

  pub valid_here : IsConfig here
  valid_here = record {
    table = table_passes k.table valid.table;
    pools = and_from _ _ (eq-eqb _ _ (length-map k.pools pool_of_text ∙ eqb-true _ _ pool_tests.0))
        (all_to pool_ok (λ (p : Pool). nat_le p.frames 16 && nat_le p.pages 32) pool_of_text (λ p h. (and_parts _ _ h).0) k.pools pool_tests.1);
    volumes = and_from _ _ (eq-eqb _ _ (length-map k.pools (λ (p : PoolText). p.volume) ∙ eqb-true _ _ pool_tests.0))
        (all_to pool_ok (λ v. nat_le v 4) (λ (p : PoolText). p.volume) (λ p h. (and_parts _ _ h).1) k.pools pool_tests.1);
    processors = header_tests.0.0;
    cycle = valid.cycle;
    rounds = and_from _ _ header_tests.0.1 header_tests.1.0;
    console = header_tests.1.1;
    scripts = and_from _ _ (le-leb _ 32 (subst (λ n. n ≤ 32) (sym (length-map k.scripts (λ x. Some (script_of_text x)))) valid.few_scripts))
        (all_to (text_script_ok k) (at_place (script_ok here)) (λ x. Some (script_of_text x)) (λ x h. (and_parts _ _ h).0) k.scripts valid.scripts);
    gates = and_from _ _ (le-leb _ 32 (subst (λ n. n ≤ 32) (sym (length-map k.gates (λ g. Some (gate_of_text g)))) valid.few_gates))
        (all_to (text_gate_ok k) (at_place (gate_ok here)) (λ g. Some (gate_of_text g)) gate_passes k.gates valid.gates);
    processes = processes_pass;
    records = and_from _ _ (and_from _ _ refl refl)
        (numbers_pass (pages_ok here) (length k.table) 0 (λ c a b. le-leb 0 (pool_of (shared_of here) c).pages (omega arith)));
  }

pub is_config : (k : ConfigText) → IsValid k → IsConfig (configuration k [])
is_config k valid = valid_here k valid
