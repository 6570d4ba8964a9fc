-- What no step changes of a valid configuration is sound.
use Rattle.std.proofs.Common.{ℕ, zero, suc, ◌+◌, ◌<◌, ◌≤◌, Bool, true, false, not, ◌&&◌, List, [], ◌∷◌, ◌≡◌, refl, ap, ◌∙◌, Option, Some, None, arith, length, inl, inr}
use Rattle.std.proofs.lemmas.Bool.{and_parts, and_from, eqb-true, eq-eqb, leb-true, ltb-true}
use Rattle.std.specs.Prelude.{◌==◌, nat_le, nat_lt, slice_index_or}
use Rattle.std.specs.List.{list_all}
use Rattle.std.specs.Option.{option_map_or}
use Rattle.lists.specs.Lists.{below, numbers_from}
use Rattle.labels.specs.Label.{Label, ClassEntry, class_at, label_of, at_or_below, no_class}
use Rattle.labels.specs.Order.{IsLabel}
use Rattle.labels.specs.Table.{IsTable, StoodBefore}
use Rattle.labels.proofs.OrderLaws.{dominates_twin}
use Rattle.rings.specs.Brackets.{in_order}
use Rattle.script_lang.specs.Program.{program_ok}
use Rattle.class_model.specs.Config.{Config, Script, Gate, Pool, pool_of, shared_of}
use Rattle.class_model.specs.Shared.{IsShared, IsScript, IsGate, UsesScript, script_at, gate_at}
use Rattle.class_model.specs.Valid.{IsConfig, within, same_numbers, same_label, label_in_range, all_distinct, at_place, script_ok, gate_ok, uses_script}
use Rattle.process.specs.Fits.{IsSound}

-- what holds of all holds at each place that is there
pub all_at : {X : Type 0} (test : X → Bool) (xs : List X) (i : ℕ) (d : X) → list_all test xs ≡ true → i < length xs → test (slice_index_or xs i d) ≡ true
all_at test [] i d h there = absurd (omega arith)
all_at test (x ∷ xs) zero d h there = (let a : (test x ≡ true) × (list_all test xs ≡ true) = and_parts _ _ h in a.0)
all_at test (x ∷ xs) (suc i) d h there = let a : (test x ≡ true) × (list_all test xs ≡ true) = and_parts _ _ h in all_at test xs i d a.1 (omega arith)

-- and at every place, if it holds of the default
pub all_or : {X : Type 0} (test : X → Bool) (xs : List X) (i : ℕ) (d : X) → list_all test xs ≡ true → test d ≡ true → test (slice_index_or xs i d) ≡ true
all_or test [] i d h e = e
all_or test (x ∷ xs) zero d h e = (let a : (test x ≡ true) × (list_all test xs ≡ true) = and_parts _ _ h in a.0)
all_or test (x ∷ xs) (suc i) d h e = let a : (test x ≡ true) × (list_all test xs ≡ true) = and_parts _ _ h in all_or test xs i d a.1 e

all_from : (test : ℕ → Bool) (n start k : ℕ) → list_all test (numbers_from start n) ≡ true → k < n → test (start + k) ≡ true
all_from test zero start k h there = absurd (omega arith)
all_from test (suc n) start zero h there = (let a : (test start ≡ true) × (list_all test (numbers_from (start + 1) n) ≡ true) = and_parts _ _ h in let e : start + 0 ≡ start = omega arith in rw e a.0)
all_from test (suc n) start (suc k) h there =
    let a : (test start ≡ true) × (list_all test (numbers_from (start + 1) n) ≡ true) = and_parts _ _ h in
    let e : start + suc k ≡ start + 1 + k = omega arith in
    rw e (all_from test n (start + 1) k a.1 (omega arith))

-- what holds of all numbers below n holds of each
pub all_below : (test : ℕ → Bool) (n k : ℕ) → list_all test (below n) ≡ true → k < n → test k ≡ true
all_below test n k h there = let e : 0 + k ≡ k = omega arith in rw e at (all_from test n 0 k h there)

-- ---- the table

numbers_same : (xs : List ℕ) → same_numbers xs xs ≡ true
numbers_same [] = refl
numbers_same (x ∷ xs) = and_from _ _ (eq-eqb x x refl) (numbers_same xs)

label_same : (a : Label) → same_label a a ≡ true
label_same a = and_from _ _ (and_from _ _ (and_from _ _ (eq-eqb a.secrecy_level a.secrecy_level refl) (eq-eqb a.secrecy_cats a.secrecy_cats refl)) (eq-eqb a.integrity_level a.integrity_level refl)) (eq-eqb a.integrity_cats a.integrity_cats refl)

-- an entry is none of the later ones
abbrev apart : ClassEntry → ClassEntry → Bool
apart c x = not (same_numbers x.name c.name) && not (same_label x.label c.label)

entries_apart : (es : List ClassEntry) (i j : ℕ) → all_distinct es ≡ true → j < i → i < length es → apart (class_at es j) (class_at es i) ≡ true
entries_apart [] i j h less there = absurd (omega arith)
entries_apart (c ∷ cs) zero j h less there = absurd (omega arith)
entries_apart (c ∷ cs) (suc i) zero h less there =
    (let a : (list_all (apart c) cs ≡ true) × (all_distinct cs ≡ true) = and_parts _ _ h in all_at (apart c) cs i no_class a.0 (omega arith))
entries_apart (c ∷ cs) (suc i) (suc j) h less there =
    (let a : (list_all (apart c) cs ≡ true) × (all_distinct cs ≡ true) = and_parts _ _ h in entries_apart cs i j a.1 (omega arith) (omega arith))

not_both : (b : Bool) → b ≡ true → not b ≡ true → ⊥
not_both true e f = cc
not_both false e f = cc

module _ (k : Config) (valid : IsConfig k) where
  -- the tests of the table, one by one
  table_tests : ((within 1 16 (length k.table) ≡ true) × (list_all (λ (x : ClassEntry). label_in_range x.label) k.table ≡ true)) ×
      ((all_distinct k.table ≡ true) × (list_all (λ c. at_or_below k.table 0 c) (below (length k.table)) ≡ true))
  table_tests =
      let a = and_parts (within 1 16 (length k.table) && list_all (λ (x : ClassEntry). label_in_range x.label) k.table && all_distinct k.table) (list_all (λ c. at_or_below k.table 0 c) (below (length k.table))) valid.table in
      let b = and_parts (within 1 16 (length k.table) && list_all (λ (x : ClassEntry). label_in_range x.label) k.table) (all_distinct k.table) a.0 in
      let c = and_parts (within 1 16 (length k.table)) (list_all (λ (x : ClassEntry). label_in_range x.label) k.table) b.0 in
      (c, (b.1, a.1))

  pub some_class : 0 < length k.table
  some_class = let a = and_parts (nat_le 1 (length k.table)) (nat_le (length k.table) 16) table_tests.0.0 in
      let b : 1 ≤ length k.table = leb-true 1 (length k.table) a.0 in omega (arith, b)

  pub few_classes : length k.table ≤ 16
  few_classes = let a = and_parts (nat_le 1 (length k.table)) (nat_le (length k.table) 16) table_tests.0.0 in leb-true (length k.table) 16 a.1

  not_before : (i : ℕ) → i < length k.table → StoodBefore k.table i → ⊥
  not_before i there stood =
      let a = and_parts (not (same_numbers (class_at k.table i).name (class_at k.table stood.0).name)) (not (same_label (class_at k.table i).label (class_at k.table stood.0).label)) (entries_apart k.table i stood.0 table_tests.1.0 stood.1 there) in
      elim stood.2 as (λ _. ⊥) [
        | inl e ↦ not_both _ (ap (λ x. same_numbers (class_at k.table i).name x) e ∙ numbers_same (class_at k.table i).name) a.0
        | inr e ↦ not_both _ (ap (λ x. same_label (class_at k.table i).label x) e ∙ label_same (class_at k.table i).label) a.1
      ]

  labels_there : (i : ℕ) → i < length k.table → IsLabel (label_of k.table i)
  labels_there i there =
      let l : Label = label_of k.table i in
      let a = and_parts (nat_le l.secrecy_level 15 && nat_lt l.secrecy_cats 4294967296 && nat_le l.integrity_level 15) (nat_lt l.integrity_cats 4294967296) (all_at (λ (x : ClassEntry). label_in_range x.label) k.table i no_class table_tests.0.1 there) in
      let b = and_parts (nat_le l.secrecy_level 15 && nat_lt l.secrecy_cats 4294967296) (nat_le l.integrity_level 15) a.0 in
      let c = and_parts (nat_le l.secrecy_level 15) (nat_lt l.secrecy_cats 4294967296) b.0 in
      record {
        secrecy_level = leb-true l.secrecy_level 15 c.0;
        secrecy_cats = ltb-true l.secrecy_cats 4294967296 c.1;
        integrity_level = leb-true l.integrity_level 15 b.1;
        integrity_cats = ltb-true l.integrity_cats 4294967296 a.1;
      }

  pub is_table : IsTable k.table
  is_table = record {
    some = some_class;
    few = few_classes;
    sound = λ i there. (not_before i there, (dominates_twin (label_of k.table i) (label_of k.table 0)).0 (all_below (λ c. at_or_below k.table 0 c) (length k.table) i table_tests.1.1 there));
    labels = labels_there;
  }

  -- ---- pools, scripts and gates

  pub script_used : (d n : ℕ) → uses_script k d n ≡ true → UsesScript (shared_of k) d n
  script_used d n h = by_place (slice_index_or k.scripts n None) refl h
    where
      by_place : (o : Option Script) → slice_index_or k.scripts n None ≡ o → option_map_or (λ (x : Script). at_or_below k.table x.class d) o false ≡ true → UsesScript (shared_of k) d n
      by_place None e f = cc
      by_place (Some x) e f = record { script = x; there = e; flows_up = f }

  scripts_there : (n : ℕ) (x : Script) → script_at (shared_of k) n ≡ Some x → IsScript (shared_of k) x
  scripts_there n x e =
      let all = and_parts (nat_le (length k.scripts) 32) (list_all (at_place (script_ok k)) k.scripts) valid.scripts in
      let ok : at_place (script_ok k) (Some x) ≡ true = rw e at (all_or (at_place (script_ok k)) k.scripts n None all.1 refl) in
      let parts = and_parts (nat_lt x.class (length k.table)) (program_ok x.program) ok in
      record { class = ltb-true x.class (length k.table) parts.0; program = parts.1 }

  gates_there : (n : ℕ) (x : Gate) → gate_at (shared_of k) n ≡ Some x → IsGate (shared_of k) x
  gates_there n x e =
      let all = and_parts (nat_le (length k.gates) 32) (list_all (at_place (gate_ok k)) k.gates) valid.gates in
      let ok : at_place (gate_ok k) (Some x) ≡ true = rw e at (all_or (at_place (gate_ok k)) k.gates n None all.1 refl) in
      let parts = and_parts (nat_lt x.class (length k.table) && uses_script k x.class x.script) (in_order x.brackets) ok in
      let front = and_parts (nat_lt x.class (length k.table)) (uses_script k x.class x.script) parts.0 in
      record { class = ltb-true x.class (length k.table) front.0; script = script_used x.class x.script front.1 }

  pool_tests : (c : ℕ) → (nat_le (pool_of (shared_of k) c).frames 16 ≡ true) × (nat_le (pool_of (shared_of k) c).pages 32 ≡ true)
  pool_tests c =
      let all = and_parts (length k.pools == length k.table) (list_all (λ (p : Pool). nat_le p.frames 16 && nat_le p.pages 32) k.pools) valid.pools in
      and_parts _ _ (all_or (λ (p : Pool). nat_le p.frames 16 && nat_le p.pages 32) k.pools c (record { frames = 0; pages = 0 }) all.1 refl)

  pub is_shared : IsShared (shared_of k)
  is_shared = record {
    pools = (let all = and_parts (length k.pools == length k.table) (list_all (λ (p : Pool). nat_le p.frames 16 && nat_le p.pages 32) k.pools) valid.pools in eqb-true _ _ all.0);
    frames = λ c. leb-true _ 16 (pool_tests c).0;
    pages = λ c. leb-true _ 32 (pool_tests c).1;
    console = leb-true k.console 4096 valid.console;
    scripts = (let all = and_parts (nat_le (length k.scripts) 32) (list_all (at_place (script_ok k)) k.scripts) valid.scripts in leb-true _ 32 all.0);
    gates = (let all = and_parts (nat_le (length k.gates) 32) (list_all (at_place (gate_ok k)) k.gates) valid.gates in leb-true _ 32 all.0);
    script = scripts_there;
    gate = gates_there;
  }

  pub sound_config : IsSound (shared_of k)
  sound_config = record { table = is_table; shared = is_shared }
