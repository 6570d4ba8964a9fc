-- What is seen of a configuration, as one change of its parts.
use Rattle.std.proofs.Common.{ℕ, ◌<◌, Bool, true, ◌&&◌, List, [], ◌∷◌, ◌≡◌, refl, sym, ap, subst, Option, Some, None, length, map}
use Rattle.std.proofs.lemmas.Bool.{and_parts, ltb-true}
use Rattle.std.specs.Prelude.{nat_lt}
use Rattle.std.specs.List.{filter, filter_map, list_all, All}
use Rattle.std.proofs.lemmas.List.Elements.{All-nil, All-cons}
use Rattle.labels.specs.Label.{ClassEntry}
use Rattle.words_layout.specs.declared.segment.SegId.{SegId}
use Rattle.config_text.specs.declared.config.Config.{Config as ConfigText}
use Rattle.config_text.specs.declared.config.Script.{Script as ScriptText}
use Rattle.config_text.specs.declared.config.GateLine.{GateLine}
use Rattle.config_text.specs.Valid.{IsValid, script_ok, gate_ok, uses_script, is_class}
use Rattle.rings.specs.Brackets.{in_order}
use Rattle.script_lang.specs.Program.{program_ok}
use Rattle.config_text.specs.Valid.{instr_ok}
use Rattle.class_model.specs.Config.{Config, Script, Gate, ProcessLine, SegRecord, kept_below, low_record}
use Rattle.class_model.specs.Valid.{IsConfig}
use Rattle.flow_laws.proofs.LowValid.{low_valid}
use Rattle.volume_image.specs.declared.head.Format.{Format}
use Rattle.volume_image.specs.Valid.{AreRecords, serials}
use Rattle.volume_image.specs.Valid.{is_class as in_table}
use Rattle.loader.specs.Configuration.{configuration, script_of_text, gate_of_text}
use Rattle.loader.specs.Seen.{seen, sees, script_seen, gate_seen, HasClasses}

-- the part of a configuration at these classes
abbrev pub part_by : (ℕ → Bool) → Config → Config
part_by low k = record k {
  scripts = map (kept_below (λ (x : Script). x.class) low) k.scripts;
  gates = map (kept_below (λ (x : Gate). x.class) low) k.gates;
  processes = filter (λ (p : ProcessLine). low p.class) k.processes;
  records = filter_map (low_record low) k.records;
}

-- ---- where every class is seen nothing is left out

all_places : {X : Type 0} (class : X → ℕ) (xs : List (Option X)) → map (kept_below class (λ (d : ℕ). true)) xs ≡ xs
all_places class [] = refl
all_places class (None ∷ xs) = ap (λ ys. None ∷ ys) (all_places class xs)
all_places class (Some x ∷ xs) = ap (λ ys. Some x ∷ ys) (all_places class xs)

all_lines : (ls : List ProcessLine) → filter (λ (p : ProcessLine). true) ls ≡ ls
all_lines [] = refl
all_lines (l ∷ ls) = ap (λ (t : List ProcessLine). l ∷ t) (all_lines ls)

all_records : (rs : List SegRecord) → filter_map (low_record (λ (d : ℕ). true)) rs ≡ rs
all_records [] = refl
all_records (r ∷ rs) = ap (λ (t : List SegRecord). r ∷ t) (all_records rs)

pub seen_is : (k : Config) (view : Option ℕ) → seen k view ≡ part_by (sees k.table view) k
seen_is k None = λ j. record k {
  scripts = (sym (all_places (λ (x : Script). x.class) k.scripts)) j;
  gates = (sym (all_places (λ (x : Gate). x.class) k.gates)) j;
  processes = (sym (all_lines k.processes)) j;
  records = (sym (all_records k.records)) j;
}
seen_is k (Some c) = refl

pub seen_valid : (k : Config) (view : Option ℕ) → IsConfig k → IsConfig (part_by (sees k.table view) k)
seen_valid k None ok = subst IsConfig (seen_is k None) ok
seen_valid k (Some c) ok = low_valid k c ok

-- ---- scripts and gates, in their places

map_twice : {X Y Z : Type 0} (f : Y → Z) (g : X → Y) (xs : List X) → map f (map g xs) ≡ map (λ (x : X). f (g x)) xs
map_twice f g [] = refl
map_twice f g (x ∷ xs) = ap (λ ys. f (g x) ∷ ys) (map_twice f g xs)

module _ (k : ConfigText) (view : Option ℕ) (rs : List SegRecord) where
  pub scripts_are : map (script_seen k.table view) k.scripts ≡ (part_by (sees k.table view) (configuration k rs)).scripts
  scripts_are = sym (map_twice (kept_below (λ (y : Script). y.class) (sees k.table view)) (λ (x : ScriptText). Some (script_of_text x)) k.scripts)

  pub gates_are : map (gate_seen k.table view) k.gates ≡ (part_by (sees k.table view) (configuration k rs)).gates
  gates_are = sym (map_twice (kept_below (λ (y : Gate). y.class) (sees k.table view)) (λ (g : GateLine). Some (gate_of_text g)) k.gates)

-- ---- classes of the table

pub all_of : {X : Type 0} (test : X → Bool) (P : X → Type 0) → ((x : X) → test x ≡ true → P x) → (xs : List X) → list_all test xs ≡ true → All P xs
all_of test P each [] h = All-nil P
all_of test P each (x ∷ xs) h =
    let a : (test x ≡ true) × (list_all test xs ≡ true) = and_parts _ _ h in All-cons P x xs (each x a.0) (all_of test P each xs a.1)

module _ (k : ConfigText) (valid : IsValid k) where
  pub script_classes : All (λ (x : ScriptText). x.class < length k.table) k.scripts
  script_classes = all_of (script_ok k) (λ (x : ScriptText). x.class < length k.table) (λ x h.
      (let a = and_parts (is_class k x.class && program_ok x.program) (list_all instr_ok x.program) h in
      ltb-true x.class (length k.table) (and_parts (is_class k x.class) (program_ok x.program) a.0).0)) k.scripts valid.scripts

  pub gate_classes : All (λ (g : GateLine). g.class < length k.table) k.gates
  gate_classes = all_of (gate_ok k) (λ (g : GateLine). g.class < length k.table) (λ g h.
      (let a = and_parts (is_class k g.class && uses_script k g.class g.script) (in_order g.brackets) h in
      ltb-true g.class (length k.table) (and_parts (is_class k g.class) (uses_script k g.class g.script) a.0).0)) k.gates valid.gates

pub record_classes : (f : Format) (table : List ClassEntry) (u : SegId) (rs : List SegRecord) → AreRecords f table u rs → All (HasClasses table) rs
record_classes f table u [] ok = All-nil (HasClasses table)
record_classes f table u (r ∷ rs) ok = All-cons (HasClasses table) r rs
    (record {
      mentor = ltb-true r.seg.mentor (length table) (and_parts (in_table table r.seg.mentor) (nat_lt r.seg.serial (serials f)) ok.0.seg).0;
      class = ltb-true r.class (length table) ok.0.class;
    })
    (record_classes f table r.seg rs ok.1)
