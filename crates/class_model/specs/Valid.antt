-- Which configurations are valid. Each part is a test that computes.
use Rattle.std.specs.Prelude.{ℕ, Bool, true, false, not, ◌&&◌, ◌||◌, List, [], ◌∷◌, ◌==◌, if◌then◌else◌, nat_le, nat_lt, length, count_by, IsTrue, Option, Some, None, slice_index, slice_index_or, is_some}
use Rattle.std.specs.List.{list_all, find}
use Rattle.std.specs.Option.{option_map_or}
use Rattle.lists.specs.Lists.{below}
use Rattle.labels.specs.Label.{Label, ClassEntry, at_or_below}
use Rattle.rings.specs.Brackets.{in_order}
use Rattle.words_layout.specs.Segments.{seg, same_seg}
use Rattle.words_layout.specs.declared.segment.SegId.{SegId}
use Rattle.script_lang.specs.Program.{program_ok}
use Rattle.class_model.specs.Config.{Config, Script, Gate, Pool, ProcessLine, SegRecord, pool_of, shared_of}

-- a number from low to high
abbrev pub within : ℕ → ℕ → ℕ → Bool
within low high n = nat_le low n && nat_le n high

-- two lists of numbers are equal
abbrev pub same_numbers : List ℕ → List ℕ → Bool
same_numbers [] [] = true
same_numbers (x ∷ xs) (y ∷ ys) = x == y && same_numbers xs ys
same_numbers _ _ = false

-- two labels are equal
abbrev pub same_label : Label → Label → Bool
same_label a b = a.secrecy_level == b.secrecy_level && a.secrecy_cats == b.secrecy_cats && a.integrity_level == b.integrity_level && a.integrity_cats == b.integrity_cats

-- levels are at most 15, and categories are below 32
abbrev pub label_in_range : Label → Bool
label_in_range a = nat_le a.secrecy_level 15 && nat_lt a.secrecy_cats 4294967296 && nat_le a.integrity_level 15 && nat_lt a.integrity_cats 4294967296

-- no later class has the name or the label of this one
abbrev pub all_distinct : List ClassEntry → Bool
all_distinct [] = true
all_distinct (c ∷ cs) = list_all (λ (x : ClassEntry). not (same_numbers x.name c.name) && not (same_label x.label c.label)) cs && all_distinct cs

-- 1 to 16 classes with different names and labels, each label dominating that of class 0
abbrev pub table_ok : List ClassEntry → Bool
table_ok table = within 1 16 (length table) && list_all (λ (x : ClassEntry). label_in_range x.label) table &&
    all_distinct table && list_all (λ c. at_or_below table 0 c) (below (length table))

-- an empty place is in order
abbrev pub at_place : {X : Type 0} → (X → Bool) → Option X → Bool
at_place test None = true
at_place test (Some x) = test x

-- its class is in the table, and its instructions are a program
abbrev pub script_ok : Config → Script → Bool
script_ok k x = nat_lt x.class (length k.table) && program_ok x.program

-- the script is there, and its class is at or below d
abbrev pub uses_script : Config → ℕ → ℕ → Bool
uses_script k d n = option_map_or (λ (x : Script). at_or_below k.table x.class d) (slice_index_or k.scripts n None) false

-- its class is in the table, its script there and at or below it, and its brackets in order
abbrev pub gate_ok : Config → Gate → Bool
gate_ok k x = nat_lt x.class (length k.table) && uses_script k x.class x.script && in_order x.brackets

-- likewise of a process, which is one of at most four of its processor and class
abbrev pub process_ok : Config → ProcessLine → Bool
process_ok k x = nat_lt x.processor k.processors && nat_lt x.class (length k.table) && nat_le x.ring 7 && uses_script k x.class x.script &&
    nat_le (count_by (λ (y : ProcessLine). y.processor == x.processor && y.class == x.class) k.processes) 4

-- the identity of the root
abbrev pub is_root : SegId → Bool
is_root u = same_seg u (seg 0 0)

-- the first record of an identity
abbrev pub first_record : List SegRecord → SegId → Option SegRecord
first_record records u = find (λ (r : SegRecord). same_seg r.seg u) records

-- the mentor is the root, or a record whose class is that of the identity
abbrev pub mentor_ok : Config → SegRecord → Bool
mentor_ok k r =
    if is_root r.mentor then r.seg.mentor == 0
    else option_map_or (λ (x : SegRecord). x.class == r.seg.mentor) (first_record k.records r.mentor) false

-- What a record must be: its class has a volume; its identity is another than the root's; the classes of mentor's mentor, mentor
-- and record rise in this order, and a mentor under the same class has a smaller serial; kept words are as many as the size.
abbrev pub record_ok : Config → SegRecord → Bool
record_ok k r =
    not (slice_index k.volumes r.class == 0) && nat_lt r.seg.mentor (length k.table) && nat_lt r.seg.serial 64 && not (is_root r.seg) && nat_lt r.class (length k.table) &&
    nat_lt r.mentor.mentor (length k.table) &&
    at_or_below k.table r.seg.mentor r.class && in_order r.brackets && within 1 64 r.size && nat_lt r.mentor.serial 64 &&
    nat_lt r.entry 8 && at_or_below k.table r.mentor.mentor r.seg.mentor &&
    (not (r.mentor.mentor == r.seg.mentor) || nat_lt r.mentor.serial r.seg.serial) &&
    option_map_or (λ (words : List ℕ). length words == r.size) r.kept true && mentor_ok k r

-- no later record has the identity of an earlier one, or its mentor and entry
abbrev pub records_distinct : List SegRecord → Bool
records_distinct [] = true
records_distinct (r ∷ rs) =
    list_all (λ (x : SegRecord). not (same_seg x.seg r.seg) && not (same_seg x.mentor r.mentor && x.seg.mentor == r.seg.mentor && x.entry == r.entry)) rs &&
    records_distinct rs

-- a class has no more kept records than pages
abbrev pub pages_ok : Config → ℕ → Bool
pages_ok k c = nat_le (count_by (λ (r : SegRecord). r.class == c && is_some r.kept) k.records) (pool_of (shared_of k) c).pages

-- A valid configuration with its volumes, and likewise its part at or below a class. No order of the records and no spelling
-- of names is asked for, and scripts and gates may have empty places.
pub record IsConfig (k : Config) : Type 0 where
  pub table : IsTrue (table_ok k.table)
  pub pools : IsTrue (length k.pools == length k.table && list_all (λ (p : Pool). nat_le p.frames 16 && nat_le p.pages 32) k.pools)
  pub volumes : IsTrue (length k.volumes == length k.table && list_all (λ v. nat_le v 4) k.volumes)
  pub processors : IsTrue (within 1 4 k.processors)
  pub cycle : IsTrue (within 1 16 (length k.cycle) && list_all (λ c. nat_lt c (length k.table)) k.cycle)
  pub rounds : IsTrue (within 1 4096 k.rounds && within 1 256 k.quantum)
  pub console : IsTrue (nat_le k.console 4096)
  pub scripts : IsTrue (nat_le (length k.scripts) 32 && list_all (at_place (script_ok k)) k.scripts)
  pub gates : IsTrue (nat_le (length k.gates) 32 && list_all (at_place (gate_ok k)) k.gates)
  pub processes : IsTrue (list_all (process_ok k) k.processes)
  pub records : IsTrue (list_all (record_ok k) k.records && records_distinct k.records && list_all (pages_ok k) (below (length k.table)))
