-- The records of the volumes that a configuration is loaded with, and which of them is at fault.
use Rattle.std.specs.Prelude.{◌≡◌, ℕ, ◌<◌, ◌≤◌, Bool, not, ◌&&◌, List, [], ◌∷◌, ◌++◌, ◌==◌, nat_lt, length, take, map, slice_index, slice_index_or, count_by, is_some, if◌then◌else◌, false, Contains, Option, Some, None}
use Rattle.std.specs.List.{flat_map, list_any, AllByRecursion}
use Rattle.std.specs.Option.{option_map_or}
use Rattle.text_lines.specs.Faults.{Tests, HasNoCode, IsLeastCode}
use Rattle.words_layout.specs.Segments.{seg, same_seg}
use Rattle.config_text.specs.declared.config.Config.{Config as ConfigText}
use Rattle.config_text.specs.declared.config.Pool.{Pool as PoolText}
use Rattle.class_model.specs.Config.{SegRecord, pool_of, shared_of}
use Rattle.class_model.specs.Valid.{is_root, first_record}
use Rattle.volume_image.specs.Valid.{IsVolume}
use Rattle.loader.specs.Configuration.{configuration}
use Rattle.loader.specs.declared.judging.RecordFault.{RecordFault}

-- volumes, each with its number
abbrev pub Volumes : Type 0
Volumes = List (ℕ × List SegRecord)

-- the records in the order of loading: volumes in their order, and records in theirs
abbrev pub records_of : Volumes → List SegRecord
records_of vs = flat_map (λ v. v.1) vs

-- ---- which volumes belong to a configuration

-- the numbers of the volumes
abbrev pub numbers_of : Volumes → List ℕ
numbers_of vs = map (λ v. v.0) vs

-- the numbers that pools name, and 0 where one names none
abbrev pub named_by : ConfigText → List ℕ
named_by k = map (λ (p : PoolText). p.volume) k.pools

-- a pool names the volume
abbrev pub names_volume : ConfigText → ℕ → Bool
names_volume k n = list_any (λ (p : PoolText). p.volume == n) k.pools

-- each number is above the one before it, and the first above this one
abbrev pub Ascend : ℕ → List ℕ → Type 0
Ascend before [] = Unit {0}
Ascend before (n ∷ ns) = (before < n) × Ascend n ns

-- The volumes of a configuration: valid for its table, in the order of their numbers, which are just those from 1 to 4 that
-- the pools name.
pub record AreVolumes (k : ConfigText) (vs : Volumes) : Type 0 where
  pub valid : AllByRecursion (λ v. IsVolume k.table v.1) vs
  pub ascend : Ascend 0 (numbers_of vs)
  pub named : (n : ℕ) → Contains (numbers_of vs) n → (n ≤ 4) × Contains (named_by k) n
  pub all : (n : ℕ) → 1 ≤ n → n ≤ 4 → Contains (named_by k) n → Contains (numbers_of vs) n

-- ---- what may be wrong with a record

-- both stand in the same entry of one mentor
abbrev pub same_entry : SegRecord → SegRecord → Bool
same_entry r x = same_seg x.mentor r.mentor && x.seg.mentor == r.seg.mentor && x.entry == r.entry

-- the mentor is the root or one of the records, and of the class that the identity says
abbrev pub mentor_right : List SegRecord → SegRecord → Bool
mentor_right all r =
    if is_root r.mentor then r.seg.mentor == 0
    else option_map_or (λ (x : SegRecord). x.class == r.seg.mentor) (first_record all r.mentor) false

-- a kept record of class c
abbrev pub is_kept : ℕ → SegRecord → Bool
is_kept c r = r.class == c && is_some r.kept

-- The tests of a record of the volume of this number, given all records and those before it. 1: the pool of its class names
-- another volume. 2: its identity stood before. 3: its mentor is neither the root nor a record, or has another class than the
-- identity says. 4: its mentor's entry stood before. 5: its class has more kept records up to here than pages.
abbrev pub tests_of : ConfigText → List SegRecord → List SegRecord → ℕ → SegRecord → Tests ℕ
tests_of k all before number r =
    (not (slice_index (named_by k) r.class == number), 1) ∷
    (list_any (λ (x : SegRecord). same_seg x.seg r.seg) before, 2) ∷
    (not (mentor_right all r), 3) ∷
    (list_any (same_entry r) before, 4) ∷
    (nat_lt (pool_of (shared_of (configuration k [])) r.class).pages (count_by (is_kept r.class) (before ++ r ∷ [])), 5) ∷
    []

-- ---- which record is at fault

-- the volume at place v of the list
abbrev pub volume_at : Volumes → ℕ → ℕ × List SegRecord
volume_at vs v = slice_index_or vs v (0, [])

-- what stands where there is no record
abbrev pub no_record : SegRecord
no_record = record { seg = seg 0 0; class = 0; brackets = record { r1 = 0; r2 = 0; r3 = 0 }; size = 0; mentor = seg 0 0; entry = 0; kept = None }

-- record i of the volume at place v
abbrev pub record_at : Volumes → ℕ → ℕ → SegRecord
record_at vs v i = slice_index_or (volume_at vs v).1 i no_record

-- the records before it
abbrev pub before : Volumes → ℕ → ℕ → List SegRecord
before vs v i = records_of (take v vs) ++ take i (volume_at vs v).1

-- its tests
abbrev pub tests_at : ConfigText → Volumes → ℕ → ℕ → Tests ℕ
tests_at k vs v i = tests_of k (records_of vs) (before vs v i) (volume_at vs v).0 (record_at vs v i)

-- None of the first n records of the volume at place v is at fault.
abbrev pub AreFaultless : ConfigText → Volumes → ℕ → ℕ → Type 0
AreFaultless k vs v n = (i : ℕ) → i < n → HasNoCode (tests_at k vs v i)

-- None of the records of the first n volumes is at fault.
abbrev pub FaultlessBelow : ConfigText → Volumes → ℕ → Type 0
FaultlessBelow k vs n = (v : ℕ) → v < n → AreFaultless k vs v (length (volume_at vs v).1)

-- No record is at fault.
abbrev pub Loads : ConfigText → Volumes → Type 0
Loads k vs = FaultlessBelow k vs (length vs)

-- In the volume at place v the first record at fault is this one, with its least code.
pub record IsFaultIn (k : ConfigText) (vs : Volumes) (v : ℕ) (volume item code : ℕ) : Type 0 where
  pub number : volume ≡ (volume_at vs v).0
  pub there : item < length (volume_at vs v).1
  pub here : IsLeastCode (λ n. n) (tests_at k vs v item) code
  pub first : AreFaultless k vs v item

-- The first record at fault is this one, with its least code.
pub record IsLoadFault (k : ConfigText) (vs : Volumes) (volume item code : ℕ) : Type 0 where
  pub place : ℕ
  pub there : place < length vs
  pub fault : IsFaultIn k vs place volume item code
  pub first : FaultlessBelow k vs place

-- ---- what functions answer

-- the first fault of the volume at place v, if there is one
abbrev pub AnswersIn : ConfigText → Volumes → ℕ → Option RecordFault → Type 0
AnswersIn k vs v None = AreFaultless k vs v (length (volume_at vs v).1)
AnswersIn k vs v (Some f) = IsFaultIn k vs v f.volume f.item f.code

-- the first fault, if there is one
abbrev pub Answers : ConfigText → Volumes → Option RecordFault → Type 0
Answers k vs None = Loads k vs
Answers k vs (Some f) = IsLoadFault k vs f.volume f.item f.code
