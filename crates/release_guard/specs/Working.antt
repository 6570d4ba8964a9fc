-- The working copy of a volume's records. Only private functions speak of it.
use Rattle.std.specs.Prelude.{◌≡◌, ℕ, ◌<◌, List, ◌∷◌, ◌++◌, map, length, if◌then◌else◌, Some, None, Result, Ok, Err}
use Rattle.std.specs.List.{AllByRecursion}
use Rattle.std.specs.Global.{Vec}
use Rattle.text_lines.specs.Faults.{first_code}
use Rattle.labels.specs.Label.{ClassEntry}
use Rattle.words_layout.specs.declared.segment.SegId.{SegId}
use Rattle.class_model.specs.Config.{SegRecord}
use Rattle.release_guard.specs.declared.order.Release.{Release}
use Rattle.release_guard.specs.declared.fault.Lack.{Lack}
use Rattle.release_guard.specs.declared.fault.ReleaseError.{ReleaseError}
use Rattle.release_guard.specs.declared.fault.ReleaseError.TheVariants as error
use Rattle.release_guard.specs.Codes.{lack_number}
use Rattle.release_guard.specs.Guard.{Volume, is_same, released, release_tests}

-- the record with these words, where it is the identity's
abbrev pub renewed : SegId → List ℕ → SegRecord → SegRecord
renewed to words r = if is_same to r.seg then record r { kept = Some words } else r

-- the classes of a record are classes of the table
pub record IsInTable (table : List ClassEntry) (r : SegRecord) : Type 0 where
  pub mentor : r.seg.mentor < length table
  pub class : r.class < length table

-- No test of the release holds.
abbrev pub HasAll : Volume → Release → Type 0
HasAll v x = first_code (release_tests v x) ≡ None

-- the first release of which a test holds, and what it lacks by the first one that does
pub record FirstLack (releases : List Release) (v : Volume) (line code : ℕ) : Type 0 where
  pub before : List Release
  pub here : Release
  pub after : List Release
  pub whole : releases ≡ before ++ here ∷ after
  pub right : AllByRecursion (HasAll v) before
  pub lack : Lack
  pub first : first_code (release_tests v here) ≡ Some lack
  pub line_is : line ≡ here.line
  pub code_is : code ≡ lack_number lack

-- what the releases make of the records, one after the other
abbrev pub Carries : List Release → Volume → Result (Vec SegRecord) ReleaseError → Type 0
Carries releases v (Ok made) = AllByRecursion (HasAll v) releases × (made.items ≡ map (released releases v) v)
Carries releases v (Err (error.Fault line code)) = FirstLack releases v line code
Carries releases v (Err error.NoMemory) = Unit {0}
