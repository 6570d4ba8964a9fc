-- What an order makes of a volume, and when it can't.
use Rattle.std.specs.Prelude.{◌≡◌, ℕ, Bool, true, not, ◌==◌, ◌&&◌, List, [], ◌∷◌, ◌++◌, map, find, reverse, Option, is_none, option_and_then, Result, Ok, Err}
use Rattle.std.specs.List.{AllByRecursion, filter_map}
use Rattle.std.specs.Option.{option_map_or}
use Rattle.text_lines.specs.Faults.{Tests, HasNoCode, IsLeastCode}
use Rattle.labels.specs.Label.{at_or_below}
use Rattle.words_layout.specs.declared.segment.SegId.{SegId}
use Rattle.class_model.specs.Config.{SegRecord, low_record}
use Rattle.release_guard.specs.declared.order.Release.{Release}
use Rattle.release_guard.specs.declared.order.Order.{Order}
use Rattle.release_guard.specs.declared.fault.Lack.{Lack}
use Rattle.release_guard.specs.declared.fault.Lack.TheVariants as lack
use Rattle.release_guard.specs.declared.fault.ReleaseError.{ReleaseError}
use Rattle.release_guard.specs.declared.fault.ReleaseError.TheVariants as error
use Rattle.release_guard.specs.Codes.{lack_number}

-- a volume, as its records in their order
abbrev pub Volume : Type 0
Volume = List SegRecord

-- The identities are equal.
abbrev pub is_same : SegId → SegId → Bool
is_same a b = a.mentor == b.mentor && a.serial == b.serial

-- the record of an identity
abbrev pub record_of : Volume → SegId → Option SegRecord
record_of v u = find (λ (r : SegRecord). is_same r.seg u) v

-- the words that the volume keeps of an identity
abbrev pub words_at : Volume → SegId → Option (List ℕ)
words_at v u = option_and_then (λ (r : SegRecord). r.kept) (record_of v u)

-- ---- the volume after the releases and the export

-- the last release that names the identity as its target
abbrev pub last_to : List Release → SegId → Option Release
last_to releases u = find (λ (x : Release). is_same x.to u) (reverse releases)

-- A record keeps the words that the last release naming it as target had at its source in v. Where there is none, it keeps
-- its own.
abbrev pub released : List Release → Volume → SegRecord → SegRecord
released releases v r = option_map_or (λ (x : Release). record r { kept = words_at v x.from }) (last_to releases r.seg) r

-- The class is at or below the export class.
abbrev pub is_exported : Order → ℕ → Bool
is_exported k class = at_or_below k.table class k.export

-- The records whose identity's class is at or below the export class. A record whose own class isn't keeps no words.
abbrev pub exported : Order → Volume → Volume
exported k v = filter_map (low_record (is_exported k)) v

-- the volume that an order makes of v
abbrev pub guard : Order → Volume → Volume
guard k v = exported k (map (released k.releases v) v)

-- ---- faults

-- The sizes of the records of two identities differ.
abbrev pub sizes_differ : Volume → SegId → SegId → Bool
sizes_differ v from to = option_map_or (λ (r : SegRecord). option_map_or (λ (s : SegRecord). not (r.size == s.size)) (record_of v to) true) (record_of v from) true

-- what a release may lack in a volume
abbrev pub release_tests : Volume → Release → Tests Lack
release_tests v x =
    (is_none (record_of v x.from), lack.Source) ∷ (is_none (words_at v x.from), lack.Words) ∷ (is_none (record_of v x.to), lack.Target) ∷
    (sizes_differ v x.from x.to, lack.Size) ∷ []

-- The release lacks nothing.
abbrev pub LacksNothing : Volume → Release → Type 0
LacksNothing v x = HasNoCode (release_tests v x)

-- The order can be carried out on the volume: no release lacks anything.
abbrev pub CanRelease : Order → Volume → Type 0
CanRelease k v = AllByRecursion (LacksNothing v) k.releases

-- the line of the first release at fault, and its least code
pub record IsReleaseFault (k : Order) (v : Volume) (line code : ℕ) : Type 0 where
  pub before : List Release
  pub here : Release
  pub after : List Release
  pub whole : k.releases ≡ before ++ here ∷ after
  pub right : AllByRecursion (LacksNothing v) before
  pub lack : Lack
  pub least : IsLeastCode lack_number (release_tests v here) lack
  pub line_is : line ≡ here.line
  pub code_is : code ≡ lack_number lack

-- what is answered: the volume that the order makes, the first release at fault, or no memory
abbrev pub AnswersRelease : Order → Volume → Result Volume ReleaseError → Type 0
AnswersRelease k v (Ok made) = CanRelease k v × (made ≡ guard k v)
AnswersRelease k v (Err (error.Fault line code)) = IsReleaseFault k v line code
AnswersRelease k v (Err error.NoMemory) = Unit {0}

-- A volume is made, unless memory runs out.
abbrev pub IsMade : Result Volume ReleaseError → Type 0
IsMade (Ok made) = Unit {0}
IsMade (Err (error.Fault line code)) = ⊥
IsMade (Err error.NoMemory) = Unit {0}

-- It is refused with this fault, unless memory runs out.
abbrev pub IsRefusedAt : ℕ → ℕ → Result Volume ReleaseError → Type 0
IsRefusedAt line code (Ok made) = ⊥
IsRefusedAt line code (Err (error.Fault l c)) = (l ≡ line) × (c ≡ code)
IsRefusedAt line code (Err error.NoMemory) = Unit {0}

-- ---- the flow

-- the words at the sources of the releases, in their order
abbrev pub source_words : Order → Volume → List (Option (List ℕ))
source_words k v = map (λ (x : Release). words_at v x.from) k.releases
