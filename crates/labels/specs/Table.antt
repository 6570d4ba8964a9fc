-- The table of the access classes: which lists of names and labels are one, and what is wrong with the others.
use Rattle.std.specs.Prelude.{◌≡◌, ℕ, ◌≤◌, ◌<◌, ◌⊎◌, List, length, Option, Some, None, Result, Ok, Err}
use Rattle.arrayvec.specs.ArrayString.{ArrayString}
use Rattle.labels.specs.Label.{Label, ClassEntry, class_at, label_of}
use Rattle.labels.specs.Order.{Dominates, IsLabel}
use Rattle.labels.specs.declared.fault.TableFault.{TableFault}
use Rattle.labels.specs.declared.fault.TableFault.TheVariants.{TooMany, Twice, NotLow}

-- a class by its name's bytes and its label
abbrev pub entry_of : (ArrayString × Label) → ClassEntry
entry_of e = record { name = e.0.bytes; label = e.1 }

-- They have the same name or the same label.
abbrev pub IsSameEntry : ClassEntry → ClassEntry → Type 0
IsSameEntry a b = (a.name ≡ b.name) ⊎ (a.label ≡ b.label)

-- An earlier entry has the name or the label of entry i.
abbrev pub StoodBefore : List ClassEntry → ℕ → Type 0
StoodBefore entries i = (j : ℕ) × (j < i) × IsSameEntry (class_at entries j) (class_at entries i)

-- The label of entry i dominates that of entry 0.
abbrev pub IsAboveFirst : List ClassEntry → ℕ → Type 0
IsAboveFirst entries i = Dominates (label_of entries i) (label_of entries 0)

-- Nothing is wrong with entry i.
abbrev pub IsSound : List ClassEntry → ℕ → Type 0
IsSound entries i = ¬ StoodBefore entries i × IsAboveFirst entries i

-- a table of classes: 1 to 16, with names and labels that differ, each at or above class 0
pub record IsTable (entries : List ClassEntry) : Type 0 where
  pub some : 0 < length entries
  pub few : length entries ≤ 16
  pub sound : (i : ℕ) → i < length entries → IsSound entries i
  pub labels : (i : ℕ) → i < length entries → IsLabel (label_of entries i)

-- Entry i is the first one with a fault.
pub record IsFirstAt (entries : List ClassEntry) (i : ℕ) : Type 0 where
  pub few : length entries ≤ 16
  pub within : i < length entries
  pub before : (j : ℕ) → j < i → IsSound entries j

-- what is answered to a list of entries
abbrev pub IsTableAnswer : List ClassEntry → Result (List ClassEntry) TableFault → Type 0
IsTableAnswer entries (Ok table) = (table ≡ entries) × IsTable entries
IsTableAnswer entries (Err (TooMany given)) = (given ≡ length entries) × (16 < length entries)
IsTableAnswer entries (Err (Twice index)) = IsFirstAt entries index × StoodBefore entries index
IsTableAnswer entries (Err (NotLow index)) = IsFirstAt entries index × ¬ StoodBefore entries index × ¬ IsAboveFirst entries index

-- ---- what private functions speak of

-- what is answered to one entry
abbrev pub IsEntryAnswer : List ClassEntry → ℕ → Option TableFault → Type 0
IsEntryAnswer entries i None = IsSound entries i
IsEntryAnswer entries i (Some (TooMany given)) = ⊥
IsEntryAnswer entries i (Some (Twice index)) = (index ≡ i) × StoodBefore entries i
IsEntryAnswer entries i (Some (NotLow index)) = (index ≡ i) × ¬ StoodBefore entries i × ¬ IsAboveFirst entries i

-- each of the first n entries is sound and has a label
abbrev pub AreSound : List ClassEntry → ℕ → Type 0
AreSound entries n = (i : ℕ) → i < n → IsSound entries i × IsLabel (label_of entries i)

-- what is answered to the entries, one after the other
abbrev pub IsEntriesAnswer : List ClassEntry → Result (Unit {0}) TableFault → Type 0
IsEntriesAnswer entries (Ok u) = AreSound entries (length entries)
IsEntriesAnswer entries (Err f) = (i : ℕ) × (i < length entries) × AreSound entries i × IsEntryAnswer entries i (Some f)
