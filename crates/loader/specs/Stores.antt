-- What loading stores: a number in a guarded word of a class, one store after the other.
use Rattle.std.specs.Prelude.{ℕ, ◌+◌, ◌<◌, ◌≤◌, ◌≡◌, true, List, [], ◌∷◌, ◌++◌, ◌==◌, if◌then◌else◌, map, max, fold, length, count_by, Some, unwrap_or, slice_index, slice_set}
use Rattle.std.specs.List.{filter, flat_map, All}
use Rattle.lists.specs.Lists.{below}
use Rattle.words_layout.specs.Segments.{seg_number}
use Rattle.words_layout.specs.Limits.{IsIdentity}
use Rattle.words_layout.specs.Words.{GuardedWord, NextSerial, HomeOf, EntryOf, PageTenant, PageWord, Guarded, address}
use Rattle.words_layout.specs.Coding.{pack_home, pack_alias, alias_in_range}
use Rattle.words_layout.specs.declared.coding.Home.TheVariants as H
use Rattle.class_model.specs.Config.{SegRecord}
use Rattle.class_model.specs.Run.{alias_of}
use Rattle.class_model.specs.Valid.{records_distinct}
use Rattle.loader.specs.Records.{is_kept}

-- ---- what must hold of the records

-- the words of a record, none where they weren't kept
abbrev pub kept_words : SegRecord → List ℕ
kept_words r = unwrap_or r.kept []

-- The layout of so many classes has the words where the record stands, and its entry has a spelling.
pub record IsStorable (classes : ℕ) (r : SegRecord) : Type 0 where
  pub under : r.seg.mentor < classes
  pub class : r.class < classes
  pub seg : IsIdentity r.seg
  pub mentor : IsIdentity r.mentor
  pub entry : r.entry < 8
  pub alias : alias_in_range (alias_of r) ≡ true
  pub words : length (kept_words r) ≤ 64

-- So it is for each, no two have the same identity or stand in the same entry, and no class has more kept ones than pages.
pub record AreStorable (classes : ℕ) (rs : List SegRecord) : Type 0 where
  pub each : All (IsStorable classes) rs
  pub distinct : records_distinct rs ≡ true
  pub pages : (c : ℕ) → c < classes → count_by (is_kept c) rs ≤ 32

-- ---- the stores

-- a number for a guarded word of a class
pub record WordStore : Type 0 where
  pub class : ℕ
  pub word : GuardedWord
  pub number : ℕ

-- likewise, in one line
abbrev pub store_in : ℕ → GuardedWord → ℕ → WordStore
store_in c w n = record { class = c; word = w; number = n }

-- the words after a store
abbrev pub stored : List ℕ → WordStore → List ℕ
stored ws s = slice_set ws (address s.class (Guarded s.word)) s.number

-- the words after these stores, one after the other
abbrev pub after_stores : List ℕ → List WordStore → List ℕ
after_stores ws ss = fold stored ws ss

-- one more than the greatest serial of the records under mentors of class c, the root's among them, or 0
abbrev pub serial_under : ℕ → List SegRecord → ℕ
serial_under c rs = fold (λ n (r : SegRecord). if r.seg.mentor == c then max n (r.seg.serial + 1) else n) (if c == 0 then 1 else 0) rs

-- the entry where a record stands
abbrev pub entry_store : SegRecord → WordStore
entry_store r = store_in r.seg.mentor (EntryOf r.mentor r.entry) (pack_alias (Some (alias_of r)))

-- these words in page g of class c
abbrev pub word_stores : ℕ → ℕ → List ℕ → List WordStore
word_stores c g words = map (λ i. store_in c (PageWord g i) (slice_index words i)) (below (length words))

-- a record in page g of class c: its home, the page's tenant, and its words
abbrev pub page_stores : ℕ → ℕ → SegRecord → List WordStore
page_stores c g r =
    store_in c (HomeOf r.seg) (pack_home (H.Stored g r.size)) ∷ store_in c (PageTenant g) (seg_number r.seg + 1) ∷ word_stores c g (kept_words r)

-- records in the pages of class c from page g on
abbrev pub pages_from : ℕ → ℕ → List SegRecord → List WordStore
pages_from c g [] = []
pages_from c g (r ∷ rs) = page_stores c g r ++ pages_from c (g + 1) rs

-- for class c, its next serial, and its kept records in its pages
abbrev pub class_stores : List SegRecord → ℕ → List WordStore
class_stores rs c = store_in c NextSerial (serial_under c rs) ∷ pages_from c 0 (filter (is_kept c) rs)

-- for so many classes, and the entry of each record
abbrev pub stores_of : ℕ → List SegRecord → List WordStore
stores_of classes rs = flat_map (class_stores rs) (below classes) ++ map entry_store rs
