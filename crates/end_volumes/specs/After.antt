-- The records of a volume after a run, read upwards: from each segment to the entry where it stands.
use Rattle.std.specs.Prelude.{ℕ, zero, suc, ◌*◌, ◌≡◌, ◌<◌, ◌≤◌, Bool, true, false, not, ◌&&◌, ◌||◌, List, [], ◌∷◌, ◌==◌, if◌then◌else◌, Option, Some, None, IfSome, slice_index_or}
use Rattle.std.specs.List.{filter_map}
use Rattle.std.specs.Option.{option_map, option_map_or, option_or, option_and_then}
use Rattle.lists.specs.Lists.{below}
use Rattle.words_layout.specs.Segments.{seg, seg_number, same_seg}
use Rattle.words_layout.specs.Words.{GuardedWords, HomeOf, EntryOf, PageWord, Word, address}
use Rattle.words_layout.specs.Limits.{IsIdentity, word_in_limits}
use Rattle.words_layout.specs.Coding.{home_of, entry_of}
use Rattle.words_layout.specs.declared.segment.SegId.{SegId}
use Rattle.words_layout.specs.declared.coding.Home.{Home}
use Rattle.words_layout.specs.declared.coding.Home.TheVariants as H
use Rattle.words_layout.specs.declared.coding.Alias.{Alias}
use Rattle.rings.specs.Brackets.{in_order}
use Rattle.policy.specs.Known.{alias_brackets, in_table}
use Rattle.class_model.specs.Config.{Config, SegRecord, classes}
use Rattle.class_model.specs.State.{State, cell_at, entry_at, identities}
use Rattle.class_model.specs.Valid.{is_root}
use Rattle.class_model.specs.Volume.{volume_of}
use Rattle.machine.specs.Machine.{Machine, words_of}
use Rattle.machine.specs.Reading.{words_from}
use Rattle.end_volumes.specs.declared.origins.Origin.{Origin}

-- ---- what is read off a state of either machine

-- how many classes there are, what each entry of each cell holds, and the stored words of each cell
pub record Tree : Type 0 where
  pub classes : ℕ
  pub entry : ℕ → SegId → ℕ → Option Alias
  pub stored : ℕ → SegId → Option (List ℕ)

-- Off a state of the machine of whole instructions. An entry that isn't in the table counts as empty, as it does for the gates.
abbrev pub tree_of_state : State → Tree
tree_of_state a = record { classes = classes a.shared; entry = λ c x e. in_table a.shared.table (entry_at (cell_at a c x) e); stored = λ c x. (cell_at a c x).stored }

-- the page that a home names, and how many words it tells
abbrev pub page_of : Home → Option (ℕ × ℕ)
page_of (H.Stored g size) = Some (g, size)
page_of (H.Resident f page size) = option_map (λ g. (g, size)) page
page_of _ = None

-- the words of a page, so many of them
abbrev pub page_words : GuardedWords → ℕ × ℕ → List ℕ
page_words w p = words_from (λ i. w (PageWord p.0 i)) p.1

-- the stored words of a cell: those of the page that its home names
abbrev pub stored_in : GuardedWords → SegId → Option (List ℕ)
stored_in w x = option_map (page_words w) (page_of (home_of (w (HomeOf x))))

-- off a machine of words
abbrev pub tree_of_words : Machine → Tree
tree_of_words m = record { classes = classes m.shared; entry = λ c x e. in_table m.shared.table (entry_of ((words_of m c).guarded (EntryOf x e))); stored = λ c x. stored_in (words_of m c).guarded x }

-- ---- where a segment stands

-- the first answer that there is
abbrev pub first_answer : {X Y : Type 0} → (X → Option Y) → List X → Option Y
first_answer f [] = None
first_answer f (x ∷ xs) = option_or (f x) (first_answer f xs)

-- an entry of the cell of class c and identity x as the place of segment u, where it names u
abbrev pub origin_at : Tree → SegId → ℕ → SegId → ℕ → Option Origin
origin_at t u c x e = option_and_then (λ (y : Alias). if same_seg (seg c y.serial) u then Some (record { mentor = x; entry = e; alias = y }) else None) (t.entry c x e)

-- the first entry of that cell that names u
abbrev pub origin_in : Tree → SegId → ℕ → SegId → Option Origin
origin_in t u c x = first_answer (origin_at t u c x) (below 8)

-- the first entry of the cells of class c that names u
abbrev pub origin_under : Tree → SegId → ℕ → Option Origin
origin_under t u c = first_answer (origin_in t u c) (identities t.classes)

-- where segment u stands: the first entry of the cells of its mentor's class that names it
abbrev pub origin : Tree → SegId → Option Origin
origin t u = origin_under t u u.mentor

-- ---- the paths

-- the mentor of a segment of class c that stands there, where c has a volume and the entry says c
abbrev pub mentor_of : Config → ℕ → Option Origin → Option SegId
mentor_of k c None = None
mentor_of k c (Some o) = if not (volume_of k c == 0) && o.alias.class == c then Some o.mentor else None

-- the cell of class c and identity u is the root's
abbrev pub is_root_cell : ℕ → SegId → Bool
is_root_cell c u = c == 0 && is_root u

-- A path of at most so many entries leads from the root to the cell of class c and identity u, each segment on it but the root
-- of a class with a volume.
abbrev pub is_led : Config → (SegId → Option Origin) → ℕ → ℕ → SegId → Bool
is_led k from zero c u = is_root_cell c u
is_led k from (suc far) c u = is_root_cell c u || option_map_or (λ (x : SegId). is_led k from far u.mentor x) (mentor_of k c (from u)) false

-- ---- the records

-- where u stands, if it is of volume v and such a path leads to it
abbrev pub found : Config → ℕ → (SegId → Option Origin) → ℕ → SegId → Option Origin
found k v from far u = option_and_then (λ (o : Origin). if volume_of k o.alias.class == v && is_led k from far o.alias.class u then Some o else None) (from u)

-- the record of segment u that stands there
abbrev pub record_of : Tree → SegId → Origin → SegRecord
record_of t u o = record {
  seg = u;
  class = o.alias.class;
  brackets = alias_brackets o.alias;
  size = o.alias.size;
  mentor = o.mentor;
  entry = o.entry;
  kept = t.stored o.alias.class u;
}

-- the record of u in volume v, if it has one; no path without a repeat has more entries than there are identities
abbrev pub record_after : Config → ℕ → Tree → SegId → Option SegRecord
record_after k v t u = option_map (record_of t u) (found k v (origin t) (64 * t.classes) u)

-- the records of volume v, by identity
abbrev pub records_after : Config → ℕ → Tree → List SegRecord
records_after k v t = filter_map (record_after k v t) (identities t.classes)

-- ---- what private functions speak of

-- the address is that of a word of the class
pub record IsNamed (class addr : ℕ) : Type 0 where
  pub word : Word
  pub in_limits : word_in_limits word ≡ true
  pub here : addr ≡ address class word

-- where segment u stands, by a list of all segments in the order of their numbers
abbrev pub listed : List (Option Origin) → SegId → Option Origin
listed list u = slice_index_or list (seg_number u) None

-- a page and a number of words within the limits
abbrev pub IsPage : ℕ × ℕ → Type 0
IsPage p = (p.0 < 32) × (p.1 ≤ 64)

-- The new list says where a segment stands as the old one does, or else as f does.
abbrev pub Gains : List (Option Origin) → List (Option Origin) → (SegId → Option Origin) → Type 0
Gains old new f = (u : SegId) → IsIdentity u → listed new u ≡ option_or (listed old u) (f u)

-- an entry with a serial within the limits and brackets in order
abbrev pub IsEntry : Alias → Type 0
IsEntry y = (y.serial < 64) × (in_order (alias_brackets y) ≡ true)

-- a segment within the limits has the entry, and its brackets are in order
abbrev pub IsOrigin : Origin → Type 0
IsOrigin o = IsIdentity o.mentor × (in_order (alias_brackets o.alias) ≡ true)

-- Each segment stands in such an entry, if anywhere.
abbrev pub AreOrigins : List (Option Origin) → Type 0
AreOrigins list = (i : ℕ) → IfSome (slice_index_or list i None) IsOrigin
