-- The rows of the step table for makeknown, create and delete.
use Rattle.std.specs.Prelude.{ℕ, zero, suc, ◌+◌, ◌==◌, if◌then◌else◌, nat_le, List, Option, Some, None, is_some}
use Rattle.labels.specs.Label.{ClassEntry}
use Rattle.rings.specs.Brackets.{Brackets}
use Rattle.words_layout.specs.Segments.{seg}
use Rattle.words_layout.specs.Words.{NextSerial, HomeOf, EntryOf, FrameTenant, PageTenant, plus_one}
use Rattle.words_layout.specs.Coding.{home_of, entry_of, pack_home, pack_entry}
use Rattle.words_layout.specs.declared.segment.SegId.{SegId}
use Rattle.words_layout.specs.declared.coding.Home.{Home}
use Rattle.words_layout.specs.declared.coding.Home.TheVariants as H
use Rattle.words_layout.specs.declared.coding.Alias.{Alias}
use Rattle.policy.specs.Known.{Known, in_table, new_alias}
use Rattle.policy.specs.Outcome.{Outcome, Refused, Value, shown}
use Rattle.policy.specs.declared.rule.Rule.TheVariants.{Gone, EntryTaken, SerialsUsed, NoEntry, NotEmpty}
use Rattle.turns.specs.Bodies.{Loads, Inner, Outer}

-- makeknown: a look at the class of the mentor; load the entry
abbrev pub make_known_body : List ClassEntry → ℕ → ℕ → Known → ℕ → ℕ → Loads Outcome
make_known_body table d ring k e mode =
    Loads.Load (EntryOf k.seg e) (λ w. Loads.Shows (shown table d ring k.class mode (in_table table (entry_of w))))

-- the next serial goes up, and the entry takes the new segment
abbrev pub create_serial : SegId → ℕ → ℕ → Brackets → ℕ → ℕ → Outer Outcome
create_serial u e class b size n =
    if nat_le 64 n then Outer.Shows (Refused SerialsUsed)
    else Outer.Store NextSerial (plus_one n)
    (Outer.Store (EntryOf u e) (pack_entry (new_alias class b size n)) (Outer.Shows (Value n)))

-- create, once the entry is known to be empty or not
abbrev pub create_entry : SegId → ℕ → ℕ → Brackets → ℕ → Option Alias → Outer Outcome
create_entry u e class b size (Some a) = Outer.Shows (Refused EntryTaken)
create_entry u e class b size None = Outer.Load NextSerial (λ n. create_serial u e class b size n)

-- create, once the mentor's home is known
abbrev pub create_home : SegId → ℕ → ℕ → Brackets → ℕ → Home → Outer Outcome
create_home u e class b size H.Deleted = Outer.Shows (Refused Gone)
create_home u e class b size _ = Outer.Load (EntryOf u e) (λ w. create_entry u e class b size (entry_of w))

-- create: the class's turn; load the mentor's home, the entry and the next serial; store the next serial and the entry
abbrev pub create_body : SegId → ℕ → ℕ → Brackets → ℕ → Outer Outcome
create_body u e class b size = Outer.Load (HomeOf u) (λ w. create_home u e class b size (home_of w))

-- n entries from e on are loaded, up to the first that isn't empty
abbrev pub check_entries : SegId → ℕ → ℕ → Outer Outcome → Outer Outcome
check_entries u e zero rest = rest
check_entries u e (suc n) rest =
    Outer.Load (EntryOf u e) (λ w. if is_some (entry_of w) then Outer.Shows (Refused NotEmpty) else check_entries u (e + 1) n rest)

-- a page's tenant is stored as 0, if there is a page
abbrev pub free_page : Option ℕ → Inner Outcome → Inner Outcome
free_page None rest = rest
free_page (Some g) rest = Inner.Store (PageTenant g) 0 rest

-- the tenants of the frame and page that a home names are stored as 0
abbrev pub free_home : Home → Inner Outcome → Inner Outcome
free_home (H.Resident f page size) rest = Inner.Store (FrameTenant f) 0 (free_page page rest)
free_home (H.Stored g size) rest = free_page (Some g) rest
free_home _ rest = rest

-- within the child's turn: its frame and page are freed, it is Deleted, and entry e of its mentor u is emptied
abbrev pub delete_child : SegId → SegId → ℕ → Inner Outcome
delete_child child u e = Inner.Load (HomeOf child) (λ w. free_home (home_of w)
    (Inner.Store (HomeOf child) (pack_home H.Deleted) (Inner.Store (EntryOf u e) 0 (Inner.Shows (Value 0)))))

-- delete, once the entry is known
abbrev pub delete_entry : ℕ → SegId → ℕ → Option Alias → Outer Outcome
delete_entry d u e None = Outer.Shows (Refused NoEntry)
delete_entry d u e (Some a) =
    if a.class == d
    then check_entries (seg d a.serial) 0 8 (Outer.Enter (seg d a.serial) (delete_child (seg d a.serial) u e))
    else Outer.Store (EntryOf u e) 0 (Outer.Shows (Value 0))

-- delete: the class's turn; load the entry; where the child is of the own class, its entries are loaded and its turn is taken
abbrev pub delete_body : ℕ → SegId → ℕ → Outer Outcome
delete_body d u e = Outer.Load (EntryOf u e) (λ w. delete_entry d u e (entry_of w))
