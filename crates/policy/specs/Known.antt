-- What a process knows of a segment, what an entry holds, and the rights.
use Rattle.std.specs.Prelude.{ℕ, Bool, ◌&&◌, ◌==◌, if◌then◌else◌, nat_lt, length, List, Option, Some, None}
use Rattle.std.specs.Int.{bit_at}
use Rattle.labels.specs.Label.{ClassEntry}
use Rattle.rings.specs.Brackets.{Brackets, in_order}
use Rattle.words_layout.specs.Segments.{seg}
use Rattle.words_layout.specs.declared.segment.SegId.{SegId}
use Rattle.words_layout.specs.declared.coding.Alias.{Alias}

-- a known segment: its identity, class, brackets and size, and the rights by which it is known
pub record Known : Type 0 where
  pub seg : SegId
  pub class : ℕ
  pub brackets : Brackets
  pub size : ℕ
  pub rights : ℕ

-- Rights are a number: 1 to observe, 2 to modify, 3 both, 4 to signal.
abbrev pub observes : ℕ → Bool
observes rights = bit_at rights 0 == 1

-- the rights let modify
abbrev pub modifies : ℕ → Bool
modifies rights = bit_at rights 1 == 1

-- the rights let signal
abbrev pub signals : ℕ → Bool
signals rights = bit_at rights 2 == 1

-- A mode of makeknown is what is wanted: 1 to observe, 2 to modify, 3 both. Who wants to modify alone may signal.
abbrev pub rights_of : ℕ → ℕ
rights_of mode = if mode == 2 then 4 else mode

-- a place that may only be signalled counts as empty
abbrev pub usable : Option Known → Option Known
usable None = None
usable (Some k) = if signals k.rights then None else Some k

-- the brackets of an entry
abbrev pub alias_brackets : Alias → Brackets
alias_brackets a = record { r1 = a.r1; r2 = a.r2; r3 = a.r3 }

-- the segment of an entry of a mentor, known with these rights
abbrev pub known_by : ℕ → Alias → ℕ → Known
known_by mentor_class a rights = record {
  seg = seg mentor_class a.serial;
  class = a.class;
  brackets = alias_brackets a;
  size = a.size;
  rights = rights;
}

-- the alias of a new segment
abbrev pub new_alias : ℕ → Brackets → ℕ → ℕ → Alias
new_alias class b size serial = record { class = class; r1 = b.r1; r2 = b.r2; r3 = b.r3; size = size; serial = serial }

-- an entry whose class isn't in the table or whose brackets aren't in order is taken as empty
abbrev pub in_table : List ClassEntry → Option Alias → Option Alias
in_table table None = None
in_table table (Some a) = if nat_lt a.class (length table) && in_order (alias_brackets a) then Some a else None
