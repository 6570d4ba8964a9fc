-- What holds of every state: entries and known places name classes of the table.
use Rattle.std.specs.Prelude.{ℕ, ◌≡◌, ◌<◌, true, Some, None, List, slice_index_or, length}
use Rattle.rings.specs.Brackets.{in_order}
use Rattle.words_layout.specs.declared.segment.SegId.{SegId}
use Rattle.words_layout.specs.declared.coding.Alias.{Alias}
use Rattle.policy.specs.Known.{alias_brackets}
use Rattle.class_model.specs.Config.{Shared, classes}
use Rattle.class_model.specs.Process.{Process}
use Rattle.class_model.specs.Next.{KnowsClasses}
use Rattle.class_model.specs.State.{Part, entry_at}
use Rattle.whole_machine.specs.Parts.{ListedPart, part_in, no_part}

-- the class of an entry is one of n, and its brackets are in order
pub record IsEntry (n : ℕ) (a : Alias) : Type 0 where
  pub class : a.class < n
  pub ordered : in_order (alias_brackets a) ≡ true

-- the classes of what a process knows are among the first n, and it has sixteen registers
pub record ProcessFits (n : ℕ) (p : Process) : Type 0 where
  pub knows : KnowsClasses n p
  pub regs : length p.regs ≡ 16

-- each entry of a cell and each process is so
pub record PartFits (n : ℕ) (part : Part) : Type 0 where
  pub entries : (u : SegId) (e : ℕ) (a : Alias) → entry_at (part.cell u) e ≡ Some a → IsEntry n a
  pub processes : (processor slot : ℕ) (p : Process) → slice_index_or (part.slots processor) slot None ≡ Some p → ProcessFits n p

-- the part of a class among the lists
abbrev pub part_of_class : List ListedPart → ℕ → Part
part_of_class parts c = part_in (slice_index_or parts c no_part)

-- there is a part for each class, and each of them fits
pub record PartsFit (s : Shared) (parts : List ListedPart) : Type 0 where
  pub one_each : length parts ≡ classes s
  pub fits : (c : ℕ) → PartFits (classes s) (part_of_class parts c)
