-- Where the words of a cell are, as the code has it.
use Rattle.class_model.specs.State.{CellHome, Never, Stored, In, Deleted}
use Rattle.whole_machine.specs.declared.cell.Whereabouts.{Whereabouts}
use Rattle.whole_machine.specs.declared.cell.Whereabouts.TheVariants as W

-- the home of a cell
abbrev pub home_of : Whereabouts → CellHome
home_of W.Never = Never
home_of W.Stored = Stored
home_of (W.In live) = In live.items
home_of W.Deleted = Deleted
