-- The numbers of a segment's turns along the second of two updates.
use Rattle.std.specs.Prelude.{ℕ, List, [], ◌∷◌}
use Rattle.words_layout.specs.Segments.{seg}
use Rattle.words_layout.specs.Words.{Guard, OfSegment}
use Rattle.machine.specs.Machine.{ClassPart}
use Rattle.machine.specs.Opening.{machine}
use Rattle.effect_laws.specs.Turns.{between, holding}
use Rattle.worked_runs.specs.Cases.{events, writer_and_reader}

-- turns started, tickets drawn, turns finished, who is between its first two steps, and who holds a ticket
abbrev pub numbers_of : Guard → ClassPart → List ℕ
numbers_of g part = part.words.started g ∷ part.words.tickets g ∷ part.words.finished g ∷ between g part ∷ holding g part ∷ []

-- those of the segment after so many steps of the process that updates it
unfoldable pub turn_numbers : ℕ → List ℕ
turn_numbers n = numbers_of (OfSegment (seg 0 1)) ((machine writer_and_reader (events 0 0 n)).part 0)
