-- The order of the operations on the shared words, and what makes it sound.
use Rattle.std.specs.Prelude.{◌≡◌, ℕ, ◌+◌, ◌==◌, List, [], ◌∷◌, if◌then◌else◌}
use Rattle.words_layout.specs.Ops.{answer_on, list_after}
use Rattle.shared_words.specs.declared.view.Entry.{Entry}

-- an entry of a number, or a mark
pub data Line : Type 0 where
  entry : ℕ → Entry → Line
  mark : Line

-- each answer is what the operation answers on the words after the operations before it, and an entry's round is the number of marks before it
abbrev pub IsSound : List ℕ → ℕ → List Line → Type 0
IsSound ws round [] = Unit {0}
IsSound ws round (entry q e ∷ lines) = (e.round ≡ round) × (e.answer ≡ answer_on ws e.op) × IsSound (list_after ws e.op) round lines
IsSound ws round (mark ∷ lines) = IsSound ws (round + 1) lines

-- the words after all operations
abbrev pub after : List ℕ → List Line → List ℕ
after ws [] = ws
after ws (entry q e ∷ lines) = after (list_after ws e.op) lines
after ws (mark ∷ lines) = after ws lines

-- the entries of a number, in order
abbrev pub entries_of : ℕ → List Line → List Entry
entries_of p [] = []
entries_of p (entry q e ∷ lines) = if q == p then e ∷ entries_of p lines else entries_of p lines
entries_of p (mark ∷ lines) = entries_of p lines

abbrev pub marks : List Line → ℕ
marks [] = 0
marks (entry q e ∷ lines) = marks lines
marks (mark ∷ lines) = marks lines + 1
