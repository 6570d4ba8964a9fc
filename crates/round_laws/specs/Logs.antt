-- What a processor performed, as a list of entries, and the events of each processor.
use Rattle.std.specs.Prelude.{◌≡◌, ℕ, ◌==◌, List, [], ◌∷◌, ◌++◌, if◌then◌else◌}
use Rattle.words_layout.specs.declared.op.Op.{Op}
use Rattle.words_layout.specs.declared.op.Op.TheVariants.{Nothing, Load, Store, Add}
use Rattle.words_layout.specs.declared.op.Event.{Event}
use Rattle.words_layout.specs.Ops.{IsPlain}
use Rattle.shared_words.specs.declared.view.Entry.{Entry}

-- the entries with an operation of this round and its answer at their end; no operation gives no entry
abbrev pub logged : ℕ → List Entry → Op → ℕ → List Entry
logged round es Nothing n = es
logged round es (Load a) n = es ++ record { round = round; op = Load a; answer = n } ∷ []
logged round es (Store a x) n = es ++ record { round = round; op = Store a x; answer = n } ∷ []
logged round es (Add a x) n = es ++ record { round = round; op = Add a x; answer = n } ∷ []

-- The list of entries as a port: it gains the operation with its answer. A store and no operation answer 0.
abbrev pub Logs : ℕ → List Entry → Op → ℕ → List Entry → Type 0
Logs round before op n after = (after ≡ logged round before op n) × IsPlain op n

-- the classes of a processor's events, in order
abbrev pub classes_of : ℕ → List Event → List ℕ
classes_of p [] = []
classes_of p (e ∷ events) = if e.processor == p then e.class ∷ classes_of p events else classes_of p events
