-- The classes are a table.
use Rattle.std.proofs.Common.{◌≡◌, ℕ, ◌≤◌, false, List, [], ◌∷◌, ◌++◌, refl, arith, lit<, lit≤}
use Rattle.labels.specs.Label.{ClassEntry}
use Rattle.labels.specs.Order.{IsLabel}
use Rattle.labels.specs.Table.{IsTable}
use Rattle.config_text.specs.Rules.{stood_before, is_low}
use Rattle.config_text.proofs.TableFacts.{IsSoundTable, sound_push}
use Rattle.workload.specs.Large.{large_class, large_table}

labelled : (k : ℕ) → k ≤ 15 → IsLabel (large_class k).label
labelled k low = record { secrecy_level = low; secrecy_cats = lit< tt; integrity_level = lit≤ tt; integrity_cats = lit< tt }

none : IsSoundTable []
none = record { sound = λ i lt. absurd (omega (arith, lt)); labels = λ i lt. absurd (omega (arith, lt)) }

-- one class more
more : (t : List ClassEntry) (k : ℕ) → IsSoundTable t → k ≤ 15 → stood_before t (large_class k).name (large_class k).label ≡ false → is_low t (large_class k).label ≡ false → IsSoundTable (t ++ large_class k ∷ [])
more t k s low new high = sound_push t (large_class k).name (large_class k).label s (labelled k low) new high

sound_table : IsSoundTable large_table
sound_table =
    let one = more [] 0 none (lit≤ tt) refl refl in
    let two = more _ 1 one (lit≤ tt) refl refl in
    let three = more _ 2 two (lit≤ tt) refl refl in
    let four = more _ 3 three (lit≤ tt) refl refl in
    let five = more _ 4 four (lit≤ tt) refl refl in
    let six = more _ 5 five (lit≤ tt) refl refl in
    let seven = more _ 6 six (lit≤ tt) refl refl in
    more _ 7 seven (lit≤ tt) refl refl

pub is_table : IsTable large_table
is_table = record { some = lit< tt; few = lit≤ tt; sound = sound_table.sound; labels = sound_table.labels }
