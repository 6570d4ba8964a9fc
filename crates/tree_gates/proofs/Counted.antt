-- The operations of the bodies of makeknown, create and delete, counted.
use Rattle.std.proofs.Common.{ℕ, zero, suc, ◌+◌, ◌<◌, ◌≤◌, ◌≡◌, refl, ap, sym, ◌∙◌, arith, Option, Some, None}
use Rattle.std.specs.Prelude.{◌==◌, nat_le, false}
use Rattle.std.proofs.lemmas.Bool.{eq-eqb, ne_eqb, lt-leb}
use Rattle.rings.specs.Brackets.{Brackets}
use Rattle.words_layout.specs.Segments.{seg}
use Rattle.words_layout.specs.Words.{Words, GuardedWords, NextSerial, OfClass, HomeOf, EntryOf, FrameTenant, PageTenant}
use Rattle.words_layout.specs.Coding.{home_of, entry_of, pack_home}
use Rattle.words_layout.specs.declared.segment.SegId.{SegId}
use Rattle.words_layout.specs.declared.coding.Home.{Home}
use Rattle.words_layout.specs.declared.coding.Home.TheVariants as H
use Rattle.words_layout.specs.declared.coding.Alias.{Alias}
use Rattle.policy.specs.Outcome.{Outcome, Value}
use Rattle.turns.specs.Bodies.{Inner, Outer}
use Rattle.turns.specs.Doing.{ClassTurn}
use Rattle.turns.specs.Alone.{NoTurns, TakesSteps}
use Rattle.turns.proofs.ByItself.{inner_taken, outer_taken, look_by_itself, class_by_itself, steps_in_all}
use Rattle.tree_gates.specs.Tree.{make_known_body, create_home, create_entry, create_serial, create_body, check_entries, free_home, delete_child, delete_entry, delete_body}
use Rattle.tree_gates.specs.StepCounts.{MakeKnownSteps, CreateSteps, DeleteUpgradedSteps, tenants_of, DeleteOwnSteps}

pub make_known_steps : MakeKnownSteps
make_known_steps table d ring entry mode k w quiet = look_by_itself d k.class OfClass (make_known_body table d ring k entry mode) w quiet

-- the steps of a class's turn, from those of its body
class_steps : (d : ℕ) (body : Outer Outcome) (w : Words) (c steps : ℕ) → NoTurns w → outer_taken body w.guarded ≡ c → steps ≡ c + 4 → TakesSteps steps d (ClassTurn body) w
class_steps d body w c steps quiet counted is =
    steps_in_all d (ClassTurn body) w (suc (suc (suc (outer_taken body w.guarded)))) steps (omega (arith, counted, is)) (class_by_itself d body w quiet)

not_le : (n : ℕ) → n < 64 → nat_le 64 n ≡ false
not_le n low = lt-leb 64 n low

serial_counted : (u : SegId) (e class : ℕ) (b : Brackets) (size n : ℕ) (g : GuardedWords) → n < 64 → outer_taken (create_serial u e class b size n) g ≡ 2
serial_counted u e class b size n g low = let no : nat_le 64 n ≡ false = not_le n low in rw no refl

entry_counted : (u : SegId) (e class : ℕ) (b : Brackets) (size : ℕ) (entry : Option Alias) (g : GuardedWords) → entry ≡ None → g NextSerial < 64 →
    outer_taken (create_entry u e class b size entry) g ≡ 3
entry_counted u e class b size (Some a) g empty low = cc
entry_counted u e class b size None g empty low = ap (λ m. suc m) (serial_counted u e class b size (g NextSerial) g low)

home_counted : (u : SegId) (e class : ℕ) (b : Brackets) (size : ℕ) (home : Home) (g : GuardedWords) → (home ≡ H.Deleted → ⊥) → entry_of (g (EntryOf u e)) ≡ None → g NextSerial < 64 →
    outer_taken (create_home u e class b size home) g ≡ 4
home_counted u e class b size H.Never g there empty low = ap (λ m. suc m) (entry_counted u e class b size (entry_of (g (EntryOf u e))) g empty low)
home_counted u e class b size (H.Stored p s) g there empty low = ap (λ m. suc m) (entry_counted u e class b size (entry_of (g (EntryOf u e))) g empty low)
home_counted u e class b size (H.Resident f p s) g there empty low = ap (λ m. suc m) (entry_counted u e class b size (entry_of (g (EntryOf u e))) g empty low)
home_counted u e class b size H.Deleted g there empty low = absurd (there refl)

pub create_steps : CreateSteps
create_steps d u e class b size w quiet there empty low = class_steps d (create_body u e class b size) w 5 9 quiet
    (ap (λ m. suc m) (home_counted u e class b size (home_of (w.guarded (HomeOf u))) w.guarded there empty low)) refl

pub delete_upgraded_steps : DeleteUpgradedSteps
delete_upgraded_steps d u e a w quiet is other = class_steps d (delete_body d u e) w 2 6 quiet (rw (is, ne_eqb a.class d other) refl) refl

-- the entries of a child that has none
check_counted : (u : SegId) (n e : ℕ) (rest : Outer Outcome) (g : GuardedWords) (c : ℕ) → e + n ≤ 8 → ((i : ℕ) → i < 8 → entry_of (g (EntryOf u i)) ≡ None) → outer_taken rest g ≡ c →
    outer_taken (check_entries u e n rest) g ≡ n + c
check_counted u zero e rest g c room empty counted = let z : 0 + c ≡ c = omega arith in rw z counted
check_counted u (suc n) e rest g c room empty counted =
    let z : suc n + c ≡ suc (n + c) = omega arith in
    rw (empty e (omega (arith, room)), z) (ap (λ m. suc m) (check_counted u n (e + 1) rest g c (omega (arith, room)) empty counted))

-- what a child's turn stores behind its tenants
abbrev deleted_then : SegId → SegId → ℕ → Inner Outcome
deleted_then child u e = Inner.Store (HomeOf child) (pack_home H.Deleted) (Inner.Store (EntryOf u e) 0 (Inner.Shows (Value 0)))

-- the stores of a child's turn
child_counted : (child u : SegId) (e : ℕ) (home : Home) (g : GuardedWords) →
    inner_taken 1 (free_home home (deleted_then child u e)) g ≡ tenants_of home + 3
child_counted child u e H.Never g = refl
child_counted child u e (H.Stored p s) g = refl
child_counted child u e (H.Resident f None s) g = refl
child_counted child u e (H.Resident f (Some p) s) g = refl
child_counted child u e H.Deleted g = refl

pub delete_own_steps : DeleteOwnSteps
delete_own_steps d u e a w quiet is own empty =
    let child : SegId = seg d a.serial in
    let home : Home = home_of (w.guarded (HomeOf child)) in
    let turn : outer_taken (Outer.Enter child (delete_child child u e)) w.guarded ≡ 4 + (tenants_of home + 3) =
    (let z : 4 + (tenants_of home + 3) ≡ suc (suc (suc (suc (tenants_of home + 3)))) = omega arith in
    rw z (ap (λ m. suc (suc (suc (suc m)))) (child_counted child u e home w.guarded))) in
    let body : outer_taken (delete_body d u e) w.guarded ≡ suc (8 + (4 + (tenants_of home + 3))) =
    rw (is, eq-eqb a.class d own) (ap (λ m. suc m) (check_counted child 8 0 (Outer.Enter child (delete_child child u e)) w.guarded (4 + (tenants_of home + 3)) (omega arith) empty turn)) in
    class_steps d (delete_body d u e) w (suc (8 + (4 + (tenants_of home + 3)))) (20 + tenants_of home) quiet body (omega arith)
