-- The opening state without records and processes.
use Rattle.std.proofs.Common.{ℕ, Bool, true, false, zero, suc, ◌≡◌, ◌<◌, ◌+◌, ◌*◌, List, [], get_or, set, replicate, refl, sym, ◌∙◌, ap, subst, arith, Option, Some, None, length-set}
use Rattle.std.specs.Prelude.{if◌then◌else◌, ◌==◌}
use Rattle.std.proofs.lemmas.Bool.{eqb-true}
use Rattle.std.proofs.lemmas.List.{length-replicate}
use Rattle.words_layout.specs.declared.coding.Alias.{Alias}
use Rattle.class_model.specs.Config.{Config, Shared, shared_of, classes}
use Rattle.class_model.specs.Process.{Process}
use Rattle.class_model.specs.Run.{opening, opening_part}
use Rattle.class_model.specs.State.{blank_cell, entry_at}
use Rattle.whole_machine.specs.Parts.{ListedPart, no_part, part_in, slots_in}
use Rattle.whole_machine.specs.Fits.{PartFits, PartsFit, part_of_class}
use Rattle.whole_machine.specs.Steps.{standing, slot_in}
use Rattle.whole_machine.proofs.Stepped.{blank_slot, no_slot}

abbrev first : ListedPart
first = record no_part { next_serial = 1 }

abbrev first_parts : ℕ → List ListedPart
first_parts n = set (replicate n no_part) 0 first

rest : (m i : ℕ) → get_or (replicate m no_part) i no_part ≡ no_part
rest zero i = refl
rest (suc m) zero = refl
rest (suc m) (suc i) = rest m i

blank_entry : (m e : ℕ) → get_or (replicate m (let o : Option Alias = None in o)) e None ≡ None
blank_entry zero e = refl
blank_entry (suc m) zero = refl
blank_entry (suc m) (suc e) = blank_entry m e

no_entry : (e : ℕ) (a : Alias) → entry_at blank_cell e ≡ Some a → ⊥
no_entry e a h = let none : entry_at blank_cell e ≡ None = blank_entry 8 e in cc

no_process : (pr sl : ℕ) (p : Process) → slot_in no_part pr sl ≡ Some p → ⊥
no_process pr sl p h = let none = no_slot pr sl in cc

blank_fits : (n : ℕ) → PartFits n (part_in no_part)
blank_fits n = record { entries = λ u e a h. absurd (no_entry e a h); processes = λ pr sl p h. absurd (no_process pr sl p h) }

first_one_fits : (n : ℕ) → PartFits n (part_in first)
first_one_fits n = record { entries = λ u e a h. absurd (no_entry e a h); processes = λ pr sl p h. absurd (no_process pr sl p h) }

pub first_fits : (s : Shared) (n : ℕ) → n ≡ classes s → PartsFit s (first_parts n)
first_fits s n e = record { one_each = length-set (replicate n no_part) 0 first ∙ length-replicate n no_part ∙ e; fits = λ c. at n c }
  where
    at : (n c : ℕ) → PartFits (classes s) (part_of_class (first_parts n) c)
    at zero c = blank_fits (classes s)
    at (suc m) zero = first_one_fits (classes s)
    at (suc m) (suc c) = subst (λ (q : ListedPart). PartFits (classes s) (part_in q)) (sym (rest m c)) (blank_fits (classes s))

slots_blank : (p : ℕ) → slots_in no_part.bank p ≡ replicate 4 None
slots_blank p =
    let a = blank_slot 16 (4 * p + 0) in
    let b = blank_slot 16 (4 * p + 1) in
    let c = blank_slot 16 (4 * p + 2) in
    let d = blank_slot 16 (4 * p + 3) in
    cc

-- a configuration with no processes and no records
abbrev bare : Config → Config
bare k = record k { processes = []; records = [] }

-- the first serial of another class than class 0 is 0
serial_zero : (c : ℕ) → ◌≡◌ {A = ℕ} 0 (if suc c == 0 then 1 else 0)
serial_zero c = by_test (suc c == 0) refl
  where
    by_test : (t : Bool) → (suc c == 0) ≡ t → ◌≡◌ {A = ℕ} 0 (if t then 1 else 0)
    by_test true h = let z : suc c ≡ 0 = eqb-true (suc c) 0 h in absurd (omega arith)
    by_test false h = refl

part_is : (k : Config) (n c : ℕ) → 0 < n → part_of_class (first_parts n) c ≡ opening_part (bare k) c
part_is k zero c some = absurd (omega arith)
part_is k (suc m) zero some = ap (λ (f : ℕ → List (Option Process)). record (part_in first) { slots = f }) (λ i p. (slots_blank p) i)
part_is k (suc m) (suc c) some =
    ap part_in (rest m c) ∙ ap (λ (f : ℕ → List (Option Process)). record (part_in no_part) { slots = f }) (λ i p. (slots_blank p) i) ∙
    ap (λ (n : ℕ). record (part_in no_part) { slots = λ p. replicate 4 None; next_serial = n }) (serial_zero c)

pub opening_is : (s : Shared) (n : ℕ) (k : Config) → 0 < n → shared_of k ≡ s → k.processes ≡ [] → k.records ≡ [] → standing s (first_parts n) ≡ opening k
opening_is s n k some e ep er =
    (λ j. record { shared = (sym e) j; part = λ c. (part_is k n c some) j }) ∙ ap opening (sym same)
  where
    same : k ≡ bare k
    same = λ j. record k { processes = ep j; records = er j }
