-- A trail with one step more.
use Rattle.std.proofs.Common.{ℕ, ◌+◌, ◌<◌, get_or, List, [], ◌∷◌, ◌++◌, ◌≡◌, refl, sym, ap, ◌∙◌, Option, Some, None, append_assoc, append-nil, take, drop, length, take-append-drop}
use Rattle.std.specs.Prelude.{Result, Ok, Err, OnErr}
use Rattle.std.specs.List.{flat_map}
use Rattle.std.proofs.lemmas.List.{take_more}
use Rattle.class_model.specs.Process.{ProcName}
use Rattle.class_model.specs.Run.{Happened, happened, history, steps}
use Rattle.class_model.specs.State.{State}
use Rattle.class_model.specs.Step.{Deed, deed, step}
use Rattle.audit_trail.specs.Trail.{effect_entries, trail, IsAfterPrefix}
use Rattle.audit_trail.specs.Dues.{step_entries}
use Rattle.audit_trail.specs.declared.entry.Entry.{Entry}

pub steps_more : (a : State) (names : List ProcName) (n : ProcName) → steps a (names ++ n ∷ []) ≡ step (steps a names) n
steps_more a [] n = refl
steps_more a (m ∷ names) n = steps_more (step a m) names n

-- the entries of a first step stand in front
first_entries : (a : State) (n : ProcName) (o : Option Deed) (rest : List Happened) → flat_map effect_entries (happened a n o rest) ≡ flat_map effect_entries (happened a n o []) ++ flat_map effect_entries rest
first_entries a n None rest = refl
first_entries a n (Some x) rest =
    let h : Happened = record { who = n; before = a; deed = x } in ap (λ (xs : List Entry). xs ++ flat_map effect_entries rest) (sym (append-nil (effect_entries h)))

pub trail_more : (a : State) (names : List ProcName) (n : ProcName) → trail a (names ++ n ∷ []) ≡ trail a names ++ step_entries (steps a names) n
trail_more a [] n = refl
trail_more a (m ∷ names) n =
    first_entries a m (deed a m) (history (step a m) (names ++ n ∷ []))
    ∙ ap (λ (xs : List Entry). step_entries a m ++ xs) (trail_more (step a m) names n)
    ∙ sym (ap (λ (xs : List Entry). xs ++ step_entries (steps (step a m) names) n) (first_entries a m (deed a m) (history (step a m) names))
    ∙ append_assoc (step_entries a m) (trail (step a m) names) (step_entries (steps (step a m) names) n))

-- a step more, of the name at a place of the list
pub one_more : (a b : State) (names : List ProcName) (i : ℕ) (n : ProcName) → i < length names → n ≡ get_or names i n → b ≡ steps a (take i names) →
    (step b n ≡ steps a (take (i + 1) names)) × (trail a (take i names) ++ step_entries b n ≡ trail a (take (i + 1) names))
one_more a b names i n lt is e =
    let more : take (i + 1) names ≡ take i names ++ n ∷ [] = take_more names i n lt ∙ ap (λ (m : ProcName). take i names ++ m ∷ []) (sym is) in (
      ap (λ (b : State). step b n) e ∙ sym (steps_more a (take i names) n) ∙ ap (steps a) (sym more),
      ap (λ (b : State). trail a (take i names) ++ step_entries b n) e ∙ sym (trail_more a (take i names) n) ∙ ap (trail a) (sym more),
    )

-- a state after the steps of the names up to a place
pub after_some : (a b : State) (names : List ProcName) (i : ℕ) → b ≡ steps a (take i names) → IsAfterPrefix a names b
after_some a b names i e = record { front = take i names; rest = drop i names; all = sym (take-append-drop i names); state = e }

-- what holds in any case holds after an error
pub err_holds : {X F P : Type 0} (r : Result X F) → P → OnErr r P
err_holds (Ok x) h = tt
err_holds (Err e) h = h
