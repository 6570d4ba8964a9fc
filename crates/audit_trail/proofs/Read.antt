-- What is read of a state after a step: the process that made it, and its part.
use Rattle.std.proofs.Common.{ℕ, zero, suc, ◌<◌, ◌≡◌, Bool, true, false, List, [], ◌∷◌, length, refl, ap, ◌∙◌, Option, Some, None, arith}
use Rattle.std.specs.Prelude.{if◌then◌else◌, slice_index_or, slice_set}
use Rattle.std.proofs.lemmas.Bool.{eq-eqb}
use Rattle.std.proofs.lemmas.List.{get_or-set_same}
use Rattle.lists.specs.Lists.{put}
use Rattle.class_model.specs.Plan.{plan}
use Rattle.class_model.specs.Process.{Process, ProcName}
use Rattle.class_model.specs.State.{State, Part, process_at, with_part, with_process}
use Rattle.class_model.specs.Step.{Deed, deed, deed_of, deed_by, done, step}

pub put_here : {X : Type 0} (f : ℕ → X) (k : ℕ) (v : X) → put f k v k ≡ v
put_here f k v = rw (eq-eqb k k refl) refl

-- a slot with a process is one of the list
slot_within : (slots : List (Option Process)) (i : ℕ) (p : Process) → slice_index_or slots i None ≡ Some p → i < length slots
slot_within [] i p h = cc
slot_within (x ∷ xs) zero p h = omega arith
slot_within (x ∷ xs) (suc i) p h = let n : i < length xs = slot_within xs i p h in omega (arith, n)

-- the process of a part that is put into a state
pub part_read : (a : State) (n : ProcName) (X : Part) → process_at (with_part a n.class X) n ≡ slice_index_or (X.slots n.processor) n.slot None
part_read a n X = ap (λ (z : Part). slice_index_or (z.slots n.processor) n.slot None) (put_here a.part n.class X)

-- the process that is put where one was
pub process_read : (X : Part) (n : ProcName) (p q : Process) → slice_index_or (X.slots n.processor) n.slot None ≡ Some p →
    slice_index_or ((with_process X n.processor n.slot q).slots n.processor) n.slot None ≡ Some q
process_read X n p q there =
    ap (λ (l : List (Option Process)). slice_index_or l n.slot None) (put_here X.slots n.processor (slice_set (X.slots n.processor) n.slot (Some q)))
    ∙ get_or-set_same (X.slots n.processor) n.slot (Some q) None (slot_within (X.slots n.processor) n.slot p there)

-- the deed of a live process
pub deed_is : (a : State) (n : ProcName) (p : Process) → process_at a n ≡ Some p → p.live ≡ true → deed a n ≡ Some (deed_of a n p (plan a.shared n.class p))
deed_is a n p there live = ap (deed_by a n) there ∙ ap (λ (t : Bool). if t then Some (deed_of a n p (plan a.shared n.class p)) else None) live

-- nobody who is absent or ended has one
pub no_deed : (a : State) (n : ProcName) (p : Process) → process_at a n ≡ Some p → p.live ≡ false → deed a n ≡ None
no_deed a n p there live = ap (deed_by a n) there ∙ ap (λ (t : Bool). if t then Some (deed_of a n p (plan a.shared n.class p)) else None) live

-- the state after a deed
pub step_is : (a : State) (n : ProcName) (x : Deed) → deed a n ≡ Some x → step a n ≡ with_part a n.class x.part
step_is a n x e = ap (done a n.class) e
