-- When an instruction passes its private tests.
use Rattle.std.proofs.Common.{ℕ, ◌+◌, ◌≡◌, ◌∙◌, Bool, true, false, refl, sym, ap, subst, arith, List, ◌∷◌, length, Option, Some, None}
use Rattle.std.specs.Prelude.{not, ◌&&◌, if◌then◌else◌, nat_lt, nat_le, slice_index_or, is_some, is_ok, Result, Ok, Err}
use Rattle.std.proofs.lemmas.Bool.{le-ltb, lt-ltb, ltb-true, ltb-false, le-leb, lt-leb}
use Rattle.policy.specs.declared.rule.Rule.{Rule}
use Rattle.policy.specs.declared.rule.Rule.TheVariants.{NoScript, StackFull}
use Rattle.script_lang.specs.declared.instr.Instr.{Instr}
use Rattle.script_lang.specs.declared.instr.Instr.TheVariants as I
use Rattle.class_model.specs.Config.{Shared, Script, Gate, flows}
use Rattle.class_model.specs.Process.{Process, new_process, reg, refused, answered}
use Rattle.class_model.specs.Plan.{Own, Begin, plan_of, called, spawned}
use Rattle.class_model.specs.Next.{asks, plan_by}
use Rattle.class_model.specs.Passing.{passes_by, passes_alone}
use Rattle.class_model.specs.declared.request.Request.{Request as Asked}

-- a list isn't shorter than itself, but than itself with one item more
pub as_long : {X : Type 0} (xs : List X) → nat_lt (length xs) (length xs) ≡ false
as_long xs = le-ltb (length xs) (length xs) (omega arith)

pub longer : {X : Type 0} (x : X) (xs : List X) → nat_lt (length xs) (length (x ∷ xs)) ≡ true
longer x xs = lt-ltb (length xs) (length (x ∷ xs)) (omega arith)

-- a call is pushed where the ring may call and the stack isn't full
pub entered : (p : Process) (g : Gate) (o : Option ℕ) → (is_some o && nat_lt (length p.stack) 8) ≡ nat_lt (length p.stack) (length (called p g o).stack)
entered p g None = sym (as_long p.stack)
entered p g (Some ring) = by_size (nat_lt (length p.stack) 8) refl
  where
    inside : Process
    inside = record (answered p ring) { script = g.script; place = 0; ring = ring; stack = record { script = p.script; place = p.place + 1; ring = p.ring } ∷ p.stack }

    by_size : (b : Bool) → nat_lt (length p.stack) 8 ≡ b → b ≡ nat_lt (length p.stack) (length (if nat_le 8 (length p.stack) then refused p StackFull else inside).stack)
    by_size true h = rw (lt-leb 8 (length p.stack) (ltb-true (length p.stack) 8 h)) (sym (longer (record { script = p.script; place = p.place + 1; ring = p.ring }) p.stack))
    by_size false h = rw (le-leb 8 (length p.stack) (ltb-false (length p.stack) 8 h)) (sym (as_long p.stack))

-- what asks the state passes, unless it is refused
pub asked : (free : Bool) (p : Process) (i : Instr) (r : Result Asked Rule) → asks i ≡ true →
    (ok : Bool) → ok ≡ is_ok r → ok ≡ passes_by free p i (plan_by p r)
asked free p i (Ok request) h ok e = e
asked free p i (Err rule) h ok e = e ∙ sym (ap (λ t. not t && passes_alone p (refused p rule) i) h)

-- a spawn doesn't pass where no slot is free
pub no_slot : (s : Shared) (d : ℕ) (p : Process) (n b : ℕ) (o : Option Script) → false ≡ passes_by false p (I.Spawn n b) (spawned s d p n (reg p b) o)
no_slot s d p n b None = refl
no_slot s d p n b (Some x) = by_test (flows s x.class d)
  where
    by_test : (t : Bool) → false ≡ passes_by false p (I.Spawn n b) (if t then Begin (new_process d n p.ring (reg p b)) else Own (refused p NoScript))
    by_test true = refl
    by_test false = refl

pub spawn_without_slot : (s : Shared) (d : ℕ) (p : Process) (i : Instr) (n b : ℕ) (free : Bool) → i ≡ I.Spawn n b → free ≡ false → free ≡ passes_by free p i (plan_of s d p i)
spawn_without_slot s d p i n b free e none =
    subst (λ t. t ≡ passes_by t p i (plan_of s d p i)) (sym none)
    (subst (λ (j : Instr). false ≡ passes_by false p j (plan_of s d p j)) (sym e) (no_slot s d p n b (slice_index_or s.scripts n None)))
