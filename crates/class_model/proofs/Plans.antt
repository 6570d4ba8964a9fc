-- What a plan to spawn is where it takes effect on the process alone.
use Rattle.std.proofs.Common.{ℕ, ◌≡◌, Bool, true, false, refl, sym, subst, Option, Some, None}
use Rattle.std.specs.Prelude.{if◌then◌else◌, slice_index_or}
use Rattle.policy.specs.declared.rule.Rule.TheVariants.{NoScript}
use Rattle.script_lang.specs.declared.instr.Instr.{Instr}
use Rattle.script_lang.specs.declared.instr.Instr.TheVariants as I
use Rattle.class_model.specs.Config.{Shared, Script, flows}
use Rattle.class_model.specs.Process.{Process, reg, refused}
use Rattle.class_model.specs.Plan.{Own, Begin, plan_of, spawned}
use Rattle.class_model.specs.Next.{is_own}

by_flow : (b : Bool) (child refusal : Process) → is_own (if b then Begin child else Own refusal) ≡ true → (if b then Begin child else Own refusal) ≡ Own refusal
by_flow true child refusal h = cc
by_flow false child refusal h = refl

spawned_own : (s : Shared) (d : ℕ) (p : Process) (n start : ℕ) (o : Option Script) →
    is_own (spawned s d p n start o) ≡ true → spawned s d p n start o ≡ Own (refused p NoScript)
spawned_own s d p n start None h = refl
spawned_own s d p n start (Some x) h = by_flow (flows s x.class d) _ _ h

-- a spawn that begins no process is refused
pub spawn_own : (s : Shared) (d : ℕ) (p : Process) (i : Instr) (n b : ℕ) → i ≡ I.Spawn n b →
    is_own (plan_of s d p i) ≡ true → plan_of s d p i ≡ Own (refused p NoScript)
spawn_own s d p i n b e h =
    let P : Instr → Type 0 = λ j. is_own (plan_of s d p j) ≡ true → plan_of s d p j ≡ Own (refused p NoScript) in
    subst P (sym e) (spawned_own s d p n (reg p b) (slice_index_or s.scripts n None)) h
