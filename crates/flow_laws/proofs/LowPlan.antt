-- A process of a class at or below c plans the same where only the scripts and gates at or below c are there.
use Rattle.std.proofs.Common.{ℕ, Bool, true, false, ◌≡◌, refl, ap, ◌∙◌, Option, Some, None}
use Rattle.std.proofs.Math.ListN.{get_or-map}
use Rattle.std.proofs.lemmas.Bool.{both_ways}
use Rattle.std.specs.Prelude.{slice_index_or, if◌then◌else◌}
use Rattle.labels.proofs.Order.{flows_trans}
use Rattle.script_lang.specs.declared.instr.Instr.{Instr}
use Rattle.script_lang.specs.declared.instr.Instr.TheVariants as I
use Rattle.class_model.specs.Config.{Shared, Script, Gate, flows, low_shared, kept_below, instr_at, program_of}
use Rattle.class_model.specs.Process.{Process, reg}
use Rattle.class_model.specs.Shared.{UsesScript}
use Rattle.class_model.specs.Plan.{Own, plan, plan_of, call, spawned}

module _ (s : Shared) (c d : ℕ) (d_c : flows s d c ≡ true) where
  abbrev pub low_test : ℕ → Bool
  low_test x = flows s x c

  abbrev pub low_script : Option Script → Option Script
  low_script x = kept_below (λ (y : Script). y.class) (λ x. flows s x c) x

  abbrev pub low_gate : Option Gate → Option Gate
  low_gate x = kept_below (λ (y : Gate). y.class) (λ x. flows s x c) x

  pub script_at_low : (n : ℕ) → slice_index_or (low_shared c s).scripts n None ≡ low_script (slice_index_or s.scripts n None)
  script_at_low n = get_or-map low_script s.scripts n None

  pub gate_at_low : (n : ℕ) → slice_index_or (low_shared c s).gates n None ≡ low_gate (slice_index_or s.gates n None)
  gate_at_low n = get_or-map low_gate s.gates n None

  -- what isn't at or below c isn't at or below d
  above : (x : ℕ) → flows s x c ≡ false → flows s x d ≡ false
  above x e = elim (flows s x d) as (λ b. flows s x d ≡ b → b ≡ false) [
    | true ↦ λ h. absurd (both_ways _ e (flows_trans s.table x d c h d_c))
    | false ↦ λ h. refl
  ] refl

  pub call_low : (p : Process) (x : Option Gate) → call (low_shared c s) d p (low_gate x) ≡ call s d p x
  call_low p None = refl
  call_low p (Some g) = elim (flows s g.class c) as (λ b. flows s g.class c ≡ b → call (low_shared c s) d p (if b then Some g else None) ≡ call s d p (Some g)) [
    | true ↦ λ e. refl
    | false ↦ λ e. rw (above g.class e) refl
  ] refl

  pub spawned_low : (p : Process) (n start : ℕ) (x : Option Script) → spawned (low_shared c s) d p n start (low_script x) ≡ spawned s d p n start x
  spawned_low p n start None = refl
  spawned_low p n start (Some g) = elim (flows s g.class c) as (λ b. flows s g.class c ≡ b → spawned (low_shared c s) d p n start (if b then Some g else None) ≡ spawned s d p n start (Some g)) [
    | true ↦ λ e. refl
    | false ↦ λ e. rw (above g.class e) refl
  ] refl

  pub instr_at_low : (n place : ℕ) → UsesScript s d n → instr_at (low_shared c s) n place ≡ instr_at s n place
  instr_at_low n place h =
      ap (λ x. slice_index_or (program_of x) place I.Halt) (script_at_low n ∙ kept)
    where
      kept : low_script (slice_index_or s.scripts n None) ≡ slice_index_or s.scripts n None
      kept = rw h.there (rw (flows_trans s.table h.script.class d c h.flows_up d_c) refl)

  pub plan_of_low : (p : Process) (i : Instr) → plan_of (low_shared c s) d p i ≡ plan_of s d p i
  plan_of_low p I.Halt = refl
  plan_of_low p (I.Call g) = ap Own (ap (call (low_shared c s) d p) (gate_at_low g) ∙ call_low p (slice_index_or s.gates g None))
  plan_of_low p (I.Spawn n b) =
      ap (spawned (low_shared c s) d p n (reg p b)) (script_at_low n) ∙ spawned_low p n (reg p b) (slice_index_or s.scripts n None)
  plan_of_low p _ = refl

  pub plan_low : (p : Process) → UsesScript s d p.script → plan (low_shared c s) d p ≡ plan s d p
  plan_low p h = ap (plan_of (low_shared c s) d p) (instr_at_low p.script p.place h) ∙ plan_of_low p (instr_at s p.script p.place)
