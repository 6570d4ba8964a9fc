-- Places of a script: where its instructions go on to.
use Rattle.std.proofs.Common.{ℕ, zero, suc, ◌+◌, ◌-◌, ◌<◌, ◌≤◌, Bool, true, false, ◌&&◌, List, [], ◌∷◌, ◌≡◌, refl, sym, ap, ◌∙◌, Option, Some, None, length, arith}
use Rattle.std.specs.Prelude.{slice_index_or, slice_get, nat_le, nat_lt}
use Rattle.std.specs.List.{list_all}
use Rattle.std.specs.Option.{option_map_or}
use Rattle.std.proofs.lemmas.Bool.{and_parts, ltb-true, leb-true, both_ways}
use Rattle.script_lang.specs.Program.{program_ok, target_ok, is_last}
use Rattle.script_lang.specs.declared.instr.Instr.{Instr}
use Rattle.script_lang.specs.declared.instr.Instr.TheVariants.{Halt}
use Rattle.class_model.specs.Config.{Shared, Script, instr_at, program_of}
use Rattle.class_model.specs.Shared.{UsesScript}
use Rattle.process.specs.Fits.{IsSound, PlaceFits}

-- a test that each element passes, and what stands for those past the end
all_pass : {X : Type 0} (test : X → Bool) (xs : List X) (i : ℕ) (d : X) → list_all test xs ≡ true → test d ≡ true → test (slice_index_or xs i d) ≡ true
all_pass test [] i d h e = e
all_pass test (x ∷ xs) zero d h e = (and_parts (test x) (list_all test xs) h).0
all_pass test (x ∷ xs) (suc i) d h e = all_pass test xs i d (and_parts (test x) (list_all test xs) h).1 e

-- an element that passes a test, read with one that stands for those past the end
passes_there : {X : Type 0} (test : X → Bool) (xs : List X) (i : ℕ) (d : X) → option_map_or test (slice_get xs i) false ≡ true → test (slice_index_or xs i d) ≡ true
passes_there test [] i d h = cc
passes_there test (x ∷ xs) zero d h = h
passes_there test (x ∷ xs) (suc i) d h = passes_there test xs i d h

-- what program_ok says
pub record Programmed (program : List Instr) : Type 0 where
  pub some : 1 ≤ length program
  pub targets : (i : ℕ) → target_ok (length program) (slice_index_or program i Halt) ≡ true
  pub last : is_last (slice_index_or program (length program - 1) Halt) ≡ true

pub programmed : (program : List Instr) → program_ok program ≡ true → Programmed program
programmed program h =
    let front = and_parts _ (option_map_or is_last (slice_get program (length program - 1)) false) h in
    let both = and_parts (nat_le 1 (length program) && nat_le (length program) 256) (list_all (λ i. target_ok (length program) i) program) front.0 in
    let sizes = and_parts (nat_le 1 (length program)) (nat_le (length program) 256) both.0 in
    record {
      some = leb-true 1 (length program) sizes.0;
      targets = λ i. all_pass (λ j. target_ok (length program) j) program i Halt both.1 refl;
      last = passes_there is_last program (length program - 1) Halt front.1;
    }

module _ (s : Shared) (good : IsSound s) where
  -- the program of a script that is there
  pub program_there : (n : ℕ) (x : Script) → slice_index_or s.scripts n None ≡ Some x → Programmed x.program
  program_there n x e = programmed x.program (good.shared.script n x e).program

  -- the instruction at a place of it
  pub instr_there : (n place : ℕ) (x : Script) → slice_index_or s.scripts n None ≡ Some x → instr_at s n place ≡ slice_index_or x.program place Halt
  instr_there n place x e = ap (λ (o : Option Script). slice_index_or (program_of o) place Halt) e

  -- the first place of a script
  pub first_fits : (d n : ℕ) → UsesScript s d n → PlaceFits s d n 0
  first_fits d n h = let p = program_there n h.script h.there in
      record { script = h.script; there = h.there; flows_up = h.flows_up; inside = omega (arith, p.some) }

  module _ (d n place : ℕ) (f : PlaceFits s d n place) where
    -- behind an instruction that can't stand last is another place
    pub next_fits : is_last (instr_at s n place) ≡ false → PlaceFits s d n (place + 1)
    next_fits h = record { script = f.script; there = f.there; flows_up = f.flows_up; inside = within }
      where
        program : List Instr
        program = f.script.program

        not_last : place ≡ length program - 1 → ⊥
        not_last e =
            let here : is_last (slice_index_or program place Halt) ≡ false = ap is_last (sym (instr_there n place f.script f.there)) ∙ h in
            both_ways (is_last (slice_index_or program place Halt)) here (ap (λ k. is_last (slice_index_or program k Halt)) e ∙ (program_there n f.script f.there).last)

        within : place + 1 < length program
        within = omega (arith, f.inside, not_last)

    -- the target of a jump is a place
    pub target_fits : (to : ℕ) → nat_lt to (length f.script.program) ≡ true → PlaceFits s d n to
    target_fits to h = record { script = f.script; there = f.there; flows_up = f.flows_up; inside = ltb-true to (length f.script.program) h }

    -- the targets of the instruction at the place are in range
    pub target_there : target_ok (length f.script.program) (instr_at s n place) ≡ true
    target_there = ap (target_ok (length f.script.program)) (instr_there n place f.script f.there) ∙ (program_there n f.script f.there).targets place
