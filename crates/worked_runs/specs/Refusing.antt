-- A process that is refused each of its instructions but one, several of them by more than one test at once.
use Rattle.std.specs.Prelude.{ℕ, Bool, List, [], ◌∷◌, map, replicate, Option, Some, None}
use Rattle.std.specs.Option.{option_map_or}
use Rattle.policy.specs.declared.rule.Rule.{Rule}
use Rattle.script_lang.specs.declared.instr.Instr.TheVariants as I
use Rattle.class_model.specs.Config.{Config}
use Rattle.class_model.specs.Process.{Process, ProcName, reg}
use Rattle.class_model.specs.State.{State, process_at}
use Rattle.class_model.specs.Run.{run}
use Rattle.class_model.specs.Cases.{alone}
use Rattle.refusal_laws.specs.Rows.{row}
use Rattle.worked_runs.specs.Cases.{named}

-- a fetch of no words off the root, which isn't in; a create of size 0; a return and a spawn of what isn't there; a delete from entry 9;
-- and a makeknown with mode 0 of an empty entry
unfoldable pub refused_often : Config
refused_often = alone (I.Fetch 2 2 2 2 ∷ I.Create 2 2 2 2 2 ∷ I.Ret ∷ I.Spawn 5 2 ∷ I.Set 3 9 ∷ I.Delete 2 3 ∷ I.MakeKnown 2 2 2 ∷ I.Halt ∷ [])

-- the state after so many of its steps
abbrev pub after : ℕ → State
after n = run refused_often (replicate n (named 0 0 0))

-- which tests of the row of its next instruction hold
unfoldable pub tests_that_hold : ℕ → List Bool
tests_that_hold n = option_map_or (λ (p : Process). map (λ (t : Bool × Rule). t.0) (row (after n) (named 0 0 0) p)) (process_at (after n) (named 0 0 0)) []

-- the code in r0 after so many steps
unfoldable pub code_after : ℕ → ℕ
code_after n = option_map_or (λ (p : Process). reg p 0) (process_at (after n) (named 0 0 0)) 0
