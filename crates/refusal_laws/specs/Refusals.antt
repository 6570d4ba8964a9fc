-- What the law of refusals says: an instruction is refused exactly where a test of its row holds, by the first that does.
use Rattle.std.specs.Prelude.{ℕ, ◌+◌, ◌<◌, ◌≡◌, ◌⊎◌, Bool, true, false, List, Some, slice_get}
use Rattle.policy.specs.Outcome.{Refused}
use Rattle.policy.specs.Verdict.{◌⇒◌}
use Rattle.policy.specs.declared.rule.Rule.{Rule}
use Rattle.script_lang.specs.declared.instr.Instr.{Instr}
use Rattle.script_lang.specs.declared.instr.Instr.TheVariants as I
use Rattle.class_model.specs.Process.{Process, ProcName, reg, refused}
use Rattle.class_model.specs.Plan.{Request}
use Rattle.class_model.specs.State.{State, Part, process_at, with_part, with_process}
use Rattle.class_model.specs.Step.{Deed, deed, step}
use Rattle.refusal_laws.specs.Rows.{next_instr, row}

-- the test at some place holds, and none before it
abbrev pub IsFirst : List (Bool × Rule) → Rule → Type 0
IsFirst tests rule = (i : ℕ) × (slice_get tests i ≡ Some (true ⇒ rule)) × ((j : ℕ) (t : Bool × Rule) → j < i → slice_get tests j ≡ Some t → t.0 ≡ false)

-- no test holds
abbrev pub NoneHolds : List (Bool × Rule) → Type 0
NoneHolds tests = (j : ℕ) (t : Bool × Rule) → slice_get tests j ≡ Some t → t.0 ≡ false

-- a refused out still uses up a place of the console
abbrev pub used_up : Instr → Part → Part
used_up (I.Out r) part = record part { used = part.used + 1 }
used_up _ part = part

-- What an instruction that isn't refused leaves of its process: code 0 in r0, where it has a reply. A return leaves r0 and r1 as they
-- are, and a look of a read or await that isn't the last one, or saw too little, leaves all but the look.
abbrev pub IsGranted : Process → Instr → Process → Type 0
IsGranted p I.Halt after = Unit {0}
IsGranted p (I.Set r n) after = Unit {0}
IsGranted p (I.Copy r b) after = Unit {0}
IsGranted p (I.Add r b) after = Unit {0}
IsGranted p (I.Sub r b) after = Unit {0}
IsGranted p (I.Jump to) after = Unit {0}
IsGranted p (I.JumpZ r to) after = Unit {0}
IsGranted p (I.JumpL r b to) after = Unit {0}
IsGranted p (I.Get r b) after = Unit {0}
IsGranted p (I.Put r b) after = Unit {0}
IsGranted p I.Ret after = after.regs ≡ p.regs
IsGranted p (I.Read r) after = (reg after 0 ≡ 0) ⊎ (after ≡ record p { look = after.look })
IsGranted p (I.Await r b) after = (reg after 0 ≡ 0) ⊎ (after ≡ record p { look = after.look })
IsGranted p _ after = reg after 0 ≡ 0

-- The step of a live process p. Where a test of its row holds, the first of them is the answer: r0 and r1 tell the rule, the process
-- goes on, and nothing else changes. Where none holds it isn't refused. And where its effect was a refusal, that rule is the first.
pub record IsAnswered (a : State) (n : ProcName) (p : Process) : Type 0 where
  pub refused : (rule : Rule) → IsFirst (row a n p) rule →
      step a n ≡ with_part a n.class (with_process (used_up (next_instr a p) (a.part n.class)) n.processor n.slot (refused p rule))
  pub granted : NoneHolds (row a n p) → (after : Process) → process_at (step a n) n ≡ Some after → IsGranted p (next_instr a p) after
  pub shown : (x : Deed) (q : Request) (rule : Rule) → deed a n ≡ Some x → x.asked ≡ Some (q, Refused rule) → IsFirst (row a n p) rule

-- so is each step, of any state
abbrev pub RefusalsAreFirst : Type 0
RefusalsAreFirst = (a : State) (n : ProcName) (p : Process) → process_at a n ≡ Some p → p.live ≡ true → IsAnswered a n p
