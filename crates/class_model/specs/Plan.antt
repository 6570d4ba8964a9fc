-- What a process is about to do, by its private state alone: its next instruction with its private tests.
use Rattle.std.specs.Prelude.{ℕ, ◌+◌, ◌-◌, ◌%◌, ◌^◌, Bool, true, false, List, [], ◌∷◌, ◌==◌, if◌then◌else◌, nat_le, nat_lt, length, Option, Some, None, is_none, slice_index, slice_index_or, slice_set}
use Rattle.lists.specs.Lists.{part_of}
use Rattle.rings.specs.Brackets.{Brackets, call_ring}
use Rattle.policy.specs.Known.{Known}
use Rattle.policy.specs.Outcome.{Tally}
use Rattle.policy.specs.Private.{read_tests, make_known_tests, brackets_of, create_tests, delete_tests, swap_in_tests, swap_out_tests, fetch_tests, update_tests, advance_tests, ticket_tests}
use Rattle.policy.specs.Verdict.{first_broken}
use Rattle.policy.specs.declared.rule.Rule.{Rule}
use Rattle.policy.specs.declared.rule.Rule.TheVariants.{UnknownSegno, NoScript, RingCall, StackFull, StackEmpty}
use Rattle.script_lang.specs.declared.instr.Instr.{Instr}
use Rattle.script_lang.specs.declared.instr.Instr.TheVariants as I
use Rattle.class_model.specs.Config.{Shared, Script, Gate, flows, instr_at}
use Rattle.class_model.specs.Process.{Process, Return, new_process, reg, with_reg, known_at, usable_at, tally_of, free_known, refused, answered}

-- What an instruction that passed its private tests asks of the state. Read is the next look of a read or await: the sum
-- that is wanted, and how far it has come.
pub data Request : Type 0 where
  MakeKnown : Known → (entry mode : ℕ) → Request
  Create : Known → (entry class : ℕ) → Brackets → (size : ℕ) → Request
  Delete : Known → (entry : ℕ) → Request
  SwapIn : Known → Request
  SwapOut : Known → Request
  Fetch : Known → (offset count pad : ℕ) → Request
  Update : Known → (offset : ℕ) → (words : List ℕ) → Request
  Read : Known → (wanted : ℕ) → Tally → Request
  Advance : Known → Request
  Ticket : Known → Request
  Out : (value : ℕ) → Request

-- It takes effect on the process alone, begins a process where a slot is free, or asks the state.
pub data Plan : Type 0 where
  Own : Process → Plan
  Begin : (child : Process) → Plan
  Ask : Request → Plan

-- a refusal by the first test that holds, else the plan
abbrev pub tried : Process → Option Rule → Plan → Plan
tried p None plan = plan
tried p (Some rule) plan = Own (refused p rule)

-- likewise by a list of tests
abbrev pub tested : Process → List (Bool × Rule) → Plan → Plan
tested p tests plan = tried p (first_broken tests) plan

-- what is asked of a known segment, after these tests of it; UnknownSegno where it isn't known
abbrev pub of_known : Process → Option Known → (Known → List (Bool × Rule)) → (Known → Request) → Plan
of_known p None tests request = Own (refused p UnknownSegno)
of_known p (Some k) tests request = tested p (tests k) (Ask (request k))

-- a jump, where the test holds
abbrev pub jumped : Process → Bool → ℕ → Process
jumped p test to = record p { place = if test then to else p.place + 1 }

-- a call goes to the start of the gate's script in the ring of the call
abbrev pub called : Process → Gate → Option ℕ → Process
called p gate None = refused p RingCall
called p gate (Some ring) =
    if nat_le 8 (length p.stack) then refused p StackFull
    else record (answered p ring) {
      script = gate.script;
      place = 0;
      ring = ring;
      stack = record { script = p.script; place = p.place + 1; ring = p.ring } ∷ p.stack;
    }

-- a call of the gate, if it is there and at or below d
abbrev pub call : Shared → ℕ → Process → Option Gate → Process
call s d p None = refused p NoScript
call s d p (Some gate) = if flows s gate.class d then called p gate (call_ring gate.brackets p.ring) else refused p NoScript

-- a return leaves r0 and r1 as they are
abbrev pub returned : Process → List Return → Process
returned p [] = refused p StackEmpty
returned p (back ∷ stack) = record p { script = back.script; place = back.place; ring = back.ring; stack = stack }

-- a new process on the script, if it is there and at or below d
abbrev pub spawned : Shared → ℕ → Process → ℕ → ℕ → Option Script → Plan
spawned s d p n start None = Own (refused p NoScript)
spawned s d p n start (Some script) = if flows s script.class d then Begin (new_process d n p.ring start) else Own (refused p NoScript)

-- a known place is emptied
abbrev pub forgotten : Process → ℕ → Option Known → Process
forgotten p segno None = refused p UnknownSegno
forgotten p segno (Some k) = answered (record p { known = slice_set p.known segno None }) 0

-- the plan of a process of class d for an instruction
abbrev pub plan_of : Shared → ℕ → Process → Instr → Plan
plan_of s d p I.Halt = Own (record p { live = false })
plan_of s d p (I.Set a n) = Own (with_reg p a n)
plan_of s d p (I.Copy a b) = Own (with_reg p a (reg p b))
plan_of s d p (I.Add a b) = Own (with_reg p a ((reg p a + reg p b) % 2 ^ 64))
plan_of s d p (I.Sub a b) = Own (with_reg p a ((reg p a + 2 ^ 64 - reg p b) % 2 ^ 64))
plan_of s d p (I.Jump to) = Own (jumped p true to)
plan_of s d p (I.JumpZ a to) = Own (jumped p (reg p a == 0) to)
plan_of s d p (I.JumpL a b to) = Own (jumped p (nat_lt (reg p a) (reg p b)) to)
plan_of s d p (I.Get a b) = Own (with_reg p a (slice_index p.pad (reg p b % 64)))
plan_of s d p (I.Put a b) = Own (record p { pad = slice_set p.pad (reg p b % 64) (reg p a); place = p.place + 1 })
plan_of s d p (I.Call g) = Own (call s d p (slice_index_or s.gates g None))
plan_of s d p I.Ret = Own (returned p p.stack)
plan_of s d p (I.Spawn n b) = spawned s d p n (reg p b) (slice_index_or s.scripts n None)
plan_of s d p (I.Terminate a) = Own (forgotten p (reg p a) (known_at p (reg p a)))
plan_of s d p (I.MakeKnown a b c) =
    of_known p (usable_at p (reg p a)) (make_known_tests p.ring (reg p b) (reg p c) (is_none (free_known p))) (λ k. MakeKnown k (reg p b) (reg p c))
plan_of s d p (I.Create a b c x e) =
    of_known p (usable_at p (reg p a)) (create_tests s.table p.ring (reg p b) (reg p c) (reg p x) (reg p e))
    (λ k. Create k (reg p b) (reg p c) (brackets_of (reg p x)) (reg p e))
plan_of s d p (I.Delete a b) = of_known p (usable_at p (reg p a)) (delete_tests p.ring (reg p b)) (λ k. Delete k (reg p b))
plan_of s d p (I.SwapIn a) = of_known p (usable_at p (reg p a)) (swap_in_tests p.ring) (λ k. SwapIn k)
plan_of s d p (I.SwapOut a) = of_known p (usable_at p (reg p a)) (swap_out_tests p.ring) (λ k. SwapOut k)
plan_of s d p (I.Fetch a b c x) =
    of_known p (usable_at p (reg p a)) (fetch_tests p.ring (reg p b) (reg p c) (reg p x)) (λ k. Fetch k (reg p b) (reg p c) (reg p x))
plan_of s d p (I.Update a b c x) =
    of_known p (usable_at p (reg p a)) (update_tests p.ring (reg p b) (reg p c) (reg p x))
    (λ k. Update k (reg p b) (part_of p.pad (reg p x) (reg p c)))
plan_of s d p (I.Read a) = of_known p (usable_at p (reg p a)) (read_tests p.ring) (λ k. Read k 0 (tally_of p))
plan_of s d p (I.Await a b) = of_known p (usable_at p (reg p a)) (read_tests p.ring) (λ k. Read k (reg p b) (tally_of p))
plan_of s d p (I.Advance a) = of_known p (known_at p (reg p a)) (advance_tests p.ring) (λ k. Advance k)
plan_of s d p (I.Ticket a) = of_known p (usable_at p (reg p a)) (ticket_tests p.ring) (λ k. Ticket k)
plan_of s d p (I.Out a) = Ask (Out (reg p a))

-- the plan of a process of class d
abbrev pub plan : Shared → ℕ → Process → Plan
plan s d p = plan_of s d p (instr_at s p.script p.place)
