-- A process with its unfinished instruction: the next operation, and what its answer does.
use Rattle.std.specs.Prelude.{ℕ, Bool, true, Option, Some, None, is_some}
use Rattle.words_layout.specs.Words.{OfClass, OfSegment, WordOp}
use Rattle.policy.specs.Outcome.{Outcome, Printed, Looked, components}
use Rattle.policy.specs.declared.rule.Rule.TheVariants.{NoSlot}
use Rattle.turns.specs.Doing.{Doing, Fresh, Ending, Goes, Polls, Ends, Told, Act, Once, Look, ClassTurn, SegmentTurn, act_op, act_told, doing_op, doing_told}
use Rattle.class_model.specs.Config.{Shared, pool_of}
use Rattle.class_model.specs.Process.{Process, refused, answered, settled}
use Rattle.class_model.specs.Plan.{Plan, Own, Begin, Ask, plan, Request, MakeKnown, Create, Delete, SwapIn, SwapOut, Fetch, Update, Read, Advance, Ticket, Out}
use Rattle.tree_gates.specs.Tree.{make_known_body, create_body, delete_body}
use Rattle.swap_gates.specs.Swap.{swap_in_body, swap_out_body}
use Rattle.data_gates.specs.Data.{fetch_body, update_body}
use Rattle.evc_gates.specs.Count.{read_op, read_shows, advance_op, advance_shows, ticket_op, ticket_shows, out_op, out_shows}

-- A look of a read goes on to the next one; an await that finds too little starts again.
abbrev pub once_ending : Outcome → Ending
once_ending (Looked (Some tally)) = Goes
once_ending (Looked None) = Polls
once_ending _ = Ends

-- what one operation shows takes effect at once
abbrev pub at_once : Outcome → Told Outcome
at_once o = record { takes = Some o; doing = Fresh; ending = once_ending o }

-- how the request of a process of class d in a ring is done
abbrev pub act : Shared → ℕ → ℕ → Request → Act Outcome
act s d ring (MakeKnown k e mode) = Look k.class OfClass (make_known_body s.table d ring k e mode)
act s d ring (Create k e class b size) = ClassTurn (create_body k.seg e class b size)
act s d ring (Delete k e) = ClassTurn (delete_body d k.seg e)
act s d ring (SwapIn k) = ClassTurn (swap_in_body (pool_of s d).frames k)
act s d ring (SwapOut k) = ClassTurn (swap_out_body (pool_of s d).pages k)
act s d ring (Fetch k offset count pad) = Look k.class (OfSegment k.seg) (fetch_body k.seg offset count pad)
act s d ring (Update k offset words) = SegmentTurn k.seg (update_body k.seg offset words)
act s d ring (Read k wanted t) = let classes = components s.table k.class in
    Once (read_op classes k t) (λ w. at_once (read_shows classes wanted t w))
act s d ring (Advance k) = Once (advance_op k) (λ w. at_once (advance_shows w))
act s d ring (Ticket k) = Once (ticket_op k) (λ w. at_once (ticket_shows w))
act s d ring (Out value) = Once out_op (λ w. at_once (out_shows s.console value w))

-- a process, and how far its next instruction is
pub record Running : Type 0 where
  pub process : Process
  pub doing : Doing Outcome

-- the first operation of a plan
abbrev pub plan_op : Shared → ℕ → ℕ → Plan → WordOp
plan_op s d ring (Own after) = WordOp.Nothing
plan_op s d ring (Begin child) = WordOp.Nothing
plan_op s d ring (Ask request) = act_op (act s d ring request)

-- the next operation of a process of class d
abbrev pub running_op : Shared → ℕ → Process → Doing Outcome → WordOp
running_op s d p Fresh = plan_op s d p.ring (plan s d p)
running_op s d p doing = doing_op d doing

-- the operation that its next step performs
abbrev pub next_op : Shared → ℕ → Running → WordOp
next_op s d r = running_op s d r.process r.doing

-- what a step gives beside: nothing, a console line by its place, or a new process for a slot
pub data Made : Type 0 where
  Nothing : Made
  Line : (place value : ℕ) → Made
  Child : (slot : ℕ) → Process → Made

-- what the answer makes of a process; effect says that an instruction or a look took effect by it
pub record Absorbed : Type 0 where
  pub running : Running
  pub ending : Ending
  pub effect : Bool
  pub made : Made

-- a console line is made by an Ok out alone
abbrev pub made_of : Option Outcome → Made
made_of (Some (Printed place value)) = Line place value
made_of _ = Made.Nothing

-- only what takes effect changes the process
abbrev pub taken : Process → Option Outcome → Process
taken p None = p
taken p (Some outcome) = settled p outcome

-- the process after what a step told it: what takes effect settles it
abbrev pub after_told : Process → Told Outcome → Absorbed
after_told p told = record {
  running = record { process = taken p told.takes; doing = told.doing };
  ending = told.ending;
  effect = is_some told.takes;
  made = made_of told.takes;
}

-- an instruction that took effect at its one step
abbrev pub ended_as : Process → Made → Absorbed
ended_as p made = record { running = record { process = p; doing = Fresh }; ending = Ends; effect = true; made = made }

-- a new process in the free slot, or a refusal where there is none
abbrev pub begin_in : Process → Process → Option ℕ → Absorbed
begin_in p child None = ended_as (refused p NoSlot) Made.Nothing
begin_in p child (Some slot) = ended_as (answered p slot) (Child slot child)

-- the first step of an instruction, by its plan
abbrev pub plan_absorbed : Shared → ℕ → Process → Option ℕ → ℕ → Plan → Absorbed
plan_absorbed s d p free answer (Own after) = ended_as after Made.Nothing
plan_absorbed s d p free answer (Begin child) = begin_in p child free
plan_absorbed s d p free answer (Ask request) = after_told p (act_told (act s d p.ring request) answer)

-- the process of class d after the answer to its operation; free is the least slot that never held a process
abbrev pub doing_absorbed : Shared → ℕ → Process → Option ℕ → ℕ → Doing Outcome → Absorbed
doing_absorbed s d p free answer Fresh = plan_absorbed s d p free answer (plan s d p)
doing_absorbed s d p free answer doing = after_told p (doing_told doing answer)

-- likewise with its unfinished instruction: what a step of a process makes of it
abbrev pub absorb : Shared → ℕ → Running → Option ℕ → ℕ → Absorbed
absorb s d r free answer = doing_absorbed s d r.process free answer r.doing
