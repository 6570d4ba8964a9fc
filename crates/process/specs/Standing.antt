-- What the code of a process stands for.
use Rattle.std.specs.Prelude.{ℕ, ◌%◌, ◌<◌, ◌≡◌, Bool, true, false, not, ◌==◌, if◌then◌else◌, List, Option, Some, None, is_some}
use Rattle.labels.specs.Label.{ClassEntry}
use Rattle.words_layout.specs.Named.{op_at}
use Rattle.words_layout.specs.Words.{class_of}
use Rattle.words_layout.specs.declared.op.Op.{Op}
use Rattle.words_layout.specs.declared.op.Op.TheVariants as O
use Rattle.policy.specs.Known.{Known}
use Rattle.policy.specs.Outcome.{Outcome, Learns, Words}
use Rattle.policy.specs.declared.answers.Reply.{Reply}
use Rattle.policy.specs.declared.answers.Outcome.{Outcome as Answer}
use Rattle.policy.specs.declared.answers.Outcome.TheVariants as A
use Rattle.gate_parts.specs.Replies.{answer_by}
use Rattle.turns.specs.Doing.{Doing, Fresh, Ending, Goes, Polls, Ends, Told}
use Rattle.tree_gates.specs.MakingKnown as MakingKnown
use Rattle.tree_gates.specs.Creating as Creating
use Rattle.tree_gates.specs.Deleting as Deleting
use Rattle.swap_gates.specs.SwappingIn as SwappingIn
use Rattle.swap_gates.specs.SwappingOut as SwappingOut
use Rattle.data_gates.specs.Fetching as Fetching
use Rattle.data_gates.specs.Updating as Updating
use Rattle.tree_gates.specs.declared.make_known.MakeKnown.{MakeKnown}
use Rattle.tree_gates.specs.declared.create.Create.{Create}
use Rattle.tree_gates.specs.declared.delete.Delete.{Delete}
use Rattle.swap_gates.specs.declared.swap_in.SwapIn.{SwapIn}
use Rattle.swap_gates.specs.declared.swap_out.SwapOut.{SwapOut}
use Rattle.data_gates.specs.declared.update.Update.{Update}
use Rattle.class_model.specs.Config.{Shared, classes, flows}
use Rattle.class_model.specs.Process.{Process, new_process, reg, reply, settled}
use Rattle.process.specs.Running.{Running, Made, Line, Child, Absorbed, taken, made_of, next_op, absorb}
use Rattle.process.specs.Fits.{Fits, OpFits}
use Rattle.process.specs.Shows.{IsLooking, IsTurning, is_leaving, IsReply, IsLearning, IsFetch}
use Rattle.process.specs.declared.doing.Doing.{Doing as Held}
use Rattle.process.specs.declared.doing.Doing.TheVariants as H
use Rattle.process.specs.declared.doing.Step.{Step}
use Rattle.process.specs.declared.doing.Made.{Made as Given}
use Rattle.process.specs.declared.doing.Made.TheVariants as G
use Rattle.process.specs.declared.doing.Absorbed.{Absorbed as Answered}

-- how far an instruction is, by the class table
abbrev pub doing_in : List ClassEntry → Held → Doing Outcome
doing_in table H.Fresh = Fresh
doing_in table (H.MakeKnown gate) = MakingKnown.doing_of table gate
doing_in table (H.Create gate) = Creating.doing_of gate
doing_in table (H.Delete gate) = Deleting.doing_of gate
doing_in table (H.SwapIn gate) = SwappingIn.doing_of gate
doing_in table (H.SwapOut gate) = SwappingOut.doing_of gate
doing_in table (H.Fetch gate pad) = Fetching.doing_of gate
doing_in table (H.Update gate) = Updating.doing_of gate

-- a process of a class, with what its unfinished instruction keeps
pub record Standing : Type 0 where
  pub class : ℕ
  pub process : Process
  pub doing : Held

-- the running process, by what no step changes
abbrev pub running_of : Shared → Standing → Running
running_of s v = record { process = v.process; doing = doing_in s.table v.doing }

-- a process at the start of a script, with r2 = start
abbrev pub new_standing : (class script ring start : ℕ) → Standing
new_standing class script ring start = record { class = class; process = new_process class script ring start; doing = H.Fresh }

-- a process in memory fits
pub record StandingFits (s : Shared) (v : Standing) : Type 0 where
  pub fits : Fits s v.class (running_of s v)

-- what a step of a process of class d gives beside
abbrev pub made_by : ℕ → Given → Made
made_by d G.Nothing = Made.Nothing
made_by d (G.Line place value) = Line place value
made_by d (G.Child slot script ring start) = Child slot (new_process d script ring start)

-- what it gives beside fits: the place of a line is below the console's size, and a new process fits
abbrev pub GivenFits : Shared → ℕ → Given → Type 0
GivenFits s d G.Nothing = Unit {0}
GivenFits s d (G.Line place value) = place < s.console
GivenFits s d (G.Child slot script ring start) = StandingFits s (new_standing d script ring start)

-- how a step ends
abbrev pub ending_of : Answer → Ending
ending_of A.Going = Goes
ending_of A.Poll = Polls
ending_of (A.Done reply) = Ends

-- the reply that r0, modulo 256, and r1 hold
abbrev pub reply_held : Process → Reply
reply_held p = record { code = reg p 0 % 256; value = reg p 1 }

-- What a process of class d may name: words of its class to change, and words of classes of the table at or below it to load.
abbrev pub OpIsLawful : Shared → ℕ → Op → Type 0
OpIsLawful s d O.Nothing = Unit {0}
OpIsLawful s d (O.Load a) = (class_of a.0 < classes s) × (flows s (class_of a.0) d ≡ true)
OpIsLawful s d (O.Store a v) = class_of a.0 ≡ d
OpIsLawful s d (O.Add a v) = class_of a.0 ≡ d

-- ---- what private functions and the type's invariant speak of

-- what an instruction that took effect at its one step comes to
abbrev pub ended_with : Process → Given → Answered
ended_with p made = record { outcome = A.Done (reply_held p); made = made; effect = true }

-- what a process is made by a step, and what the step gives, are as the step machine says
pub record Absorbs (s : Shared) (before after : Standing) (said : Absorbed) (given : Answered) : Type 0 where
  pub running : running_of s after ≡ said.running
  pub class : after.class ≡ before.class
  pub ending : ending_of given.outcome ≡ said.ending
  pub reply : given.outcome ≡ answer_by said.ending (reply_held after.process)
  pub effect : given.effect ≡ said.effect
  pub made : made_by before.class given.made ≡ said.made

-- A step of a process on a port of words. Its operation is performed, once: a lawful one, whose word the layout has. What
-- the process is made by the answer, and what the step gives, are as the step machine says.
pub record StandingSteps {W : Type 0} (related : W → Op → ℕ → W → Type 0) (s : Shared) (before : Standing) (free : Option ℕ) (words : W) (after : Standing) (words' : W) (given : Answered) : Type 0 where
  pub answer : ℕ
  pub fits : OpFits s before.class (next_op s before.class (running_of s before))
  pub lawful : OpIsLawful s before.class (op_at before.class (next_op s before.class (running_of s before)))
  pub performed : related words (op_at before.class (next_op s before.class (running_of s before))) answer words'
  pub absorbed : Absorbs s before after (absorb s before.class (running_of s before) free answer) given
  pub given_fits : GivenFits s before.class given.made

-- it is the last step of its instruction
abbrev pub is_done : Answer → Bool
is_done (A.Done reply) = true
is_done _ = false

-- its instruction goes on
abbrev pub is_going : Answer → Bool
is_going A.Going = true
is_going _ = false

-- the reply of what takes effect by a step, if anything does; it is kept from the effect on
abbrev pub effect_reply : (kept : Option Reply) → Answer → (now : Option Reply) → Option Reply
effect_reply (Some reply) outcome now = None
effect_reply None A.Going now = now
effect_reply None A.Poll now = None
effect_reply None (A.Done reply) now = Some reply

-- the process after a reply, if there is one
abbrev pub replied : Process → Option Reply → Process
replied p None = p
replied p (Some r) = reply p r.code r.value

-- the step of a turn that is answered so
abbrev pub turn_step : (kept : Option Reply) → Answer → (now : Option Reply) → Step
turn_step kept outcome now = record { outcome = outcome; effect = is_some (effect_reply kept outcome now); over = is_done outcome }

-- the step of a look that is answered so
abbrev pub look_step : Answer → Step
look_step outcome = record { outcome = outcome; effect = is_done outcome; over = not (is_going outcome) }

-- the process after the end of a makeknown: it takes the segment that was made known, or else the reply
abbrev pub learnt_by : Process → Answer → Option Known → Process
learnt_by p (A.Done r) (Some k) = settled p (Learns k)
learnt_by p (A.Done r) None = reply p r.code r.value
learnt_by p _ learnt = p

-- the process after the end of a fetch: it takes the words, or else the refusal
abbrev pub fetched_by : Process → Answer → (pad : ℕ) → (words : List ℕ) → Process
fetched_by p (A.Done r) pad words = if r.code == 0 then settled p (Words pad words) else reply p r.code r.value
fetched_by p _ pad words = p

-- an unfinished instruction is over, or goes on
abbrev pub ended_if : Bool → Held → Held
ended_if true x = H.Fresh
ended_if false x = x

-- a step does what it was told: what takes effect by it changes the process
pub record Stepped (told : Told Outcome) (before after : Process) (step : Step) : Type 0 where
  pub ending : ending_of step.outcome ≡ told.ending
  pub effect : step.effect ≡ is_some told.takes
  pub settled : after ≡ taken before told.takes
  pub over : step.over ≡ true → told.doing ≡ Fresh
  pub silent : made_of told.takes ≡ Made.Nothing

-- makeknown: a look of the class, at nothing found
abbrev pub IsMakeKnown : ℕ → MakeKnown → Type 0
IsMakeKnown d f = (f.class ≡ d) × (f.found ≡ None) × ((table : List ClassEntry) → IsLooking IsLearning (MakingKnown.doing_of table f))

-- create: a turn of the class in which none nests
abbrev pub IsCreate : ℕ → Create → Type 0
IsCreate d f = (f.class ≡ d) × IsTurning IsReply ⊥ (Creating.doing_of f)

-- a turn in which one may nest keeps a reply from its effect on
abbrev pub IsNesting : Doing Outcome → Option Reply → Type 0
IsNesting x kept = IsTurning IsReply (Unit {0}) x × (is_some kept ≡ is_leaving x)

-- delete, swapin and swapout: turns of the class in which one nests
abbrev pub IsDelete : ℕ → Delete → Type 0
IsDelete d f = (f.class ≡ d) × IsNesting (Deleting.doing_of f) f.reply

-- likewise
abbrev pub IsSwapIn : ℕ → SwapIn → Type 0
IsSwapIn d f = (f.class ≡ d) × IsNesting (SwappingIn.doing_of f) f.reply

-- likewise
abbrev pub IsSwapOut : ℕ → SwapOut → Type 0
IsSwapOut d f = (f.class ≡ d) × IsNesting (SwappingOut.doing_of f) f.reply

-- update: a turn of a segment of the class that stands alone
abbrev pub IsUpdate : ℕ → Update → Type 0
IsUpdate d f = (f.class ≡ d) × IsTurning IsReply ⊥ (Updating.doing_of f)

-- what an unfinished instruction of a process of class d keeps is in order
abbrev pub IsHeld : ℕ → Held → Type 0
IsHeld d H.Fresh = Unit {0}
IsHeld d (H.MakeKnown gate) = IsMakeKnown d gate
IsHeld d (H.Create gate) = IsCreate d gate
IsHeld d (H.Delete gate) = IsDelete d gate
IsHeld d (H.SwapIn gate) = IsSwapIn d gate
IsHeld d (H.SwapOut gate) = IsSwapOut d gate
IsHeld d (H.Fetch gate pad) = IsLooking (IsFetch pad) (Fetching.doing_of gate)
IsHeld d (H.Update gate) = IsUpdate d gate
