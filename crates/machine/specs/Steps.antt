-- A step of a virtual processor on any port of words, one event, and a list of events.
use Rattle.std.specs.Prelude.{◌≡◌, ℕ, ◌<◌, ◌≤◌, true, false, List, [], ◌∷◌, ◌++◌, length, map, Option, Some, None, MatchOption, slice_index_or, slice_set, Bool, if◌then◌else◌}
use Rattle.words_layout.specs.Limits.{op_in_limits}
use Rattle.words_layout.specs.Named.{op_at}
use Rattle.words_layout.specs.Words.{WordOp}
use Rattle.words_layout.specs.declared.op.Op.{Op}
use Rattle.words_layout.specs.declared.op.Event.{Event}
use Rattle.class_model.specs.Config.{Shared, classes}
use Rattle.class_model.specs.Process.{ProcName}
use Rattle.policy.specs.declared.answers.Outcome.{Outcome as Answer}
use Rattle.process.specs.Running.{absorb}
use Rattle.process.specs.declared.doing.Made.{Made as Given}
use Rattle.process.specs.declared.doing.Made.TheVariants as G
use Rattle.process.specs.Standing.{Standing, StandingFits, GivenFits, OpIsLawful, running_of, ending_of, made_by}
use Rattle.machine.specs.Machine.{vp_op, vp_after, vp_effect}
use Rattle.machine.specs.Processing.{Processing, vp_of, holds_live, lives_in, first_live, free_in}
use Rattle.machine.specs.Banks.{bank_at, vp_in, vp_at, with_vp, State}

-- ---- what fits

-- a slot is empty, or its process is of class d and fits
abbrev pub SlotFits : Shared → ℕ → Option Standing → Type 0
SlotFits s d None = Unit {0}
SlotFits s d (Some p) = (p.class ≡ d) × StandingFits s p

-- its class is one of the table, its console has the size of the table, and its processes fit
pub record ProcessingFits (s : Shared) (v : Processing) : Type 0 where
  pub class : v.class < classes s
  pub four : length v.slots ≡ 4
  pub room : v.room ≡ s.console
  pub slots : (i : ℕ) → SlotFits s v.class (slice_index_or v.slots i None)

-- one virtual processor for each class, in class order, and each fits
pub record IsBank (s : Shared) (bank : List Processing) : Type 0 where
  pub width : length bank ≡ classes s
  pub order : (c : ℕ) → c < classes s → (vp_in bank c).class ≡ c
  pub fits : (c : ℕ) → c < classes s → ProcessingFits s (vp_in bank c)

-- 1 to 4 banks, and words of the layout of the table's classes
pub record IsMachine (layout : ℕ) (banks : List (List Processing)) (s : Shared) : Type 0 where
  pub some : 1 ≤ length banks
  pub most : length banks ≤ 4
  pub layout_is : layout ≡ classes s
  pub each : (p : ℕ) → p < length banks → IsBank s (bank_at banks p)

-- ---- what a step does

-- the slot whose instruction takes effect, as a list
abbrev pub listed : Option ℕ → List ℕ
listed None = []
listed (Some slot) = slot ∷ []

-- nothing is performed, nothing changes, and nothing takes effect
pub record Rests {W : Type 0} (v : Processing) (words : W) (v' : Processing) (words' : W) (effect : Option ℕ) : Type 0 where
  pub processing : v' ≡ v
  pub words_are : words' ≡ words
  pub no_effect : effect ≡ None

-- the virtual processor after the answer to its operation, with the slot of the effect
pub record IsAbsorbed (s : Shared) (v : Processing) (answer : ℕ) (v' : Processing) (effect : Option ℕ) : Type 0 where
  pub absorbed : vp_of s v' ≡ vp_after s v.class (vp_of s v) answer
  pub class : v'.class ≡ v.class
  pub room : v'.room ≡ v.room
  pub effect_is : listed effect ≡ vp_effect s v.class (vp_of s v) answer

-- An operation is performed, once, and its answer absorbed. It is a lawful one, and the layout has its word.
pub record Performs {W : Type 0} (related : W → Op → ℕ → W → Type 0) (s : Shared) (v : Processing) (words : W) (v' : Processing) (words' : W) (effect : Option ℕ) (op : WordOp) : Type 0 where
  pub answer : ℕ
  pub in_limits : op_in_limits (classes s) op ≡ true
  pub performed : related words (op_at v.class op) answer words'
  pub lawful : OpIsLawful s v.class (op_at v.class op)
  pub absorbed : IsAbsorbed s v answer v' effect

-- A step: where no process is live nothing happens, and else one operation is performed.
abbrev pub StepsBy : {W : Type 0} → (W → Op → ℕ → W → Type 0) → Shared → Processing → W → Processing → W → Option ℕ → Type 0
StepsBy related s v words v' words' effect =
    MatchOption (vp_op s v.class (vp_of s v)) (Rests v words v' words' effect) (λ op. Performs related s v words v' words' effect op)

-- an event: a step of the virtual processor that it names; all others stay
pub record EventBy {W : Type 0} (related : W → Op → ℕ → W → Type 0) (e : Event) (m n : State W) (effect : Option ℕ) : Type 0 where
  pub after : Processing
  pub step : StepsBy related m.shared (vp_at m.banks e.processor e.class) m.words after n.words effect
  pub banks : n.banks ≡ with_vp m.banks e.processor e.class after
  pub shared : n.shared ≡ m.shared

-- the process whose instruction takes effect at an event
abbrev pub named : Event → Option ℕ → List ProcName
named e effect = map (λ slot. record { processor = e.processor; class = e.class; slot = slot }) (listed effect)

-- a list of events, with the processes whose instructions take effect, in this order
abbrev pub RunsBy : {W : Type 0} → (W → Op → ℕ → W → Type 0) → List Event → State W → State W → List ProcName → Type 0
RunsBy related [] m n names = (n ≡ m) × (names ≡ [])
RunsBy {W} related (e ∷ events) m n names =
    (between : State W) × (effect : Option ℕ) × (rest : List ProcName) ×
    EventBy related e m between effect × RunsBy related events between n rest × (names ≡ named e effect ++ rest)

-- processor and class of an event are there
abbrev pub InRange : {W : Type 0} → State W → Event → Type 0
InRange m e = (e.processor < length m.banks) × (e.class < classes m.shared)

-- no process of the class is live
abbrev pub HasEnded : {W : Type 0} → State W → ℕ → Type 0
HasEnded m class = (p slot : ℕ) → holds_live (slice_index_or (vp_at m.banks p class).slots slot None) ≡ false

-- a bank of which the virtual processor of a class takes a step
pub record BankSteps {W : Type 0} (related : W → Op → ℕ → W → Type 0) (s : Shared) (class : ℕ) (bank : List Processing) (words : W) (bank' : List Processing) (words' : W) (effect : Option ℕ) : Type 0 where
  pub after : Processing
  pub step : StepsBy related s (vp_in bank class) words after words' effect
  pub fits : ProcessingFits s after
  pub bank_is : bank' ≡ slice_set bank class after

-- banks of which the virtual processor of a class on a processor takes a step
pub record BanksStep {W : Type 0} (related : W → Op → ℕ → W → Type 0) (s : Shared) (processor class : ℕ) (banks : List (List Processing)) (words : W) (banks' : List (List Processing)) (words' : W) (effect : Option ℕ) : Type 0 where
  pub after : Processing
  pub step : StepsBy related s (vp_at banks processor class) words after words' effect
  pub fits : ProcessingFits s after
  pub banks_are : banks' ≡ with_vp banks processor class after

-- ---- what private functions speak of

-- slot i is the first one with a live process, from the current one on
pub record IsChosen (v : Processing) (i : ℕ) : Type 0 where
  pub first : first_live v.slots v.current ≡ Some i
  pub current : v.current < 4
  pub within : i < 4
  pub live : lives_in v.slots i ≡ true

-- the slot, where there was an effect
abbrev pub effect_of : ℕ → Bool → Option ℕ
effect_of slot effect = if effect then Some slot else None

-- slot i held process p, which took its step with this answer and is p' then; made is what it gave beside
pub record SlotSteps (s : Shared) (v : Processing) (i : ℕ) (answer : ℕ) (v' : Processing) (outcome : Answer) (made : Given) (effect : Bool) : Type 0 where
  pub before : Standing
  pub after : Standing
  pub there : slice_index_or v.slots i None ≡ Some before
  pub processing : v' ≡ record v { slots = slice_set v.slots i (Some after) }
  pub running : running_of s after ≡ (absorb s v.class (running_of s before) (free_in v.slots) answer).running
  pub ending : ending_of outcome ≡ (absorb s v.class (running_of s before) (free_in v.slots) answer).ending
  pub made_is : made_by v.class made ≡ (absorb s v.class (running_of s before) (free_in v.slots) answer).made
  pub effect_is : effect ≡ (absorb s v.class (running_of s before) (free_in v.slots) answer).effect
  pub fits : SlotFits s v.class (Some after)
  pub given : GivenFits s v.class made

-- what a step gave beside can be taken: the place of a line is below the console's size, and a new process has an empty slot
abbrev pub MadeHere : Processing → Given → Type 0
MadeHere v G.Nothing = Unit {0}
MadeHere v (G.Line place value) = place < v.room
MadeHere v (G.Child slot script ring start) = (slot < 4) × (slice_index_or v.slots slot None ≡ None)

-- the process of slot i performed its operation, once, a lawful one, and took its step with the answer
pub record SlotPerforms {W : Type 0} (related : W → Op → ℕ → W → Type 0) (s : Shared) (v : Processing) (i : ℕ) (words : W) (v' : Processing) (words' : W) (outcome : Answer) (made : Given) (effect : Bool) : Type 0 where
  pub op : WordOp
  pub of_step : vp_op s v.class (vp_of s v) ≡ Some op
  pub answer : ℕ
  pub in_limits : op_in_limits (classes s) op ≡ true
  pub performed : related words (op_at v.class op) answer words'
  pub lawful : OpIsLawful s v.class (op_at v.class op)
  pub slot : SlotSteps s v i answer v' outcome made effect
