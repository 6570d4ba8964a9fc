-- What is said of a step on the lists.
use Rattle.std.specs.Prelude.{ℕ, ◌≡◌, ◌<◌, Bool, true, false, List, Option, Some, None, slice_index_or, length}
use Rattle.std.specs.Option.{option_map_or}
use Rattle.lists.specs.Lists.{put, part_of}
use Rattle.policy.specs.Outcome.{Outcome, Refused}
use Rattle.policy.specs.Private.{brackets_of}
use Rattle.policy.specs.declared.rule.Rule.TheVariants.{Gone}
use Rattle.class_model.specs.Config.{Shared, classes, instr_at}
use Rattle.class_model.specs.Process.{Process, ProcName}
use Rattle.class_model.specs.Plan.{Request, MakeKnown, Read, plan}
use Rattle.class_model.specs.Next.{IsNext, NextInRange, CanStep, EndsOrInside}
use Rattle.class_model.specs.declared.request.Request.{Request as Asked}
use Rattle.class_model.specs.declared.request.Request.TheVariants as A
use Rattle.class_model.specs.declared.request.Next.{Next}
use Rattle.class_model.specs.declared.request.Next.TheVariants as N
use Rattle.class_model.specs.State.{State, Part}
use Rattle.class_model.specs.Step.{Deed, Effect, create_effect, delete_effect, swap_in_effect, swap_out_effect, update_effect, advance_effect, ticket_effect, out_effect, step}
use Rattle.class_model.specs.State.{entry_at}
use Rattle.words_layout.specs.declared.segment.SegId.{SegId}
use Rattle.whole_machine.specs.Parts.{ListedPart, is_cell, state_of, slots_in, no_part}
use Rattle.whole_machine.specs.Fits.{part_of_class, PartFits}
use Rattle.whole_machine.specs.Shows.{ListsAt, KeepsPlaces}

-- the state that these parts stand for
abbrev pub standing : Shared → List ListedPart → State
standing s parts = state_of (record { shared = s; parts = parts })

-- what is in a slot of a processor
abbrev pub slot_in : ListedPart → ℕ → ℕ → Option Process
slot_in part processor slot = slice_index_or (slots_in part.bank processor) slot None

-- the part of a class is this, and each other one is as it was
pub record ChangesPart (old new : List ListedPart) (class : ℕ) (part : Part) : Type 0 where
  pub as_many : length new ≡ length old
  pub parts : (c : ℕ) → part_of_class new c ≡ put (part_of_class old) class part c

-- each part is as it was
pub record SameParts (old new : List ListedPart) : Type 0 where
  pub as_many : length new ≡ length old
  pub parts : (c : ℕ) → part_of_class new c ≡ part_of_class old c

-- the cell of a class and an identity is listed first at this place
abbrev pub CellAt : List ListedPart → ℕ → SegId → ℕ → Type 0
CellAt parts class u at = ListsAt (is_cell u) (slice_index_or parts class no_part).cells at

-- where a cell was listed it is listed
abbrev pub KeepsCells : List ListedPart → List ListedPart → Type 0
KeepsCells old new = (c : ℕ) → KeepsPlaces (slice_index_or old c no_part).cells (slice_index_or new c no_part).cells

-- the process is at a slot of the part of a class
pub record StandsAt (parts : List ListedPart) (n : ProcName) (p : Process) : Type 0 where
  pub processor : n.processor < 4
  pub slot : n.slot < 4
  pub class : n.class < length parts
  pub there : slot_in (slice_index_or parts n.class no_part) n.processor n.slot ≡ Some p

-- some process stands there, at a place within a script
abbrev pub IsSettled : List ListedPart → ProcName → Type 0
IsSettled parts n = (p : Process) × StandsAt parts n p × (p.place < 256)

-- a process of class d is live, and this is what is next for it
pub record IsNextOf (s : Shared) (d : ℕ) (p : Process) (next : Next) : Type 0 where
  pub live : p.live ≡ true
  pub planned : IsNext d p (plan s d p) next
  pub range : NextInRange (classes s) next
  pub can : CanStep s d p
  pub inside : EndsOrInside (instr_at s p.script p.place) p.place

-- the named process is live, and this is what is next for it
pub record IsDue (s : Shared) (parts : List ListedPart) (n : ProcName) (p : Process) (next : Next) : Type 0 where
  pub stands : StandsAt parts n p
  pub is_next : IsNextOf s n.class p next

-- likewise, whichever process it is
abbrev pub IsSomeDue : Shared → List ListedPart → ProcName → Next → Type 0
IsSomeDue s parts n next = (p : Process) × IsDue s parts n p next

-- the parts after the step of a process
pub record StepsTo (s : Shared) (old new : List ListedPart) (n : ProcName) : Type 0 where
  pub as_many : length new ≡ length old
  pub step : standing s new ≡ step (standing s old) n
  pub fits : (c : ℕ) → PartFits (classes s) (part_of_class new c)

-- the request looks at the part of the caller's class alone
abbrev pub is_change : Asked → Bool
is_change (A.MakeKnown k entry mode) = false
is_change (A.Fetch k offset count pad) = false
is_change (A.Read k wanted tally) = false
is_change _ = true

-- memory may be needed for the request: it changes a cell, a count or a console, or copies words
abbrev pub asks_memory : Asked → Bool
asks_memory (A.MakeKnown k entry mode) = false
asks_memory (A.Read k wanted tally) = false
asks_memory _ = true

-- likewise for what is next
abbrev pub next_takes : Next → Bool
next_takes (N.Ask request) = asks_memory request
next_takes _ = false

-- likewise for what was asked
abbrev pub takes_memory : Request → Bool
takes_memory (MakeKnown k entry mode) = false
takes_memory (Read k wanted tally) = false
takes_memory _ = true

-- memory may be needed for a step: there is one, and it asks this
abbrev pub step_takes : Option Deed → Bool
step_takes deed =
    option_map_or (λ (x : Deed). option_map_or (λ (r : Request × Outcome). takes_memory r.0) x.asked false) deed false

-- what such a request of a process with this pad does
abbrev pub change_effect : Shared → ℕ → Part → List ℕ → Asked → Effect
change_effect s d part words (A.Create k entry class brackets size) = create_effect part k.seg entry class (brackets_of brackets) size
change_effect s d part words (A.Delete k entry) = delete_effect d part k.seg entry (entry_at (part.cell k.seg) entry)
change_effect s d part words (A.SwapIn k) = swap_in_effect s d part k
change_effect s d part words (A.SwapOut k) = swap_out_effect s d part k
change_effect s d part words (A.Update k offset count pad) = update_effect part k.seg offset (part_of words pad count)
change_effect s d part words (A.Advance k) = advance_effect part k.class k.seg
change_effect s d part words (A.Ticket k) = ticket_effect part k.seg
change_effect s d part words (A.Out value) = out_effect s part value
change_effect s d part words _ = record { part = part; outcome = Refused Gone }
