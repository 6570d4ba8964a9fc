-- The trail of a list of steps: what each of them accessed and replied, in order.
use Rattle.std.specs.Prelude.{ℕ, ◌≡◌, Bool, true, false, List, [], ◌∷◌, ◌++◌, if◌then◌else◌, map, Option, Some, None, unwrap_or}
use Rattle.std.specs.List.{flat_map}
use Rattle.std.specs.Option.{option_map_or, option_and_then}
use Rattle.policy.specs.Known.{Known}
use Rattle.policy.specs.Outcome.{Outcome, Looked}
use Rattle.script_lang.specs.declared.instr.Instr.{Instr}
use Rattle.script_lang.specs.declared.instr.Instr.TheVariants as I
use Rattle.class_model.specs.Access.{Access, effect_accesses}
use Rattle.class_model.specs.Passing.{passes}
use Rattle.class_model.specs.Plan.{Request}
use Rattle.class_model.specs.Process.{ProcName}
use Rattle.class_model.specs.Run.{Happened, history, steps}
use Rattle.class_model.specs.State.{State}
use Rattle.class_model.specs.Step.{step}
use Rattle.whole_machine.specs.Readers.{next_instr, register_of}
use Rattle.audit_trail.specs.Instructions.{reply_number, known_in}
use Rattle.audit_trail.specs.declared.entry.Entry.{Entry}
use Rattle.audit_trail.specs.declared.entry.Entry.TheVariants as E

-- the entry of an access by instruction i to a segment of that class
abbrev pub access_entry : ProcName → ℕ → ℕ → Access → Entry
access_entry n i class x = E.Access n i (record { 0 = x.rights }) x.seg class

-- The entries of the accesses of an instruction. The first one is of the known segment, and has its class; one behind it, of the
-- child that a delete modifies, has the process's own.
abbrev pub access_entries : ProcName → ℕ → Option Known → List Access → List Entry
access_entries n i (Some k) (x ∷ xs) = access_entry n i k.class x ∷ map (access_entry n i n.class) xs
access_entries n i _ _ = []

-- the known segment of which an effect asked
abbrev pub known_asked : Option (Request × Outcome) → Option Known
known_asked asked = option_and_then (λ (x : Request × Outcome). known_in x.0) asked

-- a look of a read or await that isn't the last one gives no reply; every other step of such an instruction gives one
abbrev pub is_replied : Option (Request × Outcome) → Bool
is_replied (Some (q, Looked tally)) = false
is_replied _ = true

-- the code of a reply is what r0 holds after the step: 0, or the number of the rule that refused. An Ok ret leaves r0 as it was.
abbrev pub reply_code : State → ProcName → Instr → ℕ
reply_code a n I.Ret = if passes a n then 0 else unwrap_or (register_of (step a n) n 0) 0
reply_code a n i = unwrap_or (register_of (step a n) n 0) 0

-- the entries of an effect of an instruction of this number: its accesses, in order, and then its reply, refused or not
abbrev pub entries_by : Happened → Instr → Option ℕ → List Entry
entries_by h i None = []
entries_by h i (Some number) =
    if is_replied h.deed.asked
    then access_entries h.who number (known_asked h.deed.asked) (effect_accesses h) ++ E.Reply h.who number (reply_code h.before h.who i) ∷ []
    else []

-- the entries of an effect
abbrev pub effect_entries : Happened → List Entry
effect_entries h = option_map_or (λ (i : Instr). entries_by h i (reply_number i)) (next_instr h.before h.who) []

-- Trail: the entries of the steps of these processes, in order
abbrev pub trail : State → List ProcName → List Entry
trail a names = flat_map effect_entries (history a names)

-- the state is that after the steps of the first few of these names
pub record IsAfterPrefix (a : State) (names : List ProcName) (b : State) : Type 0 where
  pub front : List ProcName
  pub rest : List ProcName
  pub all : names ≡ front ++ rest
  pub state : b ≡ steps a front
