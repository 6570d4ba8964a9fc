-- A step of effect does to the processes what the step of the other machine does: it is one function of the private state.
use Rattle.std.proofs.Common.{ℕ, true, false, List, [], ◌∷◌, ◌≡◌, refl, sym, ap, ◌∙◌, Option, Some, None, map}
use Rattle.std.specs.Prelude.{◌==◌, if◌then◌else◌, slice_set, slice_index_or, is_none}
use Rattle.std.specs.List.{position, prefix_len}
use Rattle.std.specs.Prelude.{not}
use Rattle.std.specs.Option.{option_map}
use Rattle.std.proofs.lemmas.Bool.{eq-eqb}
use Rattle.std.proofs.lemmas.List.{map-set}
use Rattle.std.proofs.Math.ListN.{get_or-map, length-map}
use Rattle.lists.specs.Lists.{put}
use Rattle.words_layout.specs.Words.{Words}
use Rattle.class_model.specs.Config.{Shared}
use Rattle.policy.specs.Outcome.{Outcome, Printed}
use Rattle.class_model.specs.Process.{Process, refused, answered}
use Rattle.class_model.specs.State.{State, Part, with_process, process_at}
use Rattle.class_model.specs.Step.{begun}
use Rattle.turns.specs.Doing.{Fresh, Told}
use Rattle.process.specs.Running.{Running, Absorbed, Made, Child, ended_as, begin_in, after_told, taken, made_of}
use Rattle.machine.specs.Machine.{ClassPart, free_slot, vp_absorbed, slots_after}
use Rattle.machine.specs.Reading.{processes_of}
use Rattle.effect_laws.proofs.Slots.{IsChosen, part_after}

abbrev process_of : Option Running → Option Process
process_of o = option_map (λ (r : Running). r.process) o

-- the processes of a class are the same in both machines
abbrev pub SameProcesses : ClassPart → Part → Type 0
SameProcesses here part = (q : ℕ) → processes_of (here.vp q) ≡ part.slots q

prefix-map : (xs : List (Option Running)) → prefix_len (λ (q : Option Process). not (is_none q)) (map process_of xs) ≡ prefix_len (λ (q : Option Running). not (is_none q)) xs
prefix-map [] = refl
prefix-map (None ∷ xs) = refl
prefix-map (Some r ∷ xs) = rw (prefix-map xs) refl

-- the least free slot is that of the processes
free-map : (xs : List (Option Running)) → position (λ (q : Option Process). is_none q) (map process_of xs) ≡ position (λ (q : Option Running). is_none q) xs
free-map xs = rw (prefix-map xs, length-map xs process_of) refl

module _ (s : Shared) (words : Words) (here : ClassPart) (part : Part) (same : SameProcesses here part) (p i : ℕ) where
  -- no process is begun
  pub same_after : (x : Absorbed) → slots_after (slice_set (here.vp p).slots i (Some x.running)) x.made ≡ slice_set (here.vp p).slots i (Some x.running) →
      SameProcesses (part_after s words here p i x) (with_process part p i x.running.process)
  same_after x none q = elim (q == p) as
      (λ b. processes_of (if b then vp_absorbed s (here.vp p) i x else here.vp q) ≡ (if b then slice_set (part.slots p) i (Some x.running.process) else part.slots q)) [
        | true ↦ ap (map process_of) none ∙ map-set process_of (here.vp p).slots i (Some x.running) ∙ ap (λ xs. slice_set xs i (Some x.running.process)) (same p)
        | false ↦ same q
      ]

  -- the effect of an instruction on the process alone
  pub own_same : (after : Process) → SameProcesses (part_after s words here p i (ended_as after Made.Nothing)) (with_process part p i after)
  own_same after = same_after (ended_as after Made.Nothing) refl

  no_child : (slots : List (Option Running)) (o : Option Outcome) → slots_after slots (made_of o) ≡ slots
  no_child slots (Some (Printed place value)) = refl
  no_child slots _ = refl

  -- the effect of a request, once the outcome is the same
  pub asked_same : (q : Process) (told : Told Outcome) → SameProcesses (part_after s words here p i (after_told q told)) (with_process part p i (taken q told.takes))
  asked_same q told = same_after (after_told q told) (no_child (slice_set (here.vp p).slots i (Some (record { process = taken q told.takes; doing = told.doing }))) told.takes)

  -- a process that begins another
  pub begin_same : (d : ℕ) (q child : Process) (free : Option ℕ) →
      SameProcesses (part_after s words here p i (begin_in q child free)) (begun part (record { processor = p; class = d; slot = i }) q child free)
  begin_same d q child None q' = same_after (ended_as (refused q Rattle.policy.specs.declared.rule.Rule.TheVariants.NoSlot) Made.Nothing) refl q'
  begin_same d q child (Some k) q' = elim (q' == p) as
      (λ b. processes_of (if b then vp_absorbed s (here.vp p) i (ended_as (answered q k) (Child k child)) else here.vp q') ≡
      (if b then slice_set ((put part.slots p (slice_set (part.slots p) i (Some (answered q k)))) p) k (Some child) else (if b then slice_set (part.slots p) i (Some (answered q k)) else part.slots q'))) [
        | true ↦ map-set process_of (slice_set (here.vp p).slots i (Some (record { process = answered q k; doing = Fresh }))) k (Some (record { process = child; doing = Fresh }))
            ∙ ap (λ xs. slice_set xs k (Some child)) (map-set process_of (here.vp p).slots i (Some (record { process = answered q k; doing = Fresh })) ∙ ap (λ xs. slice_set xs i (Some (answered q k))) (same p))
            ∙ rw (eq-eqb p p refl) refl
        | false ↦ same q'
      ]

  -- the least free slot is the same
  pub free_same : free_slot (here.vp p) ≡ position (λ q. is_none q) (part.slots p)
  free_same = sym (ap (λ (xs : List (Option Process)). position (λ q. is_none q) xs) (sym (same p)) ∙ free-map (here.vp p).slots)

-- the process that is chosen is the one that the other machine names
pub named_same : (a : State) (d p i : ℕ) (here : ClassPart) (r : Running) → SameProcesses here (a.part d) → IsChosen (here.vp p) i r →
    process_at a (record { processor = p; class = d; slot = i }) ≡ Some r.process
named_same a d p i here r same is =
    ap (λ (xs : List (Option Process)). slice_index_or xs i None) (sym (same p)) ∙ get_or-map process_of (here.vp p).slots i None ∙ ap process_of is.there
