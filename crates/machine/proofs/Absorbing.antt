-- A virtual processor in memory after an answer stands for the one that the step machine has then.
use Rattle.std.proofs.Common.{ℕ, zero, suc, ◌<◌, Bool, true, false, List, [], ◌∷◌, ◌++◌, map, length, ◌≡◌, refl, sym, ap, ◌∙◌, subst, Option, Some, None, arith}
use Rattle.std.specs.Prelude.{if◌then◌else◌, nat_lt, slice_index_or, slice_set}
use Rattle.std.specs.Option.{option_map}
use Rattle.std.proofs.lemmas.List.{map-set, length-set, get_or-set_other, get_or_default}
use Rattle.policy.specs.declared.answers.Outcome.{Outcome as Answer}
use Rattle.policy.specs.declared.answers.Outcome.TheVariants as A
use Rattle.class_model.specs.Config.{Shared}
use Rattle.class_model.specs.Process.{Process}
use Rattle.process.specs.Running.{Running, absorb, Absorbed, Child}
use Rattle.process.specs.declared.doing.Made.{Made as Given}
use Rattle.process.specs.declared.doing.Made.TheVariants as G
use Rattle.process.specs.Standing.{Standing, StandingFits, GivenFits, running_of, ending_of, made_by, new_standing}
use Rattle.process.proofs.Keeping.{child_in_free}
use Rattle.machine.specs.Machine.{vp_after, vp_effect, vp_chosen, vp_absorbed, effect_chosen, effect_slot, slots_after, slot_after, lines_after}
use Rattle.machine.specs.Processing.{Processing, vp_of, free_in, slots_with, lines_given, with_made, current_after}
use Rattle.machine.specs.Steps.{SlotFits, ProcessingFits, IsChosen, SlotSteps, IsAbsorbed, MadeHere, listed, effect_of}
use Rattle.machine.proofs.Slots.{chosen_is, free_slot_is, free_there}

-- ---- parts

module _ (s : Shared) where
  slots_stand : (d : ℕ) (slots : List (Option Standing)) (made : Given) →
      map (option_map (running_of s)) (slots_with d slots made) ≡ slots_after (map (option_map (running_of s)) slots) (made_by d made)
  slots_stand d slots G.Nothing = refl
  slots_stand d slots (G.Line place value) = refl
  slots_stand d slots (G.Child slot script ring start) = map-set (option_map (running_of s)) slots slot (Some (new_standing d script ring start))

  lines_stand : (d room : ℕ) (lines : List (ℕ × ℕ)) (made : Given) → room ≡ s.console → lines_given room lines made ≡ lines_after s lines (made_by d made)
  lines_stand d room lines G.Nothing e = refl
  lines_stand d room lines (G.Line place value) e = ap (λ (n : ℕ). if nat_lt (length lines) n then lines ++ (place, value) ∷ [] else lines) e
  lines_stand d room lines (G.Child slot script ring start) e = refl

current_stands : (i : ℕ) (outcome : Answer) → current_after i outcome ≡ slot_after i (ending_of outcome)
current_stands i A.Going = refl
current_stands i A.Poll = refl
current_stands i (A.Done reply) = refl

effect_stands : (i : ℕ) (effect : Bool) → listed (effect_of i effect) ≡ effect_slot i effect
effect_stands i true = refl
effect_stands i false = refl

-- ---- slots after a change

pub set_fits : (s : Shared) (d : ℕ) (slots : List (Option Standing)) (k : ℕ) (o : Option Standing) (j : ℕ) → ((i : ℕ) → SlotFits s d (slice_index_or slots i None)) → SlotFits s d o →
    SlotFits s d (slice_index_or (slice_set slots k o) j None)
set_fits s d [] k o j all h = all j
set_fits s d (x ∷ xs) zero o zero all h = h
set_fits s d (x ∷ xs) zero o (suc j) all h = all (suc j)
set_fits s d (x ∷ xs) (suc k) o zero all h = all 0
set_fits s d (x ∷ xs) (suc k) o (suc j) all h = set_fits s d xs k o j (λ i. all (suc i)) h

set_elsewhere : (slots : List (Option Standing)) (k : ℕ) (o : Option Standing) (j : ℕ) → (j ≡ k → ⊥) → slice_index_or (slice_set slots k o) j None ≡ slice_index_or slots j None
set_elsewhere slots k o j apart = get_or-set_other slots k j o None apart

-- ---- the whole

module _ (s : Shared) (v : Processing) (i answer : ℕ) (v' : Processing) (outcome : Answer) (made : Given) (effect : Bool)
    (fits : ProcessingFits s v) (c : IsChosen v i) (h : SlotSteps s v i answer v' outcome made effect) where
  -- what the process makes of the answer
  abbrev told : Absorbed
  told = absorb s v.class (running_of s h.before) (free_in v.slots) answer

  -- the virtual processor with the process after its step
  abbrev stepped : Processing
  stepped = record v { slots = slice_set v.slots i (Some h.after) }

  -- and with all else that the step does
  abbrev after : Processing → Processing
  after u = record (with_made u made) { current = current_after i outcome }

  vp_is : vp_after s v.class (vp_of s v) answer ≡ vp_absorbed s (vp_of s v) i told
  vp_is =
      ap (vp_chosen s v.class (vp_of s v) answer) (chosen_is s v i c h.before h.there) ∙
      ap (λ (o : Option ℕ). vp_absorbed s (vp_of s v) i (absorb s v.class (running_of s h.before) o answer)) (free_slot_is s v fits.four)

  slots_are : map (option_map (running_of s)) (slots_with v.class stepped.slots made) ≡ slots_after (slice_set (vp_of s v).slots i (Some told.running)) told.made
  slots_are =
      slots_stand s v.class stepped.slots made ∙
      ap (λ (xs : List (Option Running)). slots_after xs (made_by v.class made)) (map-set (option_map (running_of s)) v.slots i (Some h.after)) ∙
      ap (λ (r : Running). slots_after (slice_set (vp_of s v).slots i (Some r)) (made_by v.class made)) h.running ∙
      ap (slots_after (slice_set (vp_of s v).slots i (Some told.running))) h.made_is

  lines_are : lines_given v.room v.lines made ≡ lines_after s v.lines told.made
  lines_are = lines_stand s v.class v.room v.lines made fits.room ∙ ap (lines_after s v.lines) h.made_is

  current_is : current_after i outcome ≡ slot_after i told.ending
  current_is = current_stands i outcome ∙ ap (slot_after i) h.ending

  vp_there : vp_of s (after stepped) ≡ vp_absorbed s (vp_of s v) i told
  vp_there = λ j. record { slots = slots_are j; current = current_is j; lines = lines_are j }

  effect_there : listed (effect_of i effect) ≡ vp_effect s v.class (vp_of s v) answer
  effect_there =
      effect_stands i effect ∙ ap (effect_slot i) h.effect_is ∙
      sym (ap (effect_chosen s v.class (vp_of s v) answer) (chosen_is s v i c h.before h.there) ∙
      ap (λ (o : Option ℕ). effect_slot i (absorb s v.class (running_of s h.before) o answer).effect) (free_slot_is s v fits.four))

  -- it is the virtual processor that the step machine has then
  absorbed_there : IsAbsorbed s v answer (after v') (effect_of i effect)
  absorbed_there = subst (λ (u : Processing). IsAbsorbed s v answer (after u) (effect_of i effect)) (sym h.processing)
      (record { absorbed = vp_there ∙ sym vp_is; class = refl; room = refl; effect_is = effect_there })

  -- ---- it fits

  stepped_fits : (j : ℕ) → SlotFits s v.class (slice_index_or stepped.slots j None)
  stepped_fits j = set_fits s v.class v.slots i (Some h.after) j fits.slots h.fits

  given_fits : (m : Given) → GivenFits s v.class m → (j : ℕ) → SlotFits s v.class (slice_index_or (slots_with v.class stepped.slots m) j None)
  given_fits G.Nothing g j = stepped_fits j
  given_fits (G.Line place value) g j = stepped_fits j
  given_fits (G.Child slot script ring start) g j = set_fits s v.class stepped.slots slot (Some (new_standing v.class script ring start)) j stepped_fits (refl, g)

  given_four : (m : Given) → length (slots_with v.class stepped.slots m) ≡ 4
  given_four G.Nothing = length-set v.slots i (Some h.after) ∙ fits.four
  given_four (G.Line place value) = length-set v.slots i (Some h.after) ∙ fits.four
  given_four (G.Child slot script ring start) = length-set stepped.slots slot (Some (new_standing v.class script ring start)) ∙ (length-set v.slots i (Some h.after) ∙ fits.four)

  after_fits : ProcessingFits s (after v')
  after_fits = subst (λ (u : Processing). ProcessingFits s (after u)) (sym h.processing)
      (record { class = fits.class; four = given_four made; room = fits.room; slots = given_fits made h.given })

  -- all of it, for a virtual processor that is told of in parts
  pub absorbs : (u w : Processing) (k : ℕ) (shown : Option ℕ) → u ≡ w → w ≡ with_made v' made → k ≡ current_after i outcome → shown ≡ effect_of i effect →
      IsAbsorbed s v answer (record u { current = k }) shown × ProcessingFits s (record u { current = k })
  absorbs u w k shown first second current_is effect_is =
      let whole : record u { current = k } ≡ after v' = ap (λ (x : Processing). record x { current = k }) (first ∙ second) ∙ ap (λ (n : ℕ). record (with_made v' made) { current = n }) current_is in (
        subst (λ (o : Option ℕ). IsAbsorbed s v answer (record u { current = k }) o) (sym effect_is)
            (subst (λ (x : Processing). IsAbsorbed s v answer x (effect_of i effect)) (sym whole) absorbed_there),
        subst (ProcessingFits s) (sym whole) after_fits,
      )

  -- ---- what was made can be taken

  -- the slot of a new process never held one, nor does it after the step
  child_there : (slot : ℕ) (p : Process) → made_by v.class made ≡ Child slot p → (slot < 4) × (slice_index_or stepped.slots slot None ≡ None)
  child_there slot p e =
      let free = free_there v.slots slot (child_in_free s v.class (free_in v.slots) answer slot p (running_of s h.before) (sym h.made_is ∙ e)) in
      (free.0, set_elsewhere v.slots i (Some h.after) slot (λ same. taken (subst (λ (k : ℕ). slice_index_or v.slots k None ≡ None) same free.1)) ∙ free.1)
    where
      taken : slice_index_or v.slots i None ≡ None → ⊥
      taken e = let there = h.there in absurd (cc)

  made_there : (m : Given) → made ≡ m → GivenFits s v.class m → MadeHere stepped m
  made_there G.Nothing e g = tt
  made_there (G.Line place value) e g = subst (λ (n : ℕ). place < n) (sym fits.room) g
  made_there (G.Child slot script ring start) e g = child_there slot _ (ap (made_by v.class) e)

  pub made_here : MadeHere v' made
  made_here = subst (λ (u : Processing). MadeHere u made) (sym h.processing) (made_there made refl h.given)

-- ---- the process of a slot that absorbed an answer

module _ (s : Shared) (v : Processing) (i answer : ℕ) (before : Standing) (fits : ProcessingFits s v) (there : slice_index_or v.slots i None ≡ Some before) where
  slot_fits : SlotFits s v.class (Some before)
  slot_fits = subst (SlotFits s v.class) there (fits.slots i)

  pub standing_fits : StandingFits s before
  standing_fits = slot_fits.1

  -- what a process makes of the answer, by its own class and a free slot
  abbrev made_of_it : ℕ → Option ℕ → Absorbed
  made_of_it d free = absorb s d (running_of s before) free answer

  pub slot_steps : (after : Standing) (v' : Processing) (free : Option ℕ) (outcome : Answer) (made : Given) (effect : Bool) → free ≡ free_in v.slots →
      v' ≡ record v { slots = slice_set v.slots i (Some after) } →
      running_of s after ≡ (made_of_it before.class free).running → after.class ≡ before.class → ending_of outcome ≡ (made_of_it before.class free).ending →
      effect ≡ (made_of_it before.class free).effect → made_by before.class made ≡ (made_of_it before.class free).made → GivenFits s before.class made → StandingFits s after →
      SlotSteps s v i answer v' outcome made effect
  slot_steps after v' free outcome made effect least is running class ending effect_is made_is given standing =
      let same : before.class ≡ v.class = slot_fits.0 in
      let all : made_of_it before.class free ≡ made_of_it v.class (free_in v.slots) = ap (λ (d : ℕ). made_of_it d free) same ∙ ap (made_of_it v.class) least in
      record {
        before = before;
        after = after;
        there = there;
        processing = is;
        running = running ∙ ap (λ (x : Absorbed). x.running) all;
        ending = ending ∙ ap (λ (x : Absorbed). x.ending) all;
        made_is = ap (λ (d : ℕ). made_by d made) (sym same) ∙ made_is ∙ ap (λ (x : Absorbed). x.made) all;
        effect_is = effect_is ∙ ap (λ (x : Absorbed). x.effect) all;
        fits = (class ∙ same, standing);
        given = subst (λ (d : ℕ). GivenFits s d made) same given;
      }

-- the place of a slot, read with another default
pub there_read : (slots : List (Option Standing)) (i : ℕ) (o : Option Standing) (p : Standing) → i < 4 → length slots ≡ 4 → slice_index_or slots i o ≡ Some p → slice_index_or slots i None ≡ Some p
there_read slots i o p lt four h = get_or_default slots i None o (omega arith) ∙ h
