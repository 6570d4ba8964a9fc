-- Steps of a virtual processor by what is performed.
use Rattle.std.proofs.Common.{ℕ, ◌<◌, ◌≡◌, refl, sym, subst, Option, Some, None, MatchOption, Bool}
use Rattle.std.specs.Prelude.{slice_index_or, slice_set}
use Rattle.words_layout.specs.Named.{op_at}
use Rattle.words_layout.specs.Words.{WordOp}
use Rattle.words_layout.specs.declared.op.Op.{Op}
use Rattle.policy.specs.declared.answers.Outcome.{Outcome as Answer}
use Rattle.class_model.specs.Config.{Shared}
use Rattle.process.specs.Fits.{OpFits}
use Rattle.process.specs.Running.{next_op, absorb}
use Rattle.process.specs.declared.doing.Absorbed.{Absorbed as Answered}
use Rattle.process.specs.declared.doing.Made.{Made as Given}
use Rattle.process.proofs.Loaded.{fitting_within}
use Rattle.process.specs.Standing.{Standing, StandingFits, StandingSteps, Absorbs, OpIsLawful, running_of}
use Rattle.machine.specs.Processing.{Processing, first_live, free_in}
use Rattle.machine.specs.Steps.{ProcessingFits, IsChosen, StepsBy, Rests, Performs, IsAbsorbed, SlotFits, SlotPerforms}
use Rattle.machine.proofs.Slots.{no_operation, operation_is}
use Rattle.machine.proofs.Absorbing.{slot_steps}

module _ {W : Type 0} (related : W → Op → ℕ → W → Type 0) (s : Shared) (v : Processing) (words : W) where
  -- where no process is live
  pub rests_by : v.current < 4 → None ≡ first_live v.slots v.current → StepsBy related s v words v words None
  rests_by small h =
      subst (λ (o : Option WordOp). MatchOption o (Rests v words v words None) (λ op. Performs related s v words v words None op)) (sym (no_operation s v v.class small (sym h)))
      (record { processing = refl; words_are = refl; no_effect = refl })

  -- where one is
  pub performs_by : (i : ℕ) (u v' : Processing) (words' : W) (outcome : Answer) (made : Given) (effect : Bool) (shown : Option ℕ) (p : SlotPerforms related s v i words u words' outcome made effect) →
      IsAbsorbed s v p.answer v' shown → StepsBy related s v words v' words' shown
  performs_by i u v' words' outcome made effect shown p absorbed =
      subst (λ (o : Option WordOp). MatchOption o (Rests v words v' words' shown) (λ op. Performs related s v words v' words' shown op)) (sym p.of_step)
      (record { answer = p.answer; in_limits = p.in_limits; performed = p.performed; lawful = p.lawful; absorbed = absorbed })

  -- the step of the process of the chosen slot is one of the virtual processor
  pub slot_performs : (i : ℕ) (before after : Standing) (u : Processing) (words' : W) (outcome : Answer) (made : Given) (effect : Bool) (free : Option ℕ) (given : Answered) →
      ProcessingFits s v → IsChosen v i → slice_index_or v.slots i None ≡ Some before → free ≡ free_in v.slots →
      u ≡ record v { slots = slice_set v.slots i (Some after) } → outcome ≡ given.outcome → made ≡ given.made → effect ≡ given.effect →
      StandingFits s after → StandingSteps related s before free words after words' given →
      SlotPerforms related s v i words u words' outcome made effect
  slot_performs i before after u words' outcome made effect free given fits c there least is outcome_is made_is effect_is standing p =
      let same : before.class ≡ v.class = (subst (SlotFits s v.class) there (fits.slots i)).0 in
      let op : WordOp = next_op s v.class (running_of s before) in
      let a : Absorbs s before after (absorb s before.class (running_of s before) free p.answer) given = p.absorbed in
      rw (outcome_is, made_is, effect_is) (record {
        op = op;
        of_step = operation_is s v i c before there v.class;
        answer = p.answer;
        in_limits = fitting_within s v.class op (subst (λ (d : ℕ). OpFits s d (next_op s d (running_of s before))) same p.fits);
        performed = subst (λ (d : ℕ). related words (op_at d (next_op s d (running_of s before))) p.answer words') same p.performed;
        lawful = subst (λ (d : ℕ). OpIsLawful s d (op_at d (next_op s d (running_of s before)))) same p.lawful;
        slot = slot_steps s v i p.answer before fits there after u free given.outcome given.made given.effect least is
            a.running a.class a.ending a.effect a.made p.given_fits standing;
      })
