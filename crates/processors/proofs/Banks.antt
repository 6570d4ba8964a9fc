-- A bank of which a virtual processor takes a step is one still.
use Rattle.std.proofs.Common.{◌≡◌, ℕ, ◌<◌, List, length, set, sym, ap, ◌∙◌, subst}
use Rattle.std.specs.Prelude.{Option, Some, None}
use Rattle.std.proofs.lemmas.List.{length-set, get_or-set_same, get_or-set_other}
use native.Mathlib.Decide.{ℕ_discrete}
use Rattle.words_layout.specs.declared.op.Op.{Op}
use Rattle.words_layout.specs.Words.{WordOp}
use Rattle.class_model.specs.Config.{Shared, classes}
use Rattle.machine.specs.Processing.{Processing}
use Rattle.machine.specs.Banks.{no_processing, vp_in}
use Rattle.machine.specs.Steps.{IsBank, BankSteps, ProcessingFits}
use Rattle.round_laws.proofs.Idle.{StepsAt, op_of}

-- a step leaves the class
same_class : {W : Type 0} (related : W → Op → ℕ → W → Type 0) (s : Shared) (v v' : Processing) (o : Option WordOp) (w w' : W) (effect : Option ℕ) → StepsAt related s v o w v' w' effect → v'.class ≡ v.class
same_class related s v v' None w w' effect h = ap (λ (x : Processing). x.class) h.processing
same_class related s v v' (Some name) w w' effect h = h.absorbed.class

module _ {W : Type 0} (related : W → Op → ℕ → W → Type 0) (s : Shared) (c : ℕ) (bank bank' : List Processing) (w w' : W) (effect : Option ℕ) (h : BankSteps related s c bank w bank' w' effect) (is : IsBank s bank) (low : c < classes s) where
  inside : c < length bank
  inside = subst (λ (n : ℕ). c < n) (sym is.width) low

  here : vp_in (set bank c h.after) c ≡ h.after
  here = get_or-set_same bank c h.after no_processing inside

  class_here : h.after.class ≡ c
  class_here = same_class related s (vp_in bank c) h.after (op_of s (vp_in bank c)) w w' effect h.step ∙ is.order c low

  order_at : (j : ℕ) → j < classes s → Dec (j ≡ c) → (vp_in (set bank c h.after) j).class ≡ j
  order_at j below (yes e) = subst (λ (i : ℕ). (vp_in (set bank c h.after) i).class ≡ i) (sym e) (ap (λ (v : Processing). v.class) here ∙ class_here)
  order_at j below (no apart) = ap (λ (v : Processing). v.class) (get_or-set_other bank c j h.after no_processing apart) ∙ is.order j below

  fits_at : (j : ℕ) → j < classes s → Dec (j ≡ c) → ProcessingFits s (vp_in (set bank c h.after) j)
  fits_at j below (yes e) = subst (λ (i : ℕ). ProcessingFits s (vp_in (set bank c h.after) i)) (sym e) (subst (ProcessingFits s) (sym here) h.fits)
  fits_at j below (no apart) = subst (ProcessingFits s) (sym (get_or-set_other bank c j h.after no_processing apart)) (is.fits j below)

  pub bank_on : IsBank s bank'
  bank_on = subst (IsBank s) (sym h.bank_is) record {
    width = length-set bank c h.after ∙ is.width;
    order = λ j below. order_at j below (ℕ_discrete j c);
    fits = λ j below. fits_at j below (ℕ_discrete j c);
  }
