-- How what fits comes to be.
use Rattle.std.proofs.Common.{ℕ, zero, suc, ◌<◌, [], ◌∷◌, length, ◌≡◌, refl, sym, subst, ◌∙◌, Option, Some, None, arith}
use Rattle.std.specs.Prelude.{slice_index_or, slice_set, replicate}
use Rattle.std.proofs.lemmas.List.{length-set}
use Rattle.class_model.specs.Config.{Shared, classes}
use Rattle.class_model.specs.Shared.{UsesScript}
use Rattle.process.specs.Fits.{IsSound}
use Rattle.process.specs.Standing.{Standing, StandingFits, new_standing}
use Rattle.process.proofs.Keeping.{opening_fits}
use Rattle.machine.specs.Processing.{Processing}
use Rattle.machine.specs.Banks.{bank_at, vp_in}
use Rattle.machine.specs.Steps.{SlotFits, ProcessingFits, IsBank, IsMachine}
use Rattle.machine.proofs.Absorbing.{set_fits}

none_fits : (s : Shared) (d n i : ℕ) → SlotFits s d (slice_index_or (replicate n (let o : Option Standing = None in o)) i None)
none_fits s d zero i = tt
none_fits s d (suc n) zero = tt
none_fits s d (suc n) (suc i) = none_fits s d n i

pub empty_fits : (s : Shared) (class : ℕ) → class < classes s → ProcessingFits s (record { class = class; slots = replicate 4 None; current = 0; lines = []; room = s.console })
empty_fits s class below = record { class = below; four = refl; room = refl; slots = λ i. none_fits s class 4 i }

pub new_process_fits : (s : Shared) (class script ring start : ℕ) → IsSound s → class < classes s → UsesScript s class script → StandingFits s (new_standing class script ring start)
new_process_fits s class script ring start sound below there = record { fits = opening_fits s sound class script ring start below there }

pub filling_fits : (s : Shared) (v : Processing) (slot : ℕ) (p : Standing) → ProcessingFits s v → p.class ≡ v.class → StandingFits s p →
    ProcessingFits s (record v { slots = slice_set v.slots slot (Some p) })
filling_fits s v slot p fits same standing = record {
  class = fits.class;
  four = length-set v.slots slot (Some p) ∙ fits.four;
  room = fits.room;
  slots = λ i. set_fits s v.class v.slots slot (Some p) i fits.slots (same, standing);
}

-- a machine of one processor and one class
pub one_of_each : (s : Shared) (layout : ℕ) (v : Processing) → classes s ≡ 1 → layout ≡ 1 → v.class ≡ 0 → ProcessingFits s v → IsMachine layout ((v ∷ []) ∷ []) s
one_of_each s layout v one layout_is class fits = record { some = omega arith; most = omega arith; layout_is = layout_is ∙ sym one; each = bank }
  where
    place : (c : ℕ) → c < 1 → ((vp_in (v ∷ []) c).class ≡ c) × ProcessingFits s (vp_in (v ∷ []) c)
    place zero lt = (class, fits)
    place (suc c) lt = absurd (omega arith)

    bank : (p : ℕ) → p < length ((v ∷ []) ∷ []) → IsBank s (bank_at ((v ∷ []) ∷ []) p)
    bank zero lt = record {
      width = sym one;
      order = λ c below. (place c (subst (λ (n : ℕ). c < n) one below)).0;
      fits = λ c below. (place c (subst (λ (n : ℕ). c < n) one below)).1;
    }
    bank (suc p) lt = absurd (omega arith)
