-- The processes of a machine fit all along, if they do at its opening.
use Rattle.std.proofs.Common.{ℕ, List, [], ◌∷◌}
use Rattle.words_layout.specs.declared.op.Event.{Event}
use Rattle.class_model.specs.Config.{Shared}
use Rattle.process.specs.Fits.{IsSound, Fits}
use Rattle.process.proofs.Keeping.{fits_after, child_fits}
use Rattle.machine.specs.Machine.{Machine, step}
use Rattle.flow_laws.specs.Flow.{AllFit, AlwaysFit}
use Rattle.flow_laws.proofs.Slots.{Kept, step_keep}

pub fits_kept : (s : Shared) → IsSound s → (d : ℕ) → Kept s d (Fits s d)
fits_kept s sound d = record {
  after = λ r free answer f. fits_after s sound d r free answer f;
  begun = λ r free answer f slot child e. child_fits s sound d r free answer f slot child e;
}

pub always_fit : (events : List Event) (m : Machine) → IsSound m.shared → AllFit m → AlwaysFit m events
always_fit [] m sound fit = fit
always_fit (e ∷ events) m sound fit = (fit, always_fit events (step m e) sound (step_keep (Fits m.shared) m e (fits_kept m.shared sound) fit))
