-- Runs that are too long for a search to compute.
use Rattle.std.proofs.Common.{[], ◌∷◌, ◌++◌, ◌≡◌, refl}
use Rattle.class_model.specs.Cases.{uses_up_serials}
use Rattle.worked_runs.specs.Cases.{console_and_segments, deleted_texts, events}

pub serials : console_and_segments 1 uses_up_serials (events 0 0 13 ++ events 1 1 2074) ≡ (14 ∷ 24 ∷ 4 ∷ [], deleted_texts)
unfolding console_and_segments uses_up_serials deleted_texts
serials = refl
