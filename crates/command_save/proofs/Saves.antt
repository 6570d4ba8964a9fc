-- What each answer of `save` says, from what is to be saved and what became of the disk.
use Rattle.std.proofs.Common.{◌≡◌, ℕ, List, drop, Err, ap, subst, ◌∙◌}
use Rattle.std.specs.Prelude.{Result}
use Rattle.safe_save.specs.declared.keeping.SaveError.{SaveError}
use Rattle.safe_save.specs.declared.keeping.SaveError.TheVariants.{Length, Disk}
use Rattle.command_input.specs.Input.{Ports}
use Rattle.command_save.specs.Disks.{Sight, KeepsOldOrNew, KeepsNew}
use Rattle.command_save.specs.Input.{ImageHad}
use Rattle.command_save.specs.Keeping.{KeepShows, answer_of}
use Rattle.command_save.specs.Shows.{Saved, SaveShows, image_of}

module _ {D : Type 0} (d : Sight D) (before after : Ports) (old new : D) (bytes stored : List ℕ) (had : ImageHad before after bytes) (same : stored ≡ bytes) where
  image : drop 8 stored ≡ image_of had.of
  image = ap (λ (b : List ℕ). drop 8 b) same ∙ had.stored.behind

  pub saved : (d.honest old → KeepsNew d (drop 8 stored) old new) → Saved d before after old new
  saved f = record { of = had.of; disk = λ h. subst (λ b. KeepsNew d b old new) image (f h) }

  pub not_saved : (e : SaveError) → (let answer : Result (Unit {0}) SaveError = Err e in KeepShows d (drop 8 stored) old new answer) → SaveShows d before after old new (answer_of e)
  not_saved Disk f = record { of = had.of; rose = f.0; disk = λ h. subst (λ b. KeepsOldOrNew d b old new) image (f.1 h) }
  not_saved (Length length) f = record { of = had.of; great = f.0; found = λ h. (f.1 h).0; disk = λ h. (f.1 h).1 }
