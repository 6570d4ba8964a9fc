-- What each answer of `restore` says, from what was read and loaded.
use Rattle.std.proofs.Common.{◌≡◌, ℕ, List, refl, sym, ap, subst, ◌∙◌, arith}
use Rattle.config_text.specs.declared.config.Config.{Config as ConfigText}
use Rattle.host_ports.specs.Ports.{Port, Told, PushKeeps, IsPrefixTaken, with_bytes}
use Rattle.volume_image.specs.Written.{written}
use Rattle.command_input.specs.declared.status.Status.{Status}
use Rattle.command_input.specs.declared.status.Status.TheVariants.{Refused, NoMemory}
use Rattle.command_input.specs.declared.status.Refusal.TheVariants.{Volume}
use Rattle.command_input.specs.Input.{Ports, ConfigHad}
use Rattle.command_input.proofs.Reading.{whole_as}
use Rattle.command_save.specs.Disks.{Sight}
use Rattle.command_save.specs.Images.{IsRewritten, RewriteFails}
use Rattle.command_save.specs.Keeping.{IsKept}
use Rattle.command_save.specs.Shows.{VolumeLoaded, Restored, RestoredUpTo, RestoreShows}

-- bytes of the disk that spell no volume
pub no_kept_volume : {D : Type 0} (d : Sight D) (before after : Ports) (old new : D) (k : ConfigText) (image loaded : List ℕ) (s : Status) → ConfigHad before after k → IsKept d old image → loaded ≡ image → RewriteFails k.table loaded s →
    RestoreShows d before after old new s
no_kept_volume d before after old new k image loaded (Refused (Volume port offset code)) had is same f =
    (f.0, record { config = k; read = record { told = had.told; whole = had.whole }; image = loaded; kept = (subst (λ b. IsKept d old b) (sym same) is).kept }, f.1)
no_kept_volume d before after old new k image loaded NoMemory had is same f = tt
no_kept_volume d before after old new k image loaded _ had is same f = absurd f

module _ {D : Type 0} (d : Sight D) (before middle after : Ports) (old : D) (k : ConfigText) (image loaded bytes pushed : List ℕ)
    (had : ConfigHad before middle k) (is : IsKept d old image) (same : loaded ≡ image) (again : IsRewritten k.table loaded bytes) (push : pushed ≡ bytes) (keeps : PushKeeps 1 middle after) where
  of : VolumeLoaded d before after old
  of = (
    record {
      config = k;
      read = record { told = had.told; whole = whole_as 0 before middle before after refl (ap (λ (x : Port). x.left) (keeps.others 0 (λ e. absurd (omega (arith, e))))) had.whole };
      image = loaded;
      kept = (subst (λ b. IsKept d old b) (sym same) is).kept;
    },
    again.volume,
    again.spelled,
  )

  text : pushed ≡ written k.table again.volume
  text = push ∙ again.again

  begin : (middle 1).taken ≡ (before 1).taken
  begin = ap (λ (x : Port). x.taken) (had.keeps.others 1 (λ e. absurd (omega (arith, e))))

  pub restored : (after 1).taken ≡ with_bytes (middle 1).taken pushed → Restored d before after old
  unfolding of
  restored e = record { of = of; taken = e ∙ (ap (λ (t : Told). with_bytes t pushed) begin ∙ ap (λ (b : List ℕ). with_bytes (before 1).taken b) text) }

  pub restored_up_to : IsPrefixTaken (middle 1).taken (after 1).taken pushed → RestoredUpTo d before after old
  unfolding of
  restored_up_to f = record {
    of = of;
    torn = subst (λ (t : Told). IsPrefixTaken t (after 1).taken (written k.table again.volume)) begin (subst (λ (b : List ℕ). IsPrefixTaken (middle 1).taken (after 1).taken b) text f);
  }
