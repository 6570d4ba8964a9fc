-- What there is to be saved, seen from where port 0 was read.
use Rattle.std.proofs.Common.{◌≡◌, ℕ, ◌+◌, ◌<◌, inr, List, Some, length, drop, refl, sym, ap, subst, ◌∙◌, arith}
use Rattle.class_model.specs.Config.{SegRecord}
use Rattle.config_text.specs.declared.config.Config.{Config as ConfigText}
use Rattle.host_ports.specs.Ports.{Port, PullKeeps}
use Rattle.volume_image.specs.Volumes.{Spells as SpellsVolume, IsFault as IsVolumeFault}
use Rattle.volume_image.specs.Written.{written}
use Rattle.command_input.specs.declared.status.Status.{Status}
use Rattle.command_input.specs.declared.status.Status.TheVariants.{Refused, HostFault, NoMemory}
use Rattle.command_input.specs.declared.status.Refusal.TheVariants.{Volume, TooLong}
use Rattle.command_input.specs.declared.status.PortFault.TheVariants.{Read}
use Rattle.command_input.specs.Input.{Ports, IfTold, NothingPushed, NoneFailed, BrokeOff, ConfigHad, limit}
use Rattle.command_input.specs.Reading.{VolumeReads, VolumeFails}
use Rattle.command_input.proofs.Failures.{none_on, none_pull, pull_none, pull_one}
use Rattle.command_input.proofs.Reading.{silent_pull, silent_on, told_as, told_of, whole_as}
use Rattle.command_save.specs.Images.{AreStored}
use Rattle.command_save.specs.Read.{ConfigRead, UntouchedFrom}
use Rattle.command_save.specs.Input.{ImageHad, ImageFails}

module _ (before middle after : Ports) (k : ConfigText) (had : ConfigHad before middle k) (keeps : PullKeeps 1 middle after) where
  -- port 1 was as it had been
  same : middle 1 ≡ before 1
  same = had.keeps.others 1 (λ e. absurd (omega (arith, e)))

  config_read : ConfigRead before after k
  config_read = record { told = had.told; whole = whole_as 0 before middle before after refl (ap (λ (x : Port). x.left) (keeps.others 0 (λ e. absurd (omega (arith, e))))) had.whole }

  silent : NothingPushed before after
  silent = silent_on before middle after (silent_pull 0 before middle had.keeps) (silent_pull 1 middle after keeps)

  none : NoneFailed before middle
  none = pull_none 0 before middle had.keeps had.stays

  others : UntouchedFrom 2 before after
  others p le = keeps.others p (λ e. absurd (omega (arith, e, le))) ∙ had.keeps.others p (λ e. absurd (omega (arith, e, le)))

  behind : (p : ℕ) → 1 < p → after p ≡ before p
  behind p lt = others p (omega arith)

module _ (before middle after : Ports) (k : ConfigText) (had : ConfigHad before middle k) where
  pub no_volume : (s : Status) → VolumeFails k.table 1 middle after s → ImageFails before after s
  no_volume NoMemory f = record {
    cause = tt;
    silent = silent before middle after k had f.0;
    others = others before middle after k had f.0;
    ports = record { silence = silent before middle after k had f.0; faults = none_on before middle after (none before middle after k had f.0) (pull_none 1 middle after f.0 f.1); unread = tt };
  }
  no_volume (HostFault (Read p)) f = subst (λ q. ImageFails before after (HostFault (Read q))) (sym f.0) (record {
    cause = (inr (refl, (k, config_read before middle after k had f.1)), subst (λ (x : Port). BrokeOff (limit 1) x (after 1)) (same before middle after k had f.1) f.2);
    silent = silent before middle after k had f.1;
    others = others before middle after k had f.1;
    ports = record { silence = silent before middle after k had f.1; faults = none_pull 1 before middle after (none before middle after k had f.1) (pull_one 1 middle after f.1 f.2.rose); unread = behind before middle after k had f.1 };
  })
  no_volume (Refused (TooLong p)) f = subst (λ q. ImageFails before after (Refused (TooLong q))) (sym f.0) (record {
    cause = (
      inr (refl, (k, config_read before middle after k had f.1)),
      subst (λ (x : Port). IfTold x.left (λ bytes. (limit 1 < length bytes) × ((after 1).left ≡ Some (drop (limit 1 + 1) bytes)))) (same before middle after k had f.1) f.2,
    );
    silent = silent before middle after k had f.1;
    others = others before middle after k had f.1;
    ports = record { silence = silent before middle after k had f.1; faults = none_on before middle after (none before middle after k had f.1) (pull_none 1 middle after f.1 f.3); unread = behind before middle after k had f.1 };
  })
  no_volume (Refused (Volume p offset code)) f =
      let bad = f.1 in
      let keeps = bad.reads.keeps in
      let left = ap (λ (x : Port). x.left) (sym (same before middle after k had keeps)) in
      subst (λ q. ImageFails before after (Refused (Volume q offset code))) (sym f.0) (record {
        cause = (
          refl,
          k,
          config_read before middle after k had keeps,
          whole_as 1 middle after before after left refl bad.reads.whole,
          told_as (λ bytes. IsVolumeFault k.table bytes offset code) (middle 1).left (before 1).left left (told_of (λ bytes. IsVolumeFault k.table bytes offset code) (middle 1).left bad.bytes bad.reads.told bad.fault),
        );
        silent = silent before middle after k had keeps;
        others = others before middle after k had keeps;
        ports = record { silence = silent before middle after k had keeps; faults = none_on before middle after (none before middle after k had keeps) (pull_none 1 middle after keeps bad.reads.stays); unread = behind before middle after k had keeps };
      })
  no_volume _ f = absurd f

  pub image_had : (v : List SegRecord) (bytes : List ℕ) → VolumeReads k.table 1 middle after v → AreStored (written k.table v) bytes → ImageHad before after bytes
  image_had v bytes got stored =
      let keeps = got.reads.keeps in
      let left = ap (λ (x : Port). x.left) (sym (same before middle after k had keeps)) in
      record {
        of = record {
          config = k;
          read = config_read before middle after k had keeps;
          volume = v;
          told = told_as (λ bytes. SpellsVolume k.table bytes v) (middle 1).left (before 1).left left (told_of (λ bytes. SpellsVolume k.table bytes v) (middle 1).left got.bytes got.reads.told got.spelled);
          whole = whole_as 1 middle after before after left refl got.reads.whole;
        };
        stored = stored;
        silent = silent before middle after k had keeps;
        none = none_on before middle after (none before middle after k had keeps) (pull_none 1 middle after keeps got.reads.stays);
        others = others before middle after k had keeps;
      }
