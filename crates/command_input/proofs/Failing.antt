-- What there is where a port couldn't be read, or its bytes spell nothing.
use Rattle.std.proofs.Common.{◌≡◌, ℕ, ◌+◌, ◌<◌, ◌≤◌, ◌⊎◌, inl, inr, List, [], ◌∷◌, Option, Some, None, length, drop, refl, sym, ap, subst, ◌∙◌, arith}
use Rattle.std.proofs.lemmas.Bool.{cases_eq}
use Rattle.std.specs.Prelude.{Contains}
use Rattle.host_ports.specs.Ports.{Port, PullKeeps}
use Rattle.config_text.specs.declared.config.Config.{Config as ConfigText}
use Rattle.config_text.specs.Text.{Spells, IsFault}
use Rattle.config_text.specs.Valid.{IsValid}
use Rattle.volume_image.specs.Volumes.{IsFault as IsVolumeFault}
use Rattle.command_input.specs.declared.status.Status.{Status}
use Rattle.command_input.specs.declared.status.Status.TheVariants.{Refused, HostFault, NoMemory}
use Rattle.command_input.specs.declared.status.Refusal.TheVariants.{Config, Class, Volume, Load, TooLong}
use Rattle.command_input.specs.declared.status.PortFault.TheVariants.{Read}
use Rattle.loader.specs.Records.{Volumes, named_by, IsLoadFault}
use Rattle.command_input.specs.Input.{Ports, IfTold, Untouched, NothingPushed, NoneFailed, BrokeOff, IsBrokenOff, IsTooLong, IsReadWhole, OfConfiguration, IsAmong, IsNext, ConfigHad, InputHad, limit}
use Rattle.command_input.specs.Reading.{ReadsIn, ReadFails, VolumeFails, FailsAt, VolumesFail, VolumesRead, IsNoClass}
use Rattle.command_input.specs.Answer.{ConfigCause, InputCause, ConfigFails, InputFails, OnlyNamedRead, PortsShow}
use Rattle.loader.proofs.NamedVolumes.{contains_behind, contains_cases}
use Rattle.command_input.proofs.Failures.{untouched_none, none_on, none_pull, pull_none, pull_one}
use Rattle.command_input.proofs.Reading.{silent_pull, silent_on, silent_same, told_as, told_of, whole_as, reads_below, reads_kept, are_volumes}

-- a number is among others, or it isn't
pub contains_or_not : (xs : List ℕ) (p : ℕ) → Contains xs p ⊎ (Contains xs p → ⊥)
contains_or_not [] p = inr (λ c. let lt = c.1 in absurd (omega arith))
contains_or_not (x ∷ xs) p = by (cases_eq x p) (contains_or_not xs p)
  where
    by : (x ≡ p) ⊎ (x ≡ p → ⊥) → Contains xs p ⊎ (Contains xs p → ⊥) → Contains (x ∷ xs) p ⊎ (Contains (x ∷ xs) p → ⊥)
    by (inl e) rest = inl (0, omega arith, e)
    by (inr ne) (inl c) = inl (contains_behind x xs p c)
    by (inr ne) (inr none) = inr (λ c. elim (contains_cases x xs p c) [ inl e ↦ ne e | inr d ↦ none d ])

-- ---- port 0

pub config_had : (before after : Ports) (text : List ℕ) (k : ConfigText) → ReadsIn 0 before after text → Spells text k → IsValid k → ConfigHad before after k
config_had before after text k read spelled valid = record {
  told = told_of (λ bytes. Spells bytes k) (before 0).left text read.told spelled;
  valid = valid;
  whole = read.whole;
  keeps = read.keeps;
  stays = read.stays;
}

behind_0 : (before after : Ports) → PullKeeps 0 before after → (p : ℕ) → 0 < p → after p ≡ before p
behind_0 before after keeps p lt = keeps.others p (λ e. absurd (omega (arith, e, lt)))

untouched_silent : (before after : Ports) → Untouched before after → NothingPushed before after
untouched_silent before after same = record { taken = λ p. ap (λ (x : Port). x.taken) (same p); pushes = λ p. ap (λ (x : Port). x.pushes) (same p) }

pub reading_fails : (before after : Ports) (s : Status) → ReadFails 0 before after s → ConfigFails before after s
reading_fails before after NoMemory f = record {
  cause = tt;
  silent = untouched_silent before after f;
  others = λ p some. f p;
  ports = record { silence = untouched_silent before after f; faults = untouched_none before after f; unread = tt };
}
reading_fails before after (HostFault (Read port)) f = subst (λ q. ConfigFails before after (HostFault (Read q))) (sym f.0) (record {
  cause = (refl, f.2);
  silent = silent_pull 0 before after f.1;
  others = f.1.others;
  ports = record { silence = silent_pull 0 before after f.1; faults = pull_one 0 before after f.1 f.2.rose; unread = behind_0 before after f.1 };
})
reading_fails before after (Refused (TooLong port)) f = subst (λ q. ConfigFails before after (Refused (TooLong q))) (sym f.0) (record {
  cause = (refl, f.2);
  silent = silent_pull 0 before after f.1;
  others = f.1.others;
  ports = record { silence = silent_pull 0 before after f.1; faults = pull_none 0 before after f.1 f.3; unread = behind_0 before after f.1 };
})
reading_fails before after _ f = absurd f

pub spelling_fails : (before after : Ports) (text : List ℕ) (line code : ℕ) → ReadsIn 0 before after text → IsFault text line code → ConfigFails before after (Refused (Config line code))
spelling_fails before after text line code read fault = record {
  cause = (read.whole, told_of (λ bytes. IsFault bytes line code) (before 0).left text read.told fault);
  silent = silent_pull 0 before after read.keeps;
  others = read.keeps.others;
  ports = record { silence = silent_pull 0 before after read.keeps; faults = pull_none 0 before after read.keeps read.stays; unread = behind_0 before after read.keeps };
}

pub config_memory : (before after : Ports) (text : List ℕ) → ReadsIn 0 before after text → ConfigFails before after NoMemory
config_memory before after text read = record {
  cause = tt;
  silent = silent_pull 0 before after read.keeps;
  others = read.keeps.others;
  ports = record { silence = silent_pull 0 before after read.keeps; faults = pull_none 0 before after read.keeps read.stays; unread = tt };
}

-- where there is no configuration, there is no input
config_cause : (wanted : Option ℕ) (before after : Ports) (s : Status) → ConfigCause before after s → InputCause wanted before after s
config_cause wanted before after (HostFault (Read port)) f = (inl f.0, subst (λ q. IsBrokenOff q before after) (sym f.0) f.1)
config_cause wanted before after (Refused (TooLong port)) f = (inl f.0, subst (λ q. IsTooLong q before after) (sym f.0) f.1)
config_cause wanted before after (Refused (Config line code)) f = f
config_cause wanted before after NoMemory f = tt
config_cause wanted before after _ f = absurd f

pub no_config : (wanted : Option ℕ) (before after : Ports) (s : Status) → ConfigFails before after s → InputFails wanted before after s
no_config wanted before after s f = record {
  cause = config_cause wanted before after s f.cause;
  silent = f.silent;
  others = λ p some. inl (f.others p some);
  ports = f.ports;
}

pub no_class : (before after : Ports) (k : ConfigText) (given classes : ℕ) → ConfigHad before after k → classes ≡ length k.table → classes ≤ given →
    InputFails (Some given) before after (Refused (Class given classes))
no_class before after k given classes had count high = record {
  cause = (refl, had.whole, by (before 0).left had.told);
  silent = silent_pull 0 before after had.keeps;
  others = λ p some. inl (had.keeps.others p some);
  ports = record { silence = silent_pull 0 before after had.keeps; faults = pull_none 0 before after had.keeps had.stays; unread = behind_0 before after had.keeps };
}
  where
    by : (left : Option (List ℕ)) → IfTold left (λ bytes. Spells bytes k) → OfConfiguration left (λ c. (classes ≡ length c.table) × (classes ≤ given))
    by None h = tt
    by (Some bytes) h = (k, h, (count, high))

pub outside : (wanted : Option ℕ) (before after : Ports) (k : ConfigText) (s : Status) → ConfigHad before after k → IsNoClass wanted k s → InputFails wanted before after s
outside wanted before after k (Refused (Class given classes)) had h = subst (λ (w : Option ℕ). InputFails w before after (Refused (Class given classes))) (sym h.0) (no_class before after k given classes had h.1 h.2)
outside wanted before after k _ had h = absurd h

-- ---- the volumes

fails_keeps : (k : ConfigText) (n : ℕ) (now after : Ports) (s : Status) → VolumeFails k.table n now after s → PullKeeps n now after
fails_keeps k n now after NoMemory f = f.0
fails_keeps k n now after (HostFault (Read p)) f = f.1
fails_keeps k n now after (Refused (TooLong p)) f = f.1
fails_keeps k n now after (Refused (Volume p offset code)) f = f.1.reads.keeps
fails_keeps k n now after _ f = absurd f

module _ (wanted : Option ℕ) (before middle after : Ports) (k : ConfigText) (had : ConfigHad before middle k) (among : IsAmong wanted k)
    (s : Status) (n : ℕ) (f : FailsAt k middle after n (λ now. VolumeFails k.table n now after s)) where
  abbrev now : Ports
  now = f.middle

  keeps : PullKeeps n now after
  keeps = fails_keeps k n now after s f.fails

  -- the port of the volume was as it was
  port_same : now n ≡ before n
  port_same = f.read.others n (λ c. (let lt = (f.read.numbers.named n c).0 in absurd (omega arith))) ∙ had.keeps.others n (λ e. (let some = f.some in absurd (omega (arith, e, some))))

  next : (P : ConfigText → Type 0) → P k → IsNext n before after P
  next P p = (
    k,
    f.volumes,
    f.some,
    f.most,
    f.named,
    reads_below n before middle now after k f.volumes f.some had f.read (λ q lt. ap (λ (x : Port). x.left) (keeps.others q (λ e. absurd (omega (arith, e, lt))))),
    p,
  )

  silent : NothingPushed before after
  silent = silent_on before now after (silent_on before middle now (silent_pull 0 before middle had.keeps) f.read.silent) (silent_pull n now after keeps)

  -- no call had failed before
  none : NoneFailed before now
  none = none_on before middle now (pull_none 0 before middle had.keeps had.stays) f.read.none

  -- a port behind it is as it was
  behind : (p : ℕ) → n < p → after p ≡ before p
  behind p lt =
      keeps.others p (λ e. absurd (omega (arith, e, lt))) ∙
      (f.read.others p (λ c. (let less = (f.read.numbers.named p c).0 in absurd (omega (arith, less, lt)))) ∙ had.keeps.others p (λ e. absurd (omega (arith, e, lt))))

  only_named : OnlyNamedRead before after
  only_named p some = by (contains_or_not (named_by k) p)
    where
      by : Contains (named_by k) p ⊎ (Contains (named_by k) p → ⊥) → (after p ≡ before p) ⊎ ((c : ConfigText) × IfTold (before 0).left (λ bytes. Spells bytes c) × Contains (named_by c) p)
      by (inl named) = inr (k, had.told, named)
      by (inr none) = inl (keeps.others p (λ e. none (subst (Contains (named_by k)) (sym e) f.named)) ∙
          (f.read.others p (λ c. none (f.read.numbers.named p c).1) ∙ had.keeps.others p some))

module _ (wanted : Option ℕ) (before middle after : Ports) (k : ConfigText) (had : ConfigHad before middle k) (among : IsAmong wanted k) (n : ℕ) where
  abbrev Fails : Status → Type 0
  Fails s = FailsAt k middle after n (λ now. VolumeFails k.table n now after s)

  abbrev Shows : Status → Type 0
  Shows s = InputCause wanted before after s × PortsShow before after s

  fail_shows : (s : Status) → Fails s → Shows s
  fail_shows NoMemory f = (
    tt,
    record {
      silence = silent wanted before middle after k had among NoMemory n f;
      faults = none_on before f.middle after (none wanted before middle after k had among NoMemory n f) (pull_none n f.middle after f.fails.0 f.fails.1);
      unread = tt;
    },
  )
  fail_shows (HostFault (Read p)) f = subst (λ q. Shows (HostFault (Read q))) (sym f.fails.0) (
    (
      inr (next wanted before middle after k had among (HostFault (Read p)) n f (IsAmong wanted) among),
      subst (λ (x : Port). BrokeOff (limit n) x (after n)) (port_same wanted before middle after k had among (HostFault (Read p)) n f) f.fails.2,
    ),
    record {
      silence = silent wanted before middle after k had among (HostFault (Read p)) n f;
      faults = none_pull n before f.middle after (none wanted before middle after k had among (HostFault (Read p)) n f) (pull_one n f.middle after f.fails.1 f.fails.2.rose);
      unread = behind wanted before middle after k had among (HostFault (Read p)) n f;
    },
  )
  fail_shows (Refused (TooLong p)) f = subst (λ q. Shows (Refused (TooLong q))) (sym f.fails.0) (
    (
      inr (next wanted before middle after k had among (Refused (TooLong p)) n f (IsAmong wanted) among),
      subst (λ (x : Port). IfTold x.left (λ bytes. (limit n < length bytes) × ((after n).left ≡ Some (drop (limit n + 1) bytes)))) (port_same wanted before middle after k had among (Refused (TooLong p)) n f) f.fails.2,
    ),
    record {
      silence = silent wanted before middle after k had among (Refused (TooLong p)) n f;
      faults = none_on before f.middle after (none wanted before middle after k had among (Refused (TooLong p)) n f) (pull_none n f.middle after f.fails.1 f.fails.3);
      unread = behind wanted before middle after k had among (Refused (TooLong p)) n f;
    },
  )
  fail_shows (Refused (Volume p offset code)) f =
      let same = port_same wanted before middle after k had among (Refused (Volume p offset code)) n f in
      let bad = f.fails.1 in
      subst (λ q. Shows (Refused (Volume q offset code))) (sym f.fails.0) (
        next wanted before middle after k had among (Refused (Volume p offset code)) n f (λ c. IsAmong wanted c × IsReadWhole n before after × IfTold (before n).left (λ bytes. IsVolumeFault c.table bytes offset code)) (
          among,
          whole_as n f.middle after before after (ap (λ (x : Port). x.left) (sym same)) refl bad.reads.whole,
          told_as (λ bytes. IsVolumeFault k.table bytes offset code) (f.middle n).left (before n).left (ap (λ (x : Port). x.left) (sym same))
              (told_of (λ bytes. IsVolumeFault k.table bytes offset code) (f.middle n).left bad.bytes bad.reads.told bad.fault),
        ),
        record {
          silence = silent wanted before middle after k had among (Refused (Volume p offset code)) n f;
          faults = none_on before f.middle after (none wanted before middle after k had among (Refused (Volume p offset code)) n f) (pull_none n f.middle after bad.reads.keeps bad.reads.stays);
          unread = behind wanted before middle after k had among (Refused (Volume p offset code)) n f;
        },
      )
  fail_shows _ f = absurd f.fails

pub no_volumes : (wanted : Option ℕ) (before middle after : Ports) (k : ConfigText) (s : Status) → ConfigHad before middle k → IsAmong wanted k → VolumesFail k middle after s → InputFails wanted before after s
no_volumes wanted before middle after k s had among f =
    let shows = fail_shows wanted before middle after k had among f.0 s f.1 in record {
      cause = shows.0;
      silent = silent wanted before middle after k had among s f.0 f.1;
      others = only_named wanted before middle after k had among s f.0 f.1;
      ports = shows.1;
    }

-- ---- all of it

pub input_had : (wanted : Option ℕ) (before middle after : Ports) (k : ConfigText) (vs : Volumes) → ConfigHad before middle k → IsAmong wanted k → VolumesRead 5 k middle after vs → InputHad wanted before after k vs
input_had wanted before middle after k vs had among read = record {
  valid = had.valid;
  among = among;
  volumes = are_volumes k middle after vs read;
  reads = reads_below 5 before middle after after k vs (omega arith) had read (λ p lt. refl);
  silent = silent_on before middle after (silent_pull 0 before middle had.keeps) read.silent;
  none = none_on before middle after (pull_none 0 before middle had.keeps had.stays) read.none;
  others = λ p some free. read.others p (λ c. free (read.numbers.named p c).1) ∙ had.keeps.others p some;
}

-- ---- answers behind the input

module _ (wanted : Option ℕ) (before now after : Ports) (k : ConfigText) (vs : Volumes) (had : InputHad wanted before now k vs) (same : Untouched now after) where
  still_silent : NothingPushed before after
  still_silent = silent_same before now after had.silent same

  still_none : NoneFailed before after
  still_none = none_on before now after had.none (untouched_none now after same)

  still_named : OnlyNamedRead before after
  still_named p some = by (contains_or_not (named_by k) p)
    where
      by : Contains (named_by k) p ⊎ (Contains (named_by k) p → ⊥) → (after p ≡ before p) ⊎ ((c : ConfigText) × IfTold (before 0).left (λ bytes. Spells bytes c) × Contains (named_by c) p)
      by (inl named) = inr (k, had.reads.config, named)
      by (inr free) = inl (same p ∙ had.others p some free)

  pub no_memory : InputFails wanted before after NoMemory
  no_memory = record { cause = tt; silent = still_silent; others = still_named; ports = record { silence = still_silent; faults = still_none; unread = tt } }

  -- a record is at fault
  pub no_load : (volume item code : ℕ) → IsLoadFault k vs volume item code → InputFails wanted before after (Refused (Load volume item code))
  no_load volume item code fault = record {
    cause = (k, vs, reads_kept 5 before now after k vs (λ p. ap (λ (x : Port). x.left) (same p)) had.reads, had.among, fault);
    silent = still_silent;
    others = still_named;
    ports = record { silence = still_silent; faults = still_none; unread = tt };
  }

-- out of memory before anything was read
pub memory_first : (wanted : Option ℕ) (before after : Ports) → Untouched before after → InputFails wanted before after NoMemory
memory_first wanted before after same = no_config wanted before after NoMemory (reading_fails before after NoMemory same)
