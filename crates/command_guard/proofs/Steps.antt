-- What holds at each answer of `guard`, step by step.
use Rattle.std.proofs.Common.{◌≡◌, ◌≢◌, ℕ, ◌+◌, ◌<◌, inl, inr, List, Some, length, drop, refl, sym, ap, subst, ◌∙◌, arith}
use Rattle.host_ports.specs.Ports.{Port, Told, Rose, PullKeeps, PushKeeps, IsPrefixTaken, with_bytes}
use Rattle.class_model.specs.Config.{SegRecord}
use Rattle.volume_image.specs.Volumes.{Spells as SpellsVolume, IsFault as IsVolumeFault}
use Rattle.release_guard.specs.declared.order.Order.{Order}
use Rattle.release_guard.specs.Text.{Spells, IsFault}
use Rattle.command_input.specs.declared.status.Status.{Status}
use Rattle.command_input.specs.declared.status.Status.TheVariants.{Done, Refused, HostFault, NoMemory}
use Rattle.command_input.specs.declared.status.Refusal.TheVariants.{Volume, TooLong, Release}
use Rattle.command_input.specs.declared.status.PortFault.TheVariants.{Read, Write}
use Rattle.command_input.specs.Input.{Ports, IfTold, Untouched, NothingPushed, NoneFailed, BrokeOff, IsBrokenOff, IsTooLong, IsReadWhole, limit}
use Rattle.command_input.specs.Reading.{ReadsIn, ReadFails, VolumeReads, VolumeFails}
use Rattle.command_input.specs.Answer.{PortsShow}
use Rattle.command_input.proofs.Failures.{untouched_none, none_on, none_pull, none_push, pull_none, pull_one, push_none, push_one}
use Rattle.command_input.proofs.Reading.{silent_pull, silent_on, told_of, whole_as}
use Rattle.command_guard.specs.Shown.{OrderRead, InputRead, GuardCause, GuardShows}
use Rattle.command_guard.specs.Guarded.{OrderHad, IsMade, NotMade, Pushed}

-- ---- port 0

behind_0 : (before after : Ports) → PullKeeps 0 before after → (p : ℕ) → 0 < p → after p ≡ before p
behind_0 before after keeps p lt = keeps.others p (λ e. absurd (omega (arith, e, lt)))

-- what holds where nothing was pushed and ports 2 and above weren't touched
silent_shows : (before after : Ports) (s : Status) → GuardCause before after s → NothingPushed before after → ((p : ℕ) → 1 < p → after p ≡ before p) → PortsShow before after s → GuardShows before after s
silent_shows before after s cause silent others ports = record { cause = cause; one_port = λ p other. silent.taken p; others = others; ports = ports }

untouched_silent : (before after : Ports) → Untouched before after → NothingPushed before after
untouched_silent before after same = record { taken = λ p. ap (λ (x : Port). x.taken) (same p); pushes = λ p. ap (λ (x : Port). x.pushes) (same p) }

first_others : (before after : Ports) → PullKeeps 0 before after → (p : ℕ) → 1 < p → after p ≡ before p
first_others before after keeps p lt = behind_0 before after keeps p (omega (arith, lt))

pub reading_fails : (before after : Ports) (s : Status) → ReadFails 0 before after s → GuardShows before after s
reading_fails before after NoMemory f =
    silent_shows before after NoMemory tt (untouched_silent before after f) (λ p lt. f p) (record { silence = untouched_silent before after f; faults = untouched_none before after f; unread = tt })
reading_fails before after (HostFault (Read port)) f = subst (λ q. GuardShows before after (HostFault (Read q))) (sym f.0)
    (silent_shows before after (HostFault (Read 0)) (inl refl, f.2) (silent_pull 0 before after f.1) (first_others before after f.1) (record { silence = silent_pull 0 before after f.1; faults = pull_one 0 before after f.1 f.2.rose; unread = behind_0 before after f.1 }))
reading_fails before after (Refused (TooLong port)) f = subst (λ q. GuardShows before after (Refused (TooLong q))) (sym f.0)
    (silent_shows before after (Refused (TooLong 0)) (inl refl, f.2) (silent_pull 0 before after f.1) (first_others before after f.1) (record { silence = silent_pull 0 before after f.1; faults = pull_none 0 before after f.1 f.3; unread = behind_0 before after f.1 }))
reading_fails before after _ f = absurd f

pub spelling_fails : (before after : Ports) (text : List ℕ) (line code : ℕ) → ReadsIn 0 before after text → IsFault text line code → GuardShows before after (Refused (Release line code))
spelling_fails before after text line code read fault =
    silent_shows before after (Refused (Release line code))
    (inl (record { whole = read.whole; fault = told_of (λ bytes. IsFault bytes line code) (before 0).left text read.told fault; unread = behind_0 before after read.keeps }))
    (silent_pull 0 before after read.keeps) (first_others before after read.keeps)
    (record { silence = silent_pull 0 before after read.keeps; faults = pull_none 0 before after read.keeps read.stays; unread = tt })

pub order_memory : (before after : Ports) (text : List ℕ) → ReadsIn 0 before after text → GuardShows before after NoMemory
order_memory before after text read =
    silent_shows before after NoMemory tt (silent_pull 0 before after read.keeps) (first_others before after read.keeps)
    (record { silence = silent_pull 0 before after read.keeps; faults = pull_none 0 before after read.keeps read.stays; unread = tt })

pub order_had : (before after : Ports) (text : List ℕ) (k : Order) → ReadsIn 0 before after text → Spells text k → OrderHad before after k
order_had before after text k read spelled = record {
  told = told_of (λ bytes. Spells bytes k) (before 0).left text read.told spelled;
  valid = spelled.valid;
  whole = read.whole;
  keeps = read.keeps;
  stays = read.stays;
}

-- ---- port 1

module _ (before middle after : Ports) (k : Order) (had : OrderHad before middle k) (keeps : PullKeeps 1 middle after) where
  no_one : ◌≡◌ {A = ℕ} 0 1 → ⊥
  no_one e = omega (arith, e)

  no_zero : ◌≡◌ {A = ℕ} 1 0 → ⊥
  no_zero e = omega (arith, e)

  pub both_silent : NothingPushed before after
  both_silent = silent_on before middle after (silent_pull 0 before middle had.keeps) (silent_pull 1 middle after keeps)

  pub above : (p : ℕ) → 1 < p → after p ≡ before p
  above p lt = keeps.others p (λ e. absurd (omega (arith, e, lt))) ∙ had.keeps.others p (λ e. absurd (omega (arith, e, lt)))

  -- port 0 is as it was left
  pub zero_same : after 0 ≡ middle 0
  zero_same = keeps.others 0 no_one

  -- port 1 was as it was at first
  pub one_same : middle 1 ≡ before 1
  one_same = had.keeps.others 1 no_zero

  pub order_read : OrderRead before after k
  order_read = record {
    spelled = had.told;
    valid = had.valid;
    whole = whole_as 0 before middle before after refl (ap (λ (x : Port). x.left) zero_same) had.whole;
  }

  one_broken : IsBrokenOff 1 middle after → IsBrokenOff 1 before after
  one_broken broken = subst (λ (x : Port). BrokeOff (limit 1) x (after 1)) one_same broken

  one_long : IsTooLong 1 middle after → IsTooLong 1 before after
  one_long long = subst (λ (x : Port). IfTold x.left (λ bytes. (limit 1 < length bytes) × ((after 1).left ≡ Some (drop (limit 1 + 1) bytes)))) one_same long

  pub one_whole : IsReadWhole 1 middle after → IsReadWhole 1 before after
  one_whole whole = whole_as 1 middle after before after (sym (ap (λ (x : Port). x.left) one_same)) refl whole

  pub none_here : (after 1).pulls ≡ (middle 1).pulls → NoneFailed before after
  none_here stays = none_on before middle after (pull_none 0 before middle had.keeps had.stays) (pull_none 1 middle after keeps stays)

  pub no_memory : (after 1).pulls ≡ (middle 1).pulls → GuardShows before after NoMemory
  no_memory stays = silent_shows before after NoMemory tt both_silent above (record { silence = both_silent; faults = none_here stays; unread = tt })

  pub no_pull : IsBrokenOff 1 middle after → GuardShows before after (HostFault (Read 1))
  no_pull broken =
      silent_shows before after (HostFault (Read 1)) (inr (refl, (k, order_read)), one_broken broken) both_silent above
      (record { silence = both_silent; faults = none_pull 1 before middle after (pull_none 0 before middle had.keeps had.stays) (pull_one 1 middle after keeps broken.rose); unread = above })

  pub too_long : IsTooLong 1 middle after → (after 1).pulls ≡ (middle 1).pulls → GuardShows before after (Refused (TooLong 1))
  too_long long stays =
      silent_shows before after (Refused (TooLong 1)) (inr (refl, (k, order_read)), one_long long) both_silent above (record { silence = both_silent; faults = none_here stays; unread = above })

  pub no_volume : (offset code : ℕ) (bytes : List ℕ) → ReadsIn 1 middle after bytes → IsVolumeFault k.table bytes offset code → GuardShows before after (Refused (Volume 1 offset code))
  no_volume offset code bytes read fault =
      silent_shows before after (Refused (Volume 1 offset code))
      (refl, (k, order_read, one_whole read.whole, subst (λ (x : Port). IfTold x.left (λ b. IsVolumeFault k.table b offset code)) one_same (told_of (λ b. IsVolumeFault k.table b offset code) (middle 1).left bytes read.told fault)))
      both_silent above (record { silence = both_silent; faults = none_here read.stays; unread = above })

  pub not_made : (v : List SegRecord) (s : Status) → InputRead before after k v → (after 1).pulls ≡ (middle 1).pulls → NotMade k v s → GuardShows before after s
  not_made v (Refused (Release line code)) input stays fault =
      silent_shows before after (Refused (Release line code)) (inr (k, v, input, fault)) both_silent above (record { silence = both_silent; faults = none_here stays; unread = tt })
  not_made v NoMemory input stays fault = no_memory stays
  not_made v _ input stays fault = absurd fault

pub volume_fails : (before middle after : Ports) (k : Order) (s : Status) → OrderHad before middle k → VolumeFails k.table 1 middle after s → GuardShows before after s
volume_fails before middle after k NoMemory had f = no_memory before middle after k had f.0 f.1
volume_fails before middle after k (HostFault (Read p)) had f = subst (λ q. GuardShows before after (HostFault (Read q))) (sym f.0) (no_pull before middle after k had f.1 f.2)
volume_fails before middle after k (Refused (TooLong p)) had f = subst (λ q. GuardShows before after (Refused (TooLong q))) (sym f.0) (too_long before middle after k had f.1 f.2 f.3)
volume_fails before middle after k (Refused (Volume p offset code)) had f =
    subst (λ q. GuardShows before after (Refused (Volume q offset code))) (sym f.0) (no_volume before middle after k had f.1.reads.keeps offset code f.1.bytes f.1.reads f.1.fault)
volume_fails before middle after k _ had f = absurd f

pub input_read : (before middle after : Ports) (k : Order) (v : List SegRecord) → OrderHad before middle k → VolumeReads k.table 1 middle after v → InputRead before after k v
input_read before middle after k v had read = record {
  order = order_read before middle after k had read.reads.keeps;
  spelled = subst (λ (x : Port). IfTold x.left (λ b. SpellsVolume k.table b v)) (one_same before middle after k had read.reads.keeps) (told_of (λ b. SpellsVolume k.table b v) (middle 1).left read.bytes read.reads.told read.spelled);
  valid = read.valid;
  whole = one_whole before middle after k had read.reads.keeps read.reads.whole;
}

pub release_fails : (before middle after : Ports) (k : Order) (v : List SegRecord) (s : Status) → OrderHad before middle k → VolumeReads k.table 1 middle after v → NotMade k v s → GuardShows before after s
release_fails before middle after k v s had read fault = not_made before middle after k had read.reads.keeps v s (input_read before middle after k v had read) read.reads.stays fault

-- ---- the push

record Before (before after : Ports) (k : Order) (v : List SegRecord) : Type 0 where
  input : InputRead before after k v
  silent : NothingPushed before after
  above : (p : ℕ) → 1 < p → after p ≡ before p
  none : NoneFailed before after

before_push : (before middle after : Ports) (k : Order) (v : List SegRecord) → OrderHad before middle k → VolumeReads k.table 1 middle after v → Before before after k v
before_push before middle after k v had read = record {
  input = input_read before middle after k v had read;
  silent = both_silent before middle after k had read.reads.keeps;
  above = above before middle after k had read.reads.keeps;
  none = none_here before middle after k had read.reads.keeps read.reads.stays;
}

other_one : (p : ℕ) → 1 < p → p ≢ 1
other_one p lt e = absurd (omega (arith, lt, e))

not_one : ◌≡◌ {A = ℕ} 0 1 → ⊥
not_one e = omega (arith, e)

-- the input is as it was behind a push to port 1
input_kept : (before after end : Ports) (k : Order) (v : List SegRecord) → InputRead before after k v → PushKeeps 1 after end → InputRead before end k v
input_kept before after end k v input keeps = record {
  order = record { spelled = input.order.spelled; valid = input.order.valid; whole = whole_as 0 before after before end refl (ap (λ (x : Port). x.left) (keeps.others 0 not_one)) input.order.whole };
  spelled = input.spelled;
  valid = input.valid;
  whole = whole_as 1 before after before end refl keeps.left input.whole;
}

after_push : (before after end : Ports) (k : Order) (v : List SegRecord) (s : Status) → Before before after k v → PushKeeps 1 after end → GuardCause before end s → PortsShow before end s → GuardShows before end s
after_push before after end k v s b keeps cause ports = record {
  cause = cause;
  one_port = λ p other. ap (λ (x : Port). x.taken) (keeps.others p other) ∙ b.silent.taken p;
  others = λ p lt. keeps.others p (other_one p lt) ∙ b.above p lt;
  ports = ports;
}

pushed : (before after end : Ports) (k : Order) (v : List SegRecord) (bytes : List ℕ) (s : Status) → Before before after k v → IsMade k v bytes → Pushed bytes after end s → GuardShows before end s
pushed before after end k v bytes Done b made f =
    after_push before after end k v Done b f.2
    (k, v, input_kept before after end k v b.input f.2, made.0, f.0 ∙ ap (λ (t : Told). with_bytes t bytes) (b.silent.taken 1) ∙ ap (with_bytes (before 1).taken) made.1)
    (record { silence = tt; faults = none_on before after end b.none (push_none 1 after end f.2 f.1); unread = tt })
pushed before after end k v bytes (HostFault (Write port)) b made f =
    subst (λ q. GuardShows before end (HostFault (Write q))) (sym f.0)
    (after_push before after end k v (HostFault (Write 1)) b f.3
    (refl, (k, v, input_kept before after end k v b.input f.3, made.0, subst (λ n. Rose n (end 1).pushes) (b.silent.pushes 1) f.2, subst (λ (xs : List ℕ). IsPrefixTaken (before 1).taken (end 1).taken xs) made.1 (subst (λ (t : Told). IsPrefixTaken t (end 1).taken bytes) (b.silent.taken 1) f.1)))
    (record { silence = tt; faults = none_push 1 before after end b.none (push_one 1 after end f.3 f.2); unread = tt }))
pushed before after end k v bytes _ b made f = absurd f

pub push_shows : (before middle after end : Ports) (k : Order) (v : List SegRecord) (bytes : List ℕ) (s : Status) → OrderHad before middle k → VolumeReads k.table 1 middle after v → IsMade k v bytes → Pushed bytes after end s → GuardShows before end s
push_shows before middle after end k v bytes s had read made f = pushed before after end k v bytes s (before_push before middle after k v had read) made f

pub ruleset reading = (reading_fails, order_memory, order_had)
