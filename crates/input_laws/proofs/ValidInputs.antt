-- A valid input is read wherever no count rises: no other cause of having no input holds of it.
use Rattle.std.proofs.Common.{◌≡◌, ℕ, ◌+◌, ◌<◌, ◌≤◌, ◌⊎◌, inl, inr, List, [], ◌∷◌, length, drop, Option, Some, refl, sym, subst, arith}
use Rattle.std.specs.Prelude.{Contains}
use Rattle.std.specs.List.{AllByRecursion}
use Rattle.class_model.specs.Config.{SegRecord}
use Rattle.command_input.specs.declared.status.Status.{Status}
use Rattle.command_input.specs.declared.status.Status.TheVariants.{Done, Refused, Usage, HostFault, Unfinished, NoMemory}
use Rattle.command_input.specs.declared.status.Refusal.TheVariants.{Config, Class, Volume, Load, TooLong, Release, Store}
use Rattle.command_input.specs.declared.status.PortFault.TheVariants.{Read, Write, Disk}
use Rattle.command_input.specs.Answer.{ConfigCause, InputCause}
use Rattle.command_input.specs.Input.{Ports, IfTold, IsTooLong, IsTurnOf, IsAccepted, AreNamedBelow, ReadsBelow, InputRead, IsReadWhole, IsVolumeLeft, IsAmong, limit}
use Rattle.config_text.specs.declared.config.Config.{Config as ConfigText}
use Rattle.config_text.specs.Text.{Spells, IsFault}
use Rattle.config_text.proofs.ConfigLaws.{one_config, never_both}
use Rattle.flow_more.proofs.Faults.{loads_apart}
use Rattle.host_ports.specs.Ports.{Told}
use Rattle.labels.specs.Label.{ClassEntry}
use Rattle.labels.specs.Table.{IsTable}
use Rattle.loader.specs.Records.{Volumes, Ascend, IsLoadFault, named_by, numbers_of}
use Rattle.loader.proofs.NamedVolumes.{contains_behind, contains_cases}
use Rattle.volume_image.specs.Volumes.{Spells as SpellsVolume, IsFault as IsVolumeFault}
use Rattle.volume_image.proofs.VolumeLaws.{one_volume, never_both as never_both_of_volume}
use Rattle.input_laws.specs.Laws.{ValidInputIsRead, ConfigIsRead, ReadsTheInput, HasOneInput, WhatIsReadIsValid, CalmNeverRises}
use Rattle.input_laws.specs.Valid.{NoneRose, HasLeft, HasConfig, HasVolume, IsValidInput}

-- ---- the bytes of a port

-- what holds of the bytes that a host tells, of the bytes that it told
pub told : (left : Told) (bytes : List ℕ) (P : List ℕ → Type 0) → left ≡ Some bytes → IfTold left P → P bytes
told left bytes P e h = subst (λ (t : Told). IfTold t P) e h

-- and the other way round
left_told : (left : Told) (bytes : List ℕ) (P : List ℕ → Type 0) → left ≡ Some bytes → P bytes → IfTold left P
left_told left bytes P e h = subst (λ (t : Told). IfTold t P) (sym e) h

-- a port within its limit isn't too long
pub not_too_long : (p : ℕ) (before after : Ports) (P : List ℕ → Type 0) → HasLeft p before P → ¬ IsTooLong p before after
not_too_long p before after P has long =
    let more = (told (before p).left has.bytes (λ bytes. (limit p < length bytes) × ((after p).left ≡ Some (drop (limit p + 1) bytes))) has.told long).0 in
    let within = has.within in
    omega (arith, more, within)

-- the configuration that is told is the one at port 0
pub config_told : (before : Ports) (k l : ConfigText) → HasConfig before k → IfTold (before 0).left (λ bytes. Spells bytes l) → l ≡ k
config_told before k l has h = one_config has.bytes l k (told (before 0).left has.bytes (λ bytes. Spells bytes l) has.told h) has.holds

pub config_right : (before : Ports) (k : ConfigText) (line code : ℕ) → HasConfig before k → ¬ IfTold (before 0).left (λ bytes. IsFault bytes line code)
config_right before k line code has h = never_both has.bytes k line code has.holds (told (before 0).left has.bytes (λ bytes. IsFault bytes line code) has.told h)

pub volume_told : (table : List ClassEntry) (p : ℕ) (before : Ports) (v w : List SegRecord) → IsTable table → HasVolume table p before v → IfTold (before p).left (λ bytes. SpellsVolume table bytes w) → w ≡ v
volume_told table p before v w ok has h = one_volume table has.bytes w v ok (told (before p).left has.bytes (λ bytes. SpellsVolume table bytes w) has.told h) has.holds

pub volume_right : (table : List ClassEntry) (p : ℕ) (before : Ports) (v : List SegRecord) (offset code : ℕ) → IsTable table → HasVolume table p before v →
    ¬ IfTold (before p).left (λ bytes. IsVolumeFault table bytes offset code)
volume_right table p before v offset code ok has h = never_both_of_volume table has.bytes v ok has.holds offset code (told (before p).left has.bytes (λ bytes. IsVolumeFault table bytes offset code) has.told h)

-- ---- volumes in the order of their ports

-- the numbers are all above the one before them
above : (low : ℕ) (ns : List ℕ) (p : ℕ) → Ascend low ns → Contains ns p → low < p
above low [] p up c = let lt = c.1 in absurd (omega arith)
above low (n ∷ ns) p up c = by (contains_cases n ns p c) (above n ns p up.1)
  where
    by : (n ≡ p) ⊎ Contains ns p → (Contains ns p → n < p) → low < p
    by (inl e) rest = let a = up.0 in omega (arith, e, a)
    by (inr d) rest = let a = up.0 in let b = rest d in omega (arith, a, b)

-- the first of them stands first in others that contain it and whose first one is among them
first_least : (n m : ℕ) (ns ms : List ℕ) → Ascend n ns → Ascend m ms → Contains (m ∷ ms) n → Contains (n ∷ ns) m → n ≡ m
first_least n m ns ms up down c d = by (contains_cases m ms n c) (contains_cases n ns m d)
  where
    by : (m ≡ n) ⊎ Contains ms n → (n ≡ m) ⊎ Contains ns m → n ≡ m
    by (inl e) o = sym e
    by (inr a) (inl e) = e
    by (inr a) (inr b) = let x = above m ms n down a in let y = above n ns m up b in absurd (omega (arith, x, y))

-- those behind the first stand behind the first
behind_first : (n m : ℕ) (ns ms : List ℕ) → Ascend n ns → n ≡ m → ((p : ℕ) → Contains (n ∷ ns) p → Contains (m ∷ ms) p) → (p : ℕ) → Contains ns p → Contains ms p
behind_first n m ns ms up e all p c = by (contains_cases m ms p (all p (contains_behind n ns p c)))
  where
    by : (m ≡ p) ⊎ Contains ms p → Contains ms p
    by (inl same) = let x = above n ns p up c in absurd (omega (arith, x, e, same))
    by (inr d) = d

-- Volumes with the same numbers are the same where each number has one volume.
one_list : (P Q : ℕ × List SegRecord → Type 0) → ((v w : ℕ × List SegRecord) → P v → Q w → v.0 ≡ w.0 → v.1 ≡ w.1) → (low : ℕ) (vs ws : Volumes) → AllByRecursion P vs → AllByRecursion Q ws →
    Ascend low (numbers_of vs) → Ascend low (numbers_of ws) → ((p : ℕ) → Contains (numbers_of vs) p → Contains (numbers_of ws) p) → ((p : ℕ) → Contains (numbers_of ws) p → Contains (numbers_of vs) p) →
    vs ≡ ws
one_list P Q one low [] [] ps qs up down f g = refl
one_list P Q one low [] (w ∷ ws) ps qs up down f g = let lt = (g w.0 (0, omega arith, refl)).1 in absurd (omega (arith, lt))
one_list P Q one low (v ∷ vs) [] ps qs up down f g = let lt = (f v.0 (0, omega arith, refl)).1 in absurd (omega (arith, lt))
one_list P Q one low ((n, r) ∷ vs) ((m, s) ∷ ws) ps qs up down f g =
    let e : n ≡ m = first_least n m (numbers_of vs) (numbers_of ws) up.1 down.1 (f n (0, omega arith, refl)) (g m (0, omega arith, refl)) in
    let here : r ≡ s = one (n, r) (m, s) ps.0 qs.0 e in
    let down_as : Ascend n (numbers_of ws) = subst (λ n. Ascend n (numbers_of ws)) (sym e) down.1 in
    let rest : vs ≡ ws = one_list P Q one n vs ws ps.1 qs.1 up.1 down_as
    (behind_first n m (numbers_of vs) (numbers_of ws) up.1 e f) (behind_first m n (numbers_of ws) (numbers_of vs) down.1 (sym e) g) in
    cc

-- the volume of a number
volume_of : (table : List ClassEntry) (before : Ports) (vs : Volumes) (p : ℕ) → AllByRecursion (λ (v : ℕ × List SegRecord). HasVolume table v.0 before v.1) vs → Contains (numbers_of vs) p →
    (v : List SegRecord) × HasVolume table p before v
volume_of table before [] p all c = let lt = c.1 in absurd (omega arith)
volume_of table before (v ∷ vs) p all c = by (contains_cases v.0 (numbers_of vs) p c) (volume_of table before vs p all.1)
  where
    by : (v.0 ≡ p) ⊎ Contains (numbers_of vs) p → (Contains (numbers_of vs) p → (w : List SegRecord) × HasVolume table p before w) → (w : List SegRecord) × HasVolume table p before w
    by (inl e) rest = (v.1, subst (λ n. HasVolume table n before v.1) e all.0)
    by (inr d) rest = rest d

-- ---- a valid input

module _ (wanted : Option ℕ) (before after : Ports) (k : ConfigText) (vs : Volumes) (valid : IsValidInput wanted before k vs) where
  table : IsTable k.table
  table = valid.config.holds.valid.table

  -- what was read is the input
  same_config : (n : ℕ) (l : ConfigText) (ws : Volumes) → ReadsBelow n before after l ws → l ≡ k
  same_config n l ws reads = config_told before k l valid.config reads.config

  -- volumes at the ports that it names, which have what those ports have left, are its volumes
  its_volumes : (P : ℕ × List SegRecord → Type 0) → ((v w : ℕ × List SegRecord) → P v → HasVolume k.table w.0 before w.1 → v.0 ≡ w.0 → v.1 ≡ w.1) → (ws : Volumes) → AllByRecursion P ws → AreNamedBelow 5 k (numbers_of ws) → ws ≡ vs
  its_volumes P one ws all numbers = one_list P (λ (v : ℕ × List SegRecord). HasVolume k.table v.0 before v.1) one 0 ws vs all valid.volumes
      numbers.ascend valid.numbers.ascend (among ws vs numbers valid.numbers) (among vs ws valid.numbers numbers)
    where
      some : (ns : List ℕ) (p : ℕ) → Ascend 0 ns → Contains ns p → 1 ≤ p
      some ns p up c = let a = above 0 ns p up c in omega (arith, a)

      among : (xs ys : Volumes) → AreNamedBelow 5 k (numbers_of xs) → AreNamedBelow 5 k (numbers_of ys) → (p : ℕ) → Contains (numbers_of xs) p → Contains (numbers_of ys) p
      among xs ys these those p c = let named = these.named p c in those.all p (some (numbers_of xs) p these.ascend c) named.0 named.1

  same_volumes : (ws : Volumes) → ReadsBelow 5 before after k ws → ws ≡ vs
  same_volumes ws reads = its_volumes (IsAccepted k.table before after) one ws reads.volumes reads.numbers
    where
      one : (v w : ℕ × List SegRecord) → IsAccepted k.table before after v → HasVolume k.table w.0 before w.1 → v.0 ≡ w.0 → v.1 ≡ w.1
      one v w accepted has e = volume_told k.table w.0 before w.1 v.1 table has (subst (λ n. IfTold (before n).left (λ bytes. SpellsVolume k.table bytes v.1)) e accepted.left)

  valid_volumes : (other : Option ℕ) (ws : Volumes) → IsValidInput other before k ws → ws ≡ vs
  valid_volumes other ws that = its_volumes (λ (v : ℕ × List SegRecord). HasVolume k.table v.0 before v.1) one ws that.volumes that.numbers
    where
      one : (v w : ℕ × List SegRecord) → HasVolume k.table v.0 before v.1 → HasVolume k.table w.0 before w.1 → v.0 ≡ w.0 → v.1 ≡ w.1
      one v w these has e =
          let here : HasVolume k.table w.0 before v.1 = subst (λ n. HasVolume k.table n before v.1) e these in
          volume_told k.table w.0 before w.1 v.1 table has (left_told (before w.0).left here.bytes (λ bytes. SpellsVolume k.table bytes v.1) here.told here.holds)

  valid_input : (other : Option ℕ) (l : ConfigText) (ws : Volumes) → IsValidInput other before l ws → (l ≡ k) × (ws ≡ vs)
  valid_input other l ws that =
      let e = config_told before k l valid.config (left_told (before 0).left that.config.bytes (λ bytes. Spells bytes l) that.config.told that.config.holds) in
      (e, valid_volumes other ws (subst (λ (x : ConfigText). IsValidInput other before x ws) e that))

  same_input : (l : ConfigText) (ws : Volumes) → ReadsBelow 5 before after l ws → (l ≡ k) × (ws ≡ vs)
  same_input l ws reads = let e = same_config 5 l ws reads in (e, same_volumes ws (subst (λ (x : ConfigText). ReadsBelow 5 before after x ws) e reads))

  -- a port that the configuration names has its volume
  has_volume : (p : ℕ) → 1 ≤ p → p < 5 → Contains (named_by k) p → (v : List SegRecord) × HasVolume k.table p before v
  has_volume p some most named = volume_of k.table before vs p valid.volumes (valid.numbers.all p some most named)

  next_is_short : (p : ℕ) (l : ConfigText) → l ≡ k → 1 ≤ p → p < 5 → Contains (named_by l) p → ¬ IsTooLong p before after
  next_is_short p l e some most named =
      let has = has_volume p some most (subst (λ (x : ConfigText). Contains (named_by x) p) e named) in
      not_too_long p before after (λ bytes. SpellsVolume k.table bytes has.0) has.1

  turn_is_short : (p : ℕ) → IsTurnOf wanted p before after → ¬ IsTooLong p before after
  turn_is_short p (inl e) long = not_too_long 0 before after (λ bytes. Spells bytes k) valid.config (subst (λ n. IsTooLong n before after) e long)
  turn_is_short p (inr next) long = next_is_short p next.0 (same_config p next.0 next.1 next.5) next.2 next.3 next.4 long

  next_is_right : (p : ℕ) (l : ConfigText) (offset code : ℕ) → l ≡ k → 1 ≤ p → p < 5 → Contains (named_by l) p → ¬ IfTold (before p).left (λ bytes. IsVolumeFault l.table bytes offset code)
  next_is_right p l offset code e some most named fault =
      let has = has_volume p some most (subst (λ (x : ConfigText). Contains (named_by x) p) e named) in
      volume_right k.table p before has.0 offset code table has.1 (subst (λ (x : ConfigText). IfTold (before p).left (λ bytes. IsVolumeFault x.table bytes offset code)) e fault)

  is_among : (given classes : ℕ) (l : ConfigText) → wanted ≡ Some given → l ≡ k → classes ≡ length l.table → ¬ (classes ≤ given)
  is_among given classes l asked e count most =
      let less : given < length k.table = subst (λ (o : Option ℕ). IsAmong o k) asked valid.among in
      let same : classes ≡ length k.table = subst (λ (x : ConfigText). classes ≡ length x.table) e count in
      omega (arith, less, same, most)

  no_load_fault : (l : ConfigText) (ws : Volumes) (volume item code : ℕ) → (l ≡ k) × (ws ≡ vs) → ¬ IsLoadFault l ws volume item code
  no_load_fault l ws volume item code same fault =
      let there : IsLoadFault k ws volume item code = subst (λ (x : ConfigText). IsLoadFault x ws volume item code) same.0 fault in
      (loads_apart k vs).apart volume item code valid.loads (subst (λ (x : Volumes). IsLoadFault k x volume item code) same.1 there)

  -- so no other answer has its cause
  only_memory : (status : Status) → NoneRose before after → InputCause wanted before after status → status ≡ NoMemory
  only_memory (HostFault (Read port)) none cause = absurd (none.pulls port cause.1.rose)
  only_memory (Refused (TooLong port)) none cause = absurd (turn_is_short port cause.0 cause.1)
  only_memory (Refused (Config line code)) none cause = absurd (config_right before k line code valid.config cause.1)
  only_memory (Refused (Class given classes)) none cause =
      let of = told (before 0).left valid.config.bytes (λ bytes. (l : ConfigText) × Spells bytes l × ((classes ≡ length l.table) × (classes ≤ given))) valid.config.told cause.2 in
      absurd (is_among given classes of.0 cause.0 (one_config valid.config.bytes of.0 k of.1 valid.config.holds) of.2.0 of.2.1)
  only_memory (Refused (Volume port offset code)) none cause =
      absurd (next_is_right port cause.0 offset code (same_config port cause.0 cause.1 cause.5) cause.2 cause.3 cause.4 cause.6.2)
  only_memory (Refused (Load volume item code)) none cause = absurd (no_load_fault cause.0 cause.1 volume item code (same_input cause.0 cause.1 cause.2) cause.4)
  only_memory NoMemory none cause = refl
  only_memory Done none cause = absurd cause
  only_memory Unfinished none cause = absurd cause
  only_memory (Usage kind) none cause = absurd cause
  only_memory (HostFault (Write port)) none cause = absurd cause
  only_memory (HostFault Disk) none cause = absurd cause
  only_memory (Refused (Release line code)) none cause = absurd cause
  only_memory (Refused (Store bytes)) none cause = absurd cause

pub valid_input_is_read : ValidInputIsRead
valid_input_is_read wanted before after k vs status valid none fails = only_memory wanted before after k vs valid status none fails.cause

pub reads_the_input : ReadsTheInput
reads_the_input wanted before after k l vs ws valid reads = same_input wanted before after k vs valid l ws reads

pub has_one_input : HasOneInput
has_one_input wanted other before k l vs ws valid that = valid_input wanted before before k vs valid other l ws that

-- ---- a configuration by itself

pub config_memory : (before after : Ports) (k : ConfigText) (status : Status) → HasConfig before k → NoneRose before after → ConfigCause before after status → status ≡ NoMemory
config_memory before after k (HostFault (Read port)) has none cause = absurd (none.pulls 0 cause.1.rose)
config_memory before after k (Refused (TooLong port)) has none cause = absurd (not_too_long 0 before after (λ bytes. Spells bytes k) has cause.1)
config_memory before after k (Refused (Config line code)) has none cause = absurd (config_right before k line code has cause.1)
config_memory before after k NoMemory has none cause = refl
config_memory before after k Done has none cause = absurd cause
config_memory before after k Unfinished has none cause = absurd cause
config_memory before after k (Usage kind) has none cause = absurd cause
config_memory before after k (HostFault (Write port)) has none cause = absurd cause
config_memory before after k (HostFault Disk) has none cause = absurd cause
config_memory before after k (Refused (Class given classes)) has none cause = absurd cause
config_memory before after k (Refused (Volume port offset code)) has none cause = absurd cause
config_memory before after k (Refused (Load volume item code)) has none cause = absurd cause
config_memory before after k (Refused (Release line code)) has none cause = absurd cause
config_memory before after k (Refused (Store bytes)) has none cause = absurd cause

pub config_is_read : ConfigIsRead
config_is_read before after k status has none fails = config_memory before after k status has none fails.cause

-- ---- a calm host

pub calm_never_rises : CalmNeverRises
calm_never_rises old new = record { pulls = λ p h. cc; pushes = λ p h. cc }

-- ---- what was read is valid

-- bytes that were read whole are within the limit
has_left : (p : ℕ) (before after : Ports) (P : List ℕ → Type 0) (bytes : List ℕ) → (before p).left ≡ Some bytes → IsReadWhole p before after → IfTold (before p).left P → HasLeft p before P
has_left p before after P bytes is whole h = record {
  bytes = bytes;
  told = is;
  within = (told (before p).left bytes (λ bytes. (length bytes ≤ limit p) × ((after p).left ≡ Some [])) is whole).0;
  holds = told (before p).left bytes P is h;
}

volumes_left : (t : List ClassEntry) (before after : Ports) (bytes : ℕ → List ℕ) → ((p : ℕ) → (before p).left ≡ Some (bytes p)) → (vs : Volumes) →
    AllByRecursion (IsAccepted t before after) vs → AllByRecursion (λ (v : ℕ × List SegRecord). HasVolume t v.0 before v.1) vs
volumes_left t before after bytes is [] all = tt
volumes_left t before after bytes is (v ∷ vs) all =
    (has_left v.0 before after (λ bytes. SpellsVolume t bytes v.1) (bytes v.0) (is v.0) all.0.whole all.0.left, volumes_left t before after bytes is vs all.1)

pub what_is_read_is_valid : WhatIsReadIsValid
what_is_read_is_valid wanted before after k vs bytes is among input = record {
  config = has_left 0 before after (λ bytes. Spells bytes k) (bytes 0) (is 0) input.reads.whole input.reads.config;
  among = among;
  volumes = volumes_left k.table before after bytes is vs input.reads.volumes;
  numbers = input.reads.numbers;
  loads = input.loads;
}
