-- What is shown of a valid input, where no count rises, is one of the complete answers: every other has a cause that doesn't hold.
use Rattle.std.proofs.Common.{◌≡◌, ◌⊎◌, ℕ, ◌+◌, ◌<◌, ◌≤◌, inl, inr, Bool, List, [], ◌∷◌, ◌++◌, Some, None, refl, sym, ap, subst, ◌∙◌, arith}
use Rattle.std.proofs.lemmas.Bool.Decides.{nat_tests}
use Rattle.std.specs.Prelude.{nat_le, if◌then◌else◌}
use Rattle.std.specs.List.{AllByRecursion}
use Rattle.class_model.specs.Config.{SegRecord}
use Rattle.command_words.specs.declared.asked.Plan.{Plan}
use Rattle.command_words.specs.declared.asked.Plan.TheVariants.{Sim, Run, Show, View, Large, Audit, Guard, Save, Restore}
use Rattle.command_input.specs.declared.status.Status.{Status}
use Rattle.command_input.specs.declared.status.Status.TheVariants.{Done, Refused, HostFault, Unfinished, NoMemory}
use Rattle.command_input.specs.declared.status.Refusal.TheVariants.{Config, Volume, TooLong, Release, Store}
use Rattle.command_input.specs.declared.status.PortFault.TheVariants.{Read, Write, Disk}
use Rattle.command_input.specs.Answer.{PortsShow}
use Rattle.command_input.specs.Input.{Ports, IfTold, IsTooLong}
use Rattle.command_run.specs.Shows.{RunShows, ShowShows, IsSchedule}
use Rattle.command_view.specs.Viewed.{section_due, IsMachineSection}
use Rattle.command_large.specs.Summed.{LargeShows}
use Rattle.command_audit.specs.Audited.{trail_due, IsAllowed}
use Rattle.low_answer.specs.LowShows.{LowShows}
use Rattle.command_guard.specs.Shown.{InputRead as GuardRead, IsTurn, GuardCause, GuardShows}
use Rattle.command_save.specs.Disks.{Sight, KeepsNew, length_in_use}
use Rattle.command_threads.specs.Orders.{IsRoundOrder}
use Rattle.command_save.specs.Read.{ConfigRead, VolumeRead, IsTurnOf, VolumeCause}
use Rattle.command_save.specs.Shows.{Loaded, VolumeLoaded, SaveShows, RestoreShows, image_of, loaded_image}
use Rattle.config_text.specs.declared.config.Config.{Config as ConfigText}
use Rattle.config_text.specs.Text.{Spells}
use Rattle.host_ports.specs.Ports.{with_bytes}
use Rattle.input_laws.proofs.ValidInputs.{told, not_too_long, config_told, config_right, volume_told, volume_right, config_memory, config_is_read, valid_input_is_read, reads_the_input}
use Rattle.input_laws.specs.Valid.{NoneRose, HasConfig, HasVolume}
use Rattle.loader.specs.Records.{Volumes}
use Rattle.lists.specs.Lists.{part_of}
use Rattle.release_guard.specs.declared.order.Order.{Order}
use Rattle.release_guard.specs.Guard.{guard, LacksNothing, CanRelease, IsReleaseFault}
use Rattle.release_guard.specs.Text.{Spells as SpellsOrder, IsFault as IsOrderFault}
use Rattle.release_guard.proofs.OrderLaws.{one_order, never_both}
use Rattle.safe_save.specs.Kept.{Image, Broken, start_of, half_in_use, kept_bytes, kept}
use Rattle.volume_image.specs.Volumes.{Spells as SpellsVolume, IsFault as IsVolumeFault}
use Rattle.volume_image.specs.Written.{written}
use Rattle.volume_image.proofs.VolumeLaws.{one_volume, never_both as never_both_of_volume}
use Rattle.words_layout.specs.declared.op.Event.{Event}
use Rattle.kernel_top.specs.Answer.{SimMainShows, KernelMainShows, SaveMainShows, StoreMainShows}
use Rattle.kernel_top.specs.Complete.{IsComplete, IsDone, RanOn, LowShownOn, ShownOn, RunCompletes, LowCompletes, ShowCompletes, LargeCompletes, IsGuardInput, GuardCompletes, SaveCompletes, KeepsVolume, RestoreCompletes, SimMainCompletes, KernelMainCompletes, SaveMainCompletes, StoreMainCompletes}

-- ---- out of memory is complete

memory_completes : (Whole : Bool → Type 0) (status : Status) → status ≡ NoMemory → IsComplete Whole status
memory_completes Whole status e = subst (IsComplete Whole) (sym e) tt

memory_is_done : (Whole : Type 0) (status : Status) → status ≡ NoMemory → IsDone Whole status
memory_is_done Whole status e = subst (IsDone Whole) (sym e) tt

module _ (before after : Ports) where
  -- ---- `sim` and `run`

  run_completes : (IsOrder : ConfigText → Volumes → List Event → Type 0) (status : Status) → RunShows IsOrder before after status → RunCompletes IsOrder before after status
  run_completes IsOrder Done o k vs valid none =
      let same = reads_the_input None before after k o.run.config vs o.run.volumes valid o.run.input.reads in
      record { ran = o; config = same.0; volumes = same.1 }
  run_completes IsOrder Unfinished o k vs valid none =
      let same = reads_the_input None before after k o.run.config vs o.run.volumes valid o.run.input.reads in
      record { ran = o; config = same.0; volumes = same.1 }
  run_completes IsOrder (HostFault (Write port)) o k vs valid none = absurd (none.pushes port o.one.rose)
  run_completes IsOrder other o k vs valid none = memory_completes (RanOn IsOrder k vs before after) other (valid_input_is_read None before after k vs other valid none o)

  -- ---- `view` and `audit`

  low_completes : (due : ℕ → ConfigText → Volumes → List ℕ) (Holds : ℕ → ConfigText → Volumes → Type 0) (class : ℕ) (status : Status) → LowShows due Holds class before after status → LowCompletes due Holds class before after status
  low_completes due Holds class Done o k vs valid none =
      let same = reads_the_input (Some class) before after k o.of.config vs o.of.volumes valid o.of.input.reads in
      record { shown = o; config = same.0; volumes = same.1 }
  low_completes due Holds class Unfinished o k vs valid none =
      let same = reads_the_input (Some class) before after k o.of.config vs o.of.volumes valid o.of.input.reads in
      record { shown = o; config = same.0; volumes = same.1 }
  low_completes due Holds class (HostFault (Write port)) o k vs valid none = absurd (none.pushes 0 o.one.rose)
  low_completes due Holds class other o k vs valid none = memory_completes (LowShownOn due Holds class k vs before after) other (valid_input_is_read (Some class) before after k vs other valid none o)

  -- ---- `show` and `large`

  show_completes : (status : Status) → ShowShows before after status → ShowCompletes before after status
  show_completes Done o k has none = record { shown = o; config = config_told before k o.of.config has o.of.told }
  show_completes Unfinished o k has none = absurd o
  show_completes (HostFault (Write port)) o k has none = absurd (none.pushes 0 o.one.rose)
  show_completes other o k has none = memory_is_done (ShownOn k before after) other (config_is_read before after k other has none o)

  large_completes : (number : ℕ) (status : Status) → LargeShows number before after status → LargeCompletes number before after status
  large_completes number Done o none = o
  large_completes number Unfinished o none = o
  large_completes number (HostFault (Write port)) o none = absurd (none.pushes 0 o.one.rose)
  large_completes number NoMemory o none = tt
  large_completes number other o none = absurd o

  -- ---- `guard`

  -- what stands in a list has what all of it has
  at_one : {X : Type 0} (P : X → Type 0) (xs ys : List X) (x : X) → AllByRecursion P (xs ++ x ∷ ys) → P x
  at_one P [] ys x all = all.0
  at_one P (y ∷ xs) ys x all = at_one P xs ys x all.1

  no_release_fault : (k : Order) (v : List SegRecord) (line code : ℕ) → CanRelease k v → ¬ IsReleaseFault k v line code
  no_release_fault k v line code can fault =
      at_one (LacksNothing v) fault.before fault.after fault.here (subst (AllByRecursion (LacksNothing v)) fault.whole can) fault.lack fault.least.has

  module _ (k : Order) (v : List SegRecord) (input : IsGuardInput before k v) (none : NoneRose before after) where
    order_told : (l : Order) → IfTold (before 0).left (λ bytes. SpellsOrder bytes l) → l ≡ k
    order_told l h = one_order input.order.bytes l k (told (before 0).left input.order.bytes (λ bytes. SpellsOrder bytes l) input.order.told h) input.order.holds

    order_right : (line code : ℕ) → ¬ IfTold (before 0).left (λ bytes. IsOrderFault bytes line code)
    order_right line code h =
        never_both input.order.bytes k line code input.order.holds (told (before 0).left input.order.bytes (λ bytes. IsOrderFault bytes line code) input.order.told h)

    guard_volume_told : (w : List SegRecord) → IfTold (before 1).left (λ bytes. SpellsVolume k.table bytes w) → w ≡ v
    guard_volume_told w h = volume_told k.table 1 before v w input.order.holds.valid.table input.volume h

    guard_input : (l : Order) (w : List SegRecord) → GuardRead before after l w → (l ≡ k) × (w ≡ v)
    guard_input l w reads =
        let e = order_told l reads.order.spelled in
        (e, guard_volume_told w (subst (λ (x : Order). IfTold (before 1).left (λ bytes. SpellsVolume x.table bytes w)) e reads.spelled))

    turn_is_short : (port : ℕ) → IsTurn port before after → ¬ IsTooLong port before after
    turn_is_short port (inl e) long = not_too_long 0 before after (λ bytes. SpellsOrder bytes k) input.order (subst (λ p. IsTooLong p before after) e long)
    turn_is_short port (inr h) long = not_too_long 1 before after (λ bytes. SpellsVolume k.table bytes v) input.volume (subst (λ p. IsTooLong p before after) h.0 long)

    release_right : (line code : ℕ) → ¬ GuardCause before after (Refused (Release line code))
    release_right line code (inl h) = order_right line code h.fault
    release_right line code (inr h) =
        let same = guard_input h.0 h.1 h.2 in
        let there : IsReleaseFault k h.1 line code = subst (λ (x : Order). IsReleaseFault x h.1 line code) same.0 h.3 in
        no_release_fault k v line code input.can (subst (λ w. IsReleaseFault k w line code) same.1 there)

    guard_done : (l : Order) (w : List SegRecord) → (l ≡ k) × (w ≡ v) → (after 1).taken ≡ with_bytes (before 1).taken (written l.table (guard l w)) →
        (after 1).taken ≡ with_bytes (before 1).taken (written k.table (guard k v))
    guard_done l w same e =
        let here : (after 1).taken ≡ with_bytes (before 1).taken (written k.table (guard k w)) = subst (λ (x : Order). (after 1).taken ≡ with_bytes (before 1).taken (written x.table (guard x w))) same.0 e in
        subst (λ u. (after 1).taken ≡ with_bytes (before 1).taken (written k.table (guard k u))) same.1 here

    guard_cause : (status : Status) → GuardCause before after status → IsDone ((after 1).taken ≡ with_bytes (before 1).taken (written k.table (guard k v))) status
    guard_cause Done o = guard_done o.0 o.1 (guard_input o.0 o.1 o.2) o.4
    guard_cause NoMemory o = tt
    guard_cause (HostFault (Read port)) o = absurd (none.pulls port o.1.rose)
    guard_cause (HostFault (Write port)) o = absurd (none.pushes 1 o.1.4)
    guard_cause (Refused (TooLong port)) o = absurd (turn_is_short port o.0 o.1)
    guard_cause (Refused (Release line code)) o = absurd (release_right line code o)
    guard_cause (Refused (Volume port offset code)) o =
        absurd (volume_right k.table 1 before v offset code input.order.holds.valid.table input.volume
        (subst (λ (x : Order). IfTold (before 1).left (λ bytes. IsVolumeFault x.table bytes offset code)) (order_told o.1.0 o.1.1.spelled) o.1.3))
    guard_cause other o = absurd o

  guard_completes : (status : Status) → GuardShows before after status → GuardCompletes before after status
  guard_completes status o k v input none = guard_cause k v input none status o.cause

  -- ---- each top call without a disk

  pub sim_completes : (p : Plan) (status : Status) → SimMainShows p before after status → SimMainCompletes p before after status
  sim_completes Sim status o = run_completes IsSchedule status o
  sim_completes Show status o = show_completes status o
  sim_completes (View class) status o = low_completes section_due IsMachineSection class status o
  sim_completes (Large number) status o = large_completes number status o
  sim_completes (Audit class) status o = low_completes trail_due IsAllowed class status o
  sim_completes Guard status o = guard_completes status o
  sim_completes _ status o = tt

  pub kernel_completes : (p : Plan) (status : Status) → KernelMainShows p before after status → KernelMainCompletes p before after status
  kernel_completes Run status o = run_completes IsRoundOrder status o
  kernel_completes other status o = sim_completes other status o

-- ---- `save` and `restore`

-- equal images have equal bytes
image_is : (a b : List ℕ) → Image a ≡ Image b → a ≡ b
image_is a b e = cc

-- Where a half keeps an image, its length is that of one.
image_fits : (n a : ℕ) (disk bytes : List ℕ) → (if nat_le n 4194304 then kept_bytes (part_of disk a n) else Broken) ≡ Image bytes → n ≤ 4194304
image_fits n a disk bytes keeps = grind (arith, nat_tests)

no_image : (a : ℕ) (disk bytes : List ℕ) → kept_bytes (part_of disk a 0) ≡ Image bytes → ⊥
no_image a disk bytes keeps = cc

keeps_image : (found : ℕ) (bytes disk : List ℕ) → kept disk ≡ Image bytes → found ≡ length_in_use disk → (found ≡ 0) ⊎ (4194304 < found) → ⊥
keeps_image found bytes disk keeps is (inl none) =
    let half = start_of (half_in_use disk) + 8 in
    no_image half disk bytes (subst (λ n. (if nat_le n 4194304 then kept_bytes (part_of disk half n) else Broken) ≡ Image bytes) (sym is ∙ none) keeps)
keeps_image found bytes disk keeps is (inr great) =
    let fits = image_fits (length_in_use disk) (start_of (half_in_use disk) + 8) disk bytes keeps in
    omega (arith, is, great, fits)

module _ {D : Type 0} (d : Sight D) (before after : Ports) (old new : D) where
  module _ (k : ConfigText) (v : List SegRecord) (has : HasConfig before k) where
    -- what was read is what port 0 has
    table_told : (l : ConfigText) → ConfigRead before after l → l ≡ k
    table_told l reads = config_told before k l has reads.told

    module _ (volume : HasVolume k.table 1 before v) where
      saved_volume : (w : List SegRecord) → IfTold (before 1).left (λ bytes. SpellsVolume k.table bytes w) → w ≡ v
      saved_volume w h = volume_told k.table 1 before v w has.holds.valid.table volume h

      same_saved : (r : VolumeRead before after) → image_of r ≡ written k.table v
      same_saved r =
          let e = table_told r.config r.read in
          let w : r.volume ≡ v = saved_volume r.volume (subst (λ (x : ConfigText). IfTold (before 1).left (λ bytes. SpellsVolume x.table bytes r.volume)) e r.told) in
          ap (λ (x : ConfigText). written x.table r.volume) e ∙ ap (written k.table) w

      save_turn : (port : ℕ) → IsTurnOf port before after → ¬ IsTooLong port before after
      save_turn port (inl e) long = not_too_long 0 before after (λ bytes. Spells bytes k) has (subst (λ p. IsTooLong p before after) e long)
      save_turn port (inr h) long = not_too_long 1 before after (λ bytes. SpellsVolume k.table bytes v) volume (subst (λ p. IsTooLong p before after) h.0 long)

      save_cause : (status : Status) → NoneRose before after → VolumeCause before after status → status ≡ NoMemory
      save_cause NoMemory none o = refl
      save_cause (HostFault (Read port)) none o = absurd (none.pulls port o.1.rose)
      save_cause (Refused (TooLong port)) none o = absurd (save_turn port o.0 o.1)
      save_cause (Refused (Config line code)) none o = absurd (config_right before k line code has o.1)
      save_cause (Refused (Volume port offset code)) none o =
          absurd (volume_right k.table 1 before v offset code has.holds.valid.table volume
          (subst (λ (x : ConfigText). IfTold (before 1).left (λ bytes. IsVolumeFault x.table bytes offset code)) (table_told o.1 o.2) o.4))
      save_cause other none o = absurd o

    restored_volume : (keeps : KeepsVolume d old k v) (l : Loaded d before after old) → l.image ≡ keeps.bytes
    restored_volume keeps l = image_is l.image keeps.bytes (sym (l.kept keeps.honest) ∙ keeps.keeps)

    same_restored : (keeps : KeepsVolume d old k v) (of : VolumeLoaded d before after old) → loaded_image d before after old of ≡ written k.table v
    same_restored keeps of =
        let e = table_told of.0.config of.0.read in
        let spelled : SpellsVolume k.table of.0.image of.1 = subst (λ (x : ConfigText). SpellsVolume x.table of.0.image of.1) e of.2 in
        let w : of.1 ≡ v = one_volume k.table keeps.bytes of.1 v has.holds.valid.table (subst (λ bytes. SpellsVolume k.table bytes of.1) (restored_volume keeps of.0) spelled) keeps.spelled in
        ap (λ (x : ConfigText). written x.table of.1) e ∙ ap (written k.table) w

    loaded_right : (keeps : KeepsVolume d old k v) (l : Loaded d before after old) (offset code : ℕ) → ¬ IsVolumeFault l.config.table l.image offset code
    loaded_right keeps l offset code fault =
        let there : IsVolumeFault k.table l.image offset code = subst (λ (x : ConfigText). IsVolumeFault x.table l.image offset code) (table_told l.config l.read) fault in
        never_both_of_volume k.table keeps.bytes v has.holds.valid.table keeps.spelled offset code (subst (λ bytes. IsVolumeFault k.table bytes offset code) (restored_volume keeps l) there)

  save_completes : (status : Status) → SaveShows d before after old new status → SaveCompletes d before after old new status
  save_completes Done o k v has volume none stays stored = λ honest. subst (λ bytes. KeepsNew d bytes old new) (same_saved k v has volume o.of) (o.disk honest)
  save_completes (HostFault Disk) o k v has volume none stays stored = absurd (stays o.rose)
  save_completes (Refused (Store found)) o k v has volume none stays stored = absurd (stored tt)
  save_completes other o k v has volume none stays stored = memory_is_done (d.honest old → KeepsNew d (written k.table v) old new) other (save_cause k v has volume other none o.0)

  restore_completes : (status : Status) → RestoreShows d before after old new status → PortsShow before after status → RestoreCompletes d before after old new status
  restore_completes Done o ports k v has keeps none stays = subst (λ bytes. (after 1).taken ≡ with_bytes (before 1).taken bytes) (same_restored k v has keeps o.of) o.taken
  restore_completes (HostFault (Write port)) o ports k v has keeps none stays = absurd (none.pushes port ports.faults.rose)
  restore_completes (HostFault Disk) o ports k v has keeps none stays = absurd (stays o.1)
  restore_completes (Refused (Store found)) o ports k v has keeps none stays = absurd (keeps_image found keeps.bytes (d.seen old) keeps.keeps (o.1.found keeps.honest) o.1.none)
  restore_completes (Refused (Volume port offset code)) o ports k v has keeps none stays = absurd (loaded_right k v has keeps o.1 offset code o.2)
  restore_completes NoMemory o ports k v has keeps none stays = tt
  restore_completes other o ports k v has keeps none stays =
      memory_is_done ((after 1).taken ≡ with_bytes (before 1).taken (written k.table v)) other (config_memory before after k other has none o.0)

  pub stored_completes : (p : Plan) (status : Status) → SaveMainShows d p before after old new status → PortsShow before after status → SaveMainCompletes d p before after old new status
  stored_completes Save status o ports = save_completes status o.shows
  stored_completes Restore status o ports = restore_completes status o.shows ports
  stored_completes _ status o ports = tt

  pub any_completes : (p : Plan) (status : Status) → StoreMainShows d p before after old new status → PortsShow before after status → StoreMainCompletes d p before after old new status
  any_completes Save status o ports = save_completes status o.shows
  any_completes Restore status o ports = restore_completes status o.shows ports
  any_completes other status o ports = kernel_completes before after other status o.0
