-- What a top call answers to a valid input, where no count rises in the call: Done or Unfinished, with the whole report of that
-- very input, or NoMemory.
use Rattle.std.specs.Prelude.{◌≡◌, ℕ, Bool, true, false, List, None, Some}
use Rattle.class_model.specs.Config.{SegRecord}
use Rattle.command_words.specs.declared.asked.Plan.{Plan}
use Rattle.command_words.specs.declared.asked.Plan.TheVariants as plan
use Rattle.command_input.specs.declared.status.Status.{Status}
use Rattle.command_input.specs.declared.status.Status.TheVariants.{Done, Refused, Unfinished, NoMemory}
use Rattle.command_input.specs.declared.status.Refusal.TheVariants.{Store}
use Rattle.command_input.specs.Input.{Ports}
use Rattle.command_run.specs.Shows.{Ran, Shown, IsSchedule}
use Rattle.command_view.specs.Viewed.{section_due, IsMachineSection}
use Rattle.command_large.specs.Summed.{Summed}
use Rattle.command_audit.specs.Audited.{trail_due, IsAllowed}
use Rattle.low_answer.specs.LowShows.{LowShown}
use Rattle.command_threads.specs.Orders.{IsRoundOrder}
use Rattle.command_save.specs.Disks.{Sight, HasRisen, KeepsNew}
use Rattle.config_text.specs.declared.config.Config.{Config as ConfigText}
use Rattle.host_ports.specs.Ports.{with_bytes}
use Rattle.input_laws.specs.Valid.{NoneRose, HasLeft, HasConfig, HasVolume, IsValidInput}
use Rattle.loader.specs.Records.{Volumes}
use Rattle.release_guard.specs.declared.order.Order.{Order}
use Rattle.release_guard.specs.Text.{Spells as SpellsOrder}
use Rattle.release_guard.specs.Guard.{guard, CanRelease}
use Rattle.safe_save.specs.Kept.{Image, kept}
use Rattle.volume_image.specs.Volumes.{Spells as SpellsVolume}
use Rattle.volume_image.specs.Written.{written}
use Rattle.words_layout.specs.declared.op.Event.{Event}

-- Done or Unfinished, with all that holds where no process is live and where one is, or NoMemory.
abbrev pub IsComplete : (Bool → Type 0) → Status → Type 0
IsComplete Whole Done = Whole false
IsComplete Whole Unfinished = Whole true
IsComplete Whole NoMemory = Unit {0}
IsComplete Whole _ = ⊥

-- Done, with all that holds then, or NoMemory.
abbrev pub IsDone : Type 0 → Status → Type 0
IsDone Whole Done = Whole
IsDone Whole NoMemory = Unit {0}
IsDone Whole _ = ⊥

-- ---- `sim` and `run`

-- A run of this input was printed whole.
pub record RanOn (IsOrder : ConfigText → Volumes → List Event → Type 0) (k : ConfigText) (vs : Volumes) (before after : Ports) (live : Bool) : Type 0 where
  pub ran : Ran IsOrder live before after
  pub config : ran.run.config ≡ k
  pub volumes : ran.run.volumes ≡ vs

abbrev pub RunCompletes : (ConfigText → Volumes → List Event → Type 0) → Ports → Ports → Status → Type 0
RunCompletes IsOrder before after status = (k : ConfigText) (vs : Volumes) → IsValidInput None before k vs → NoneRose before after → IsComplete (RanOn IsOrder k vs before after) status

-- ---- `view` and `audit`

-- The text of the class in this input was printed whole.
pub record LowShownOn (due : ℕ → ConfigText → Volumes → List ℕ) (Holds : ℕ → ConfigText → Volumes → Type 0) (class : ℕ) (k : ConfigText) (vs : Volumes) (before after : Ports) (live : Bool) : Type 0 where
  pub shown : LowShown due Holds class live before after
  pub config : shown.of.config ≡ k
  pub volumes : shown.of.volumes ≡ vs

-- The class is one of the input's classes.
abbrev pub LowCompletes : (ℕ → ConfigText → Volumes → List ℕ) → (ℕ → ConfigText → Volumes → Type 0) → ℕ → Ports → Ports → Status → Type 0
LowCompletes due Holds class before after status = (k : ConfigText) (vs : Volumes) → IsValidInput (Some class) before k vs → NoneRose before after → IsComplete (LowShownOn due Holds class k vs before after) status

-- ---- `show` and `large`

-- The text of this configuration was printed whole.
pub record ShownOn (k : ConfigText) (before after : Ports) : Type 0 where
  pub shown : Shown before after
  pub config : shown.of.config ≡ k

-- It has no volumes.
abbrev pub ShowCompletes : Ports → Ports → Status → Type 0
ShowCompletes before after status = (k : ConfigText) → HasConfig before k → NoneRose before after → IsDone (ShownOn k before after) status

-- It has no input.
abbrev pub LargeCompletes : ℕ → Ports → Ports → Status → Type 0
LargeCompletes number before after status = NoneRose before after → IsComplete (λ live. Summed number live before after) status

-- ---- `guard`

-- Port 0 has an order, port 1 a volume of its table, and the order can be carried out on it.
pub record IsGuardInput (before : Ports) (k : Order) (v : List SegRecord) : Type 0 where
  pub order : HasLeft 0 before (λ bytes. SpellsOrder bytes k)
  pub volume : HasVolume k.table 1 before v
  pub can : CanRelease k v

-- Port 1 takes just the new volume.
abbrev pub GuardCompletes : Ports → Ports → Status → Type 0
GuardCompletes before after status = (k : Order) (v : List SegRecord) → IsGuardInput before k v → NoneRose before after → IsDone ((after 1).taken ≡ with_bytes (before 1).taken (written k.table (guard k v))) status

-- ---- `save` and `restore`

-- the answer is Store
abbrev pub IsStore : Status → Type 0
IsStore (Refused (Store length)) = Unit {0}
IsStore _ = ⊥

-- Port 0 has a configuration, and port 1 a volume of its table. No count rose, that of the disk neither, and the answer isn't
-- Store. Then an honest disk keeps the volume.
abbrev pub SaveCompletes : {D : Type 0} → Sight D → Ports → Ports → D → D → Status → Type 0
SaveCompletes d before after old new status = (k : ConfigText) (v : List SegRecord) → HasConfig before k → HasVolume k.table 1 before v → NoneRose before after → ¬ HasRisen (d.faults old) (d.faults new) → ¬ IsStore status →
    IsDone (d.honest old → KeepsNew d (written k.table v) old new) status

-- the disk is honest, and keeps bytes that spell the volume of the table
pub record KeepsVolume {D : Type 0} (d : Sight D) (old : D) (k : ConfigText) (v : List SegRecord) : Type 0 where
  pub honest : d.honest old
  pub bytes : List ℕ
  pub keeps : kept (d.seen old) ≡ Image bytes
  pub spelled : SpellsVolume k.table bytes v

-- Port 0 has a configuration, and an honest disk keeps a volume of its table. No count rose, that of the disk neither. Then port
-- 1 takes just that volume. The answer isn't Store, since the disk keeps one.
abbrev pub RestoreCompletes : {D : Type 0} → Sight D → Ports → Ports → D → D → Status → Type 0
RestoreCompletes d before after old new status = (k : ConfigText) (v : List SegRecord) → HasConfig before k → KeepsVolume d old k v → NoneRose before after → ¬ HasRisen (d.faults old) (d.faults new) →
    IsDone ((after 1).taken ≡ with_bytes (before 1).taken (written k.table v)) status

-- ---- each top call

-- of each command of the call without threads and disk
abbrev pub SimMainCompletes : Plan → Ports → Ports → Status → Type 0
SimMainCompletes plan.Sim before after status = RunCompletes IsSchedule before after status
SimMainCompletes plan.Show before after status = ShowCompletes before after status
SimMainCompletes (plan.View class) before after status = LowCompletes section_due IsMachineSection class before after status
SimMainCompletes (plan.Large number) before after status = LargeCompletes number before after status
SimMainCompletes (plan.Audit class) before after status = LowCompletes trail_due IsAllowed class before after status
SimMainCompletes plan.Guard before after status = GuardCompletes before after status
SimMainCompletes _ before after status = Unit {0}

-- of each command of the call with threads
abbrev pub KernelMainCompletes : Plan → Ports → Ports → Status → Type 0
KernelMainCompletes plan.Run before after status = RunCompletes IsRoundOrder before after status
KernelMainCompletes other before after status = SimMainCompletes other before after status

-- of each command of the call with a disk alone
abbrev pub SaveMainCompletes : {D : Type 0} → Sight D → Plan → Ports → Ports → D → D → Status → Type 0
SaveMainCompletes d plan.Save before after old new status = SaveCompletes d before after old new status
SaveMainCompletes d plan.Restore before after old new status = RestoreCompletes d before after old new status
SaveMainCompletes d _ before after old new status = Unit {0}

-- of all commands
abbrev pub StoreMainCompletes : {D : Type 0} → Sight D → Plan → Ports → Ports → D → D → Status → Type 0
StoreMainCompletes d plan.Save before after old new status = SaveCompletes d before after old new status
StoreMainCompletes d plan.Restore before after old new status = RestoreCompletes d before after old new status
StoreMainCompletes d other before after old new status = KernelMainCompletes other before after status
