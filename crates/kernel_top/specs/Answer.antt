-- What each answer of the top calls means, by their words.
use Rattle.std.specs.Prelude.{◌≡◌, ◌⊎◌, ℕ, List, Some}
use Rattle.text_lines.specs.Faults.{first_code}
use Rattle.command_words.specs.declared.asked.Plan.{Plan}
use Rattle.command_words.specs.declared.asked.Plan.TheVariants.{Sim, Run, Show, View, Large, Audit, Guard, Save, Restore}
use Rattle.command_words.specs.Words.{Accepts, kinds}
use Rattle.command_input.specs.declared.status.Status.{Status}
use Rattle.command_input.specs.declared.status.Status.TheVariants.{Usage}
use Rattle.command_input.specs.Input.{Ports, Untouched}
use Rattle.command_run.specs.Shows.{RunShows, ShowShows, IsSchedule}
use Rattle.command_view.specs.Viewed.{ViewShows}
use Rattle.command_large.specs.Summed.{LargeShows}
use Rattle.command_audit.specs.Audited.{AuditShows}
use Rattle.command_guard.specs.Shown.{GuardShows}
use Rattle.command_threads.specs.Orders.{IsRoundOrder}
use Rattle.command_save.specs.Disks.{Sight}
use Rattle.kernel_top.specs.Store.{SaveAnswers, RestoreAnswers}

-- ---- the words

-- it needs a disk
abbrev pub NeedsDisk : Plan → Type 0
NeedsDisk Save = Unit {0}
NeedsDisk Restore = Unit {0}
NeedsDisk _ = ⊥

-- it needs no disk
abbrev pub NeedsNoDisk : Plan → Type 0
NeedsNoDisk Save = ⊥
NeedsNoDisk Restore = ⊥
NeedsNoDisk _ = Unit {0}

-- it needs threads or a disk
abbrev pub NeedsEither : Plan → Type 0
NeedsEither Run = Unit {0}
NeedsEither Save = Unit {0}
NeedsEither Restore = Unit {0}
NeedsEither _ = ⊥

-- nothing is another call's
abbrev pub IsNone : Plan → Type 0
IsNone p = ⊥

-- The words are accepted, and what they ask for is another call's.
pub record AskForOther (IsOther : Plan → Type 0) (words : List (List ℕ)) : Type 0 where
  pub plan : Plan
  pub accepted : Accepts words plan
  pub other : IsOther plan

-- The words are accepted, and what they ask for is this call's.
pub record AskForOwn (IsOther : Plan → Type 0) (words : List (List ℕ)) : Type 0 where
  pub plan : Plan
  pub accepted : Accepts words plan
  pub own : ¬ IsOther plan

-- The kind of usage: of words that aren't accepted the first kind of fault that holds of them, and 3 of words that ask for what is
-- another call's.
abbrev pub IsUsageKind : (Plan → Type 0) → List (List ℕ) → ℕ → Type 0
IsUsageKind IsOther words kind = (first_code (kinds words) ≡ Some kind) ⊎ ((kind ≡ 3) × AskForOther IsOther words)

-- Usage comes exactly where the words don't ask for what is this call's, and then no port has changed.
abbrev pub UsageShows : (Plan → Type 0) → List (List ℕ) → Ports → Ports → Status → Type 0
UsageShows IsOther words before after (Usage kind) = IsUsageKind IsOther words kind × ¬ AskForOwn IsOther words × Untouched before after
UsageShows IsOther words before after _ = AskForOwn IsOther words

-- likewise of a call with a disk: at Usage the disk too is as it was
abbrev pub StoreUsageShows : {D : Type 0} → (Plan → Type 0) → List (List ℕ) → Ports → Ports → D → D → Status → Type 0
StoreUsageShows IsOther words before after old new (Usage kind) = UsageShows IsOther words before after (Usage kind) × (new ≡ old)
StoreUsageShows IsOther words before after old new status = UsageShows IsOther words before after status

-- ---- the commands

-- what a call shows that doesn't carry a plan out
abbrev pub NotCarriedOut : Ports → Ports → Status → Type 0
NotCarriedOut before after status = (status ≡ Usage 3) × Untouched before after

-- what each answer of the call without threads and disk says, by what was asked for
abbrev pub SimMainShows : Plan → Ports → Ports → Status → Type 0
SimMainShows Sim before after status = RunShows IsSchedule before after status
SimMainShows Show before after status = ShowShows before after status
SimMainShows (View class) before after status = ViewShows class before after status
SimMainShows (Large number) before after status = LargeShows number before after status
SimMainShows (Audit class) before after status = AuditShows class before after status
SimMainShows Guard before after status = GuardShows before after status
SimMainShows _ before after status = NotCarriedOut before after status

-- likewise of the call with threads
abbrev pub KernelMainShows : Plan → Ports → Ports → Status → Type 0
KernelMainShows Run before after status = RunShows IsRoundOrder before after status
KernelMainShows other before after status = SimMainShows other before after status

-- likewise of the call with a disk alone
abbrev pub SaveMainShows : {D : Type 0} → Sight D → Plan → Ports → Ports → D → D → Status → Type 0
SaveMainShows d Save before after old new status = SaveAnswers d before after old new status
SaveMainShows d Restore before after old new status = RestoreAnswers d before after old new status
SaveMainShows d _ before after old new status = NotCarriedOut before after status × (new ≡ old)

-- likewise of the call with threads and a disk: the disk stays as it was but by `save` and `restore`
abbrev pub StoreMainShows : {D : Type 0} → Sight D → Plan → Ports → Ports → D → D → Status → Type 0
StoreMainShows d Save before after old new status = SaveAnswers d before after old new status
StoreMainShows d Restore before after old new status = RestoreAnswers d before after old new status
StoreMainShows d other before after old new status = KernelMainShows other before after status × (new ≡ old)
