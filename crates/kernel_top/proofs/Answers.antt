-- What an answer shows of what the words ask for.
use Rattle.std.proofs.Common.{◌≡◌, ◌⊎◌, ℕ, List, Some, Result, Ok, Err, inl, inr, refl, sym, subst}
use Rattle.text_lines.specs.Faults.{first_code}
use Rattle.command_words.specs.declared.asked.Plan.{Plan}
use Rattle.command_words.specs.declared.asked.Plan.TheVariants.{Sim, Run, Show, View, Large, Audit, Guard, Save, Restore}
use Rattle.command_words.specs.declared.asked.PlanError.{PlanError}
use Rattle.command_words.specs.Words.{Accepts, kinds}
use Rattle.command_input.specs.declared.status.Status.{Status}
use Rattle.command_input.specs.declared.status.Status.TheVariants.{Usage}
use Rattle.command_input.specs.Input.{Ports, Untouched}
use Rattle.command_save.specs.Disks.{Sight}
use Rattle.kernel_top.specs.Answer.{UsageShows, StoreUsageShows, NotCarriedOut, SimMainShows, KernelMainShows, SaveMainShows, StoreMainShows, NeedsEither, NeedsDisk, NeedsNoDisk, IsNone}

-- of two plans that are one answer
pub one_plan : (p q : Plan) → (let answer : Result Plan PlanError = Ok p in answer ≡ Ok q) → p ≡ q
one_plan p q e = cc

-- a fault is no plan
pub no_plan : (e : PlanError) (q : Plan) → (let answer : Result Plan PlanError = Err e in answer ≡ Ok q) → ⊥
no_plan e q h = cc

-- what is shown of the plan of the words is shown of each that they ask for
pub as_asked : (Shows : Plan → Ports → Ports → Status → Type 0) (p q : Plan) (before after : Ports) (s : Status) → (let answer : Result Plan PlanError = Ok p in answer ≡ Ok q) → Shows p before after s → Shows q before after s
as_asked Shows p q before after s e o = subst (λ (x : Plan). Shows x before after s) (one_plan p q e) o

pub as_asked_stored : {D : Type 0} (Shows : Plan → Ports → Ports → D → D → Status → Type 0) (p q : Plan) (before after : Ports) (old new : D) (s : Status) → (let answer : Result Plan PlanError = Ok p in answer ≡ Ok q) → Shows p before after old new s →
    Shows q before after old new s
as_asked_stored Shows p q before after old new s e o = subst (λ (x : Plan). Shows x before after old new s) (one_plan p q e) o

-- words with a fault
pub faulty : (IsOther : Plan → Type 0) (words : List (List ℕ)) (before after : Ports) (kind : ℕ) → first_code (kinds words) ≡ Some kind → ((q : Plan) → Accepts words q → ⊥) → Untouched before after → UsageShows IsOther words before after (Usage kind)
faulty IsOther words before after kind first none same = (inl first, λ t. none t.plan t.accepted, same)

-- ---- usage of a plan

-- A plan is carried out, and then not answered by Usage; or it is another call's, and answered so.
abbrev Answered : (Plan → Type 0) → Plan → Ports → Ports → Status → Type 0
Answered IsOther p before after s = ((IsOther p → ⊥) × ((kind : ℕ) → s ≡ Usage kind → ⊥)) ⊎ (IsOther p × NotCarriedOut before after s)

module _ (IsOther : Plan → Type 0) (words : List (List ℕ)) (before after : Ports) (p : Plan) (accepted : Accepts words p) (one : (q : Plan) → Accepts words q → p ≡ q) where
  own_usage : (s : Status) → (IsOther p → ⊥) → ((kind : ℕ) → s ≡ Usage kind → ⊥) → UsageShows IsOther words before after s
  own_usage (Usage kind) own none = absurd (none kind refl)
  own_usage _ own none = record { plan = p; accepted = accepted; own = own }

  pub usage : (s : Status) → Answered IsOther p before after s → UsageShows IsOther words before after s
  usage s (inl own) = own_usage s own.0 own.1
  usage s (inr other) = subst (UsageShows IsOther words before after) (sym other.1.0) (
    inr (refl, record { plan = p; accepted = accepted; other = other.0 }),
    λ t. t.own (subst IsOther (one t.plan t.accepted) other.0),
    other.1.1,
  )

-- ---- each call

-- what is shown of an answer is shown of Usage where it is that
abbrev Never : (Status → Type 0) → Type 0
Never Shows = (kind : ℕ) → Shows (Usage kind) → ⊥

never : (Shows : Status → Type 0) (s : Status) → Never Shows → Shows s → (kind : ℕ) → s ≡ Usage kind → ⊥
never Shows s none f kind e = none kind (subst Shows e f)

pub sim_answered : (p : Plan) (before after : Ports) (s : Status) → SimMainShows p before after s → Answered NeedsEither p before after s
sim_answered Sim before after s o = inl (λ h. h, never (SimMainShows Sim before after) s (λ kind f. f.cause) o)
sim_answered Show before after s o = inl (λ h. h, never (SimMainShows Show before after) s (λ kind f. f.cause) o)
sim_answered (View class) before after s o = inl (λ h. h, never (SimMainShows (View class) before after) s (λ kind f. f.cause) o)
sim_answered (Large number) before after s o = inl (λ h. h, never (SimMainShows (Large number) before after) s (λ kind f. f) o)
sim_answered (Audit class) before after s o = inl (λ h. h, never (SimMainShows (Audit class) before after) s (λ kind f. f.cause) o)
sim_answered Guard before after s o = inl (λ h. h, never (SimMainShows Guard before after) s (λ kind f. f.cause) o)
sim_answered Run before after s o = inr (tt, o)
sim_answered Save before after s o = inr (tt, o)
sim_answered Restore before after s o = inr (tt, o)

sim_own : (p : Plan) (before after : Ports) (s : Status) → (NeedsEither p → ⊥) → SimMainShows p before after s → (kind : ℕ) → s ≡ Usage kind → ⊥
sim_own p before after s own o = elim (sim_answered p before after s o) [ inl a ↦ a.1 | inr a ↦ absurd (own a.0) ]

pub kernel_answered : (p : Plan) (before after : Ports) (s : Status) → KernelMainShows p before after s → Answered NeedsDisk p before after s
kernel_answered Run before after s o = inl (λ h. h, never (KernelMainShows Run before after) s (λ kind f. f.cause) o)
kernel_answered Save before after s o = inr (tt, o)
kernel_answered Restore before after s o = inr (tt, o)
kernel_answered Sim before after s o = inl (λ h. h, sim_own Sim before after s (λ h. h) o)
kernel_answered Show before after s o = inl (λ h. h, sim_own Show before after s (λ h. h) o)
kernel_answered (View class) before after s o = inl (λ h. h, sim_own (View class) before after s (λ h. h) o)
kernel_answered (Large number) before after s o = inl (λ h. h, sim_own (Large number) before after s (λ h. h) o)
kernel_answered (Audit class) before after s o = inl (λ h. h, sim_own (Audit class) before after s (λ h. h) o)
kernel_answered Guard before after s o = inl (λ h. h, sim_own Guard before after s (λ h. h) o)

kernel_own : (p : Plan) (before after : Ports) (s : Status) → (NeedsDisk p → ⊥) → KernelMainShows p before after s → (kind : ℕ) → s ≡ Usage kind → ⊥
kernel_own p before after s own o = elim (kernel_answered p before after s o) [ inl a ↦ a.1 | inr a ↦ absurd (own a.0) ]

module _ {D : Type 0} (d : Sight D) (before after : Ports) (old new : D) where
  pub store_answered : (p : Plan) (s : Status) → StoreMainShows d p before after old new s → Answered IsNone p before after s
  store_answered Save s o = inl (λ h. h, never (StoreMainShows d Save before after old new) s (λ kind f. f.shows.0) o)
  store_answered Restore s o = inl (λ h. h, never (StoreMainShows d Restore before after old new) s (λ kind f. f.shows.0) o)
  store_answered Run s o = inl (λ h. h, kernel_own Run before after s (λ h. h) o.0)
  store_answered Sim s o = inl (λ h. h, kernel_own Sim before after s (λ h. h) o.0)
  store_answered Show s o = inl (λ h. h, kernel_own Show before after s (λ h. h) o.0)
  store_answered (View class) s o = inl (λ h. h, kernel_own (View class) before after s (λ h. h) o.0)
  store_answered (Large number) s o = inl (λ h. h, kernel_own (Large number) before after s (λ h. h) o.0)
  store_answered (Audit class) s o = inl (λ h. h, kernel_own (Audit class) before after s (λ h. h) o.0)
  store_answered Guard s o = inl (λ h. h, kernel_own Guard before after s (λ h. h) o.0)

  pub save_answered : (p : Plan) (s : Status) → SaveMainShows d p before after old new s → Answered NeedsNoDisk p before after s
  save_answered Save s o = inl (λ h. h, never (SaveMainShows d Save before after old new) s (λ kind f. f.shows.0) o)
  save_answered Restore s o = inl (λ h. h, never (SaveMainShows d Restore before after old new) s (λ kind f. f.shows.0) o)
  save_answered _ s o = inr (tt, o.0)

  -- Usage leaves the disk as it was
  pub save_stays : (p : Plan) (kind : ℕ) → SaveMainShows d p before after old new (Usage kind) → new ≡ old
  save_stays Save kind o = absurd o.shows.0
  save_stays Restore kind o = absurd o.shows.0
  save_stays _ kind o = o.1

  pub store_stays : (p : Plan) (kind : ℕ) → StoreMainShows d p before after old new (Usage kind) → new ≡ old
  store_stays Save kind o = absurd o.shows.0
  store_stays Restore kind o = absurd o.shows.0
  store_stays _ kind o = o.1

-- the disk is as it was where that is shown at Usage
pub with_disk : {D : Type 0} (IsOther : Plan → Type 0) (Shows : Status → Type 0) (words : List (List ℕ)) (before after : Ports) (old new : D) (s : Status) → ((kind : ℕ) → Shows (Usage kind) → new ≡ old) → Shows s →
    UsageShows IsOther words before after s → StoreUsageShows IsOther words before after old new s
with_disk IsOther Shows words before after old new (Usage kind) stays o u = (u, stays kind o)
with_disk IsOther Shows words before after old new _ stays o u = u
