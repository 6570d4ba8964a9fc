-- An event keeps a machine, and runs go on.
use Rattle.std.proofs.Common.{ℕ, ◌<◌, ◌≤◌, List, [], ◌∷◌, ◌++◌, length, ◌≡◌, ◌⊎◌, inl, inr, refl, sym, ap, ◌∙◌, subst, Option, Some, None, MatchOption}
use Rattle.std.specs.Prelude.{slice_index_or, slice_set}
use Rattle.std.proofs.lemmas.Bool.{cases_eq}
use Rattle.std.proofs.lemmas.List.{length-set, get_or-set_same, get_or-set_other, append_assoc, append-nil}
use Rattle.words_layout.specs.Words.{WordOp}
use Rattle.words_layout.specs.declared.op.Op.{Op}
use Rattle.words_layout.specs.declared.op.Event.{Event}
use Rattle.class_model.specs.Config.{Shared, classes}
use Rattle.class_model.specs.Process.{ProcName}
use Rattle.machine.specs.Machine.{vp_op}
use Rattle.machine.specs.Processing.{Processing, vp_of}
use Rattle.machine.specs.Banks.{no_processing, bank_at, vp_in, vp_at, with_vp, State}
use Rattle.machine.specs.Steps.{ProcessingFits, IsBank, IsMachine, Rests, Performs, StepsBy, BanksStep, EventBy, RunsBy, named}

module _ {W : Type 0} (related : W → Op → ℕ → W → Type 0) where
  class_by : (s : Shared) (v v' : Processing) (words words' : W) (effect : Option ℕ) (o : Option WordOp) →
      MatchOption o (Rests v words v' words' effect) (λ op. Performs related s v words v' words' effect op) → v'.class ≡ v.class
  class_by s v v' words words' effect None h = ap (λ (u : Processing). u.class) h.processing
  class_by s v v' words words' effect (Some op) h = h.absorbed.class

  -- a step keeps the class
  pub same_class : (s : Shared) (v v' : Processing) (words words' : W) (effect : Option ℕ) → StepsBy related s v words v' words' effect → v'.class ≡ v.class
  same_class s v v' words words' effect h = class_by s v v' words words' effect (vp_op s v.class (vp_of s v)) h

  -- a run with one event more
  pub runs_on : (events : List Event) (e : Event) (m between n : State W) (names : List ProcName) (effect : Option ℕ) → RunsBy related events m between names → EventBy related e between n effect →
      RunsBy related (events ++ e ∷ []) m n (names ++ named e effect)
  runs_on [] e m between n names effect h g =
      let first : EventBy related e m n effect = subst (λ (x : State W). EventBy related e x n effect) h.0 g in
      (n, effect, [], first, (refl, refl), ap (λ (x : List ProcName). x ++ named e effect) h.1 ∙ sym (append-nil (named e effect)))
  runs_on (x ∷ xs) e m between n names effect h g =
      (h.0, h.1, h.2 ++ named e effect, h.3, runs_on xs e h.0 between n h.2 effect h.4 g, ap (λ (y : List ProcName). y ++ named e effect) h.5 ∙ append_assoc (named x h.1) h.2 (named e effect))

-- ---- banks after a step

module _ (s : Shared) where
  bank_place : (bank : List Processing) (c j : ℕ) (v : Processing) → IsBank s bank → c < length bank → ProcessingFits s v → v.class ≡ c → j < classes s → (j ≡ c) ⊎ (j ≡ c → ⊥) →
      ((vp_in (slice_set bank c v) j).class ≡ j) × ProcessingFits s (vp_in (slice_set bank c v) j)
  bank_place bank c j v b inside fits same below (inl e) =
      let here : vp_in (slice_set bank c v) j ≡ v = subst (λ (i : ℕ). slice_index_or (slice_set bank c v) i no_processing ≡ v) (sym e) (get_or-set_same bank c v no_processing inside) in
      (ap (λ (u : Processing). u.class) here ∙ (same ∙ sym e), subst (ProcessingFits s) (sym here) fits)
  bank_place bank c j v b inside fits same below (inr apart) =
      let here : vp_in (slice_set bank c v) j ≡ vp_in bank j = get_or-set_other bank c j v no_processing apart in
      (ap (λ (u : Processing). u.class) here ∙ b.order j below, subst (ProcessingFits s) (sym here) (b.fits j below))

  bank_after : (bank : List Processing) (c : ℕ) (v : Processing) → IsBank s bank → c < length bank → ProcessingFits s v → v.class ≡ c → IsBank s (slice_set bank c v)
  bank_after bank c v b inside fits same = record {
    width = length-set bank c v ∙ b.width;
    order = λ j below. (bank_place bank c j v b inside fits same below (cases_eq j c)).0;
    fits = λ j below. (bank_place bank c j v b inside fits same below (cases_eq j c)).1;
  }

  each_after : (banks : List (List Processing)) (p j : ℕ) (bank : List Processing) → ((q : ℕ) → q < length banks → IsBank s (bank_at banks q)) → IsBank s bank → p < length banks → j < length banks →
      (j ≡ p) ⊎ (j ≡ p → ⊥) → IsBank s (bank_at (slice_set banks p bank) j)
  each_after banks p j bank each is inside below (inl e) =
      subst (IsBank s) (sym (subst (λ (i : ℕ). slice_index_or (slice_set banks p bank) i [] ≡ bank) (sym e) (get_or-set_same banks p bank [] inside))) is
  each_after banks p j bank each is inside below (inr apart) = subst (IsBank s) (sym (get_or-set_other banks p j bank [] apart)) (each j below)

  with_vp_after : (layout layout' : ℕ) (banks : List (List Processing)) (p c : ℕ) (v : Processing) → IsMachine layout banks s → p < length banks → c < classes s →
      ProcessingFits s v → v.class ≡ (vp_at banks p c).class → layout' ≡ classes s → IsMachine layout' (with_vp banks p c v) s
  with_vp_after layout layout' banks p c v m inside below fits same is =
      let bank = m.each p inside in
      let long : length (with_vp banks p c v) ≡ length banks = length-set banks p (slice_set (bank_at banks p) c v) in
      let changed : IsBank s (slice_set (bank_at banks p) c v) =
      bank_after (bank_at banks p) c v bank (subst (λ (n : ℕ). c < n) (sym bank.width) below) fits (same ∙ bank.order c below) in
      record {
        some = subst (λ (n : ℕ). 1 ≤ n) (sym long) m.some;
        most = subst (λ (n : ℕ). n ≤ 4) (sym long) m.most;
        layout_is = is;
        each = λ j lt. each_after banks p j (slice_set (bank_at banks p) c v) m.each changed inside (subst (λ (n : ℕ). j < n) long lt) (cases_eq j p);
      }

-- a step of one virtual processor keeps a machine
pub machine_after : {W : Type 0} (related : W → Op → ℕ → W → Type 0) (s : Shared) (layout layout' : ℕ) (p c : ℕ) (banks banks' : List (List Processing)) (words words' : W) (effect : Option ℕ) →
    IsMachine layout banks s → p < length banks → c < classes s → BanksStep related s p c banks words banks' words' effect → layout' ≡ classes s → IsMachine layout' banks' s
machine_after related s layout layout' p c banks banks' words words' effect m inside below h is =
    subst (λ (x : List (List Processing)). IsMachine layout' x s) (sym h.banks_are)
    (with_vp_after s layout layout' banks p c h.after m inside below h.fits (same_class related s (vp_at banks p c) h.after words words' effect h.step) is)

-- an event leaves the number of banks
pub same_length : {W : Type 0} (related : W → Op → ℕ → W → Type 0) (e : Event) (m n : State W) (effect : Option ℕ) → EventBy related e m n effect → length n.banks ≡ length m.banks
same_length related e m n effect h = ap length h.banks ∙ length-set m.banks e.processor (slice_set (bank_at m.banks e.processor) e.class h.after)

-- an event, by the step that its banks take
pub event_by : {W : Type 0} (related : W → Op → ℕ → W → Type 0) (e : Event) (s : Shared) (banks banks' : List (List Processing)) (words words' : W) (effect : Option ℕ) (m : State W) →
    record { words = words; banks = banks; shared = s } ≡ m → BanksStep related s e.processor e.class banks words banks' words' effect →
    EventBy related e m (record { words = words'; banks = banks'; shared = s }) effect
event_by {W} related e s banks banks' words words' effect m is h =
    subst (λ (x : State W). EventBy related e x (record { words = words'; banks = banks'; shared = s }) effect) is
    (record { after = h.after; step = h.step; banks = h.banks_are; shared = refl })
