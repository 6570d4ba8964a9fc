-- Events of classes without a live process do nothing.
use Rattle.std.proofs.Common.{◌≡◌, ℕ, ◌<◌, ◌⊎◌, inl, inr, Bool, true, false, List, [], ◌∷◌, ◌++◌, length, refl, sym, ap, subst, ◌∙◌, Option, None, MatchOption}
use Rattle.std.specs.Prelude.{if◌then◌else◌, slice_index_or, slice_set}
use Rattle.std.specs.List.{AllByRecursion}
use Rattle.std.proofs.lemmas.Bool.{cases_eq}
use Rattle.std.proofs.lemmas.List.{get_or-set_same, get_or-set_other}
use Rattle.words_layout.specs.Words.{WordOp}
use Rattle.words_layout.specs.declared.op.Event.{Event}
use Rattle.class_model.specs.Config.{Shared, classes}
use Rattle.class_model.specs.Process.{ProcName}
use Rattle.machine.specs.Banks.{State, no_processing, bank_at, vp_in, vp_at, with_vp}
use Rattle.machine.specs.Plain.{OnWords}
use Rattle.machine.specs.Processing.{Processing, holds_live}
use Rattle.machine.specs.Steps.{EventBy, HasEnded, InRange, Performs, Rests, RunsBy, named}
use Rattle.machine.proofs.Events.{same_length}
use Rattle.machine.proofs.Idle.{no_op, vp_kept}
use Rattle.low_run.specs.Flags.{is_low, low_of}
use Rattle.low_run.specs.LowRuns.{OthersEnded}

-- ---- the event of a virtual processor without a live process changes nothing

same_state : (m n : State (List ℕ)) → n.words ≡ m.words → n.banks ≡ m.banks → n.shared ≡ m.shared → n ≡ m
same_state m n w b s =
    ap (λ (x : List ℕ). let y : State (List ℕ) = record { words = x; banks = n.banks; shared = n.shared } in y) w
    ∙ ap (λ (x : List (List Processing)). let y : State (List ℕ) = record { words = m.words; banks = x; shared = n.shared } in y) b
    ∙ ap (λ (x : Shared). let y : State (List ℕ) = record { words = m.words; banks = m.banks; shared = x } in y) s

nothing_done : (e : Event) (m n : State (List ℕ)) (effect : Option ℕ) → EventBy OnWords e m n effect → HasEnded m e.class → n ≡ m
nothing_done e m n effect h ended =
    let v : Processing = vp_at m.banks e.processor e.class in
    let rests : Rests v m.words h.after n.words effect =
    subst (λ (o : Option WordOp). MatchOption o (Rests v m.words h.after n.words effect) (λ op. Performs OnWords m.shared v m.words h.after n.words effect op))
    (no_op m.shared v (ended e.processor)) h.step in
    same_state m n rests.words_are (h.banks ∙ ap (with_vp m.banks e.processor e.class) rests.processing ∙ vp_kept m.banks e.processor e.class) h.shared

-- ---- an event of another class leaves a class without a live process

vp_other : (banks : List (List Processing)) (p c q d : ℕ) (v : Processing) → p < length banks → (d ≡ c → ⊥) → (q ≡ p) ⊎ (q ≡ p → ⊥) → vp_at (with_vp banks p c v) q d ≡ vp_at banks q d
vp_other banks p c q d v lt other (inl e) =
    rw e (ap (λ (bank : List Processing). vp_in bank d) (get_or-set_same banks p (slice_set (bank_at banks p) c v) [] lt) ∙ get_or-set_other (bank_at banks p) c d v no_processing other)
vp_other banks p c q d v lt other (inr ne) = ap (λ (bank : List Processing). vp_in bank d) (get_or-set_other banks p q (slice_set (bank_at banks p) c v) [] ne)

ended_on : (e : Event) (m n : State (List ℕ)) (effect : Option ℕ) (d : ℕ) → EventBy OnWords e m n effect → e.processor < length m.banks → (d ≡ e.class → ⊥) → HasEnded m d → HasEnded n d
ended_on e m n effect d h lt other ended q slot =
    ap (λ (v : Processing). holds_live (slice_index_or v.slots slot None))
    (ap (λ (banks : List (List Processing)). vp_at banks q d) h.banks ∙ vp_other m.banks e.processor e.class q d h.after lt other (cases_eq q e.processor)) ∙ ended q slot

-- ---- so a run does without them

module _ (flags : List Bool) where
  others_on : (e : Event) (m n : State (List ℕ)) (effect : Option ℕ) → EventBy OnWords e m n effect → InRange m e → is_low flags e.class ≡ true → OthersEnded flags m → OthersEnded flags n
  others_on e m n effect h range low others d lt none =
      ended_on e m n effect d h range.0 (λ is. (let both : is_low flags e.class ≡ false = subst (λ x. is_low flags x ≡ false) is none in absurd (cc))) (others d (subst (λ (s : Shared). d < classes s) h.shared lt) none)

  range_on : (e x : Event) (m n : State (List ℕ)) (effect : Option ℕ) → EventBy OnWords e m n effect → InRange m x → InRange n x
  range_on e x m n effect h range = (subst (λ k. x.processor < k) (sym (same_length OnWords e m n effect h)) range.0, subst (λ (s : Shared). x.class < classes s) (sym h.shared) range.1)

  ranges_on : (e : Event) (m n : State (List ℕ)) (effect : Option ℕ) → EventBy OnWords e m n effect → (xs : List Event) → AllByRecursion (λ (x : Event). InRange m x) xs → AllByRecursion (λ (x : Event). InRange n x) xs
  ranges_on e m n effect h [] r = r
  ranges_on e m n effect h (x ∷ xs) r = (range_on e x m n effect h r.0, ranges_on e m n effect h xs r.1)

  -- one event more before those that are known
  without_more : (e : Event) (es : List Event) (m n : State (List ℕ)) (names : List ProcName) → OthersEnded flags m → AllByRecursion (λ (x : Event). InRange m x) (e ∷ es) →
      RunsBy OnWords (e ∷ es) m n names →
      ((l : State (List ℕ)) → (more : List ProcName) → OthersEnded flags l → AllByRecursion (λ (x : Event). InRange l x) es → RunsBy OnWords es l n more →
      (less : List ProcName) × RunsBy OnWords (low_of flags es) l n less) →
      (b : Bool) → is_low flags e.class ≡ b → (less : List ProcName) × RunsBy OnWords (if b then e ∷ low_of flags es else low_of flags es) m n less
  without_more e es m n names others range h known true is =
      let rest = known h.0 h.2 (others_on e m h.0 h.1 h.3 range.0 is others) (ranges_on e m h.0 h.1 h.3 es range.1) h.4 in
      (named e h.1 ++ rest.0, (h.0, h.1, rest.0, h.3, rest.1, refl))
  without_more e es m n names others range h known false is =
      let same = nothing_done e m h.0 h.1 h.3 (others e.class range.0.1 is) in
      let there : RunsBy OnWords es m n h.2 = subst (λ (x : State (List ℕ)). RunsBy OnWords es x n h.2) same h.4 in
      known m h.2 others range.1 there

  pub without : (events : List Event) (m n : State (List ℕ)) (names : List ProcName) → OthersEnded flags m → AllByRecursion (λ (x : Event). InRange m x) events →
      RunsBy OnWords events m n names → (less : List ProcName) × RunsBy OnWords (low_of flags events) m n less
  without [] m n names others range h = (names, h)
  without (e ∷ es) m n names others range h = without_more e es m n names others range h (λ l more o r g. without es l n more o r g) (is_low flags e.class) refl
