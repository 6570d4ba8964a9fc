-- After every list of events each class is shown what the machine of whole instructions shows it, given only what is at or
-- below the class.
use Rattle.std.proofs.Common.{ℕ, ◌+◌, ◌-◌, ◌^◌, ◌≤◌, ◌<◌, Bool, true, false, List, [], ◌∷◌, ◌≡◌, refl, sym, ap, subst, ◌∙◌, Option, Some, None, ◌⊎◌, inl, inr, arith, length}
use Rattle.std.specs.Prelude.{nat_lt, if◌then◌else◌}
use Rattle.std.specs.List.{filter, flat_map}
use Rattle.std.proofs.lemmas.Bool.{and_from, lt-ltb, cases_lt}
use Rattle.lists.specs.Lists.{below}
use Rattle.labels.specs.Label.{at_or_below}
use Rattle.words_layout.specs.declared.op.Event.{Event}
use Rattle.words_layout.specs.declared.segment.SegId.{SegId}
use Rattle.words_layout.specs.declared.coding.Alias.{Alias}
use Rattle.policy.specs.Known.{in_table}
use Rattle.class_model.specs.Config.{Config, classes, low_config}
use Rattle.class_model.specs.Run.{run as whole_run}
use Rattle.class_model.specs.State.{State, entry_at}
use Rattle.class_model.specs.Valid.{IsConfig}
use Rattle.turns.specs.Doing.{Fresh}
use Rattle.process.specs.Running.{Running}
use Rattle.machine.specs.Low.{low_events}
use Rattle.machine.specs.Machine.{slot_at}
use Rattle.machine.specs.Opening.{opening, machine, effects}
use Rattle.report.specs.Reported.{section}
use Rattle.report_laws.specs.Shown.{IsShown, low_section}
use Rattle.report_laws.proofs.SameSections.{section_stands}
use Rattle.report_laws.proofs.ShownLaws.{shows_by_low_parts}
use Rattle.effect_laws.proofs.Good.{Good, EntryGood}
use Rattle.effect_laws.proofs.Turns.{at_slot}
use Rattle.effect_laws.proofs.Resting.{SlotRests, run_rests, opening_rests}
use Rattle.flow_laws.proofs.LowValid.{low_valid}
use Rattle.effect_laws.proofs.StandsAfter.{stands_after, together_after, good_after}

module _ (k : Config) (valid : IsConfig k) (events : List Event) (few : length events < 2 ^ 64 - 1) (c : ℕ) where
  abbrev a : State
  a = whole_run k (effects k events)

  entry_in : (u : SegId) (e : ℕ) → in_table (whole_run k (effects k events)).shared.table (entry_at (((whole_run k (effects k events)).part c).cell u) e) ≡ entry_at (((whole_run k (effects k events)).part c).cell u) e
  entry_in u e = by_entry (entry_at ((a.part c).cell u) e) refl
    where
      good : Good (0 + length events) (whole_run k (effects k events))
      good = good_after k valid events few

      by_entry : (o : Option Alias) → entry_at (((whole_run k (effects k events)).part c).cell u) e ≡ o → in_table (whole_run k (effects k events)).shared.table o ≡ o
      by_entry None h = refl
      by_entry (Some x) h =
          let entry : EntryGood good.given (whole_run k (effects k events)) c x = (good.cells c u).entries e x h in
          let small : nat_lt x.class (classes (whole_run k (effects k events)).shared) ≡ true = lt-ltb x.class (classes (whole_run k (effects k events)).shared) entry.class in
          rw (and_from _ _ small entry.in_order) refl

  rests : (p slot : ℕ) (r : Running) → slot_at (((machine k events).part c).vp p) slot ≡ Some r → (r.doing ≡ Fresh) ⊎ ((p < 4) × (r.process.live ≡ true))
  rests p slot r h = elim (subst SlotRests h (run_rests events (opening k) (opening_rests k) c p slot)) [
    | inl f ↦ inl f
    | inr live ↦ inr (by_processor (cases_lt p 4), live)
  ]
    where
      by_processor : (p < 4) ⊎ (4 ≤ p) → p < 4
      by_processor (inl l) = l
      by_processor (inr l) = let none : at_slot ((machine k events).part c) p slot ≡ None = (together_after k valid events few).keeps.four c p slot l in
          absurd (let clash : None ≡ Some r = sym none ∙ h in cc)

  pub shown_after : IsShown (machine k events) (whole_run k (effects k events)) c
  shown_after = record { eight = λ u. ((good_after k valid events few).cells c u).eight; in_table = entry_in; rests = rests }

fewer : (test : Event → Bool) (events : List Event) → length (filter test events) ≤ length events
fewer test [] = omega arith
fewer test (e ∷ events) = elim (test e) as (λ b. length (if b then e ∷ filter test events else filter test events) ≤ length (e ∷ events)) [
  | true ↦ (let r = fewer test events in omega (arith, r))
  | false ↦ (let r = fewer test events in omega (arith, r))
]

pub sections_low : (k : Config) (events : List Event) → IsConfig k → length events ≤ 4194304 → (c : ℕ) → section c (machine k events) ≡ low_section k events c
sections_low k events valid few c =
    shows_by_low_parts k valid events c
    ∙ section_stands (machine (low_config c k) (low_events k.table c events)) (whole_run (low_config c k) (effects (low_config c k) (low_events k.table c events))) c
    (stands_after (low_config c k) (low_valid k c valid) (low_events k.table c events) few_low)
    (shown_after (low_config c k) (low_valid k c valid) (low_events k.table c events) few_low c)
  where
    few_low : length (low_events k.table c events) < 2 ^ 64 - 1
    few_low = let less = fewer (λ (e : Event). at_or_below k.table e.class c) events in omega (arith, less, few)

pub reports_low : (k : Config) (events : List Event) → IsConfig k → length events ≤ 4194304 →
    flat_map (λ c. section c (machine k events)) (below (length k.table)) ≡ flat_map (low_section k events) (below (length k.table))
reports_low k events valid few = ap (λ (f : ℕ → List ℕ). flat_map f (below (length k.table))) (λ i c. sections_low k events valid few c i)
