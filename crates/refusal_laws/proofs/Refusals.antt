-- The law of refusals, from what the deed of each instruction comes to.
use Rattle.std.proofs.Common.{true, ◌≡◌, refl, sym, ap, subst, ◌∙◌, Option, Some, None}
use Rattle.std.specs.Prelude.{slice_index_or}
use Rattle.std.proofs.lemmas.Bool.{eq-eqb}
use Rattle.policy.specs.Outcome.{Refused}
use Rattle.policy.specs.Verdict.{first_broken}
use Rattle.policy.specs.declared.rule.Rule.{Rule}
use Rattle.class_model.specs.Process.{Process, ProcName, refused}
use Rattle.class_model.specs.Plan.{Request, plan}
use Rattle.class_model.specs.State.{State, Part, process_at, with_part, with_process}
use Rattle.class_model.specs.Step.{Deed, deed, deed_by, deed_of, done, step}
use Rattle.refusal_laws.specs.Rows.{next_instr, row}
use Rattle.refusal_laws.specs.Refusals.{IsFirst, NoneHolds, used_up, IsGranted, IsAnswered, RefusalsAreFirst}
use Rattle.refusal_laws.proofs.First.{is_first, first_is, none_is}
use Rattle.refusal_laws.proofs.Rows.{Answers, answers}

module _ (a : State) (n : ProcName) (p : Process) (there : process_at a n ≡ Some p) (live : p.live ≡ true) where
  abbrev here : Deed
  here = deed_of a n p (plan a.shared n.class p)

  deed_is : deed a n ≡ Some here
  deed_is = ap (deed_by a n) there ∙ rw live refl

  step_is : step a n ≡ with_part a n.class here.part
  step_is = ap (done a n.class) deed_is

  answered : Answers a n p there (used_up (next_instr a p)) (IsGranted p (next_instr a p)) (first_broken (row a n p)) here
  answered = answers a n p there (next_instr a p)

  abbrev By : Option Rule → Type 0
  By o = Answers a n p there (used_up (next_instr a p)) (IsGranted p (next_instr a p)) o here

  is_refused : (rule : Rule) → IsFirst (row a n p) rule →
      step a n ≡ with_part a n.class (with_process (used_up (next_instr a p) (a.part n.class)) n.processor n.slot (refused p rule))
  is_refused rule h =
      let by : By (Some rule) = subst By (first_is (row a n p) rule h) answered in
      step_is ∙ ap (λ (x : Part). with_part a n.class x) by.0

  is_granted : NoneHolds (row a n p) → (after : Process) → process_at (step a n) n ≡ Some after → IsGranted p (next_instr a p) after
  is_granted h after e =
      let by : By None = subst By (none_is (row a n p) h) answered in
      by.0 after (sym there_after ∙ e)
    where
      there_after : process_at (step a n) n ≡ slice_index_or (here.part.slots n.processor) n.slot None
      there_after = ap (λ (s : State). process_at s n) step_is ∙ rw (eq-eqb n.class n.class refl) refl

  is_shown : (x : Deed) (q : Request) (rule : Rule) → deed a n ≡ Some x → x.asked ≡ Some (q, Refused rule) → IsFirst (row a n p) rule
  is_shown x q rule e f = by_first (first_broken (row a n p)) refl answered
    where
      same : here.asked ≡ Some (q, Refused rule)
      same = let one : here ≡ x = cc in ap (λ (y : Deed). y.asked) one ∙ f

      by_first : (o : Option Rule) → first_broken (row a n p) ≡ o → By o → IsFirst (row a n p) rule
      by_first None g by = absurd (by.1 q rule same)
      by_first (Some first) g by = is_first (row a n p) rule (g ∙ ap (λ (r : Rule). Some r) (sym (by.1 q rule same)))

  is_answered : IsAnswered a n p
  is_answered = record { refused = is_refused; granted = is_granted; shown = is_shown }

pub refusals_are_first : RefusalsAreFirst
refusals_are_first a n p there live = is_answered a n p there live
