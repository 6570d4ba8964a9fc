-- Runs of a machine, one after the other.
use Rattle.std.proofs.Common.{ℕ, List, [], ◌∷◌, ◌++◌, Option, refl, sym, ap, subst, ◌∙◌}
use Rattle.std.proofs.lemmas.List.{append-nil, append_assoc}
use Rattle.words_layout.specs.declared.op.Event.{Event}
use Rattle.class_model.specs.Process.{ProcName}
use Rattle.machine.specs.Banks.{State}
use Rattle.machine.specs.Plain.{OnWords}
use Rattle.machine.specs.Steps.{EventBy, RunsBy, named}
use Rattle.machine.proofs.Events.{same_length}
use Rattle.low_run.specs.LowRuns.{GoesOn}

runs_append : (xs ys : List Event) (m n o : State (List ℕ)) (names more : List ProcName) → RunsBy OnWords xs m n names → RunsBy OnWords ys n o more → RunsBy OnWords (xs ++ ys) m o (names ++ more)
runs_append [] ys m n o names more h g =
    let there : RunsBy OnWords ys m o more = subst (λ (x : State (List ℕ)). RunsBy OnWords ys x o more) h.0 g in
    subst (RunsBy OnWords ys m o) (sym (ap (λ (x : List ProcName). x ++ more) h.1)) there
runs_append (x ∷ xs) ys m n o names more h g =
    (h.0, h.1, h.2 ++ more, h.3, runs_append xs ys h.0 n o h.2 more h.4 g, ap (λ (y : List ProcName). y ++ more) h.5 ∙ append_assoc (named x h.1) h.2 more)

pub goes_nowhere : (m : State (List ℕ)) → GoesOn [] m m
goes_nowhere m = record { runs = ([], (refl, refl)); banks = refl; shared = refl }

pub goes_on : (xs ys : List Event) (m n o : State (List ℕ)) → GoesOn xs m n → GoesOn ys n o → GoesOn (xs ++ ys) m o
goes_on xs ys m n o h g = record {
  runs = (h.runs.0 ++ g.runs.0, runs_append xs ys m n o h.runs.0 g.runs.0 h.runs.1 g.runs.1);
  banks = g.banks ∙ h.banks;
  shared = g.shared ∙ h.shared;
}

pub goes_one : (e : Event) (m n : State (List ℕ)) (effect : Option ℕ) → EventBy OnWords e m n effect → GoesOn (e ∷ []) m n
goes_one e m n effect h = record {
  runs = (named e effect, (n, effect, [], h, (refl, refl), sym (append-nil (named e effect))));
  banks = same_length OnWords e m n effect h;
  shared = h.shared;
}
