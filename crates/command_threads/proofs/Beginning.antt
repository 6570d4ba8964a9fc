-- Processors that have taken no step can take their rounds.
use Rattle.std.proofs.Common.{◌≡◌, ℕ, suc, ◌+◌, ◌<◌, ◌≤◌, ◌/◌, List, [], ◌∷◌, ◌++◌, length, map, refl, sym, ap, subst, ◌∙◌, arith}
use Rattle.std.specs.Prelude.{Option, Some, None}
use Rattle.std.specs.List.{All, AllByRecursion}
use Rattle.std.proofs.lemmas.List.Elements.{All-from_get_or}
use Rattle.config_text.specs.declared.config.Config.{Config as ConfigText}
use Rattle.class_model.specs.Config.{Shared, classes}
use Rattle.machine.specs.Processing.{Processing}
use Rattle.machine.specs.Banks.{bank_at, State}
use Rattle.machine.specs.Steps.{IsBank, IsMachine}
use Rattle.shared_words.specs.Ports.{Opened}
use Rattle.processors.specs.declared.team.Team.{Team}
use Rattle.processors.specs.Turns.{ProcessorState}
use Rattle.processors.specs.Lists.{there, team_list, plan_of, bank_of, banks_of}
use Rattle.processors.specs.Teams.{IfThere}
use Rattle.processors.specs.Rounds.{HasTaken, TeamHasTaken}
use Rattle.command_threads.specs.Rounds.{plan_for}
use Rattle.round_laws.specs.Rounds.{Plan, Ran}
use Rattle.command_threads.specs.Teams.{processors_from, HasClassesOf, IsTeamOf}

-- each bank of a machine, one after another
each_bank : (s : Shared) (banks : List (List Processing)) → ((p : ℕ) → p < length banks → IsBank s (bank_at banks p)) → AllByRecursion (IsBank s) banks
each_bank s [] h = tt
each_bank s (b ∷ banks) h = (h 0 (omega arith), each_bank s banks (λ p low. h (suc p) (omega arith)))

each_has_taken : (k : ConfigText) (s : Shared) (words : Opened) (n : ℕ) (banks : List (List Processing)) → length words.words / 34869 ≡ classes s → k.quantum ≤ 256 → AllByRecursion (IsBank s) banks
    → AllByRecursion (HasTaken s words (plan_for k) 0) (processors_from k n banks)
each_has_taken k s words n [] layout few h = tt
each_has_taken k s words n (b ∷ banks) layout few h =
    (record { bank = h.0; layout = layout; plan_is = refl; quantum = few; steps = omega arith; few = omega arith }, each_has_taken k s words (n + 1) banks layout few h.1)

-- what holds of each processor of a team, holds of those that are there
those_there : (P : ProcessorState → Type 0) (p : ProcessorState) (s2 s3 s4 : Option ProcessorState) → AllByRecursion P (p ∷ there s2 ++ there s3 ++ there s4) → P p × IfThere s2 P × IfThere s3 P × IfThere s4 P
those_there P p None None None h = (h.0, tt, tt, tt)
those_there P p None None (Some d) h = (h.0, tt, tt, h.1.0)
those_there P p None (Some c) None h = (h.0, tt, h.1.0, tt)
those_there P p None (Some c) (Some d) h = (h.0, tt, h.1.0, h.1.1.0)
those_there P p (Some b) None None h = (h.0, h.1.0, tt, tt)
those_there P p (Some b) None (Some d) h = (h.0, h.1.0, tt, h.1.1.0)
those_there P p (Some b) (Some c) None h = (h.0, h.1.0, h.1.1.0, tt)
those_there P p (Some b) (Some c) (Some d) h = (h.0, h.1.0, h.1.1.0, h.1.1.1.0)

-- the first processor has the configuration's cycle and quantum
plans_from : (k : ConfigText) (n : ℕ) (banks : List (List Processing)) → AllByRecursion (λ (p : ProcessorState). plan_of p ≡ plan_for k) (processors_from k n banks)
plans_from k n [] = tt
plans_from k n (b ∷ banks) = (refl, plans_from k (n + 1) banks)

pub first_plan : (k : ConfigText) (banks : List (List Processing)) (team : Team) → IsTeamOf k banks team → plan_of team.first ≡ plan_for k
first_plan k banks team t =
    let P : ProcessorState → Type 0 = λ p. plan_of p ≡ plan_for k in
    (those_there P team.first team.second team.third team.fourth (subst (AllByRecursion P) (sym t.processors) (plans_from k 0 banks))).0

-- the team of a machine's banks can take its rounds
pub team_begins : (k : ConfigText) (s : Shared) (words : Opened) (layout : ℕ) (banks : List (List Processing)) (team : Team) → IsMachine layout banks s → length words.words / 34869 ≡ classes s → k.quantum ≤ 256 → IsTeamOf k banks team
    → TeamHasTaken s words (plan_of team.first) 0 team
team_begins k s words layout banks team m laid few t =
    let P : ProcessorState → Type 0 = HasTaken s words (plan_for k) 0 in
    let each : AllByRecursion P (team_list team) = subst (AllByRecursion P) (sym t.processors) (each_has_taken k s words 0 banks laid few (each_bank s banks m.each)) in
    let parts = those_there P team.first team.second team.third team.fourth each in
    let begins : TeamHasTaken s words (plan_for k) 0 team = record { first = parts.0; second = parts.1; third = parts.2; fourth = parts.3; third_follows = t.third_follows; fourth_follows = t.fourth_follows } in
    subst (λ (p : Plan). TeamHasTaken s words p 0 team) (sym (first_plan k banks team t)) begins

-- each bank of a machine has the configuration's classes
pub all_wide : (k : ConfigText) (s : Shared) (layout : ℕ) (banks : List (List Processing)) → IsMachine layout banks s → s.table ≡ k.table → All (HasClassesOf k) banks
all_wide k s layout banks m same = All-from_get_or (HasClassesOf k) banks [] (λ i inside. (m.each i inside).width ∙ ap length same)

banks_from : (k : ConfigText) (n : ℕ) (banks : List (List Processing)) → map bank_of (processors_from k n banks) ≡ banks
banks_from k n [] = refl
banks_from k n (b ∷ banks) = ap (λ (bs : List (List Processing)). b ∷ bs) (banks_from k (n + 1) banks)

-- the banks of the team are those that it was made from
pub banks_are : (k : ConfigText) (banks : List (List Processing)) (team : Team) → IsTeamOf k banks team → banks_of team ≡ banks
banks_are k banks team t = ap (map bank_of) t.processors ∙ banks_from k 0 banks

-- what was run from one machine to another, by any names of these
pub ran_as : (k : ConfigText) (plan : Plan) (m m' n n' : State (List ℕ)) (rounds taken : ℕ) → plan ≡ plan_for k → m' ≡ m → n ≡ n' → Ran plan m' n' rounds taken → Ran (plan_for k) m n rounds taken
ran_as k plan m m' n n' rounds taken p before after r =
    subst (λ (x : State (List ℕ)). Ran (plan_for k) m x rounds taken) (sym after)
    (subst (λ (x : State (List ℕ)). Ran (plan_for k) x n' rounds taken) before (subst (λ (x : Plan). Ran x m' n' rounds taken) p r))
