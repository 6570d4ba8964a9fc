-- The script of every process of a reached state is there, and at or below the process's class: processes fit in good states.
use Rattle.std.proofs.Common.{ℕ, ◌+◌, true, false, List, [], ◌∷◌, ◌≡◌, refl, sym, subst, ◌∙◌, Option, Some, None}
use Rattle.std.specs.Prelude.{slice_index_or}
use Rattle.std.specs.Option.{option_map_or}
use Rattle.class_model.specs.Config.{Config, Script, Shared, shared_of}
use Rattle.class_model.specs.Process.{Process, ProcName}
use Rattle.class_model.specs.Run.{opening, steps}
use Rattle.class_model.specs.State.{State, process_at}
use Rattle.class_model.specs.Step.{Deed, deed, done, step}
use Rattle.class_model.specs.Valid.{uses_script}
use Rattle.effect_laws.proofs.Good.{Good}
use Rattle.effect_laws.proofs.GoodStep.{good_step}
use Rattle.effect_laws.proofs.OpeningGood.{opening_good}
use Rattle.labels.specs.Label.{at_or_below}
use Rattle.process.specs.Fits.{PlaceFits}
use Rattle.grant_laws.specs.Grants.{ScriptsAreLow}

-- a good state after some number of steps
record IsGood (a : State) : Type 0 where
  steps : ℕ
  good : Good steps a

good_after : (names : List ProcName) (a : State) → IsGood a → IsGood (steps a names)
good_after [] a z = z
good_after (n ∷ names) a z = good_after names (step a n) (record { steps = z.steps + 1; good = good_step z.steps a n z.good })

done_shared : (a : State) (d : ℕ) (o : Option Deed) → (done a d o).shared ≡ a.shared
done_shared a d None = refl
done_shared a d (Some x) = refl

shared_after : (names : List ProcName) (a : State) → (steps a names).shared ≡ a.shared
shared_after [] a = refl
shared_after (n ∷ names) a = shared_after names (step a n) ∙ done_shared a n.class (deed a n)

script_is_low : (k : Config) (s : Shared) (d n place : ℕ) → s ≡ shared_of k → PlaceFits s d n place → uses_script k d n ≡ true
script_is_low k s d n place same f =
    let there : slice_index_or k.scripts n None ≡ Some f.script = subst (λ (x : Shared). slice_index_or x.scripts n None ≡ Some f.script) same f.there in
    let low : at_or_below k.table f.script.class d ≡ true = subst (λ (x : Shared). at_or_below x.table f.script.class d ≡ true) same f.flows_up in
    subst (λ (o : Option Script). option_map_or (λ (x : Script). at_or_below k.table x.class d) o false ≡ true) (sym there) low

pub scripts_are_low : ScriptsAreLow
scripts_are_low k names n p valid e =
    let z = good_after names (opening k) (record { steps = 0; good = opening_good k valid }) in
    script_is_low k (steps (opening k) names).shared n.class p.script p.place (shared_after names (opening k)) (z.good.processes n p e).fits.place
