-- A process that is shown what its request came to is good where what it learns is.
use Rattle.std.proofs.Common.{ℕ, ◌+◌, List, [], ◌∷◌, ◌≡◌, refl, sym, ap, subst, ◌∙◌, Option, Some, None, inl, inr, length}
use Rattle.std.specs.Prelude.{slice_set}
use Rattle.std.proofs.lemmas.List.{length-set}
use Rattle.lists.specs.Lists.{overwrite}
use Rattle.policy.specs.Known.{Known}
use Rattle.policy.specs.Outcome.{Outcome, Refused, Value, Learns, Words, Printed, Looked, Counted}
use Rattle.class_model.specs.Process.{Process, known_at, free_known, learned, settled, new_process}
use Rattle.class_model.specs.State.{State}
use Rattle.class_model.specs.Plan.{Own, Begin, plan}
use Rattle.process.specs.Fits.{Fits, PlaceFits, KnownFits, OutcomeFits}
use Rattle.process.proofs.Told.{settles}
use Rattle.effect_laws.proofs.Good.{Given, KnownGood, ProcessGood, RootGood, at_rest}
use Rattle.effect_laws.proofs.Growing.{set-read}
use Rattle.effect_laws.proofs.GoodPlan.{Alike, own_alike, begun_new, new_knows}

pub length-overwrite : (xs : List ℕ) (at : ℕ) (vs : List ℕ) → length (overwrite xs at vs) ≡ length xs
length-overwrite xs at [] = refl
length-overwrite xs at (v ∷ vs) = length-overwrite (slice_set xs at v) (at + 1) vs ∙ length-set xs at v

-- what is learned is good
abbrev pub LearnsGood : Given → State → ℕ → Outcome → Type 0
LearnsGood t a d (Learns k) = KnownGood t a d k
LearnsGood t a d _ = Unit {0}

module _ (t : Given) (a : State) (d : ℕ) (p : Process) (pg : ProcessGood t a d p) where
  learns_good : (k : Known) → KnownGood t a d k → (o : Option ℕ) → (j : ℕ) (x : Known) → known_at (learned p k o) j ≡ Some x → KnownGood t a d x
  learns_good k g None j x h = pg.known j x h
  learns_good k g (Some place) j x h = elim (set-read p.known place j (Some k) x h) [
    | inl e ↦ (let same : k ≡ x = cc in subst (KnownGood t a d) same g)
    | inr e ↦ pg.known j x e
  ]

  pub settled_good : (o : Outcome) → PlaceFits a.shared d p.script (p.place + 1) → OutcomeFits a.shared d o → LearnsGood t a d o → ProcessGood t a d (settled p o)
  settled_good o next fits g = record { fits = settles a.shared d p pg.fits next o fits; known = knows o g; pad = padded o ∙ pg.pad }
    where
      knows : (o : Outcome) → LearnsGood t a d o → (j : ℕ) (x : Known) → known_at (settled p o) j ≡ Some x → KnownGood t a d x
      knows (Learns k) g j x h = learns_good k g (free_known p) j x h
      knows (Refused rule) g j x h = pg.known j x h
      knows (Value v) g j x h = pg.known j x h
      knows (Words at ws) g j x h = pg.known j x h
      knows (Printed place v) g j x h = pg.known j x h
      knows (Looked tally) g j x h = pg.known j x h
      knows (Counted sum) g j x h = pg.known j x h

      pad_learned : (k : Known) (o : Option ℕ) → length (learned p k o).pad ≡ length p.pad
      pad_learned k None = refl
      pad_learned k (Some place) = refl

      padded : (o : Outcome) → length (settled p o).pad ≡ length p.pad
      padded (Learns k) = pad_learned k (free_known p)
      padded (Words at ws) = length-overwrite p.pad at ws
      padded (Refused rule) = refl
      padded (Value v) = refl
      padded (Printed place v) = refl
      padded (Looked tally) = refl
      padded (Counted sum) = refl

  pub own_good : (after : Process) → plan a.shared d p ≡ Own after → Fits a.shared d (at_rest after) → ProcessGood t a d after
  own_good after e fits =
      let alike : Alike p after = own_alike a.shared d p _ after e in
      record { fits = fits; known = λ j k h. (let was = alike.known j k h in pg.known was.0 k was.1); pad = alike.pad ∙ pg.pad }

  pub begun_good : RootGood t a → (child : Process) → plan a.shared d p ≡ Begin child → Fits a.shared d (at_rest child) → ProcessGood t a d child
  begun_good root child e fits =
      let new = begun_new a.shared d p _ child e in
      record {
        fits = fits;
        known = λ j k h. knows new.0 new.1 new.2 j k h;
        pad = ap (λ (q : Process). length q.pad) (sym new.2);
      }
    where
      knows : (n start : ℕ) → new_process d n p.ring start ≡ child → (j : ℕ) (k : Known) → known_at child j ≡ Some k → KnownGood t a d k
      knows n start same j k h =
          let known : known_at (new_process d n p.ring start) j ≡ Some k = ap (λ (q : Process). known_at q j) same ∙ h in
          let is_root = new_knows d n p.ring start j k known in
          subst (KnownGood t a d) is_root (record { fits = subst (KnownFits a.shared d) (sym is_root) (fits.known j k h); in_use = root.in_use; size = sym root.size; brackets = sym root.brackets })
