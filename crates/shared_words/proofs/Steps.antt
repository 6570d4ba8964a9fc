-- Each kind of step keeps the rule.
use Rattle.std.proofs.Common.{◌≡◌, ◌≢◌, ℕ, ◌*◌, ◌/◌, ◌<◌, ⊎_elim, List, [], ◌∷◌, ◌++◌, zero, suc, length, get_or, set, slice_set, slice_index, refl, sym, ap, ◌∙◌, subst, add-one, arith}
use Rattle.std.proofs.Math.ListN.{length-set}
use Rattle.std.specs.declared.option.Option.{Option}
use Rattle.std.specs.declared.option.Option.TheVariants.{None, Some}
use mathlib.Core.Option.{some, some-injective, some-ne-none}
use lib.ListN.{get_elem?}
use native.Mathlib.Decide.{ℕ_discrete}
use Rattle.atomic_table.specs.Table.{Me, State, Allows, keeps}
use Rattle.atomic_table.proofs.Lists.{at_set}
use Rattle.words_layout.specs.declared.op.Op.{Op}
use Rattle.words_layout.specs.Ops.{answer_on, list_after}
use Rattle.shared_words.specs.declared.view.Entry.{Entry}
use Rattle.shared_words.specs.declared.view.View.{View}
use Rattle.shared_words.specs.Order.{Line, entry, entries_of, marks}
use Rattle.shared_words.specs.Views.{held_at, first_held, own, listed, own_entries, with_held, made, entered, opening}
use Rattle.shared_words.specs.Rule.{FitsSeat, Kept}
use Rattle.shared_words.proofs.Orders.{sound_entry, after_entry, marks_entry, entries_same, entries_else, get_set, get_set_else}

first_taken : (row : List (Option (List Entry))) → first_held row < length row → get_or row (first_held row) None ≡ Some (listed (get_or row (first_held row) None))
first_taken [] h = absurd (omega arith)
first_taken (None ∷ row) h = rw (add-one (first_held row)) (first_taken row (omega arith))
first_taken (Some es ∷ row) h = refl

-- a number that a seat holds is its own
pub holder : (order : List Line) (owner : ℕ → ℕ) (seat q : ℕ) (v : View) (es : List Entry) → FitsSeat order owner seat v → q < 4 → held_at v q ≡ Some es → Dec (owner q ≡ seat) → owner q ≡ seat
holder order owner seat q v es fit below at (yes e) = e
holder order owner seat q v es fit below at (no n) = let none : held_at v q ≡ None = fit.others q below n in absurd (cc)

-- a seat that holds a number, with its entries and round
pub record Holds (order : List Line) (owner : ℕ → ℕ) (seat : ℕ) (v : View) (q : ℕ) : Type 0 where
  pub below : q < 4
  pub is : owner q ≡ seat
  pub entries : held_at v q ≡ Some (entries_of q order)
  pub round : v.round ≡ marks order

pub holds_own : (order : List Line) (owner : ℕ → ℕ) (seat : ℕ) (v : View) → FitsSeat order owner seat v → own v < 4 → Holds order owner seat v (own v)
holds_own order owner seat v fit h =
    let at : held_at v (own v) ≡ Some (own_entries v) = first_taken v.held (subst (λ (n : ℕ). own v < n) (sym fit.four) h) in
    let is = holder order owner seat (own v) v (own_entries v) fit h at (ℕ_discrete (owner (own v)) seat) in
    record { below = h; is = is; entries = (fit.mine (own v) h is).0; round = (fit.mine (own v) h is).1 }

-- the seat that took the step, with one entry more
fits_here : (order : List Line) (owner : ℕ → ℕ) (seat q : ℕ) (v : View) (e : Entry) → FitsSeat order owner seat v → Holds order owner seat v q
    → FitsSeat (order ++ entry q e ∷ []) owner seat (with_held v q (Some (entries_of q order ++ e ∷ [])))
fits_here order owner seat q v e fit h = record {
  four = length-set v.held q (Some (entries_of q order ++ e ∷ [])) ∙ fit.four;
  mine = λ p below is. (here p below is (ℕ_discrete p q), (fit.mine p below is).1 ∙ sym (marks_entry order q e));
  others = λ p below not. get_set_else v.held q p (Some (entries_of q order ++ e ∷ [])) None (λ same. not (ap owner same ∙ h.is)) ∙ fit.others p below not;
}
  where
    here : (p : ℕ) → p < 4 → owner p ≡ seat → Dec (p ≡ q) → held_at (with_held v q (Some (entries_of q order ++ e ∷ []))) p ≡ Some (entries_of p (order ++ entry q e ∷ []))
    here p below is (yes same) =
        let P : ℕ → Type 0 = λ x. held_at (with_held v q (Some (entries_of q order ++ e ∷ []))) x ≡ Some (entries_of x (order ++ entry q e ∷ [])) in
        subst P (sym same) (get_set v.held q (Some (entries_of q order ++ e ∷ [])) None (subst (λ (n : ℕ). q < n) (sym fit.four) h.below) ∙ ap Some (sym (entries_same q order e)))
    here p below is (no other) =
        get_set_else v.held q p (Some (entries_of q order ++ e ∷ [])) None other ∙ ((fit.mine p below is).0 ∙ ap Some (sym (entries_else p q order e (λ x. other (sym x)))))

-- another seat, whose numbers gain nothing
fits_there : (order : List Line) (owner : ℕ → ℕ) (seat other q : ℕ) (v : View) (e : Entry) → owner q ≡ other → seat ≢ other → FitsSeat order owner seat v
    → FitsSeat (order ++ entry q e ∷ []) owner seat v
fits_there order owner seat other q v e is apart fit = record {
  four = fit.four;
  mine = λ p below mine. ((fit.mine p below mine).0 ∙ ap Some (sym (entries_else p q order e (λ same. apart (sym mine ∙ (ap owner (sym same) ∙ is))))), (fit.mine p below mine).1 ∙ sym (marks_entry order q e));
  others = fit.others;
}

-- an operation of a seat that holds a number is one line more
pub keeps_entry : (opened words : List ℕ) (views : List View) (seat : ℕ) (v : View) (op : Op) (n : ℕ) → Kept opened words views → get_elem? views seat ≡ some v → own v < 4 → n ≡ answer_on words op
    → Kept opened (list_after words op) (set views seat (entered v op n))
keeps_entry opened words views seat v op n kept at below answers =
    let fit = kept.fits seat v at in
    let h = holds_own kept.order kept.owner seat v fit below in
    let q : ℕ = own v in
    let e : Entry = made v op n in
    let same : own_entries v ≡ entries_of q kept.order = ap listed h.entries in
    let here : FitsSeat (kept.order ++ entry q e ∷ []) kept.owner seat (entered v op n) =
    subst (λ (es : List Entry). FitsSeat (kept.order ++ entry q e ∷ []) kept.owner seat (with_held v q (Some (es ++ e ∷ [])))) (sym same) (fits_here kept.order kept.owner seat q v e fit h) in
    record {
      order = kept.order ++ entry q e ∷ [];
      owner = kept.owner;
      sound = sound_entry opened 0 kept.order q e kept.sound (let r = h.round in omega arith) (subst (λ (ws : List ℕ). n ≡ answer_on ws op) kept.words_are answers);
      words_are = ap (λ (ws : List ℕ). list_after ws op) kept.words_are ∙ sym (after_entry opened kept.order q e);
      numbers = λ p high. entries_else p q kept.order e (λ s. let b = h.below in omega arith) ∙ kept.numbers p high;
      owned = λ p low. subst (λ (k : ℕ). kept.owner p < k) (sym (length-set views seat (entered v op n))) (kept.owned p low);
      fits = λ j u there. ⊎_elim (λ (t : (j ≡ seat) × (entered v op n ≡ u)). subst (FitsSeat (kept.order ++ entry q e ∷ []) kept.owner j) t.1 (subst (λ (i : ℕ). FitsSeat (kept.order ++ entry q e ∷ []) kept.owner i (entered v op n)) (sym t.0) here))
          (λ (t : (j ≢ seat) × (get_elem? views j ≡ some u)). fits_there kept.order kept.owner j seat q u e h.is t.0 (kept.fits j u t.1))
          (at_set views seat j (entered v op n) u there);
    }

-- whatever the table is, a seat that holds a number may perform an operation
pub performs : (opened : List ℕ) (slots seat i : ℕ) (me : Me ℕ View) (op : Op) (f answer : ℕ → ℕ) → own me.0 < 4
    → ((ws : List ℕ) → slice_set ws i (f (slice_index ws i)) ≡ list_after ws op) → ((ws : List ℕ) → answer (slice_index ws i) ≡ answer_on ws op)
    → Allows (λ (s : State ℕ View). Kept opened s.words s.views) slots seat me i f (λ n next. next ≡ (entered me.0 op (answer n), me.1))
performs opened slots seat i me op f answer below writes answers s kept room at small = (
  entered me.0 op (answer (slice_index s.words i)),
  keeps,
  tt,
  subst (λ (ws : List ℕ). Kept opened ws (set s.views seat (entered me.0 op (answer (slice_index s.words i))))) (sym (writes s.words))
      (keeps_entry opened s.words s.views seat me.0 op (answer (slice_index s.words i)) kept at below (answers s.words)),
  refl,
)

-- at the start
start_at : (q : ℕ) → q < 4 → held_at opening q ≡ Some []
start_at zero h = refl
start_at (suc zero) h = refl
start_at (suc (suc zero)) h = refl
start_at (suc (suc (suc zero))) h = refl
start_at (suc (suc (suc (suc q)))) h = absurd (omega arith)

first_seat : (j : ℕ) (u : View) → get_elem? (opening ∷ []) j ≡ some u → (j ≡ 0) × (opening ≡ u)
first_seat zero u e = (refl, some-injective opening u e)
first_seat (suc j) u e = absurd (some-ne-none u (sym e))

pub starts : (opened : List ℕ) → Kept opened opened (opening ∷ [])
starts opened = record {
  order = [];
  owner = λ q. 0;
  sound = tt;
  words_are = refl;
  numbers = λ q h. refl;
  owned = λ q h. omega arith;
  fits = λ j u e. let t = first_seat j u e in subst (FitsSeat [] (λ q. 0) j) t.1 record {
    four = refl;
    mine = λ q h is. (start_at q h, refl);
    others = λ q h not. absurd (not (sym t.0));
  };
}

pub in_words : (words w n : ℕ) → words ≡ n → w < 34869 * (n / 34869) → w < words
in_words words w n e h = omega arith
