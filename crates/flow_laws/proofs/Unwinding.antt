-- Two machines that agree at or below c go on to agree there, one over a list of events, the other over its low part,
-- and the same processes at or below c take effect in the same order.
use Rattle.std.proofs.Common.{ℕ, Bool, true, false, List, [], ◌∷◌, ◌++◌, ◌≡◌, refl, sym, ap, ◌∙◌, map, Option, Some, None}
use Rattle.std.proofs.lemmas.Bool.{eqb-true, false_from_ne_true, true≢false}
use Rattle.std.specs.Prelude.{◌==◌, if◌then◌else◌, slice_index_or}
use Rattle.lists.specs.Lists.{put}
use Rattle.labels.specs.Label.{ClassEntry, at_or_below}
use Rattle.labels.proofs.Order.{flows_trans}
use Rattle.words_layout.specs.declared.op.Event.{Event}
use Rattle.class_model.specs.Config.{Shared, Script, flows, low_shared}
use Rattle.class_model.specs.Process.{ProcName}
use Rattle.class_model.specs.Shared.{UsesScript}
use Rattle.process.specs.Running.{Running}
use Rattle.process.specs.Fits.{IsSound, Fits}
use Rattle.process.proofs.Loaded.{op_fits}
use Rattle.machine.specs.Machine.{Machine, ClassPart, slot_at, chosen, step, run, words_of, part_step, part_effect, effect_at, order_of_effect}
use Rattle.machine.specs.Low.{low_events, low_names, low_part, LowPart}
use Rattle.flow_laws.specs.Flow.{AllFit, AlwaysFit, GoAlike}
use Rattle.flow_laws.proofs.LowPlan.{low_script, script_at_low}
use Rattle.flow_laws.proofs.LowStep.{OnScript, LooksDown, OfChosen, chosen_holds, part_step_low, part_effect_low, part_step_words, part_effect_words}

-- the machines agree at or below c
pub record SameLow (c : ℕ) (m n : Machine) : Type 0 where
  pub shared : low_shared c m.shared ≡ low_shared c n.shared
  pub parts : (d : ℕ) → flows m.shared d c ≡ true → m.part d ≡ n.part d

-- the script of a process that fits is at or below it
fits_script : (s : Shared) (d : ℕ) (r : Running) → Fits s d r → OnScript s d r
fits_script s d r fits = record { script = fits.place.script; there = fits.place.there; flows_up = fits.place.flows_up }

pub table_same : (c : ℕ) (m n : Machine) → SameLow c m n → m.shared.table ≡ n.shared.table
table_same c m n same = ap (λ (s : Shared). s.table) same.shared

abbrev low_of_parts : Shared → (ℕ → Option ClassPart) → LowPart
low_of_parts s f = record { shared = s; part = f }

-- it is the same as to have the same low part
pub low_part_same : (c : ℕ) (m n : Machine) → SameLow c m n → low_part c m ≡ low_part c n
low_part_same c m n same = ap (λ (s : Shared). low_of_parts s (λ d. if flows m.shared d c then Some (m.part d) else None)) same.shared
    ∙ ap (low_of_parts (low_shared c n.shared)) (λ i d. each d i)
  where
    by_test : (d : ℕ) (b : Bool) → flows m.shared d c ≡ b → (if b then Some (m.part d) else None) ≡ (if b then Some (n.part d) else None)
    by_test d true e = ap Some (same.parts d e)
    by_test d false e = refl

    each : (d : ℕ) → (if flows m.shared d c then Some (m.part d) else None) ≡ (if flows n.shared d c then Some (n.part d) else None)
    each d = by_test d (flows m.shared d c) refl ∙ ap (λ (t : List ClassEntry). if at_or_below t d c then Some (n.part d) else None) (table_same c m n same)

pub same_low_part : (c : ℕ) (m n : Machine) → low_part c m ≡ low_part c n → SameLow c m n
same_low_part c m n e = record { shared = shared; parts = λ d low. at_class d low }
  where
    shared : low_shared c m.shared ≡ low_shared c n.shared
    shared = ap (λ (x : LowPart). x.shared) e

    at_class : (d : ℕ) → flows m.shared d c ≡ true → m.part d ≡ n.part d
    at_class d low =
        let there : flows n.shared d c ≡ true = ap (λ (s : Shared). flows s d c) (sym shared) ∙ low in
        let both : (if flows m.shared d c then Some (m.part d) else None) ≡ (if flows n.shared d c then Some (n.part d) else None) = ap (λ (x : LowPart). x.part d) e in
        let some : (let x : Option ClassPart = Some (m.part d) in x) ≡ Some (n.part d) = (rw (low, there) at both) in cc

put_other : {X : Type 0} (f : ℕ → X) (k : ℕ) (v : X) (q : ℕ) → (q == k) ≡ false → put f k v q ≡ f q
put_other f k v q h = rw h refl

put_both : {X : Type 0} (f g : ℕ → X) (k : ℕ) (v w : X) (q : ℕ) → v ≡ w → f q ≡ g q → put f k v q ≡ put g k w q
put_both f g k v w q h e = rw (h, e) refl

-- a script at or below c that is there for one is there for the other
script_across : (s t : Shared) (c d n : ℕ) → flows s d c ≡ true → low_shared c s ≡ low_shared c t → UsesScript s d n → UsesScript t d n
script_across s t c d n d_c same h = record {
  script = h.script;
  there = by_place (slice_index_or t.scripts n None) there_low;
  flows_up = ap (λ (x : Shared). flows x h.script.class d) (sym same) ∙ h.flows_up;
}
  where
    kept : low_script s c d d_c (Some h.script) ≡ Some h.script
    kept = rw (flows_trans s.table h.script.class d c h.flows_up d_c) refl

    d_c' : flows t d c ≡ true
    d_c' = ap (λ (x : Shared). flows x d c) (sym same) ∙ d_c

    there_low : low_script t c d d_c' (slice_index_or t.scripts n None) ≡ Some h.script
    there_low = sym (script_at_low t c d d_c' n) ∙ ap (λ (x : Shared). slice_index_or x.scripts n None) (sym same) ∙ script_at_low s c d d_c n ∙ ap (low_script s c d d_c) h.there ∙ kept

    by_place : (o : Option Script) → low_script t c d d_c' o ≡ Some h.script → o ≡ Some h.script
    by_place None e = cc
    by_place (Some x) e = by_test (flows t x.class c) e
      where
        by_test : (b : Bool) → (if b then Some x else None) ≡ Some h.script → (let o : Option Script = Some x in o) ≡ Some h.script
        by_test true f = f
        by_test false f = cc

module _ (c : ℕ) where
  -- a step of a class that isn't at or below c changes nothing there
  pub high_step : (m n : Machine) (e : Event) → flows m.shared e.class c ≡ false → SameLow c m n → SameLow c (step m e) n
  high_step m n e above same = record {
    shared = same.shared;
    parts = λ q low. put_other m.part e.class (part_step m.shared (words_of m) e.class (m.part e.class) e.processor) q (differs q low) ∙ same.parts q low;
  }
    where
      differs : (q : ℕ) → flows m.shared q c ≡ true → (q == e.class) ≡ false
      differs q low = false_from_ne_true (q == e.class) (λ h. true≢false (sym low ∙ ap (λ x. flows m.shared x c) (eqb-true q e.class h) ∙ above))

  module _ (m n : Machine) (e : Event) (d_c : flows m.shared e.class c ≡ true) (same : SameLow c m n) (sound : IsSound m.shared) (fit : AllFit m) where
    d_c' : flows n.shared e.class c ≡ true
    d_c' = sym (ap (λ (s : Shared). flows s e.class c) same.shared) ∙ d_c

    here_same : m.part e.class ≡ n.part e.class
    here_same = same.parts e.class d_c

    words_same : (x : ℕ) → flows m.shared x e.class ≡ true → words_of m x ≡ words_of n x
    words_same x h = ap (λ (y : ClassPart). y.words) (same.parts x (flows_trans m.shared.table x e.class c h d_c))

    looks : OfChosen (LooksDown m.shared e.class) (chosen ((m.part e.class).vp e.processor))
    looks = chosen_holds (LooksDown m.shared e.class) ((m.part e.class).vp e.processor)
        (λ i r h. op_fits m.shared sound e.class r (fit e.class e.processor i r h))

    on_m : OfChosen (OnScript m.shared e.class) (chosen ((m.part e.class).vp e.processor))
    on_m = chosen_holds (OnScript m.shared e.class) ((m.part e.class).vp e.processor) (λ i r h. fits_script m.shared e.class r (fit e.class e.processor i r h))

    on_n : OfChosen (OnScript n.shared e.class) (chosen ((n.part e.class).vp e.processor))
    on_n = chosen_holds (OnScript n.shared e.class) ((n.part e.class).vp e.processor)
        (λ i r h. script_across m.shared n.shared c e.class r.process.script d_c same.shared
        (fits_script m.shared e.class r (fit e.class e.processor i r (ap (λ (y : ClassPart). slot_at (y.vp e.processor) i) here_same ∙ h))))

    step_same : part_step m.shared (words_of m) e.class (m.part e.class) e.processor ≡ part_step n.shared (words_of n) e.class (n.part e.class) e.processor
    step_same =
        part_step_words m.shared e.class (words_of m) (words_of n) words_same (ap (λ (y : ClassPart). y.words) here_same) (m.part e.class) e.processor looks
        ∙ sym (part_step_low m.shared c e.class d_c (words_of n) (m.part e.class) e.processor on_m)
        ∙ ap (λ (s : Shared). part_step s (words_of n) e.class (m.part e.class) e.processor) same.shared
        ∙ ap (λ (y : ClassPart). part_step (low_shared c n.shared) (words_of n) e.class y e.processor) here_same
        ∙ part_step_low n.shared c e.class d_c' (words_of n) (n.part e.class) e.processor on_n

    effect_slot_same : part_effect m.shared (words_of m) e.class (m.part e.class) e.processor ≡ part_effect n.shared (words_of n) e.class (n.part e.class) e.processor
    effect_slot_same =
        part_effect_words m.shared e.class (words_of m) (words_of n) words_same (ap (λ (y : ClassPart). y.words) here_same) (m.part e.class) e.processor looks
        ∙ sym (part_effect_low m.shared c e.class d_c (words_of n) (m.part e.class) e.processor on_m)
        ∙ ap (λ (s : Shared). part_effect s (words_of n) e.class (m.part e.class) e.processor) same.shared
        ∙ ap (λ (y : ClassPart). part_effect (low_shared c n.shared) (words_of n) e.class y e.processor) here_same
        ∙ part_effect_low n.shared c e.class d_c' (words_of n) (n.part e.class) e.processor on_n

    pub effect_same : effect_at m e ≡ effect_at n e
    effect_same = ap (map (λ slot. record { processor = e.processor; class = e.class; slot = slot })) effect_slot_same

    pub low_step : SameLow c (step m e) (step n e)
    low_step = record {
      shared = same.shared;
      parts = λ q low. put_both m.part n.part e.class _ _ q step_same (same.parts q low);
    }

module _ (c : ℕ) where
  abbrev low_of : Machine → List Event → List Event
  low_of m events = low_events m.shared.table c events

  abbrev names_of : Machine → List ProcName → List ProcName
  names_of m names = low_names m.shared.table c names

  -- what an event that isn't at or below c does isn't seen in the order of effect
  high_names : (m : Machine) (e : Event) (slots : List ℕ) → flows m.shared e.class c ≡ false →
      low_names m.shared.table c (map (λ slot. record { processor = e.processor; class = e.class; slot = slot }) slots) ≡ []
  high_names m e [] above = refl
  high_names m e (x ∷ xs) above = rw above (high_names m e xs above)

  all_names : (m : Machine) (e : Event) (slots : List ℕ) → flows m.shared e.class c ≡ true →
      low_names m.shared.table c (map (λ slot. record { processor = e.processor; class = e.class; slot = slot }) slots) ≡
      map (λ slot. record { processor = e.processor; class = e.class; slot = slot }) slots
  all_names m e [] low = refl
  all_names m e (x ∷ xs) low = rw low (ap (λ ys. record { processor = e.processor; class = e.class; slot = x } ∷ ys) (all_names m e xs low))

  names_append : (m : Machine) (xs ys : List ProcName) → names_of m (xs ++ ys) ≡ names_of m xs ++ names_of m ys
  names_append m [] ys = refl
  names_append m (x ∷ xs) ys = elim (flows m.shared x.class c) as
      (λ b. (if b then x ∷ names_of m (xs ++ ys) else names_of m (xs ++ ys)) ≡ (if b then x ∷ names_of m xs else names_of m xs) ++ names_of m ys) [
        | true ↦ ap (λ zs. x ∷ zs) (names_append m xs ys)
        | false ↦ names_append m xs ys
      ]

  -- the machines agree at the end, and so do the orders of effect
  pub record Unwound (m n : Machine) (events : List Event) : Type 0 where
    pub same : SameLow c (run m events) (run n (low_of m events))
    pub order : names_of m (order_of_effect m events) ≡ order_of_effect n (low_of m events)

  after_low : (m n : Machine) (e : Event) (events : List Event) → flows m.shared e.class c ≡ true →
      effect_at m e ≡ effect_at n e → Unwound (step m e) (step n e) events → Unwound m n (e ∷ events)
  after_low m n e events h first rest = record {
    same = rw h rest.same;
    order = names_append m (effect_at m e) (order_of_effect (step m e) events)
        ∙ rw h (ap (λ xs. xs ++ names_of m (order_of_effect (step m e) events)) (all_names m e (part_effect m.shared (words_of m) e.class (m.part e.class) e.processor) h ∙ first)
        ∙ ap (λ ys. effect_at n e ++ ys) rest.order);
  }

  after_high : (m n : Machine) (e : Event) (events : List Event) → flows m.shared e.class c ≡ false →
      Unwound (step m e) n events → Unwound m n (e ∷ events)
  after_high m n e events h rest = record {
    same = rw h rest.same;
    order = names_append m (effect_at m e) (order_of_effect (step m e) events)
        ∙ rw h (ap (λ xs. xs ++ names_of m (order_of_effect (step m e) events)) (high_names m e (part_effect m.shared (words_of m) e.class (m.part e.class) e.processor) h)
        ∙ rest.order);
  }

  pub unwound : (events : List Event) (m n : Machine) → SameLow c m n → IsSound m.shared → AlwaysFit m events → Unwound m n events
  unwound [] m n same sound fit = record { same = same; order = refl }
  unwound (e ∷ events) m n same sound fit =
      elim (flows m.shared e.class c) as (λ b. flows m.shared e.class c ≡ b → Unwound m n (e ∷ events)) [
        | true ↦ λ h. after_low m n e events h (effect_same c m n e h same sound fit.0)
            (unwound events (step m e) (step n e) (low_step c m n e h same sound fit.0) sound fit.1)
        | false ↦ λ h. after_high m n e events h
            (unwound events (step m e) n (high_step c m n e h same) sound fit.1)
      ] refl

-- in the words of the low part
pub go_alike : (c : ℕ) (m n : Machine) (events : List Event) → low_part c m ≡ low_part c n → IsSound m.shared → AlwaysFit m events → GoAlike c m n events
go_alike c m n events same sound fit =
    let u : Unwound c m n events = unwound c events m n (same_low_part c m n same) sound fit in
    record { parts = low_part_same c (run m events) (run n (low_events m.shared.table c events)) u.same; order = u.order }
