-- Each step leaves segments where they may stand, and so does the opening.
use Rattle.std.proofs.Common.{ℕ, zero, suc, map, ◌+◌, Bool, true, false, not, ◌&&◌, List, [], ◌∷◌, ◌≡◌, inl, inr, refl, sym, ap, subst, ◌∙◌, Option, Some, None, arith}
use Rattle.std.specs.Prelude.{◌==◌, if◌then◌else◌, cond, slice_index_or, slice_set, is_none}
use Rattle.std.specs.List.{position, find, list_all}
use Rattle.std.specs.Option.{option_map}
use Rattle.std.proofs.Math.ListN.{get_or-map}
use Rattle.std.proofs.lemmas.Bool.{and_parts, and_from, eqb-true, false_from_ne_true}
use Rattle.lists.specs.Lists.{put, below, numbers_from}
use Rattle.labels.proofs.Tables.{class_reflexive}
use Rattle.words_layout.specs.Segments.{seg, same_seg}
use Rattle.words_layout.specs.declared.segment.SegId.{SegId}
use Rattle.words_layout.specs.declared.coding.Alias.{Alias}
use Rattle.words_layout.proofs.Names.{same_seg-true, same_seg-refl}
use Rattle.policy.specs.Outcome.{Outcome, Value, Refused, Learns, Words, Printed, Looked, Counted}
use Rattle.policy.specs.declared.rule.Rule.TheVariants.{NoSlot}
use Rattle.class_model.specs.Config.{Config, SegRecord, Shared}
use Rattle.class_model.specs.Process.{Process, ProcName, free_known, learned, refused, answered, settled, new_process}
use Rattle.class_model.specs.Plan.{Plan, Own, Begin, Ask, Request, plan}
use Rattle.class_model.specs.Run.{steps, run, opening, alias_of, opening_entry, opening_slots}
use Rattle.class_model.specs.State.{State, with_process, with_part, process_at, entry_at, cell_at}
use Rattle.class_model.specs.Step.{deed_of, deed_by, done, step, effect, begun}
use Rattle.class_model.specs.Valid.{IsConfig, record_ok, is_root}
use Rattle.volume_image.specs.Valid.{may_stand}
use Rattle.flow_laws.proofs.FlowLaws.{records_ok}
use Rattle.flow_laws.proofs.Lists.{made_some}
use Rattle.flow_laws.proofs.OpeningFits.{FromLine, from_line}
use Rattle.machine.specs.Machine.{slot_at}
use Rattle.machine.specs.Opening.{opening_vp}
use Rattle.process.specs.Running.{Running}
use Rattle.report_laws.proofs.Paged.{find_true, segs_apart, find_passes}
use Rattle.report_laws.proofs.Recorded.{RecordStands, record_stands, valid_records}
use Rattle.effect_laws.proofs.Good.{Good, at_rest}
use Rattle.effect_laws.proofs.GoodPlan.{own_alike, begun_new, new_knows}
use Rattle.effect_laws.proofs.GoodStep.{good_step}
use Rattle.effect_laws.proofs.Growing.{set-read, by_put}
use Rattle.effect_laws.proofs.OpeningGood.{opening_good}
use Rattle.effect_laws.proofs.Planned.{planned}
use Rattle.volume_laws.proofs.Single.{IsUp, KnowsUp, AreSingle, NoRoot, MayStand, Placed, EntriesFrom, all_old, placed_with}
use Rattle.volume_laws.proofs.Effects.{LearnsUp, EffectPlaced, effect_placed}

-- ---- processes

-- a process in a slot, and the others as they were
slot_up : (s : Shared) (slots : ℕ → List (Option Process)) (p i : ℕ) (q : Process) → KnowsUp s q →
    ((x j : ℕ) (r : Process) → slice_index_or (slots x) j None ≡ Some r → KnowsUp s r) →
    (x j : ℕ) (r : Process) → slice_index_or (put slots p (slice_set (slots p) i (Some q)) x) j None ≡ Some r → KnowsUp s r
slot_up s slots p i q up others x j r = by_put (λ x (z : List (Option Process)). slice_index_or z j None ≡ Some r → KnowsUp s r) slots p (slice_set (slots p) i (Some q)) x
    (λ h. elim (set-read (slots p) i j (Some q) r h) [
      | inl e ↦ (let same : q ≡ r = cc in subst (KnowsUp s) same up)
      | inr e ↦ others p j r e
    ])
    (λ e. others x j r)

-- a process behind what it is shown
settled_up : (s : Shared) (p : Process) (o : Outcome) → KnowsUp s p → LearnsUp s o → KnowsUp s (settled p o)
settled_up s p (Learns k) up l = by_place (free_known p)
  where
    by_place : (o : Option ℕ) → KnowsUp s (learned p k o)
    by_place None = up
    by_place (Some place) = λ j x h. elim (set-read p.known place j (Some k) x h) [
      | inl e ↦ (let same : k ≡ x = cc in subst (IsUp s) same l)
      | inr e ↦ up j x e
    ]
settled_up s p (Refused rule) up l = up
settled_up s p (Value v) up l = up
settled_up s p (Words at ws) up l = up
settled_up s p (Printed place v) up l = up
settled_up s p (Looked tally) up l = up
settled_up s p (Counted sum) up l = up

-- the root is up
new_up : (s : Shared) (d n ring start : ℕ) → KnowsUp s (new_process d n ring start)
new_up s d n ring start i k h = subst (IsUp s) (new_knows d n ring start i k h) (class_reflexive s.table 0)

-- ---- a step

module _ (n : ℕ) (a : State) (good : Good n a) (placed : Placed a) (name : ProcName) (p : Process) (there : process_at a name ≡ Some p) where
  up : KnowsUp a.shared p
  up = placed.known name p there

  others : (x j : ℕ) (r : Process) → slice_index_or ((a.part name.class).slots x) j None ≡ Some r → KnowsUp a.shared r
  others x j r h = placed.known (record { processor = x; class = name.class; slot = j }) r h

  begun_placed : (child : Process) → KnowsUp a.shared child → (o : Option ℕ) → Placed (with_part a name.class (begun (a.part name.class) name p child o))
  begun_placed child new None = placed_with n a good placed name.class _ (all_old a name.class _ (λ x e y h. h))
      (slot_up a.shared (a.part name.class).slots name.processor name.slot (refused p NoSlot) up others)
  begun_placed child new (Some slot) = placed_with n a good placed name.class _ (all_old a name.class _ (λ x e y h. h))
      (slot_up a.shared (with_process (a.part name.class) name.processor name.slot (answered p slot)).slots name.processor slot child new
      (slot_up a.shared (a.part name.class).slots name.processor name.slot (answered p slot) up others))

  asked_placed : (q : Request) → plan a.shared name.class p ≡ Ask q →
      Placed (with_part a name.class (with_process (effect a name.class p.ring q).part name.processor name.slot (settled p (effect a name.class p.ring q).outcome)))
  asked_placed q e = placed_with n a good placed name.class (with_process (effect a name.class p.ring q).part name.processor name.slot (settled p (effect a name.class p.ring q).outcome)) entries
      (slot_up a.shared (effect a name.class p.ring q).part.slots name.processor name.slot (settled p (effect a name.class p.ring q).outcome) (settled_up a.shared p (effect a name.class p.ring q).outcome up ok.learns)
      (λ x j r h. others x j r (ap (λ (f : ℕ → List (Option Process)). slice_index_or (f x) j None) (sym ok.slots) ∙ h)))
    where
      ok : EffectPlaced a name.class (effect a name.class p.ring q)
      ok = effect_placed n a good placed name.class p (good.processes name p there) up q (planned a.shared name.class p q e)

      entries : EntriesFrom a name.class (with_process (effect a name.class p.ring q).part name.processor name.slot (settled p (effect a name.class p.ring q).outcome))
      entries = record { at = ok.entries.at; number = ok.entries.number; each = ok.entries.each }

  by_plan : (y : Plan) → plan a.shared name.class p ≡ y → Placed (with_part a name.class (deed_of a name p y).part)
  by_plan (Own after) e = placed_with n a good placed name.class _ (all_old a name.class _ (λ x f y h. h))
      (slot_up a.shared (a.part name.class).slots name.processor name.slot after after_up others)
    where
      after_up : KnowsUp a.shared after
      after_up j k h = let was = (own_alike a.shared name.class p _ after e).known j k h in up was.0 k was.1
  by_plan (Begin child) e = begun_placed child child_up (position (λ q. is_none q) ((a.part name.class).slots name.processor))
    where
      child_up : KnowsUp a.shared child
      child_up = let new = begun_new a.shared name.class p _ child e in subst (KnowsUp a.shared) new.2 (new_up a.shared name.class new.0 p.ring new.1)
  by_plan (Ask q) e = asked_placed q e

  by_live : (b : Bool) → Placed (done a name.class (if b then Some (deed_of a name p (plan a.shared name.class p)) else None))
  by_live true = by_plan (plan a.shared name.class p) refl
  by_live false = placed

pub placed_step : (n : ℕ) (a : State) (name : ProcName) → Good n a → Placed a → Placed (step a name)
placed_step n a name good placed = by_process (process_at a name) refl
  where
    by_process : (o : Option Process) → process_at a name ≡ o → Placed (done a name.class (deed_by a name o))
    by_process None e = placed
    by_process (Some p) e = by_live n a good placed name p e p.live

-- ---- the opening

-- the first that passes is the first of its identity, where identities are apart
first_own : (test : SegRecord → Bool) (rs : List SegRecord) (r : SegRecord) → segs_apart rs ≡ true → find test rs ≡ Some r → find (λ (x : SegRecord). same_seg x.seg r.seg) rs ≡ Some r
first_own test [] r a h = cc
first_own test (x ∷ xs) r a h =
    let parts : (list_all (λ (y : SegRecord). not (same_seg y.seg x.seg)) xs ≡ true) × (segs_apart xs ≡ true) = and_parts _ _ a in
    by_test (test x) h parts.0 (first_own test xs r parts.1)
  where
    not_true : (b : Bool) → not b ≡ true → b ≡ true → ⊥
    not_true true e f = cc
    not_true false e f = cc

    by_test : (b : Bool) → cond b (Some x) (find test xs) ≡ Some r → list_all (λ (y : SegRecord). not (same_seg y.seg x.seg)) xs ≡ true →
        (find test xs ≡ Some r → find (λ (y : SegRecord). same_seg y.seg r.seg) xs ≡ Some r) →
        cond (same_seg x.seg r.seg) (Some x) (find (λ (y : SegRecord). same_seg y.seg r.seg) xs) ≡ Some r
    by_test true g apart rest =
        let same : x ≡ r = cc in
        let t : same_seg x.seg r.seg ≡ true = subst (λ (z : SegRecord). same_seg x.seg z.seg ≡ true) same (same_seg-refl x.seg) in
        rw t g
    by_test false g apart rest =
        let other : not (same_seg r.seg x.seg) ≡ true = find_passes test (λ (y : SegRecord). not (same_seg y.seg x.seg)) xs r apart g in
        let t : same_seg x.seg r.seg ≡ false = false_from_ne_true _ (λ z.
        not_true (same_seg r.seg x.seg) other (subst (λ w. same_seg r.seg w ≡ true) (sym (same_seg-true x.seg r.seg z)) (same_seg-refl r.seg))) in
        rw t (rest g)

-- an entry among those that are made of numbers
made_from : {Y : Type 0} (make : ℕ → Option Y) (s n i : ℕ) (y : Y) → slice_index_or (map make (numbers_from s n)) i None ≡ Some y → make (s + i) ≡ Some y
made_from make s zero i y h = cc
made_from make s (suc n) zero y h = let z : s + 0 ≡ s = omega arith in ap make z ∙ h
made_from make s (suc n) (suc i) y h = let z : s + suc i ≡ (s + 1) + i = omega arith in ap make z ∙ made_from make (s + 1) n i y h

made_below : {Y : Type 0} (make : ℕ → Option Y) (n i : ℕ) (y : Y) → slice_index_or (map make (below n)) i None ≡ Some y → make i ≡ Some y
made_below make n i y h = let z : i ≡ 0 + i = omega arith in ap make z ∙ made_from make 0 n i y h

module _ (k : Config) (valid : IsConfig k) where
  -- the record from which an entry comes
  record FromRecord (c : ℕ) (x : SegId) (e : ℕ) (y : Alias) : Type 0 where
    pub own : SegRecord
    pub first : find (λ (z : SegRecord). same_seg z.seg own.seg) k.records ≡ Some own
    pub stands : RecordStands k own
    pub is : own.seg ≡ seg c y.serial
    pub mentor : own.mentor ≡ x
    pub entry : own.entry ≡ e

  from_record : (c : ℕ) (x : SegId) (e : ℕ) (y : Alias) → entry_at (cell_at (opening k) c x) e ≡ Some y → FromRecord c x e y
  from_record c x e y h = record {
    own = found.0;
    first = first_own (λ (z : SegRecord). z.seg.mentor == c && same_seg z.mentor x && z.entry == e) k.records found.0 (valid_records k valid).apart found.1;
    stands = record_stands k found.0 (find_passes (λ (z : SegRecord). z.seg.mentor == c && same_seg z.mentor x && z.entry == e) (record_ok k) k.records found.0 (records_ok k valid) found.1);
    is = seg_is;
    mentor = same_seg-true found.0.mentor x t2.1;
    entry = eqb-true found.0.entry e t1.1;
  }
    where
      found : (z : SegRecord) × (find (λ (z : SegRecord). z.seg.mentor == c && same_seg z.mentor x && z.entry == e) k.records ≡ Some z) × (alias_of z ≡ y)
      found = made_some alias_of (find (λ (z : SegRecord). z.seg.mentor == c && same_seg z.mentor x && z.entry == e) k.records) y (made_below (opening_entry k c x) 8 e y h)

      t1 : ((found.0.seg.mentor == c && same_seg found.0.mentor x) ≡ true) × ((found.0.entry == e) ≡ true)
      t1 = and_parts _ _ (find_true (λ (z : SegRecord). z.seg.mentor == c && same_seg z.mentor x && z.entry == e) k.records found.0 found.1)

      t2 : ((found.0.seg.mentor == c) ≡ true) × (same_seg found.0.mentor x ≡ true)
      t2 = and_parts _ _ t1.0

      seg_is : found.0.seg ≡ seg c y.serial
      seg_is =
          let m : found.0.seg.mentor ≡ c = eqb-true found.0.seg.mentor c t2.0 in
          let s : found.0.seg.serial ≡ y.serial = ap (λ (z : Alias). z.serial) found.2 in
          λ i. record { mentor = m i; serial = s i }

  opening_single : (c : ℕ) → AreSingle ((opening k).part c)
  opening_single c x y e f p q hp hq same =
      let u = from_record c x e p hp in
      let v = from_record c y f q hq in
      let segs : u.own.seg ≡ v.own.seg = u.is ∙ ap (seg c) same ∙ sym v.is in
      let both : Some u.own ≡ Some v.own = sym u.first ∙ ap (λ w. find (λ (z : SegRecord). same_seg z.seg w) k.records) segs ∙ v.first in
      let own : u.own ≡ v.own = some_is u.own v.own both in
      (sym u.mentor ∙ ap (λ (z : SegRecord). z.mentor) own ∙ v.mentor, sym u.entry ∙ ap (λ (z : SegRecord). z.entry) own ∙ v.entry)
    where
      some_is : (r s : SegRecord) → Some r ≡ Some s → r ≡ s
      some_is r s e = cc

  opening_rootless : (c : ℕ) → NoRoot c ((opening k).part c)
  opening_rootless c x e p h =
      let u = from_record c x e p h in
      is_false (is_root (seg c p.serial)) (subst (λ z. not (is_root z) ≡ true) u.is u.stands.other)
    where
      is_false : (b : Bool) → not b ≡ true → b ≡ false
      is_false true h = cc
      is_false false h = refl

  opening_stands : (c : ℕ) → MayStand (opening k).shared c ((opening k).part c)
  opening_stands c x e p h =
      let u = from_record c x e p h in
      let stands : may_stand k.table u.own.seg u.own.mentor ≡ true = and_from _ _ u.stands.flows_up u.stands.later in
      subst (λ z. may_stand k.table (seg c p.serial) z ≡ true) u.mentor (subst (λ z. may_stand k.table z u.own.mentor ≡ true) u.is stands)

  opening_known : (name : ProcName) (p : Process) → process_at (opening k) name ≡ Some p → KnowsUp (opening k).shared p
  opening_known name p h = subst (KnowsUp (opening k).shared) is_new (new_up (opening k).shared name.class line.line.script line.line.ring 0)
    where
      slot : slot_at (opening_vp k name.class name.processor) name.slot ≡ Some (at_rest p)
      slot = get_or-map (option_map at_rest) (opening_slots k name.class name.processor) name.slot None ∙ ap (option_map at_rest) h

      line : FromLine k name.class name.processor (at_rest p)
      line = from_line k valid name.class name.processor name.slot (at_rest p) slot

      is_new : new_process name.class line.line.script line.line.ring 0 ≡ p
      is_new = ap (λ (r : Running). r.process) line.is

  pub opening_placed : Placed (opening k)
  opening_placed = record { one = opening_single; no_root = opening_rootless; stands = opening_stands; known = opening_known }

-- ---- a run

placed_steps : (names : List ProcName) (n : ℕ) (a : State) → Good n a → Placed a → Placed (steps a names)
placed_steps [] n a good placed = placed
placed_steps (x ∷ names) n a good placed = placed_steps names (n + 1) (step a x) (good_step n a x good) (placed_step n a x good placed)

pub placed_run : (k : Config) → IsConfig k → (names : List ProcName) → Placed (run k names)
placed_run k valid names = placed_steps names 0 (opening k) (opening_good k valid) (opening_placed k valid)
