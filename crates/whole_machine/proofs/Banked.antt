-- What a change of one slot comes to in the slots of all processors.
use Rattle.std.proofs.Common.{ℕ, zero, suc, ◌≡◌, ◌≤◌, ◌<◌, ◌+◌, ◌*◌, Bool, true, false, List, length, get_or, set, refl, sym, ◌∙◌, ap, subst, arith, Option, Some, None, map, ltb}
use Rattle.std.specs.Prelude.{if◌then◌else◌, ◌==◌}
use Rattle.std.proofs.lemmas.Bool.{eqb-true, eqb-false, ltb-true, ltb-false}
use Rattle.std.proofs.lemmas.List.{get_or-set_same, get_or-set_other, get_or_past, get_or_default}
use Rattle.lists.specs.Lists.{put, below}
use Rattle.class_model.specs.Process.{Process, ProcName, answered}
use Rattle.class_model.specs.State.{Part, with_process}
use Rattle.class_model.specs.Step.{begun}
use Rattle.whole_machine.specs.Parts.{ListedPart, slots_in, part_in}
use Rattle.class_model.specs.Config.{Shared}
use Rattle.class_model.specs.Next.{KnowsClasses}
use Rattle.class_model.specs.Plan.{Own, plan}
use Rattle.whole_machine.specs.Slots.{SlotTakes, SlotPerforms}
use Rattle.whole_machine.specs.Steps.{slot_in}

abbrev pub Slot : Type 0
Slot = Option Process

-- a number below four is one of these
by_four : (P : ℕ → Type 0) → P 0 → P 1 → P 2 → P 3 → (s : ℕ) → s < 4 → P s
by_four P a b c d zero lt = a
by_four P a b c d (suc zero) lt = b
by_four P a b c d (suc (suc zero)) lt = c
by_four P a b c d (suc (suc (suc zero))) lt = d
by_four P a b c d (suc (suc (suc (suc s)))) lt = absurd (omega arith)

row : (f g : ℕ → Slot) → f 0 ≡ g 0 → f 1 ≡ g 1 → f 2 ≡ g 2 → f 3 ≡ g 3 → map f (below 4) ≡ map g (below 4)
row f g a b c d = cc

row_set : (g : ℕ → Slot) (v : Slot) (s : ℕ) → s < 4 → map (λ j. if j == s then v else g j) (below 4) ≡ set (map g (below 4)) s v
row_set g v s lt = by_four (λ s. map (λ j. if j == s then v else g j) (below 4) ≡ set (map g (below 4)) s v) refl refl refl refl s lt

-- the slot at a place of the list
abbrev at_place : List Slot → ℕ → ℕ → Slot
at_place bank q j = get_or bank (4 * q + j) None

module _ (bank : List Slot) (p s : ℕ) (v : Slot) (small : s < 4) (lt : 4 * p + s < length bank) where
  each : (q j : ℕ) → j < 4 → at_place (set bank (4 * p + s) v) q j ≡ (if q == p then (if j == s then v else at_place bank q j) else at_place bank q j)
  each q j few = by_class (q == p) refl
    where
      by_slot : q ≡ p → (t : Bool) → (j == s) ≡ t → at_place (set bank (4 * p + s) v) q j ≡ (if t then v else at_place bank q j)
      by_slot e true h =
          let js : j ≡ s = eqb-true j s h in
          let same : 4 * q + j ≡ 4 * p + s = omega arith in
          rw same (get_or-set_same bank (4 * p + s) v None lt)
      by_slot e false h = get_or-set_other bank (4 * p + s) (4 * q + j) v None (λ k. eqb-false j s h (omega arith))

      by_class : (t : Bool) → (q == p) ≡ t → at_place (set bank (4 * p + s) v) q j ≡ (if t then (if j == s then v else at_place bank q j) else at_place bank q j)
      by_class true h = by_slot (eqb-true q p h) (j == s) refl
      by_class false h = get_or-set_other bank (4 * p + s) (4 * q + j) v None (λ k. eqb-false q p h (omega arith))

  joined : (q : ℕ) (t : Bool) → (q == p) ≡ t →
      map (λ j. if t then (if j == s then v else at_place bank q j) else at_place bank q j) (below 4) ≡ (if t then set (slots_in bank p) s v else slots_in bank q)
  joined q true h = row_set (λ j. at_place bank q j) v s small ∙ ap (λ r. set (slots_in bank r) s v) (eqb-true q p h)
  joined q false h = refl

  -- one slot of one processor is changed
  pub slots_set : slots_in (set bank (4 * p + s) v) ≡ put (slots_in bank) p (set (slots_in bank p) s v)
  slots_set = λ k q. (all q) k
    where
      all : (q : ℕ) → slots_in (set bank (4 * p + s) v) q ≡ put (slots_in bank) p (set (slots_in bank p) s v) q
      all q = row (λ j. at_place (set bank (4 * p + s) v) q j) (λ j. if q == p then (if j == s then v else at_place bank q j) else at_place bank q j)
          (each q 0 (omega arith)) (each q 1 (omega arith)) (each q 2 (omega arith)) (each q 3 (omega arith)) ∙ joined q (q == p) refl

-- what is read of the slots of a processor is at its place
pub slot_read : (bank : List Slot) (p s : ℕ) → s < 4 → get_or (slots_in bank p) s None ≡ get_or bank (4 * p + s) None
slot_read bank p s lt = by_four (λ s. get_or (slots_in bank p) s None ≡ get_or bank (4 * p + s) None) refl refl refl refl s lt

-- there are four slots
pub no_fifth : (bank : List Slot) (p s : ℕ) → 4 ≤ s → get_or (slots_in bank p) s None ≡ None
no_fifth bank p s le = get_or_past (slots_in bank p) s None (omega arith)

-- and four processors
pub no_other : (bank : List Slot) (p s : ℕ) → length bank ≡ 16 → 4 ≤ p → get_or (slots_in bank p) s None ≡ None
no_other bank p s sixteen le = by_size (ltb s 4) refl
  where
    past : (j : ℕ) → get_or bank (4 * p + j) None ≡ None
    past j = get_or_past bank (4 * p + j) None (omega arith)

    by_size : (t : Bool) → ltb s 4 ≡ t → get_or (slots_in bank p) s None ≡ None
    by_size true h = slot_read bank p s (ltb-true s 4 h) ∙ past s
    by_size false h = no_fifth bank p s (ltb-false s 4 h)

-- the part with a process in a slot
pub banked : (q : ListedPart) (p s : ℕ) (x : Process) (new : List Slot) → s < 4 → 4 * p + s < length q.bank → new ≡ set q.bank (4 * p + s) (Some x) →
    part_in (record q { bank = new }) ≡ with_process (part_in q) p s x
banked q p s x new small lt e =
    ap (λ (b : List Slot). record (part_in q) { slots = slots_in b }) e ∙
    ap (λ (f : ℕ → List Slot). record (part_in q) { slots = f }) (slots_set q.bank p s (Some x) small lt)

-- what was read in a slot is what is in it
pub there : (bank : List Slot) (at : ℕ) (read : Slot) (q p : Process) → at < length bank → read ≡ get_or bank at read → read ≡ Some q → get_or bank at None ≡ Some p → q ≡ p
there bank at read q p lt value is h = let e : get_or bank at read ≡ get_or bank at None = get_or_default bank at read None lt in cc

-- what performs is what is in it
pub slot_performs : (s : Shared) (class : ℕ) (bank : List Slot) (at : ℕ) (read : Slot) (q after : Process) → at < length bank → read ≡ get_or bank at read → read ≡ Some q →
    plan s class q ≡ Own after → ((n : ℕ) → KnowsClasses n q → KnowsClasses n after) → SlotPerforms s class bank (set bank at (Some after)) at
slot_performs s class bank at read q after lt value is planned knows p h =
    let e : q ≡ p = there bank at read q p lt value is h in record {
      after = after;
      plan = subst (λ (z : Process). plan s class z ≡ Own after) e planned;
      bank = refl;
      knows = subst (λ (z : Process). (n : ℕ) → KnowsClasses n z → KnowsClasses n after) e knows;
    }

-- what is said of a slot of the part is said of its place
pub placed : (P : Slot → Type 0) (q : ListedPart) (p s at : ℕ) → s < 4 → at ≡ 4 * p + s → P (slot_in q p s) → P (get_or q.bank at None)
placed P q p s at lt e h = subst (λ (i : ℕ). P (get_or q.bank i None)) (sym e) (subst P (slot_read q.bank p s lt) h)

-- the part with what a slot took
pub takes_part : (q z : ListedPart) (p s at : ℕ) (f : Process → Process) (new : List Slot) → s < 4 → at ≡ 4 * p + s → at < length q.bank → SlotTakes q.bank new at f → q ≡ z →
    (x : Process) → slot_in z p s ≡ Some x → part_in (record q { bank = new }) ≡ with_process (part_in z) p s (f x)
takes_part q z p s at f new small e lt takes same x h =
    let here : slot_in q p s ≡ Some x = ap (λ (y : ListedPart). slot_in y p s) same ∙ h in
    let is = takes x (placed (λ (y : Slot). y ≡ Some x) q p s at small e here) in
    subst (λ (y : ListedPart). part_in (record q { bank = new }) ≡ with_process (part_in y) p s (f x)) same
    (banked q p s (f x) new small (subst (λ (i : ℕ). i < length q.bank) e lt) (is ∙ ap (λ (i : ℕ). set q.bank i (Some (f x))) e))

-- the part with what a slot performed
pub performs_part : (sh : Shared) (class : ℕ) (q z : ListedPart) (p s at : ℕ) (new : List Slot) → s < 4 → at ≡ 4 * p + s → at < length q.bank → SlotPerforms sh class q.bank new at → q ≡ z →
    (x : Process) → slot_in z p s ≡ Some x →
    (y : Process) × (plan sh class x ≡ Own y) × (part_in (record q { bank = new }) ≡ with_process (part_in z) p s y) × ((n : ℕ) → KnowsClasses n x → KnowsClasses n y)
performs_part sh class q z p s at new small e lt performs same x h =
    let here : slot_in q p s ≡ Some x = ap (λ (y : ListedPart). slot_in y p s) same ∙ h in
    let done = performs x (placed (λ (y : Slot). y ≡ Some x) q p s at small e here) in (
      done.after,
      done.plan,
      subst (λ (y : ListedPart). part_in (record q { bank = new }) ≡ with_process (part_in y) p s done.after) same
          (banked q p s done.after new small (subst (λ (i : ℕ). i < length q.bank) e lt) (done.bank ∙ ap (λ (i : ℕ). set q.bank i (Some done.after)) e)),
      done.knows,
    )

-- a process that begins another one
pub begun_is : (part : Part) (n : ProcName) (p child : Process) (free : ℕ) (o : Option ℕ) (pr sl : ℕ) → n.processor ≡ pr → n.slot ≡ sl → o ≡ Some free →
    with_process (with_process part pr sl (answered p free)) pr free child ≡ begun part n p child o
begun_is part n p child free o pr sl a b e =
    ap (λ (i : ℕ). with_process (with_process part i sl (answered p free)) i free child) (sym a) ∙
    ap (λ (j : ℕ). with_process (with_process part n.processor j (answered p free)) n.processor free child) (sym b) ∙ ap (begun part n p child) (sym e)
