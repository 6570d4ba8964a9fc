-- What a change of one part makes of the whole state.
use Rattle.std.proofs.Common.{ℕ, zero, suc, ◌≡◌, ◌<◌, ◌≤◌, ◌*◌, ltb, ◌+◌, inl, inr, Bool, true, false, List, [], ◌∷◌, ◌++◌, length, get_or, set, refl, sym, ◌∙◌, ap, subst, arith, Option, Some, None, length-set}
use Rattle.std.specs.Prelude.{if◌then◌else◌, ◌==◌, slice_index_or, replicate, nat_lt, unwrap_or, not, position, is_none, IfSome}
use Rattle.std.proofs.lemmas.Bool.{eqb-true, eqb-false, ltb-true, ltb-false}
use Rattle.std.proofs.lemmas.List.{get_or-set_same, get_or-set_other, get_or_default, get_or_past}
use Rattle.lists.specs.Lists.{overwrite, part_of}
use Rattle.policy.specs.Outcome.{Outcome, Refused, Value, Words, Printed}
use Rattle.policy.specs.Verdict.{first_broken, ◌⇒◌}
use Rattle.policy.specs.Known.{new_alias}
use Rattle.policy.specs.Private.{brackets_of}
use Rattle.policy.specs.declared.rule.Rule.{Rule}
use Rattle.policy.specs.declared.rule.Rule.TheVariants.{ConsoleFull, Gone, NotIn}
use Rattle.words_layout.specs.Segments.{seg}
use Rattle.words_layout.specs.declared.coding.Alias.{Alias}
use Rattle.words_layout.specs.declared.segment.SegId.{SegId}
use Rattle.class_model.specs.Config.{Shared, classes}
use Rattle.class_model.specs.Process.{Process, ProcName, settled, new_process}
use Rattle.class_model.specs.Plan.{Plan, Own, Begin, Ask, plan, plan_of}
use Rattle.class_model.specs.Next.{KnowsClasses, InRange, EndsOrInside, IsNext, request_of}
use Rattle.class_model.specs.declared.request.Request.{Request as Asked}
use Rattle.class_model.specs.declared.request.Request.TheVariants as A
use Rattle.class_model.specs.declared.request.Next.{Next}
use Rattle.class_model.specs.declared.request.Next.TheVariants as N
use Rattle.class_model.specs.State.{State, Part, with_process, with_part, process_at, entry_at, Cell, Stored, In, with_cell, live_words, is_in, is_deleted}
use Rattle.class_model.specs.Step.{Effect, chosen, deed_of, deed_by, deed, done, step, effect, begun, delete_effect, fetch_effect, with_entry, deleted, emptied}
use Rattle.script_lang.specs.declared.instr.Instr.{Instr}
use Rattle.whole_machine.specs.Parts.{ListedPart, no_part, part_in, slots_in}
use Rattle.whole_machine.specs.Fits.{ProcessFits, PartFits, PartsFit, part_of_class}
use Rattle.whole_machine.specs.Steps.{standing, slot_in, ChangesPart, SameParts, StandsAt, IsDue, IsNextOf, IsSomeDue, StepsTo, is_change, change_effect, asks_memory, next_takes, takes_memory, step_takes}
use Rattle.whole_machine.proofs.Banked.{slot_read, no_fifth}
use Rattle.whole_machine.proofs.Registers.{own_regs}
use Rattle.whole_machine.proofs.Fitting.{by_put, new_fits, settled_fits, fits_process, fits_begun, EffectFits, effect_fits}

-- the part of a class in the list is another one
pub changed : (parts : List ListedPart) (class : ℕ) (q : ListedPart) (X : Part) → class < length parts → part_in q ≡ X → ChangesPart parts (set parts class q) class X
changed parts class q X lt e = record { as_many = length-set parts class q; parts = λ c. at c (c == class) refl }
  where
    at : (c : ℕ) (t : Bool) → (c == class) ≡ t → part_of_class (set parts class q) c ≡ (if t then X else part_of_class parts c)
    at c true h = let same : c ≡ class = eqb-true c class h in
        rw same (ap part_in (get_or-set_same parts class q no_part lt) ∙ e)
    at c false h = ap part_in (get_or-set_other parts class c q no_part (eqb-false c class h))

-- or stands for the same
pub still : (parts : List ListedPart) (class : ℕ) (q : ListedPart) → class < length parts → part_in q ≡ part_of_class parts class → SameParts parts (set parts class q)
still parts class q lt e = record { as_many = length-set parts class q; parts = λ c. at c (c == class) refl }
  where
    at : (c : ℕ) (t : Bool) → (c == class) ≡ t → part_of_class (set parts class q) c ≡ part_of_class parts c
    at c true h = let same : c ≡ class = eqb-true c class h in
        rw same (ap part_in (get_or-set_same parts class q no_part lt) ∙ e)
    at c false h = ap part_in (get_or-set_other parts class c q no_part (eqb-false c class h))

-- an instruction that doesn't take effect on the process alone stands at a place of its script
pub inside_of : (s : Shared) (d : ℕ) (p : Process) (i : Instr) (y : Plan) → EndsOrInside i p.place → plan_of s d p i ≡ y → ((q : Process) → y ≡ Own q → p.place < 256) → p.place < 256
inside_of s d p i y (inl e) h other = other (record p { live = false }) (sym h ∙ ap (plan_of s d p) e)
inside_of s d p i y (inr lt) h other = lt

module _ (s : Shared) (old new : List ListedPart) (n : ProcName) (p : Process) (next : Next) (fit : PartsFit s old) (due : IsDue s old n p next) where
  stepped : step (standing s old) n ≡ with_part (standing s old) n.class (deed_of (standing s old) n p (plan s n.class p)).part
  stepped =
      ap (λ (o : Option Process). done (standing s old) n.class (deed_by (standing s old) n o)) due.stands.there ∙
      ap (λ (t : Bool). done (standing s old) n.class (if t then Some (deed_of (standing s old) n p (plan s n.class p)) else None)) due.is_next.live

  process_fits : ProcessFits (classes s) p
  process_fits = (fit.fits n.class).processes n.processor n.slot p due.stands.there

  -- the state after a change that is the deed of the process
  pub steps_by : (X : Part) → ChangesPart old new n.class X → X ≡ (deed_of (standing s old) n p (plan s n.class p)).part → PartFits (classes s) X → StepsTo s old new n
  steps_by X changes e fits = record {
    as_many = changes.as_many;
    step = (λ k. record { shared = s; part = λ c. (changes.parts c) k }) ∙ ap (λ (z : Part). with_part (standing s old) n.class z) e ∙ sym stepped;
    fits = λ c. subst (PartFits (classes s)) (sym (changes.parts c)) (by_put (λ c (z : Part). PartFits (classes s) z) (part_of_class old) n.class X c fits (fit.fits c));
  }

  pub own_steps : (q : Process) → plan s n.class p ≡ Own q → KnowsClasses (classes s) q →
      ChangesPart old new n.class (with_process (part_of_class old n.class) n.processor n.slot q) → StepsTo s old new n
  own_steps q e knows changes =
      steps_by _ changes (ap (λ (y : Plan). (deed_of (standing s old) n p y).part) (sym e)) (fits_process (classes s) _ n.processor n.slot q (fit.fits n.class) (record { knows = knows; regs = own_regs s n.class p _ q e ∙ process_fits.regs }))

  pub begin_steps : (script start : ℕ) → plan s n.class p ≡ Begin (new_process n.class script p.ring start) →
      ChangesPart old new n.class (begun (part_of_class old n.class) n p (new_process n.class script p.ring start) (position (λ q. is_none q) ((part_of_class old n.class).slots n.processor))) →
      StepsTo s old new n
  begin_steps script start e changes =
      let in_table : n.class < classes s = due.is_next.can.class in
      steps_by _ changes (ap (λ (y : Plan). (deed_of (standing s old) n p y).part) (sym e))
      (fits_begun (classes s) _ n p _ _ (fit.fits n.class) process_fits (new_fits (classes s) n.class script p.ring start (omega arith)))

  pub ask_steps : (r : Asked) → plan s n.class p ≡ Ask (request_of p r) → InRange (classes s) r → (e : Effect) → e ≡ effect (standing s old) n.class p.ring (request_of p r) →
      ChangesPart old new n.class (with_process e.part n.processor n.slot (settled p e.outcome)) → StepsTo s old new n
  ask_steps r h range e is changes =
      steps_by _ changes
      (ap (λ (x : Effect). with_process x.part n.processor n.slot (settled p x.outcome)) is ∙ ap (λ (y : Plan). (deed_of (standing s old) n p y).part) (sym h))
      (fits_process (classes s) e.part n.processor n.slot (settled p e.outcome) ok.fits (settled_fits (classes s) p e.outcome process_fits ok.learns))
    where
      ok : EffectFits (classes s) (part_of_class old n.class) e
      ok = subst (EffectFits (classes s) (part_of_class old n.class)) (sym is) (effect_fits (classes s) (standing s old) fit.fits n.class p.ring p r range)

-- a request that looks at the part of the caller's class alone
pub change_is : (a : State) (d ring : ℕ) (p : Process) (r : Asked) → is_change r ≡ true → change_effect a.shared d (a.part d) p.pad r ≡ effect a d ring (request_of p r)
change_is a d ring p (A.MakeKnown k e mode) h = absurd (cc)
change_is a d ring p (A.Create k e class b size) h = refl
change_is a d ring p (A.Delete k e) h = refl
change_is a d ring p (A.SwapIn k) h = refl
change_is a d ring p (A.SwapOut k) h = refl
change_is a d ring p (A.Fetch k offset count pad) h = absurd (cc)
change_is a d ring p (A.Update k offset count pad) h = refl
change_is a d ring p (A.Read k wanted t) h = absurd (cc)
change_is a d ring p (A.Advance k) h = refl
change_is a d ring p (A.Ticket k) h = refl
change_is a d ring p (A.Out value) h = refl

-- what is true of a change
module _ (part : Part) where
  record KeepsSlots (e : Effect) : Type 0 where
    slots : e.part.slots ≡ part.slots

  chosen_slots : (o : Option Rule) (e : Effect) → KeepsSlots e → KeepsSlots (chosen part o e)
  chosen_slots None e h = h
  chosen_slots (Some rule) e h = record { slots = refl }

  deleted_slots : (own : Bool) (child : SegId) → (if own then deleted part child else part).slots ≡ part.slots
  deleted_slots true child = refl
  deleted_slots false child = refl

  delete_made : (d : ℕ) (u : SegId) (e : ℕ) (a : Alias) → KeepsSlots (record { part = emptied (if a.class == d then deleted part (seg d a.serial) else part) u e; outcome = Value 0 })
  delete_made d u e a = record { slots = deleted_slots (a.class == d) (seg d a.serial) }

  delete_slots : (d : ℕ) (u : SegId) (e : ℕ) (o : Option Alias) → KeepsSlots (delete_effect d part u e o)
  delete_slots d u e None = record { slots = refl }
  delete_slots d u e (Some a) = chosen_slots _ _ (delete_made d u e a)

  either_slots : (t : Bool) (x y : Effect) → KeepsSlots x → KeepsSlots y → KeepsSlots (if t then x else y)
  either_slots true x y h k = h
  either_slots false x y h k = k

  keeps : (x : Part) (o : Outcome) → x.slots ≡ part.slots → KeepsSlots (record { part = x; outcome = o })
  keeps x o e = record { slots = e }

  keeps_slots : (s : Shared) (d : ℕ) (words : List ℕ) (r : Asked) → KeepsSlots (change_effect s d part words r)
  keeps_slots s d words (A.MakeKnown k e mode) = record { slots = refl }
  keeps_slots s d words (A.Create k e class b size) = chosen_slots _ _
      (keeps (record (with_cell part k.seg (with_entry (part.cell k.seg) e (Some (new_alias class (brackets_of b) size part.next_serial)))) { next_serial = part.next_serial + 1 }) (Value part.next_serial) refl)
  keeps_slots s d words (A.Delete k e) = delete_slots d k.seg e (entry_at (part.cell k.seg) e)
  keeps_slots s d words (A.SwapIn k) = chosen_slots _ _
      (keeps (with_cell part k.seg (record (part.cell k.seg) { home = In (unwrap_or (part.cell k.seg).stored (replicate k.size 0)) })) (Value 0) refl)
  keeps_slots s d words (A.SwapOut k) = chosen_slots _ _
      (keeps (with_cell part k.seg (record (part.cell k.seg) { home = Stored; stored = Some (live_words (part.cell k.seg)) })) (Value 0) refl)
  keeps_slots s d words (A.Fetch k offset count pad) = record { slots = refl }
  keeps_slots s d words (A.Update k offset count pad) = chosen_slots _ _
      (keeps (with_cell part k.seg (record (part.cell k.seg) { home = In (overwrite (live_words (part.cell k.seg)) offset (part_of words pad count)); writes = (part.cell k.seg).writes + 1 }))
      (Value ((part.cell k.seg).writes + 1)) refl)
  keeps_slots s d words (A.Read k wanted t) = record { slots = refl }
  keeps_slots s d words (A.Advance k) = record { slots = refl }
  keeps_slots s d words (A.Ticket k) = record { slots = refl }
  keeps_slots s d words (A.Out value) = either_slots (nat_lt part.used s.console)
      (record { part = record part { lines = part.lines ++ value ∷ []; used = part.used + 1 }; outcome = Printed part.used value })
      (record { part = record part { used = part.used + 1 }; outcome = Refused ConsoleFull }) (record { slots = refl }) (record { slots = refl })

  -- a change leaves the processes
  pub change_slots : (s : Shared) (d : ℕ) (words : List ℕ) (r : Asked) → (change_effect s d part words r).part.slots ≡ part.slots
  change_slots s d words r = (keeps_slots s d words r).slots

-- what was read at a place is there
pub read_is : (parts : List ListedPart) (class : ℕ) (read : ListedPart) → class < length parts → read ≡ get_or parts class read → read ≡ get_or parts class no_part
read_is parts class read lt value = value ∙ get_or_default parts class read no_part lt

-- the processes of a part that leaves them
pub slot_same : (q z : ListedPart) (pr sl : ℕ) → (part_in q).slots ≡ (part_in z).slots → slot_in q pr sl ≡ slot_in z pr sl
slot_same q z pr sl e = ap (λ (f : ℕ → List (Option Process)). slice_index_or (f pr) sl None) e

module _ (s : Shared) (old : List ListedPart) (n : ProcName) (fit : PartsFit s old) (read new : ListedPart) (value : read ≡ get_or old n.class read) where
  module _ (p : Process) (stands : StandsAt old n p) where
    here : slot_in read n.processor n.slot ≡ Some p
    here = ap (λ (z : ListedPart). slot_in z n.processor n.slot) (read_is old n.class read stands.class value) ∙ stands.there

    puts : (x : Process) → part_in new ≡ with_process (part_in read) n.processor n.slot x → ChangesPart old (set old n.class new) n.class (with_process (part_of_class old n.class) n.processor n.slot x)
    puts x e = changed old n.class new _ stands.class (e ∙ ap (λ (z : ListedPart). with_process (part_in z) n.processor n.slot x) (read_is old n.class read stands.class value))

  pub own_done : IsSomeDue s old n N.Own →
      ((p : Process) → slot_in read n.processor n.slot ≡ Some p →
      (q : Process) × (plan s n.class p ≡ Own q) × (part_in new ≡ with_process (part_in read) n.processor n.slot q) × ((m : ℕ) → KnowsClasses m p → KnowsClasses m q)) →
      StepsTo s old (set old n.class new) n
  own_done due performs =
      let p = due.0 in
      let d = due.1 in
      let done = performs p (here p d.stands) in
      own_steps s old (set old n.class new) n p N.Own fit d done.0 done.1 (done.3 (classes s) d.is_next.can.known) (puts p d.stands done.0 done.2)

  pub begin_done : (script start ring : ℕ) (child : Process) → IsSomeDue s old n (N.Begin script start) → child ≡ new_process n.class script ring start →
      ((p : Process) → slot_in read n.processor n.slot ≡ Some p → ring ≡ p.ring) →
      ((p : Process) → slot_in read n.processor n.slot ≡ Some p → part_in new ≡ begun (part_in read) n p child (position (λ q. is_none q) (slots_in read.bank n.processor))) →
      StepsTo s old (set old n.class new) n
  begin_done script start ring child due made rings begins =
      let p = due.0 in
      let d = due.1 in
      let at = here p d.stands in
      let is : child ≡ new_process n.class script p.ring start = made ∙ ap (λ (r : ℕ). new_process n.class script r start) (rings p at) in
      begin_steps s old (set old n.class new) n p (N.Begin script start) fit d script start d.is_next.planned
      (changed old n.class new _ d.stands.class (begins p at ∙
      ap (λ (x : Process). begun (part_in read) n p x (position (λ q. is_none q) (slots_in read.bank n.processor))) is ∙
      ap (λ (z : ListedPart). begun (part_in z) n p (new_process n.class script p.ring start) (position (λ q. is_none q) (slots_in z.bank n.processor))) (read_is old n.class read d.stands.class value)))

  pub change_done : (r : Asked) → IsSomeDue s old n (N.Ask r) → is_change r ≡ true →
      ((p : Process) → slot_in read n.processor n.slot ≡ Some p → part_in new ≡ with_process (change_effect s n.class (part_in read) p.pad r).part n.processor n.slot (settled p (change_effect s n.class (part_in read) p.pad r).outcome)) →
      StepsTo s old (set old n.class new) n
  change_done r due change asks =
      let p = due.0 in
      let d = due.1 in
      ask_steps s old (set old n.class new) n p (N.Ask r) fit d r d.is_next.planned d.is_next.range.0 (change_effect s n.class (part_of_class old n.class) p.pad r)
      (change_is (standing s old) n.class p.ring p r change)
      (changed old n.class new _ d.stands.class (asks p (here p d.stands) ∙
      ap (λ (z : ListedPart). with_process (change_effect s n.class (part_in z) p.pad r).part n.processor n.slot (settled p (change_effect s n.class (part_in z) p.pad r).outcome)) (read_is old n.class read d.stands.class value)))

-- what only looks changes the process alone
pub look_done : (s : Shared) (old new : List ListedPart) (n : ProcName) (fit : PartsFit s old) (r : Asked) (o : Outcome) (due : IsSomeDue s old n (N.Ask r)) →
    o ≡ (effect (standing s old) n.class due.0.ring (request_of due.0 r)).outcome →
    (effect (standing s old) n.class due.0.ring (request_of due.0 r)).part ≡ part_of_class old n.class →
    ((p : Process) → StandsAt old n p → ChangesPart old new n.class (with_process (part_of_class old n.class) n.processor n.slot (settled p o))) →
    StepsTo s old new n
look_done s old new n fit r o due outcome part settles =
    let p = due.0 in
    let d = due.1 in
    let e : Effect = effect (standing s old) n.class p.ring (request_of p r) in
    ask_steps s old new n p (N.Ask r) fit d r d.is_next.planned d.is_next.range.0 e refl
    (subst (λ (x : Part). ChangesPart old new n.class (with_process x n.processor n.slot (settled p e.outcome))) (sym part)
    (subst (λ (x : Outcome). ChangesPart old new n.class (with_process (part_of_class old n.class) n.processor n.slot (settled p x))) outcome (settles p d.stands)))

-- where a fetch is refused, and where it isn't
pub fetch_refused : (part : Part) (cell : Cell) (offset count pad : ℕ) (rule : Rule) → Some rule ≡ first_broken ((is_deleted cell ⇒ Gone) ∷ (not (is_in cell) ⇒ NotIn) ∷ []) →
    Refused rule ≡ (fetch_effect part cell offset count pad).outcome
fetch_refused part cell offset count pad rule h =
    ap (λ (x : Option Rule). (chosen part x (record { part = part; outcome = Words pad (part_of (live_words cell) offset count) })).outcome) h

pub fetch_taken : (part : Part) (cell : Cell) (offset count pad : ℕ) → None ≡ first_broken ((is_deleted cell ⇒ Gone) ∷ (not (is_in cell) ⇒ NotIn) ∷ []) →
    Words pad (part_of (live_words cell) offset count) ≡ (fetch_effect part cell offset count pad).outcome
fetch_taken part cell offset count pad h =
    ap (λ (x : Option Rule). (chosen part x (record { part = part; outcome = Words pad (part_of (live_words cell) offset count) })).outcome) h

pub fetch_part : (part : Part) (cell : Cell) (offset count pad : ℕ) → (fetch_effect part cell offset count pad).part ≡ part
fetch_part part cell offset count pad = by_test (first_broken ((is_deleted cell ⇒ Gone) ∷ (not (is_in cell) ⇒ NotIn) ∷ []))
  where
    by_test : (o : Option Rule) → (chosen part o (record { part = part; outcome = Words pad (part_of (live_words cell) offset count) })).part ≡ part
    by_test None = refl
    by_test (Some rule) = refl

-- nobody is where no part is
pub blank_slot : (m i : ℕ) → get_or (replicate m (let o : Option Process = None in o)) i None ≡ None
blank_slot zero i = refl
blank_slot (suc m) zero = refl
blank_slot (suc m) (suc i) = blank_slot m i

pub no_slot : (processor slot : ℕ) → slot_in no_part processor slot ≡ None
no_slot processor slot = by_size (ltb slot 4) refl
  where
    by_size : (t : Bool) → ltb slot 4 ≡ t → slot_in no_part processor slot ≡ None
    by_size true h = slot_read no_part.bank processor slot (ltb-true slot 4 h) ∙ blank_slot 16 (4 * processor + slot)
    by_size false h = no_fifth no_part.bank processor slot (ltb-false slot 4 h)

pub absent : (s : Shared) (parts : List ListedPart) (n : ProcName) → length parts ≤ n.class → process_at (standing s parts) n ≡ None
absent s parts n le = ap (λ (z : ListedPart). slot_in z n.processor n.slot) (get_or_past parts n.class no_part le) ∙ no_slot n.processor n.slot

pub nobody : (s : Shared) (parts : List ListedPart) (n : ProcName) → length parts ≤ n.class → deed (standing s parts) n ≡ None
nobody s parts n le = ap (deed_by (standing s parts) n) (absent s parts n le)

-- an ended process makes no step
pub ended : (s : Shared) (parts : List ListedPart) (n : ProcName) (p : Process) → process_at (standing s parts) n ≡ Some p → p.live ≡ false → deed (standing s parts) n ≡ None
ended s parts n p e live = ap (deed_by (standing s parts) n) e ∙ ap (λ (t : Bool). if t then Some (deed_of (standing s parts) n p (plan s n.class p)) else None) live

-- whether memory may be needed for a step is read off what is next
request_takes : (p : Process) (r : Asked) → takes_memory (request_of p r) ≡ asks_memory r
request_takes p (A.MakeKnown k e mode) = refl
request_takes p (A.Create k e class b size) = refl
request_takes p (A.Delete k e) = refl
request_takes p (A.SwapIn k) = refl
request_takes p (A.SwapOut k) = refl
request_takes p (A.Fetch k offset count pad) = refl
request_takes p (A.Update k offset count pad) = refl
request_takes p (A.Read k wanted t) = refl
request_takes p (A.Advance k) = refl
request_takes p (A.Ticket k) = refl
request_takes p (A.Out value) = refl

plan_takes : (a : State) (n : ProcName) (p : Process) (y : Plan) (next : Next) → IsNext n.class p y next → step_takes (Some (deed_of a n p y)) ≡ next_takes next
plan_takes a n p (Own after) N.Own h = refl
plan_takes a n p (Begin child) N.Own h = absurd (cc)
plan_takes a n p (Ask request) N.Own h = absurd (cc)
plan_takes a n p y (N.Begin script start) h = ap (λ (z : Plan). step_takes (Some (deed_of a n p z))) h
plan_takes a n p y (N.Ask r) h = ap (λ (z : Plan). step_takes (Some (deed_of a n p z))) h ∙ request_takes p r

pub due_takes : (s : Shared) (parts : List ListedPart) (n : ProcName) (p : Process) (o : Option Next) → process_at (standing s parts) n ≡ Some p → IfSome o (IsNextOf s n.class p) →
    IfSome o (λ next. step_takes (deed (standing s parts) n) ≡ next_takes next)
due_takes s parts n p None e h = tt
due_takes s parts n p (Some next) e h =
    ap (λ (o : Option Process). step_takes (deed_by (standing s parts) n o)) e ∙
    ap (λ (t : Bool). step_takes (if t then Some (deed_of (standing s parts) n p (plan s n.class p)) else None)) h.live ∙
    plan_takes (standing s parts) n p (plan s n.class p) next h.planned

-- the state after a change of one part
pub puts_state : (s : Shared) (old new : List ListedPart) (class : ℕ) (X : Part) → ChangesPart old new class X → standing s new ≡ with_part (standing s old) class X
puts_state s old new class X changes = λ k. record { shared = s; part = λ c. (changes.parts c) k }

pub puts_fit : (s : Shared) (old new : List ListedPart) (class : ℕ) (X : Part) → PartsFit s old → ChangesPart old new class X → PartFits (classes s) X → PartsFit s new
puts_fit s old new class X fit changes fits = record {
  one_each = changes.as_many ∙ fit.one_each;
  fits = λ c. subst (PartFits (classes s)) (sym (changes.parts c)) (by_put (λ c (z : Part). PartFits (classes s) z) (part_of_class old) class X c fits (fit.fits c));
}
