-- What is written down of a step is its entries.
use Rattle.std.proofs.Common.{ℕ, zero, suc, ◌+◌, ◌<◌, ◌≤◌, ◌%◌, ◌≡◌, Bool, true, false, not, ◌&&◌, List, [], ◌∷◌, ◌++◌, refl, sym, ap, subst, ◌∙◌, Option, Some, None, ◌⊎◌, inl, inr, arith, map, append-nil}
use Rattle.std.specs.Prelude.{◌==◌, if◌then◌else◌, is_none, is_some, nat_lt, replicate, slice_index_or, slice_set, unwrap_or}
use Rattle.std.specs.List.{flat_map, position}
use Rattle.std.specs.Option.{option_map, option_map_or, option_and_then}
use Rattle.std.proofs.lemmas.Bool.{eq-eqb, ne_eqb, ltb-false, le-leb}
use Rattle.words_layout.specs.Segments.{seg, put_seg}
use Rattle.words_layout.specs.declared.segment.SegId.{SegId}
use Rattle.words_layout.specs.declared.coding.Alias.{Alias}
use Rattle.words_layout.proofs.Names.{same_seg-refl}
use Rattle.policy.specs.Known.{Known, new_alias, modifies}
use Rattle.policy.specs.Outcome.{Outcome, Refused, Value, Learns, Words, Printed, Looked, Counted}
use Rattle.policy.specs.Private.{delete_tests}
use Rattle.policy.specs.Verdict.{first_broken, ◌⇒◌}
use Rattle.policy.specs.declared.rule.Rule.{Rule}
use Rattle.policy.specs.declared.rule.Rule.TheVariants.{BadEntry, NotModify, RingWrite, NoSlot, NotEmpty, ConsoleFull}
use Rattle.rings.specs.Brackets.{may_write}
use Rattle.script_lang.specs.declared.instr.Instr.{Instr}
use Rattle.script_lang.specs.declared.instr.Instr.TheVariants as I
use Rattle.lists.specs.Lists.{overwrite, part_of}
use Rattle.class_model.specs.Access.{Access, child_access, accesses}
use Rattle.class_model.specs.Config.{Shared, instr_at}
use Rattle.class_model.specs.Next.{asks}
use Rattle.class_model.specs.Passing.{passes, passes_by, passes_alone, has_free_slot}
use Rattle.class_model.specs.Plan.{Plan, Own, Begin, Ask, Request, MakeKnown, Create, Delete, SwapIn, SwapOut, Fetch, Update, Read, Advance, Ticket, Out, plan, plan_of, of_known, tried}
use Rattle.class_model.specs.Process.{Process, ProcName, reg, known_at, usable_at, refused, answered, settled}
use Rattle.class_model.specs.Run.{Happened, happened}
use Rattle.class_model.specs.State.{State, Part, Cell, In, Stored, process_at, cell_at, entry_at, has_entry, live_words, with_cell, with_part, with_process}
use Rattle.class_model.specs.Step.{Effect, Deed, chosen, with_entry, deleted, emptied, delete_effect, effect, begun, deed, deed_of, deed_by, step}
use Rattle.whole_machine.specs.Readers.{next_of, next_instr, place_of, register_of, known_of}
use Rattle.audit_trail.specs.Instructions.{reply_number, known_in}
use Rattle.audit_trail.specs.Trail.{access_entry, access_entries, is_replied, reply_code, entries_by, effect_entries}
use Rattle.audit_trail.specs.Dues.{operand, goes_back, segment_of, access_of, own_child, child_in, child_of, child_by, due_by, due_of, held, deleted_child, option_entries, accesses_after, code_after, has_replied, entries_after, step_entries}
use Rattle.audit_trail.specs.declared.due.Due.{Due}
use Rattle.audit_trail.specs.declared.due.Child.{Child}
use Rattle.audit_trail.specs.declared.entry.Entry.{Entry}
use Rattle.audit_trail.specs.declared.entry.Entry.TheVariants as E
use Rattle.audit_trail.specs.declared.instructions.Operand.{Operand}
use Rattle.audit_trail.proofs.Read.{put_here, part_read, process_read, deed_is, no_deed, step_is}
use Rattle.audit_trail.proofs.Asking.{extra, Names, Prints, named_by, asked_of, usable_known}
use Rattle.audit_trail.proofs.Small.{Small, small_refused, small_answered, begun_new, is_look, small_settled, settled_place, look_place, own_reply}

-- ---- the slots of a part after an effect

record Keeps (part : Part) (e : Effect) : Type 0 where
  slots : e.part.slots ≡ part.slots

keeps : (part x : Part) (o : Outcome) → x.slots ≡ part.slots → Keeps part (record { part = x; outcome = o })
keeps part x o e = record { slots = e }

chosen_keeps : (part : Part) (o : Option Rule) (e : Effect) → Keeps part e → Keeps part (chosen part o e)
chosen_keeps part None e h = h
chosen_keeps part (Some rule) e h = record { slots = refl }

deleted_slots : (part : Part) (own : Bool) (child : SegId) → (if own then deleted part child else part).slots ≡ part.slots
deleted_slots part true child = refl
deleted_slots part false child = refl

delete_keeps : (part : Part) (d : ℕ) (u : SegId) (e : ℕ) (o : Option Alias) → Keeps part (delete_effect d part u e o)
delete_keeps part d u e None = record { slots = refl }
delete_keeps part d u e (Some a) = chosen_keeps part _ _
    (keeps part (emptied (if a.class == d then deleted part (seg d a.serial) else part) u e) (Value 0) (deleted_slots part (a.class == d) (seg d a.serial)))

either_keeps : (part : Part) (t : Bool) (x y : Effect) → Keeps part x → Keeps part y → Keeps part (if t then x else y)
either_keeps part true x y h k = h
either_keeps part false x y h k = k

effect_keeps : (a : State) (d ring : ℕ) (q : Request) → Keeps (a.part d) (effect a d ring q)
effect_keeps a d ring (MakeKnown k e mode) = record { slots = refl }
effect_keeps a d ring (Create k e class b size) = let part : Part = a.part d in chosen_keeps part _ _
    (keeps part (record (with_cell part k.seg (with_entry (part.cell k.seg) e (Some (new_alias class b size part.next_serial)))) { next_serial = part.next_serial + 1 }) (Value part.next_serial) refl)
effect_keeps a d ring (Delete k e) = delete_keeps (a.part d) d k.seg e (entry_at ((a.part d).cell k.seg) e)
effect_keeps a d ring (SwapIn k) = let part : Part = a.part d in chosen_keeps part _ _
    (keeps part (with_cell part k.seg (record (part.cell k.seg) { home = In (unwrap_or (part.cell k.seg).stored (replicate k.size 0)) })) (Value 0) refl)
effect_keeps a d ring (SwapOut k) = let part : Part = a.part d in chosen_keeps part _ _
    (keeps part (with_cell part k.seg (record (part.cell k.seg) { home = Stored; stored = Some (live_words (part.cell k.seg)) })) (Value 0) refl)
effect_keeps a d ring (Fetch k offset count pad) = let part : Part = a.part d in chosen_keeps part _ _
    (keeps part part (Words pad (part_of (live_words ((a.part k.class).cell k.seg)) offset count)) refl)
effect_keeps a d ring (Update k offset words) = let part : Part = a.part d in chosen_keeps part _ _
    (keeps part (with_cell part k.seg (record (part.cell k.seg) { home = In (overwrite (live_words (part.cell k.seg)) offset words); writes = (part.cell k.seg).writes + 1 }))
    (Value ((part.cell k.seg).writes + 1)) refl)
effect_keeps a d ring (Read k wanted t) = record { slots = refl }
effect_keeps a d ring (Advance k) = record { slots = refl }
effect_keeps a d ring (Ticket k) = record { slots = refl }
effect_keeps a d ring (Out value) = let part : Part = a.part d in either_keeps part (nat_lt part.used a.shared.console)
    (record { part = record part { lines = part.lines ++ value ∷ []; used = part.used + 1 }; outcome = Printed part.used value })
    (record { part = record part { used = part.used + 1 }; outcome = Refused ConsoleFull }) (record { slots = refl }) (record { slots = refl })

-- ---- deleted children

seg_here : {X : Type 0} (f : SegId → X) (u : SegId) (v : X) → put_seg f u v u ≡ v
seg_here f u v = rw (same_seg-refl u) refl

emptied_get : (l : List (Option Alias)) (e : ℕ) → slice_index_or (slice_set l e None) e None ≡ None
emptied_get [] e = refl
emptied_get (x ∷ xs) zero = refl
emptied_get (x ∷ xs) (suc e) = emptied_get xs e

-- the entry is empty
emptied_entry : (part : Part) (u : SegId) (e : ℕ) → entry_at ((emptied part u e).cell u) e ≡ None
emptied_entry part u e = ap (λ (z : Cell). entry_at z e) (seg_here part.cell u (with_entry (part.cell u) e None)) ∙ emptied_get (part.cell u).entries e

-- a child whose entry is empty in these cells
abbrev gone : (SegId → Cell) → Child → List Entry
gone cells x = if is_none (entry_at (cells x.mentor) x.entry) then x.access ∷ [] else []

module _ (n : ProcName) (number : ℕ) (part : Part) (k : Known) (e : ℕ) where
  -- the child of an entry
  abbrev child_access_of : Alias → Child
  child_access_of x = record { mentor = k.seg; entry = e; access = E.Access n number (record { 0 = 2 }) (seg n.class x.serial) n.class }

  abbrev made : Alias → Bool → Effect
  made x own = record { part = emptied (if own then deleted part (seg n.class x.serial) else part) k.seg e; outcome = Value 0 }

  -- the child that a delete modifies is that of an entry which it empties
  pub child_gone : (o : Option Alias) → entry_at (part.cell k.seg) e ≡ o →
      option_entries (gone (delete_effect n.class part k.seg e o).part.cell) (own_child n number k e o)
      ≡ map (access_entry n number n.class) (child_access n.class k o (delete_effect n.class part k.seg e o).outcome)
  child_gone None h = refl
  child_gone (Some x) h = by_class (x.class == n.class) refl (has_entry (part.cell (seg n.class x.serial)))
    where
      by_class : (own : Bool) → (x.class == n.class) ≡ own → (has : Bool) →
          option_entries (gone (chosen part (first_broken ((x.class == n.class && has ⇒ NotEmpty) ∷ [])) (made x (x.class == n.class))).part.cell) (if x.class == n.class then Some (child_access_of x) else None)
          ≡ map (access_entry n number n.class) (child_access n.class k (Some x) (chosen part (first_broken ((x.class == n.class && has ⇒ NotEmpty) ∷ [])) (made x (x.class == n.class))).outcome)
      by_class true own true = rw (own, h) refl
      by_class true own false = rw own (rw own (rw (emptied_entry (deleted part (seg n.class x.serial)) k.seg e) refl))
      by_class false own has = rw own (rw own refl)

-- ---- one live process

-- what asks of a known segment begins no process
not_begun : (p : Process) (o : Option Known) (tests : Known → List (Bool × Rule)) (request : Known → Request) (child : Process) → of_known p o tests request ≡ Begin child → ⊥
not_begun p None tests request child h = cc
not_begun p (Some k) tests request child h = by_rule (first_broken (tests k)) h
  where
    by_rule : (r : Option Rule) → tried p r (Ask (request k)) ≡ Begin child → ⊥
    by_rule None h = cc
    by_rule (Some rule) h = cc

-- a child has a small r0
child_small : (s : Shared) (d : ℕ) (p : Process) (j : Instr) (child : Process) → plan_of s d p j ≡ Begin child → Small child
child_small s d p (I.Spawn n b) child h = begun_new s d p n (reg p b) (slice_index_or s.scripts n None) child h
child_small s d p (I.MakeKnown x y z) child h = absurd (not_begun p (usable_at p (reg p x)) _ _ child h)
child_small s d p (I.Create x y z v w) child h = absurd (not_begun p (usable_at p (reg p x)) _ _ child h)
child_small s d p (I.Delete x y) child h = absurd (not_begun p (usable_at p (reg p x)) _ _ child h)
child_small s d p (I.SwapIn x) child h = absurd (not_begun p (usable_at p (reg p x)) _ _ child h)
child_small s d p (I.SwapOut x) child h = absurd (not_begun p (usable_at p (reg p x)) _ _ child h)
child_small s d p (I.Fetch x y z v) child h = absurd (not_begun p (usable_at p (reg p x)) _ _ child h)
child_small s d p (I.Update x y z v) child h = absurd (not_begun p (usable_at p (reg p x)) _ _ child h)
child_small s d p (I.Read x) child h = absurd (not_begun p (usable_at p (reg p x)) _ _ child h)
child_small s d p (I.Await x y) child h = absurd (not_begun p (usable_at p (reg p x)) _ _ child h)
child_small s d p (I.Advance x) child h = absurd (not_begun p (known_at p (reg p x)) _ _ child h)
child_small s d p (I.Ticket x) child h = absurd (not_begun p (usable_at p (reg p x)) _ _ child h)
child_small s d p _ child h = cc

-- what is read of a list with one place changed
set_read : (l : List (Option Process)) (i j : ℕ) (x : Process) (r : Process) → slice_index_or (slice_set l i (Some x)) j None ≡ Some r → (x ≡ r) ⊎ (slice_index_or l j None ≡ Some r)
set_read [] i j x r h = inr h
set_read (y ∷ ys) zero zero x r h = inl (cc)
set_read (y ∷ ys) zero (suc j) x r h = inr h
set_read (y ∷ ys) (suc i) zero x r h = inr h
set_read (y ∷ ys) (suc i) (suc j) x r h = set_read ys i j x r h

-- the process that begins another, or the new one, has a small r0
begun_read : (a : State) (n : ProcName) (p : Process) → process_at a n ≡ Some p → (child : Process) → Small child → (o : Option ℕ) (r : Process) →
    slice_index_or ((begun (a.part n.class) n p child o).slots n.processor) n.slot None ≡ Some r → Small r
begun_read a n p there child small None r h =
    let same : refused p NoSlot ≡ r = some_same _ r (sym (process_read (a.part n.class) n p (refused p NoSlot) there) ∙ h) in subst Small same (small_refused p NoSlot)
  where
    some_same : (q r : Process) → (let o : Option Process = Some q in o) ≡ Some r → q ≡ r
    some_same q r e = cc
begun_read a n p there child small (Some slot) r h = by_place (set_read (X.slots n.processor) slot n.slot child r (sym here ∙ h))
  where
    X : Part
    X = with_process (a.part n.class) n.processor n.slot (answered p slot)

    here : slice_index_or ((with_process X n.processor slot child).slots n.processor) n.slot None ≡ slice_index_or (slice_set (X.slots n.processor) slot (Some child)) n.slot None
    here = ap (λ (l : List (Option Process)). slice_index_or l n.slot None) (put_here X.slots n.processor (slice_set (X.slots n.processor) slot (Some child)))

    by_place : (child ≡ r) ⊎ (slice_index_or (X.slots n.processor) n.slot None ≡ Some r) → Small r
    by_place (inl same) = subst Small same small
    by_place (inr e) = (let f : Some (answered p slot) ≡ Some r = sym (process_read (a.part n.class) n p (answered p slot) there) ∙ e in let same : answered p slot ≡ r = cc in subst Small same (small_answered p slot))

-- the entry of a delete that passes is one of eight
small_entry : (p : Process) (e : ℕ) (k : Known) → first_broken (delete_tests p.ring e k) ≡ None → e ≤ 7
small_entry p e k h = ltb-false 7 e (passed_third (not (modifies k.rights)) (not (may_write k.brackets p.ring)) (nat_lt 7 e) h)
  where
    passed_third : (x y z : Bool) → first_broken ((x ⇒ NotModify) ∷ (y ⇒ RingWrite) ∷ (z ⇒ BadEntry) ∷ []) ≡ None → z ≡ false
    passed_third true y z h = cc
    passed_third false true z h = cc
    passed_third false false true h = cc
    passed_third false false false h = refl

-- a mere look gives no reply
look_replies : (q : Request) (o : Outcome) → is_replied (Some (q, o)) ≡ not (is_look o)
look_replies q (Refused r) = refl
look_replies q (Value v) = refl
look_replies q (Learns k) = refl
look_replies q (Words at ws) = refl
look_replies q (Printed place v) = refl
look_replies q (Looked t) = refl
look_replies q (Counted sum) = refl

mod_small : (n : ℕ) → n < 256 → n % 256 ≡ n
mod_small n h = omega arith

-- the reply
abbrev reply_of : ProcName → ℕ → ℕ → List Entry
reply_of n number code = E.Reply n number code ∷ []

-- entries with their reply, where there is one
abbrev with_reply : ProcName → ℕ → Bool → List Entry → ℕ → List Entry
with_reply n number t xs code = if t then xs ++ reply_of n number code else []

module _ (a : State) (n : ProcName) (p : Process) (there : process_at a n ≡ Some p) (live : p.live ≡ true) (number : ℕ) where
  abbrev i : Instr
  i = instr_at a.shared p.script p.place

  abbrev y : Plan
  y = plan a.shared n.class p

  -- what is known before the step
  abbrev pub due : Due
  due = record {
    number = number;
    place = unwrap_or (place_of a n) 0;
    goes_back = passes a n && goes_back (instr_at a.shared p.script p.place);
    access = if passes a n then access_of a n (instr_at a.shared p.script p.place) number else None;
    child = if passes a n then child_by a n (instr_at a.shared p.script p.place) number else None;
  }

  next_is : next_instr a n ≡ Some (instr_at a.shared p.script p.place)
  next_is = ap (next_of a.shared) there ∙ ap (λ (t : Bool). if t then Some (instr_at a.shared p.script p.place) else None) live

  register_is : (r : ℕ) → register_of a n r ≡ Some (reg p r)
  register_is r = ap (option_map (λ (p : Process). reg p r)) there

  place_is : unwrap_or (place_of a n) 0 ≡ p.place
  place_is = ap (λ (o : Option Process). unwrap_or (option_map (λ (p : Process). p.place) o) 0) there

  segment_is : (r : ℕ) → segment_of a n r ≡ known_at p (reg p r)
  segment_is r = ap (λ (o : Option ℕ). option_and_then (λ segno. known_of a n segno) o) (register_is r) ∙ ap (λ (o : Option Process). option_and_then (λ (p' : Process). known_at p' (reg p r)) o) there

  passes_is : passes a n ≡ passes_by (has_free_slot a n) p (instr_at a.shared p.script p.place) (plan a.shared n.class p)
  passes_is = ap (λ (o : Option Process). option_map_or (λ (p : Process). Rattle.class_model.specs.Passing.passes_next a.shared n.class (has_free_slot a n) p) o false) there
      ∙ ap (λ (t : Bool). t && passes_by (has_free_slot a n) p (instr_at a.shared p.script p.place) (plan a.shared n.class p)) live

  -- the state after it
  after : (z : Plan) → plan a.shared n.class p ≡ z → step a n ≡ with_part a n.class (deed_of a n p z).part
  after z e = step_is a n _ (deed_is a n p there live) ∙ ap (λ (z : Plan). with_part a n.class (deed_of a n p z).part) e

  read_after : (z : Plan) → plan a.shared n.class p ≡ z → process_at (step a n) n ≡ slice_index_or ((deed_of a n p z).part.slots n.processor) n.slot None
  read_after z e = ap (λ (b : State). process_at b n) (after z e) ∙ part_read a n (deed_of a n p z).part

  held_by : (o : Option Process) → process_at (step a n) n ≡ o → held (step a n) n ≡ unwrap_or (option_map (λ (p : Process). reg p 0) o) 0
  held_by o e = ap (λ (o : Option Process). unwrap_or (option_map (λ (p : Process). reg p 0) o) 0) e

  held_small : (o : Option Process) → process_at (step a n) n ≡ o → ((q : Process) → o ≡ Some q → Small q) → held (step a n) n < 256
  held_small o e h = subst (λ (m : ℕ). m < 256) (sym (held_by o e)) (small o h)
    where
      small : (o : Option Process) → ((q : Process) → o ≡ Some q → Small q) → unwrap_or (option_map (λ (p : Process). reg p 0) o) 0 < 256
      small None h = omega arith
      small (Some q) h = h q refl

  -- the code of the reply
  code_is : (j : Instr) → ((goes_back j ≡ true → passes a n ≡ false) → held (step a n) n < 256) →
      (if passes a n && goes_back j then 0 else held (step a n) n % 256) ≡ reply_code a n j
  code_is I.Ret h = by_pass (passes a n) refl
    where
      by_pass : (t : Bool) → passes a n ≡ t → (if t && true then 0 else held (step a n) n % 256) ≡ (if t then 0 else held (step a n) n)
      by_pass true e = refl
      by_pass false e = mod_small (held (step a n) n) (h (λ f. e))
  code_is _ h = by_pass (passes a n)
    where
      by_pass : (t : Bool) → (if t && false then 0 else held (step a n) n % 256) ≡ held (step a n) n
      by_pass true = mod_small (held (step a n) n) (h (λ f. absurd (cc)))
      by_pass false = mod_small (held (step a n) n) (h (λ f. absurd (cc)))

  -- ---- where nothing was asked

  -- it names nothing
  abbrev Quiet : Instr → Type 0
  Quiet j = (operand j ≡ None) × (child_by a n j number ≡ None)

  asks_or_quiet : (j : Instr) → (asks j ≡ true) ⊎ Quiet j
  asks_or_quiet (I.MakeKnown x y z) = inl refl
  asks_or_quiet (I.Create x y z v w) = inl refl
  asks_or_quiet (I.Delete x y) = inl refl
  asks_or_quiet (I.SwapIn x) = inl refl
  asks_or_quiet (I.SwapOut x) = inl refl
  asks_or_quiet (I.Fetch x y z v) = inl refl
  asks_or_quiet (I.Update x y z v) = inl refl
  asks_or_quiet (I.Read x) = inl refl
  asks_or_quiet (I.Await x y) = inl refl
  asks_or_quiet (I.Advance x) = inl refl
  asks_or_quiet (I.Ticket x) = inl refl
  asks_or_quiet (I.Out x) = inl refl
  asks_or_quiet _ = inr (refl, refl)

  begun_quiet : (j : Instr) (child : Process) → plan_of a.shared n.class p j ≡ Begin child → Quiet j
  begun_quiet (I.MakeKnown x y z) child h = absurd (not_begun p (usable_at p (reg p x)) _ _ child h)
  begun_quiet (I.Create x y z v w) child h = absurd (not_begun p (usable_at p (reg p x)) _ _ child h)
  begun_quiet (I.Delete x y) child h = absurd (not_begun p (usable_at p (reg p x)) _ _ child h)
  begun_quiet (I.SwapIn x) child h = absurd (not_begun p (usable_at p (reg p x)) _ _ child h)
  begun_quiet (I.SwapOut x) child h = absurd (not_begun p (usable_at p (reg p x)) _ _ child h)
  begun_quiet (I.Fetch x y z v) child h = absurd (not_begun p (usable_at p (reg p x)) _ _ child h)
  begun_quiet (I.Update x y z v) child h = absurd (not_begun p (usable_at p (reg p x)) _ _ child h)
  begun_quiet (I.Read x) child h = absurd (not_begun p (usable_at p (reg p x)) _ _ child h)
  begun_quiet (I.Await x y) child h = absurd (not_begun p (usable_at p (reg p x)) _ _ child h)
  begun_quiet (I.Advance x) child h = absurd (not_begun p (known_at p (reg p x)) _ _ child h)
  begun_quiet (I.Ticket x) child h = absurd (not_begun p (usable_at p (reg p x)) _ _ child h)
  begun_quiet _ child h = (refl, refl)

  -- so nothing is due of it
  nothing_due : (passes a n ≡ false) ⊎ Quiet (instr_at a.shared p.script p.place) → (due.access ≡ None) × (due.child ≡ None)
  nothing_due (inl e) = (rw e refl, rw e refl)
  nothing_due (inr q) = (by_test (passes a n) (ap (λ (o : Option Operand). option_and_then (λ (x : Operand). option_map (λ (k : Known). E.Access n number x.kind k.seg k.class) (segment_of a n x.register)) o) q.0), by_test (passes a n) q.1)
    where
      by_test : {X : Type 0} {o : Option X} (t : Bool) → o ≡ None → (if t then o else None) ≡ None
      by_test true e = e
      by_test false e = refl

  -- the state after the step
  module _ (b : State) where
    own_written : (code : ℕ) → (due.access ≡ None) × (due.child ≡ None) → code_after b n due ≡ code → entries_after b n due ≡ E.Reply n number code ∷ []
    own_written code none e =
        ap (λ (o : Option Entry). with_reply n number (not (is_some o && (unwrap_or (place_of b n) 0 == due.place))) (option_entries (λ (e : Entry). e ∷ []) o ++ option_entries (deleted_child b n) due.child) (code_after b n due)) none.0
        ∙ ap (λ (o : Option Child). option_entries (deleted_child b n) o ++ E.Reply n number (code_after b n due) ∷ []) none.1
        ∙ ap (λ (c : ℕ). E.Reply n number c ∷ []) e

  -- an instruction that takes effect on the process alone
  module _ (replies : reply_number (instr_at a.shared p.script p.place) ≡ Some number) where
    own_entries : (q : Process) → plan a.shared n.class p ≡ Own q → entries_after (step a n) n due ≡ E.Reply n number (reply_code a n (instr_at a.shared p.script p.place)) ∷ []
    own_entries q e = own_written (step a n) _ (nothing_due quiet) (code_is (instr_at a.shared p.script p.place) small)
      where
        passes_own : passes a n ≡ passes_by (has_free_slot a n) p (instr_at a.shared p.script p.place) (Own q)
        passes_own = passes_is ∙ ap (passes_by (has_free_slot a n) p (instr_at a.shared p.script p.place)) e

        quiet : (passes a n ≡ false) ⊎ Quiet (instr_at a.shared p.script p.place)
        quiet = elim (asks_or_quiet (instr_at a.shared p.script p.place)) [
          | inl t ↦ inl (passes_own ∙ ap (λ (t : Bool). not t && passes_alone p q (instr_at a.shared p.script p.place)) t)
          | inr x ↦ inr x
        ]

        small : (goes_back (instr_at a.shared p.script p.place) ≡ true → passes a n ≡ false) → held (step a n) n < 256
        small back = held_small (Some q) (read_after (Own q) e ∙ process_read (a.part n.class) n p q there) (λ r f. (let same : q ≡ r = cc in subst Small same
            (own_reply a.shared n.class p (has_free_slot a n) (instr_at a.shared p.script p.place) number q replies e (λ g. sym passes_own ∙ back g))))

    begin_entries : (child : Process) → plan a.shared n.class p ≡ Begin child → entries_after (step a n) n due ≡ E.Reply n number (reply_code a n (instr_at a.shared p.script p.place)) ∷ []
    begin_entries child e = own_written (step a n) _ (nothing_due (inr (begun_quiet (instr_at a.shared p.script p.place) child e))) (code_is (instr_at a.shared p.script p.place) (λ back. small))
      where
        small : held (step a n) n < 256
        small = held_small _ (read_after (Begin child) e) (λ r f. begun_read a n p there child (child_small a.shared n.class p (instr_at a.shared p.script p.place) child e) (position (λ q. is_none q) ((a.part n.class).slots n.processor)) r f)

    -- one that asks the state
    module _ (q : Request) (e : plan a.shared n.class p ≡ Ask q) where
      abbrev o : Outcome
      o = (effect a n.class p.ring q).outcome

      passes_ask : passes a n ≡ true
      passes_ask = passes_is ∙ ap (passes_by (has_free_slot a n) p (instr_at a.shared p.script p.place)) e

      read_ask : process_at (step a n) n ≡ Some (settled p (effect a n.class p.ring q).outcome)
      read_ask = read_after (Ask q) e ∙ process_read (effect a n.class p.ring q).part n p (settled p (effect a n.class p.ring q).outcome)
          (ap (λ (f : ℕ → List (Option Process)). slice_index_or (f n.processor) n.slot None) (effect_keeps a n.class p.ring q).slots ∙ there)

      cells_ask : ((step a n).part n.class).cell ≡ (effect a n.class p.ring q).part.cell
      cells_ask = ap (λ (b : State). (b.part n.class).cell) (after (Ask q) e) ∙ ap (λ (z : Part). z.cell) (put_here a.part n.class (deed_of a n p (Ask q)).part)

      place_ask : unwrap_or (place_of (step a n) n) 0 ≡ (settled p (effect a n.class p.ring q).outcome).place
      place_ask = ap (λ (o : Option Process). unwrap_or (option_map (λ (p : Process). p.place) o) 0) read_ask

      code_ask : is_look (effect a n.class p.ring q).outcome ≡ false → code_after (step a n) n due ≡ reply_code a n (instr_at a.shared p.script p.place)
      code_ask h = code_is (instr_at a.shared p.script p.place) (λ back. held_small _ read_ask (λ r f. (let same : settled p (effect a n.class p.ring q).outcome ≡ r = cc in subst Small same (small_settled p (effect a n.class p.ring q).outcome h))))

      due_access : due.access ≡ access_of a n (instr_at a.shared p.script p.place) number
      due_access = rw passes_ask refl

      due_child : due.child ≡ child_by a n (instr_at a.shared p.script p.place) number
      due_child = rw passes_ask refl

      -- it replies where it isn't a mere look
      asked_written : (accessed : List Entry) → accesses_after (step a n) n due ≡ accessed → has_replied (step a n) n due ≡ not (is_look (effect a n.class p.ring q).outcome) →
          entries_after (step a n) n due ≡ with_reply n number (is_replied (Some (q, (effect a n.class p.ring q).outcome))) accessed (reply_code a n (instr_at a.shared p.script p.place))
      asked_written accessed same replied =
          ap (λ (t : Bool). with_reply n number t (accesses_after (step a n) n due) (code_after (step a n) n due)) replied
          ∙ by_look (is_look (effect a n.class p.ring q).outcome) refl
          ∙ ap (λ (t : Bool). with_reply n number t accessed (reply_code a n (instr_at a.shared p.script p.place))) (sym (look_replies q (effect a n.class p.ring q).outcome))
        where
          by_look : (t : Bool) → is_look (effect a n.class p.ring q).outcome ≡ t →
              with_reply n number (not t) (accesses_after (step a n) n due) (code_after (step a n) n due) ≡ with_reply n number (not t) accessed (reply_code a n (instr_at a.shared p.script p.place))
          by_look true f = refl
          by_look false f = ap (λ (xs : List Entry). xs ++ E.Reply n number (code_after (step a n) n due) ∷ []) same ∙ ap (λ (c : ℕ). accessed ++ E.Reply n number c ∷ []) (code_ask f)

      -- a line is printed
      printed_written : Prints a n.class p (instr_at a.shared p.script p.place) q → (known : Option Known) →
          entries_after (step a n) n due ≡ with_reply n number (is_replied (Some (q, (effect a n.class p.ring q).outcome))) (access_entries n number known []) (reply_code a n (instr_at a.shared p.script p.place))
      printed_written x known =
          asked_written (access_entries n number known []) (accessed known)
          (ap (λ (o : Option Entry). not (is_some o && (unwrap_or (place_of (step a n) n) 0 == due.place))) none.0 ∙ sym (ap not no_look))
        where
          none : (due.access ≡ None) × (due.child ≡ None)
          none = nothing_due (inr (x.none, silent (instr_at a.shared p.script p.place) x.none))
            where
              silent : (j : Instr) → operand j ≡ None → child_by a n j number ≡ None
              silent (I.Delete u v) h = cc
              silent _ h = refl

          no_look : is_look (effect a n.class p.ring q).outcome ≡ false
          no_look = ap (λ (q : Request). is_look (effect a n.class p.ring q).outcome) x.request_is ∙ by_room (nat_lt (a.part n.class).used a.shared.console)
              (record { part = record (a.part n.class) { lines = (a.part n.class).lines ++ x.value ∷ []; used = (a.part n.class).used + 1 }; outcome = Printed (a.part n.class).used x.value })
              (record { part = record (a.part n.class) { used = (a.part n.class).used + 1 }; outcome = Refused ConsoleFull }) refl refl
            where
              by_room : (t : Bool) (u v : Effect) → is_look u.outcome ≡ false → is_look v.outcome ≡ false → (let z : Effect = if t then u else v in is_look z.outcome) ≡ false
              by_room true u v f g = f
              by_room false u v f g = g

          accessed : (known : Option Known) → accesses_after (step a n) n due ≡ access_entries n number known []
          accessed (Some k) = ap (λ (o : Option Entry). option_entries (λ (e : Entry). e ∷ []) o ++ option_entries (deleted_child (step a n) n) due.child) none.0 ∙ ap (λ (o : Option Child). option_entries (deleted_child (step a n) n) o) none.1
          accessed None = ap (λ (o : Option Entry). option_entries (λ (e : Entry). e ∷ []) o ++ option_entries (deleted_child (step a n) n) due.child) none.0 ∙ ap (λ (o : Option Child). option_entries (deleted_child (step a n) n) o) none.1

      -- a known segment is accessed
      module _ (x : Names a n.class p (instr_at a.shared p.script p.place) q) where
        access_is : access_of a n (instr_at a.shared p.script p.place) number ≡ Some (E.Access n number x.operand_is.kind x.known.seg x.known.class)
        access_is = ap (λ (o : Option Operand). option_and_then (λ (x : Operand). option_map (λ (k : Known). E.Access n number x.kind k.seg k.class) (segment_of a n x.register)) o) x.named
            ∙ ap (option_map (λ (k : Known). E.Access n number x.operand_is.kind k.seg k.class)) (segment_is x.operand_is.register ∙ x.there)

        child_is : (j : Instr) → plan_of a.shared n.class p j ≡ Ask q →
            option_entries (deleted_child (step a n) n) (child_by a n j number) ≡ map (access_entry n number n.class) (extra a n.class p j x.known (effect a n.class p.ring q).outcome)
        child_is (I.Delete u v) h =
            let z = asked_of p (usable_at p (reg p u)) (delete_tests p.ring (reg p v)) (λ k. Delete k (reg p v)) q h in
            let mentor : segment_of a n u ≡ Some z.0 = segment_is u ∙ usable_known (known_at p (reg p u)) z.0 z.1 in
            let known : z.0 ≡ x.known = same_known z.0 z.3 in
            ap (λ (cells : SegId → Cell). option_entries (gone cells) (child_of a n number u v)) cells_ask
            ∙ ap (λ (o : Option Known). option_entries (gone (effect a n.class p.ring q).part.cell) (option_and_then (λ (k : Known). option_and_then (λ e. child_in a n number k e) (register_of a n v)) o)) mentor
            ∙ ap (λ (o : Option ℕ). option_entries (gone (effect a n.class p.ring q).part.cell) (option_and_then (λ e. child_in a n number z.0 e) o)) (register_is v)
            ∙ ap (λ (t : Bool). option_entries (gone (effect a n.class p.ring q).part.cell) (if t then own_child n number z.0 (reg p v) (entry_at (cell_at a n.class z.0.seg) (reg p v)) else None)) (le-leb (reg p v) 7 (small_entry p (reg p v) z.0 z.2))
            ∙ subst (λ (r : Request). option_entries (gone (effect a n.class p.ring r).part.cell) (own_child n number z.0 (reg p v) (entry_at (cell_at a n.class z.0.seg) (reg p v)))
            ≡ map (access_entry n number n.class) (child_access n.class z.0 (entry_at ((a.part n.class).cell z.0.seg) (reg p v)) (effect a n.class p.ring r).outcome)) z.3
            (child_gone n number (a.part n.class) z.0 (reg p v) (entry_at ((a.part n.class).cell z.0.seg) (reg p v)) refl)
            ∙ ap (λ (k : Known). map (access_entry n number n.class) (child_access n.class k (entry_at ((a.part n.class).cell k.seg) (reg p v)) (effect a n.class p.ring q).outcome)) known
          where
            same_known : (k : Known) → Delete k (reg p v) ≡ q → k ≡ x.known
            same_known k f = let g : Some k ≡ Some x.known = ap known_in f ∙ x.known_is in cc
        child_is _ h = refl

        named_written : entries_after (step a n) n due ≡ with_reply n number (is_replied (Some (q, (effect a n.class p.ring q).outcome)))
            (access_entries n number (known_in q) (accesses a n.class q (effect a n.class p.ring q).outcome)) (reply_code a n (instr_at a.shared p.script p.place))
        named_written = asked_written _ accessed replied
          where
            accessed : accesses_after (step a n) n due ≡ access_entries n number (known_in q) (accesses a n.class q (effect a n.class p.ring q).outcome)
            accessed =
                ap (λ (o : Option Entry). option_entries (λ (e : Entry). e ∷ []) o ++ option_entries (deleted_child (step a n) n) due.child) (due_access ∙ access_is)
                ∙ ap (λ (o : Option Child). E.Access n number x.operand_is.kind x.known.seg x.known.class ∷ option_entries (deleted_child (step a n) n) o) due_child
                ∙ ap (λ (xs : List Entry). E.Access n number x.operand_is.kind x.known.seg x.known.class ∷ xs) (child_is (instr_at a.shared p.script p.place) e)
                ∙ sym (ap (λ (o : Option Known). access_entries n number o (accesses a n.class q (effect a n.class p.ring q).outcome)) x.known_is
                ∙ ap (access_entries n number (Some x.known)) (x.accessed (effect a n.class p.ring q).outcome))

            replied : has_replied (step a n) n due ≡ not (is_look (effect a n.class p.ring q).outcome)
            replied =
                ap (λ (o : Option Entry). not (is_some o && (unwrap_or (place_of (step a n) n) 0 == due.place))) (due_access ∙ access_is)
                ∙ ap (λ (m : ℕ). not (m == unwrap_or (place_of a n) 0)) place_ask
                ∙ ap (λ (m : ℕ). not ((settled p (effect a n.class p.ring q).outcome).place == m)) place_is
                ∙ ap not (by_look (is_look (effect a n.class p.ring q).outcome) refl)
              where
                by_look : (t : Bool) → is_look (effect a n.class p.ring q).outcome ≡ t → ((settled p (effect a n.class p.ring q).outcome).place == p.place) ≡ t
                by_look true f = eq-eqb _ p.place (look_place p (effect a n.class p.ring q).outcome f)
                by_look false f = ne_eqb _ p.place (λ g. (let h = settled_place p (effect a n.class p.ring q).outcome f in absurd (omega (arith, g, h))))

    -- each plan
    written_by : (z : Plan) → plan a.shared n.class p ≡ z → entries_after (step a n) n due ≡ entries_by (record { who = n; before = a; deed = deed_of a n p z }) (instr_at a.shared p.script p.place) (Some number)
    written_by (Own q) e = own_entries q e
    written_by (Begin child) e = begin_entries child e
    written_by (Ask q) e = elim (named_by a n.class p a.shared (instr_at a.shared p.script p.place) q e) [
      | inl x ↦ named_written q e x
      | inr x ↦ printed_written q e x (known_in q) ∙ ap (λ (xs : List Access). with_reply n number (is_replied (Some (q, (effect a n.class p.ring q).outcome))) (access_entries n number (known_in q) xs) (reply_code a n (instr_at a.shared p.script p.place)))
          (sym (ap (λ (q : Request). accesses a n.class q (effect a n.class p.ring q).outcome) x.request_is))
    ]

-- what is written down of a step is its entries
abbrev Written : State → ProcName → Option Due → Type 0
Written a n due = option_map_or (λ (x : Due). entries_after (step a n) n x) due [] ≡ step_entries a n

written_live : (a : State) (n : ProcName) (p : Process) → process_at a n ≡ Some p → p.live ≡ true → (o : Option ℕ) → reply_number (instr_at a.shared p.script p.place) ≡ o → Written a n (due_of a n)
written_live a n p there live o e =
    ap (λ (x : Option Instr). shown (option_and_then (λ (i : Instr). due_by a n i (reply_number i)) x)) (next_is a n p there live 0)
    ∙ ap (λ (x : Option ℕ). shown (due_by a n (instr_at a.shared p.script p.place) x)) e
    ∙ by_number o e
    ∙ sym (ap (λ (x : Option Deed). flat_map effect_entries (happened a n x [])) (deed_is a n p there live)
    ∙ append-nil (effect_entries h)
    ∙ ap (λ (x : Option Instr). option_map_or (λ (i : Instr). entries_by h i (reply_number i)) x []) (next_is a n p there live 0)
    ∙ ap (λ (x : Option ℕ). entries_by h (instr_at a.shared p.script p.place) x) e)
  where
    h : Happened
    h = record { who = n; before = a; deed = deed_of a n p (plan a.shared n.class p) }

    shown : Option Due → List Entry
    shown due = option_map_or (λ (x : Due). entries_after (step a n) n x) due []

    by_number : (o : Option ℕ) → reply_number (instr_at a.shared p.script p.place) ≡ o → shown (due_by a n (instr_at a.shared p.script p.place) o) ≡ entries_by h (instr_at a.shared p.script p.place) o
    by_number None e = refl
    by_number (Some number) e = written_by a n p there live number e (plan a.shared n.class p) refl

pub written : (a : State) (n : ProcName) → Written a n (due_of a n)
written a n = by_process (process_at a n) refl
  where
    none : next_instr a n ≡ None → deed a n ≡ None → Written a n (due_of a n)
    none e f =
        ap (λ (x : Option Instr). option_map_or (λ (x : Due). entries_after (step a n) n x) (option_and_then (λ (i : Instr). due_by a n i (reply_number i)) x) []) e
        ∙ sym (ap (λ (x : Option Deed). flat_map effect_entries (happened a n x [])) f)

    by_process : (o : Option Process) → process_at a n ≡ o → Written a n (due_of a n)
    by_process None e = none (ap (next_of a.shared) e) (ap (deed_by a n) e)
    by_process (Some p) e = by_live p.live refl
      where
        by_live : (t : Bool) → p.live ≡ t → Written a n (due_of a n)
        by_live true f = written_live a n p e f (reply_number (instr_at a.shared p.script p.place)) refl
        by_live false f = none (ap (next_of a.shared) e ∙ ap (λ (t : Bool). if t then Some (instr_at a.shared p.script p.place) else None) f) (no_deed a n p e f)

pub written_some : (a : State) (n : ProcName) (x : Due) → due_of a n ≡ Some x → entries_after (step a n) n x ≡ step_entries a n
written_some a n x e = sym (ap (λ (o : Option Due). option_map_or (λ (x : Due). entries_after (step a n) n x) o []) e) ∙ written a n

pub written_none : (a : State) (n : ProcName) → due_of a n ≡ None → [] ≡ step_entries a n
written_none a n e = sym (ap (λ (o : Option Due). option_map_or (λ (x : Due). entries_after (step a n) n x) o []) e) ∙ written a n
