-- What the deed of an instruction comes to, by the first test of its row that holds.
use Rattle.std.proofs.Common.{ℕ, zero, suc, ◌+◌, ◌%◌, ◌^◌, ◌<◌, ◌≢◌, Bool, true, false, not, ◌&&◌, ◌||◌, List, [], ◌∷◌, ◌++◌, length, ◌≡◌, refl, sym, ap, subst, ◌∙◌, Option, Some, None, ◌⊎◌, inl, inr, arith}
use Rattle.std.specs.Prelude.{◌==◌, if◌then◌else◌, nat_le, nat_lt, is_none, slice_get, slice_index, slice_index_or, slice_set, replicate, unwrap_or}
use Rattle.std.specs.List.{position}
use Rattle.std.proofs.lemmas.Bool.{eq-eqb}
use Rattle.std.proofs.lemmas.List.{get_or-set_same, get_or-set_other}
use Rattle.std.proofs.lemmas.List.Quantifiers.{position-Some}
use Rattle.lists.specs.Lists.{overwrite, part_of}
use Rattle.rings.specs.Brackets.{Brackets, call_ring, may_read}
use Rattle.words_layout.specs.Segments.{seg}
use Rattle.words_layout.specs.declared.coding.Alias.{Alias}
use Rattle.labels.specs.Label.{label_of}
use Rattle.policy.specs.Known.{Known, new_alias, alias_brackets, known_by, rights_of}
use Rattle.policy.specs.Outcome.{Outcome, Refused, Value, Learns, Words, Printed, Looked, Counted, Tally, judged, shown, components}
use Rattle.policy.specs.Private.{read_tests, make_known_tests, brackets_of, create_tests, delete_tests, swap_in_tests, swap_out_tests, fetch_tests, update_tests, advance_tests, ticket_tests}
use Rattle.policy.specs.Verdict.{first_broken, ◌⇒◌, verdict}
use Rattle.policy.specs.declared.rule.Rule.{Rule}
use Rattle.policy.specs.declared.rule.Rule.TheVariants.{UnknownSegno, NoEntry, NotEmpty, RingRead, BadEntry, BadMode, ConsoleFull, NoSlot, KstFull, NoScript, RingCall, StackFull, StackEmpty}
use Rattle.script_lang.specs.declared.instr.Instr.{Instr}
use Rattle.script_lang.specs.declared.instr.Instr.TheVariants as I
use Rattle.class_model.specs.Config.{Script, Gate, flows}
use Rattle.class_model.specs.Process.{Process, ProcName, Return, reg, known_at, usable_at, tally_of, free_known, refused, answered, learned, settled, new_process}
use Rattle.class_model.specs.Plan.{Own, Begin, Ask, Request, MakeKnown, Create, Delete, SwapIn, SwapOut, Fetch, Update, Read, Advance, Ticket, Out, tried, of_known, called, call, returned, spawned, forgotten, plan_of}
use Rattle.class_model.specs.State.{State, Part, with_process, with_cell, with_component, In, Stored, live_words, entry_at, cell_of, component_at, has_entry}
use Rattle.class_model.specs.Step.{Deed, Effect, chosen, unless, deed_of, asked, begun, out_effect, delete_effect, with_entry, emptied, deleted}
use Rattle.refusal_laws.specs.Rows.{call_row, spawn_row, known_row, entry_row, delete_row, state_row, row_of}
use Rattle.refusal_laws.specs.Refusals.{used_up, IsGranted}
use Rattle.refusal_laws.proofs.First.{or_else, first_append}

-- the code of an answer is 0
code_zero : (regs : List ℕ) (v : ℕ) → slice_index (slice_set (slice_set regs 0 0) 1 v) 0 ≡ 0
code_zero [] v = refl
code_zero (x ∷ []) v = refl
code_zero (x ∷ y ∷ regs) v = refl

none_or_some : {X : Type 0} (o : Option X) (x : X) → is_none o ≡ true → o ≡ Some x → ⊥
none_or_some None x a b = cc
none_or_some (Some y) x a b = cc

-- what isn't a refusal
a_value : (v : ℕ) (by : Rule) → Value v ≡ Refused by → ⊥
a_value v by e = cc

the_words : (pad : ℕ) (words : List ℕ) (by : Rule) → Words pad words ≡ Refused by → ⊥
the_words pad words by e = cc

-- the rule of a refusal that was shown
abbrev rule_in : Rule → Option (Request × Outcome) → Rule
rule_in rule (Some (q, Refused by)) = by
rule_in rule _ = rule

-- a slot that holds a process is one of the list
slot_inside : (slots : List (Option Process)) (i : ℕ) (p : Process) → slice_index_or slots i None ≡ Some p → i < length slots
slot_inside [] i p h = absurd (cc)
slot_inside (x ∷ xs) zero p h = omega arith
slot_inside (x ∷ xs) (suc i) p h = let n : i < length xs = slot_inside xs i p h in omega (arith, n)

module _ (a : State) (n : ProcName) (p : Process) (there : slice_index_or ((a.part n.class).slots n.processor) n.slot None ≡ Some p) where
  abbrev d : ℕ
  d = n.class

  abbrev part : Part
  part = a.part n.class

  -- what stands in the slot of the process
  abbrev own : Part → Option Process
  own x = slice_index_or (x.slots n.processor) n.slot None

  -- a deed answers a row: by the refusal, and nothing else changes; or it isn't one
  abbrev pub Answers : (Part → Part) → (Process → Type 0) → Option Rule → Deed → Type 0
  Answers uses Granted (Some rule) y = (y.part ≡ with_process (uses part) n.processor n.slot (refused p rule)) ×
      ((q : Request) (by : Rule) → y.asked ≡ Some (q, Refused by) → by ≡ rule)
  Answers uses Granted None y = ((after : Process) → own y.part ≡ Some after → Granted after) ×
      ((q : Request) (by : Rule) → y.asked ≡ Some (q, Refused by) → ⊥)

  abbrev alone : Part → Part
  alone x = x

  -- the process that was put into the slot
  mine : (slots : List (Option Process)) (q : Process) → n.slot < length slots → slice_index_or (slice_set slots n.slot (Some q)) n.slot None ≡ Some q
  mine slots q lt = get_or-set_same slots n.slot (Some q) None lt

  inside : n.slot < length (part.slots n.processor)
  inside = slot_inside (part.slots n.processor) n.slot p there

  -- the slot after the process was put there, where no other slot has changed
  put_mine : (x : Part) → x.slots n.processor ≡ part.slots n.processor → (q : Process) → own (with_process x n.processor n.slot q) ≡ Some q
  put_mine x e q = rw (eq-eqb n.processor n.processor refl) (mine (x.slots n.processor) q (rw e inside))

  is_it : (Granted : Process → Type 0) (q : Process) → Granted q → (o : Option Process) → o ≡ Some q → (after : Process) → o ≡ Some after → Granted after
  is_it Granted q g o e after f = let one : q ≡ after = cc in subst Granted one g

  module _ (Granted : Process → Type 0) where
    own_refused : (rule : Rule) → Answers alone Granted (Some rule) (deed_of a n p (Own (refused p rule)))
    own_refused rule = (refl, λ q by e. absurd (cc))

    own_granted : (q : Process) → Granted q → Answers alone Granted None (deed_of a n p (Own q))
    own_granted q g = (is_it Granted q g (own (with_process part n.processor n.slot q)) (put_mine part refl q), λ r by e. absurd (cc))

    asked_refused : (q : Request) (rule : Rule) → Answers alone Granted (Some rule) (asked n p q (record { part = part; outcome = Refused rule }))
    asked_refused q rule = (refl, λ r by e. sym (ap (rule_in rule) e))

    asked_granted : (q : Request) (e : Effect) → e.part.slots n.processor ≡ part.slots n.processor → ((by : Rule) → e.outcome ≡ Refused by → ⊥) → Granted (settled p e.outcome) →
        Answers alone Granted None (asked n p q e)
    asked_granted q e slots other g = (
      is_it Granted (settled p e.outcome) g (own (with_process e.part n.processor n.slot (settled p e.outcome))) (put_mine e.part slots (settled p e.outcome)),
      λ r by f. other by (ap (λ (x : Request × Outcome). x.1) (some_same f)),
    )
      where
        some_same : {X : Type 0} {x y : X} → Some x ≡ Some y → x ≡ y
        some_same f = cc

    -- an effect behind tests of the state
    chosen_answers : (q : Request) (tests : List (Bool × Rule)) (e : Effect) → e.part.slots n.processor ≡ part.slots n.processor → ((by : Rule) → e.outcome ≡ Refused by → ⊥) → Granted (settled p e.outcome) →
        Answers alone Granted (first_broken tests) (asked n p q (unless part tests e))
    chosen_answers q tests e slots other g = by_rule (first_broken tests)
      where
        by_rule : (o : Option Rule) → Answers alone Granted o (asked n p q (chosen part o e))
        by_rule None = asked_granted q e slots other g
        by_rule (Some rule) = asked_refused q rule

    -- what is asked of a known segment, behind its private tests
    known_answers : (o : Option Known) (tests : Known → List (Bool × Rule)) (request : Known → Request) →
        ((k : Known) → first_broken (tests k) ≡ None → Answers alone Granted (first_broken (state_row a d p.ring (request k))) (deed_of a n p (Ask (request k)))) →
        Answers alone Granted (first_broken (known_row a n p o tests request)) (deed_of a n p (of_known p o tests request))
    known_answers None tests request h = own_refused UnknownSegno
    known_answers (Some k) tests request h = rw (first_append (tests k) (state_row a d p.ring (request k))) (by_tests (first_broken (tests k)) refl)
      where
        by_tests : (o : Option Rule) → first_broken (tests k) ≡ o → Answers alone Granted (or_else o (first_broken (state_row a d p.ring (request k)))) (deed_of a n p (tried p o (Ask (request k))))
        by_tests None e = h k e
        by_tests (Some rule) e = own_refused rule

  -- the reply of most instructions
  abbrev Zero : Process → Type 0
  Zero after = reg after 0 ≡ 0

  answer_zero : (q : Process) (v : ℕ) → Zero (answered q v)
  answer_zero q v = code_zero q.regs v

  value_zero : (v : ℕ) → Zero (settled p (Value v))
  value_zero v = answer_zero p v

  words_zero : (pad : ℕ) (words : List ℕ) → Zero (settled p (Words pad words))
  words_zero pad words = answer_zero (record p { pad = overwrite p.pad pad words }) (length words)

  -- ---- instructions that ask nothing of the state

  call_answers : (o : Option Gate) → Answers alone Zero (first_broken (call_row a.shared d p o)) (deed_of a n p (Own (call a.shared d p o)))
  call_answers None = own_refused Zero NoScript
  call_answers (Some gate) = by_class (flows a.shared gate.class d)
    where
      by_depth : (ring : ℕ) (b : Bool) → Answers alone Zero (if b then Some StackFull else None)
          (deed_of a n p (Own (if b then refused p StackFull else record (answered p ring) {
            script = gate.script;
            place = 0;
            ring = ring;
            stack = record { script = p.script; place = p.place + 1; ring = p.ring } ∷ p.stack;
          })))
      by_depth ring true = own_refused Zero StackFull
      by_depth ring false = own_granted Zero _ (answer_zero p ring)

      by_ring : (o : Option ℕ) → Answers alone Zero (if is_none o then Some RingCall else if nat_le 8 (length p.stack) then Some StackFull else None) (deed_of a n p (Own (called p gate o)))
      by_ring None = own_refused Zero RingCall
      by_ring (Some ring) = by_depth ring (nat_le 8 (length p.stack))

      by_class : (b : Bool) → Answers alone Zero
          (if not b then Some NoScript else if is_none (call_ring gate.brackets p.ring) then Some RingCall else if nat_le 8 (length p.stack) then Some StackFull else None)
          (deed_of a n p (Own (if b then called p gate (call_ring gate.brackets p.ring) else refused p NoScript)))
      by_class true = by_ring (call_ring gate.brackets p.ring)
      by_class false = own_refused Zero NoScript

  return_answers : (stack : List Return) → Answers alone (λ after. after.regs ≡ p.regs) (if is_none (slice_get stack 0) then Some StackEmpty else None) (deed_of a n p (Own (returned p stack)))
  return_answers [] = own_refused (λ after. after.regs ≡ p.regs) StackEmpty
  return_answers (back ∷ stack) = own_granted (λ after. after.regs ≡ p.regs) _ refl

  begun_answers : (child : Process) (o : Option ℕ) → position (λ q. is_none q) (part.slots n.processor) ≡ o →
      Answers alone Zero (if is_none o then Some NoSlot else None) (record { part = begun part n p child o; asked = None })
  begun_answers child None e = (refl, λ q by f. absurd (cc))
  begun_answers child (Some slot) e = (is_it Zero (answered p slot) (answer_zero p slot) (own (with_process (with_process part n.processor n.slot (answered p slot)) n.processor slot child)) still, λ q by f. absurd (cc))
    where
      free : (slot < length (part.slots n.processor)) × (is_none (slice_index_or (part.slots n.processor) slot None) ≡ true) × ((m : ℕ) → m < slot → is_none (slice_index_or (part.slots n.processor) m None) ≡ false)
      free = position-Some (λ q. is_none q) (part.slots n.processor) slot None e

      other : n.slot ≢ slot
      other f = none_or_some (slice_index_or (part.slots n.processor) slot None) p free.1 (rw f at there)

      still : own (with_process (with_process part n.processor n.slot (answered p slot)) n.processor slot child) ≡ Some (answered p slot)
      still = rw (eq-eqb n.processor n.processor refl)
          (get_or-set_other (slice_set (part.slots n.processor) n.slot (Some (answered p slot))) slot n.slot (Some child) None other
          ∙ mine (part.slots n.processor) (answered p slot) inside)

  spawn_answers : (script b : ℕ) (o : Option Script) → Answers alone Zero (first_broken (spawn_row a.shared d (part.slots n.processor) o)) (deed_of a n p (spawned a.shared d p script b o))
  spawn_answers script b None = own_refused Zero NoScript
  spawn_answers script b (Some x) = by_class (flows a.shared x.class d)
    where
      by_class : (t : Bool) → Answers alone Zero (if not t then Some NoScript else if is_none (position (λ q. is_none q) (part.slots n.processor)) then Some NoSlot else None)
          (deed_of a n p (if t then Begin (new_process d script p.ring b) else Own (refused p NoScript)))
      by_class true = begun_answers (new_process d script p.ring b) (position (λ q. is_none q) (part.slots n.processor)) refl
      by_class false = own_refused Zero NoScript

  forget_answers : (segno : ℕ) (o : Option Known) → Answers alone Zero (if is_none o then Some UnknownSegno else None) (deed_of a n p (Own (forgotten p segno o)))
  forget_answers segno None = own_refused Zero UnknownSegno
  forget_answers segno (Some k) = own_granted Zero _ (answer_zero (record p { known = slice_set p.known segno None }) 0)

  -- ---- makeknown, and delete, by what stands in the entry

  -- the private tests have found an empty known place
  found_place : (ring entry mode : ℕ) (k : Known) (o : Option ℕ) → first_broken (make_known_tests ring entry mode (is_none o) k) ≡ None → (place : ℕ) × (o ≡ Some place)
  found_place ring entry mode k (Some place) e = (place, refl)
  found_place ring entry mode k None e = absurd (by_ring (may_read k.brackets ring) (nat_lt 7 entry) (mode == 1 || mode == 2 || mode == 3) e)
    where
      by_ring : (r b m : Bool) → first_broken ((not r ⇒ RingRead) ∷ (b ⇒ BadEntry) ∷ (not m ⇒ BadMode) ∷ (true ⇒ KstFull) ∷ []) ≡ None → ⊥
      by_ring true true m f = cc
      by_ring true false true f = cc
      by_ring true false false f = cc
      by_ring false b m f = cc

  learned_zero : (k : Known) (o : Option ℕ) → ((place : ℕ) × (o ≡ Some place)) → Zero (learned p k o)
  learned_zero k (Some place) h = answer_zero (record p { known = slice_set p.known place (Some k) }) place
  learned_zero k None h = absurd (none_or_some None h.0 refl h.1)

  entry_answers : (k : Known) (e mode : ℕ) (o : Option Alias) → ((place : ℕ) × (free_known p ≡ Some place)) →
      Answers alone Zero (first_broken (entry_row a.shared d p.ring mode o)) (asked n p (MakeKnown k e mode) (record { part = part; outcome = shown a.shared.table d p.ring k.class mode o }))
  entry_answers k e mode None found = asked_refused Zero (MakeKnown k e mode) NoEntry
  entry_answers k e mode (Some x) found = by_verdict (verdict (label_of a.shared.table d) p.ring (label_of a.shared.table x.class) (alias_brackets x) mode)
    where
      by_verdict : (o : Option Rule) → Answers alone Zero o (asked n p (MakeKnown k e mode) (record { part = part; outcome = judged o (known_by k.class x (rights_of mode)) }))
      by_verdict None = asked_granted Zero (MakeKnown k e mode) (record { part = part; outcome = Learns (known_by k.class x (rights_of mode)) }) refl (λ by f. absurd (cc)) (learned_zero (known_by k.class x (rights_of mode)) (free_known p) found)
      by_verdict (Some rule) = asked_refused Zero (MakeKnown k e mode) rule

  delete_answers : (k : Known) (e : ℕ) (o : Option Alias) →
      Answers alone Zero (first_broken (delete_row d (λ (x : Alias). part.cell (seg d x.serial)) o)) (asked n p (Delete k e) (delete_effect d part k.seg e o))
  delete_answers k e None = asked_refused Zero (Delete k e) NoEntry
  delete_answers k e (Some x) = chosen_answers Zero (Delete k e) ((x.class == d && has_entry (part.cell (seg d x.serial)) ⇒ NotEmpty) ∷ [])
      (record { part = emptied (if x.class == d then deleted part (seg d x.serial) else part) k.seg e; outcome = Value 0 }) (slots_kept (x.class == d)) (λ by f. absurd (cc)) (value_zero 0)
    where
      slots_kept : (b : Bool) → (emptied (if b then deleted part (seg d x.serial) else part) k.seg e).slots n.processor ≡ part.slots n.processor
      slots_kept true = refl
      slots_kept false = refl

  -- ---- the other gates

  create_answers : (k : Known) (e class : ℕ) (b : Brackets) (size : ℕ) →
      Answers alone Zero (first_broken (state_row a d p.ring (Create k e class b size))) (deed_of a n p (Ask (Create k e class b size)))
  create_answers k e class b size = chosen_answers Zero (Create k e class b size) (state_row a d p.ring (Create k e class b size))
      (record {
        part = record (with_cell part k.seg (with_entry (part.cell k.seg) e (Some (new_alias class b size part.next_serial)))) { next_serial = part.next_serial + 1 };
        outcome = Value part.next_serial;
      }) refl (a_value part.next_serial) (value_zero part.next_serial)

  swap_in_answers : (k : Known) → Answers alone Zero (first_broken (state_row a d p.ring (SwapIn k))) (deed_of a n p (Ask (SwapIn k)))
  swap_in_answers k = chosen_answers Zero (SwapIn k) (state_row a d p.ring (SwapIn k))
      (record { part = with_cell part k.seg (record (part.cell k.seg) { home = In (unwrap_or (part.cell k.seg).stored (replicate k.size 0)) }); outcome = Value 0 })
      refl (a_value 0) (value_zero 0)

  swap_out_answers : (k : Known) → Answers alone Zero (first_broken (state_row a d p.ring (SwapOut k))) (deed_of a n p (Ask (SwapOut k)))
  swap_out_answers k = chosen_answers Zero (SwapOut k) (state_row a d p.ring (SwapOut k))
      (record { part = with_cell part k.seg (record (part.cell k.seg) { home = Stored; stored = Some (live_words (part.cell k.seg)) }); outcome = Value 0 })
      refl (a_value 0) (value_zero 0)

  fetch_answers : (k : Known) (offset count pad : ℕ) → Answers alone Zero (first_broken (state_row a d p.ring (Fetch k offset count pad))) (deed_of a n p (Ask (Fetch k offset count pad)))
  fetch_answers k offset count pad = let words = part_of (live_words (cell_of a k)) offset count in
      chosen_answers Zero (Fetch k offset count pad) (state_row a d p.ring (Fetch k offset count pad)) (record { part = part; outcome = Words pad words })
      refl (the_words pad words) (words_zero pad words)

  update_answers : (k : Known) (offset : ℕ) (words : List ℕ) → Answers alone Zero (first_broken (state_row a d p.ring (Update k offset words))) (deed_of a n p (Ask (Update k offset words)))
  update_answers k offset words = let writes = (part.cell k.seg).writes + 1 in
      chosen_answers Zero (Update k offset words) (state_row a d p.ring (Update k offset words))
      (record { part = with_cell part k.seg (record (part.cell k.seg) { home = In (overwrite (live_words (part.cell k.seg)) offset words); writes = writes }); outcome = Value writes })
      refl (a_value writes) (value_zero writes)

  advance_answers : (k : Known) → Answers alone Zero None (deed_of a n p (Ask (Advance k)))
  advance_answers k = let count = part.component k.class k.seg + 1 in
      asked_granted Zero (Advance k) (record { part = with_component part k.class k.seg count; outcome = Value count }) refl (a_value count) (value_zero count)

  ticket_answers : (k : Known) → Answers alone Zero None (deed_of a n p (Ask (Ticket k)))
  ticket_answers k = let number = (part.cell k.seg).sequencer in
      asked_granted Zero (Ticket k) (record { part = with_cell part k.seg (record (part.cell k.seg) { sequencer = number + 1 }); outcome = Value number })
      refl (a_value number) (value_zero number)

  -- ---- read and await

  abbrev Looks : Process → Type 0
  Looks after = (reg after 0 ≡ 0) ⊎ (after ≡ record p { look = after.look })

  look_answers : (k : Known) (wanted : ℕ) (t : Tally) → Answers alone Looks None (deed_of a n p (Ask (Read k wanted t)))
  look_answers k wanted t = by_outcome _ (by_seen (nat_lt (t.seen + 1) (length (components a.shared.table k.class))))
    where
      IsLook : Outcome → Type 0
      IsLook o = ((by : Rule) → o ≡ Refused by → ⊥) × Looks (settled p o)

      sum : ℕ
      sum = (t.sum + component_at a (slice_index (components a.shared.table k.class) t.seen) k.class k.seg) % 2 ^ 64

      by_wanted : (b : Bool) → IsLook (if b then Looked None else Counted sum)
      by_wanted true = (λ by f. absurd (cc), inr refl)
      by_wanted false = (λ by f. absurd (cc), inl (answer_zero (record p { look = None }) sum))

      by_seen : (b : Bool) → IsLook (if b then Looked (Some (record { seen = t.seen + 1; sum = sum })) else (if nat_lt sum wanted then Looked None else Counted sum))
      by_seen true = (λ by f. absurd (cc), inr refl)
      by_seen false = by_wanted (nat_lt sum wanted)

      by_outcome : (o : Outcome) → IsLook o → Answers alone Looks None (asked n p (Read k wanted t) (record { part = part; outcome = o }))
      by_outcome o h = asked_granted Looks (Read k wanted t) (record { part = part; outcome = o }) refl h.0 h.1

  -- ---- out

  out_answers : (r value : ℕ) → Answers (used_up (I.Out r)) Zero (first_broken ((not (nat_lt part.used a.shared.console) ⇒ ConsoleFull) ∷ []))
      (asked n p (Out value) (out_effect a.shared part value))
  out_answers r value = by_place (nat_lt part.used a.shared.console)
    where
      full : Answers (used_up (I.Out r)) Zero (Some ConsoleFull)
          (asked n p (Out value) (record { part = record part { used = part.used + 1 }; outcome = Refused ConsoleFull }))
      full = (refl, λ q by e. sym (ap (rule_in ConsoleFull) e))

      by_place : (b : Bool) → Answers (used_up (I.Out r)) Zero (if not b then Some ConsoleFull else None)
          (asked n p (Out value) (if b then record { part = record part { lines = part.lines ++ value ∷ []; used = part.used + 1 }; outcome = Printed part.used value }
          else record { part = record part { used = part.used + 1 }; outcome = Refused ConsoleFull }))
      by_place true = asked_granted Zero (Out value) (record { part = record part { lines = part.lines ++ value ∷ []; used = part.used + 1 }; outcome = Printed part.used value }) refl (λ by f. absurd (cc)) (answer_zero p part.used)
      by_place false = full

  -- ---- each instruction

  own_free : (q : Process) → Answers alone (λ after. Unit {0}) None (deed_of a n p (Own q))
  own_free q = own_granted (λ after. Unit {0}) q tt

  pub answers : (x : Instr) → Answers (used_up x) (IsGranted p x) (first_broken (row_of a n p x)) (deed_of a n p (plan_of a.shared d p x))
  answers I.Halt = own_free _
  answers (I.Set r v) = own_free _
  answers (I.Copy r b) = own_free _
  answers (I.Add r b) = own_free _
  answers (I.Sub r b) = own_free _
  answers (I.Jump to) = own_free _
  answers (I.JumpZ r to) = own_free _
  answers (I.JumpL r b to) = own_free _
  answers (I.Get r b) = own_free _
  answers (I.Put r b) = own_free _
  answers (I.Call g) = call_answers (slice_index_or a.shared.gates g None)
  answers I.Ret = return_answers p.stack
  answers (I.Spawn script b) = spawn_answers script (reg p b) (slice_index_or a.shared.scripts script None)
  answers (I.Terminate r) = forget_answers (reg p r) (known_at p (reg p r))
  answers (I.MakeKnown r e mode) = known_answers Zero (usable_at p (reg p r)) (make_known_tests p.ring (reg p e) (reg p mode) (is_none (free_known p))) (λ k. MakeKnown k (reg p e) (reg p mode))
      (λ k none. entry_answers k (reg p e) (reg p mode) (entry_at (cell_of a k) (reg p e)) (found_place p.ring (reg p e) (reg p mode) k (free_known p) none))
  answers (I.Create r e class brackets size) = known_answers Zero (usable_at p (reg p r)) (create_tests a.shared.table p.ring (reg p e) (reg p class) (reg p brackets) (reg p size))
      (λ k. Create k (reg p e) (reg p class) (brackets_of (reg p brackets)) (reg p size))
      (λ k none. create_answers k (reg p e) (reg p class) (brackets_of (reg p brackets)) (reg p size))
  answers (I.Delete r e) = known_answers Zero (usable_at p (reg p r)) (delete_tests p.ring (reg p e)) (λ k. Delete k (reg p e))
      (λ k none. delete_answers k (reg p e) (entry_at (part.cell k.seg) (reg p e)))
  answers (I.SwapIn r) = known_answers Zero (usable_at p (reg p r)) (swap_in_tests p.ring) (λ k. SwapIn k) (λ k none. swap_in_answers k)
  answers (I.SwapOut r) = known_answers Zero (usable_at p (reg p r)) (swap_out_tests p.ring) (λ k. SwapOut k) (λ k none. swap_out_answers k)
  answers (I.Fetch r offset count pad) = known_answers Zero (usable_at p (reg p r)) (fetch_tests p.ring (reg p offset) (reg p count) (reg p pad))
      (λ k. Fetch k (reg p offset) (reg p count) (reg p pad)) (λ k none. fetch_answers k (reg p offset) (reg p count) (reg p pad))
  answers (I.Update r offset count pad) = known_answers Zero (usable_at p (reg p r)) (update_tests p.ring (reg p offset) (reg p count) (reg p pad))
      (λ k. Update k (reg p offset) (part_of p.pad (reg p pad) (reg p count))) (λ k none. update_answers k (reg p offset) (part_of p.pad (reg p pad) (reg p count)))
  answers (I.Read r) = known_answers Looks (usable_at p (reg p r)) (read_tests p.ring) (λ k. Read k 0 (tally_of p)) (λ k none. look_answers k 0 (tally_of p))
  answers (I.Await r b) = known_answers Looks (usable_at p (reg p r)) (read_tests p.ring) (λ k. Read k (reg p b) (tally_of p)) (λ k none. look_answers k (reg p b) (tally_of p))
  answers (I.Advance r) = known_answers Zero (known_at p (reg p r)) (advance_tests p.ring) (λ k. Advance k) (λ k none. advance_answers k)
  answers (I.Ticket r) = known_answers Zero (usable_at p (reg p r)) (ticket_tests p.ring) (λ k. Ticket k) (λ k none. ticket_answers k)
  answers (I.Out r) = out_answers r (reg p r)
