-- A reply leaves a small number in r0: 0, or the number of a rule.
use Rattle.std.proofs.Common.{ℕ, ◌+◌, ◌<◌, ◌≡◌, Bool, true, false, List, [], ◌∷◌, length, refl, subst, Option, Some, None, arith}
use Rattle.std.specs.Prelude.{if◌then◌else◌, nat_lt, nat_le, slice_index, slice_index_or, slice_set}
use Rattle.std.proofs.lemmas.Bool.{lt-ltb}
use Rattle.policy.specs.Known.{Known}
use Rattle.policy.specs.Outcome.{Outcome, Refused, Value, Learns, Words, Printed, Looked, Counted}
use Rattle.policy.specs.Verdict.{number, first_broken}
use Rattle.policy.specs.declared.rule.Rule.{Rule}
use Rattle.policy.specs.declared.rule.Rule.TheVariants.{UnknownSegno, KstFull, BadEntry, NoEntry, EntryTaken, SecrecyRead, IntegrityRead, SecrecyWrite, IntegrityWrite, RingRead, RingWrite, RingCall, NotModify, Compat, BadClass, BadBrackets, BadSize, Bounds, Gone, NotIn, AlreadyIn, NoFrame, NoPage, SerialsUsed, NotEmpty, ConsoleFull, NoSlot, NoScript, StackFull, StackEmpty, BadMode}
use Rattle.script_lang.specs.declared.instr.Instr.{Instr}
use Rattle.script_lang.specs.declared.instr.Instr.TheVariants as I
use Rattle.class_model.specs.Config.{Shared, Script, Gate, flows}
use Rattle.class_model.specs.Passing.{passes_by}
use Rattle.class_model.specs.Process.{Process, Return, reg, reply, refused, answered, learned, settled, free_known, new_process, known_at, usable_at}
use Rattle.class_model.specs.Plan.{Own, Begin, Ask, Request, plan_of, of_known, tried, spawned, called, call, returned, forgotten}
use Rattle.rings.specs.Brackets.{call_ring}
use Rattle.audit_trail.specs.Instructions.{reply_number}
use Rattle.audit_trail.specs.Dues.{goes_back}

-- the number of a rule
small_rule : (r : Rule) → number r < 256
small_rule UnknownSegno = omega arith
small_rule KstFull = omega arith
small_rule BadEntry = omega arith
small_rule NoEntry = omega arith
small_rule EntryTaken = omega arith
small_rule SecrecyRead = omega arith
small_rule IntegrityRead = omega arith
small_rule SecrecyWrite = omega arith
small_rule IntegrityWrite = omega arith
small_rule RingRead = omega arith
small_rule RingWrite = omega arith
small_rule RingCall = omega arith
small_rule NotModify = omega arith
small_rule Compat = omega arith
small_rule BadClass = omega arith
small_rule BadBrackets = omega arith
small_rule BadSize = omega arith
small_rule Bounds = omega arith
small_rule Gone = omega arith
small_rule NotIn = omega arith
small_rule AlreadyIn = omega arith
small_rule NoFrame = omega arith
small_rule NoPage = omega arith
small_rule SerialsUsed = omega arith
small_rule NotEmpty = omega arith
small_rule ConsoleFull = omega arith
small_rule NoSlot = omega arith
small_rule NoScript = omega arith
small_rule StackFull = omega arith
small_rule StackEmpty = omega arith
small_rule BadMode = omega arith

-- r0 of the process is small
abbrev pub Small : Process → Type 0
Small p = reg p 0 < 256

small_regs : (regs : List ℕ) (code value : ℕ) → code < 256 → slice_index (slice_set (slice_set regs 0 code) 1 value) 0 < 256
small_regs [] code value h = omega arith
small_regs (x ∷ []) code value h = h
small_regs (x ∷ y ∷ ys) code value h = h

pub small_reply : (p : Process) (code value : ℕ) → code < 256 → Small (reply p code value)
small_reply p code value h = small_regs p.regs code value h

pub small_refused : (p : Process) (r : Rule) → Small (refused p r)
small_refused p r = small_reply p (number r) 0 (small_rule r)

pub small_answered : (p : Process) (value : ℕ) → Small (answered p value)
small_answered p value = small_reply p 0 value (omega arith)

small_learned : (p : Process) (k : Known) (o : Option ℕ) → Small (learned p k o)
small_learned p k None = small_refused p KstFull
small_learned p k (Some place) = small_answered (record p { known = slice_set p.known place (Some k) }) place

-- a look that isn't the last one
abbrev pub is_look : Outcome → Bool
is_look (Looked t) = true
is_look _ = false

pub small_settled : (p : Process) (o : Outcome) → is_look o ≡ false → Small (settled p o)
small_settled p (Refused r) h = small_refused p r
small_settled p (Value v) h = small_answered p v
small_settled p (Learns k) h = small_learned p k (free_known p)
small_settled p (Words at ws) h = small_answered (record p { pad = Rattle.lists.specs.Lists.overwrite p.pad at ws }) (length ws)
small_settled p (Printed place v) h = small_answered p place
small_settled p (Looked t) h = cc
small_settled p (Counted sum) h = small_answered (record p { look = None }) sum

-- the place moves on unless it is such a look
learned_place : (p : Process) (k : Known) (o : Option ℕ) → (learned p k o).place ≡ p.place + 1
learned_place p k None = refl
learned_place p k (Some place) = refl

pub settled_place : (p : Process) (o : Outcome) → is_look o ≡ false → (settled p o).place ≡ p.place + 1
settled_place p (Refused r) h = refl
settled_place p (Value v) h = refl
settled_place p (Learns k) h = learned_place p k (free_known p)
settled_place p (Words at ws) h = refl
settled_place p (Printed place v) h = refl
settled_place p (Looked t) h = cc
settled_place p (Counted sum) h = refl

pub look_place : (p : Process) (o : Outcome) → is_look o ≡ true → (settled p o).place ≡ p.place
look_place p (Refused r) h = cc
look_place p (Value v) h = cc
look_place p (Learns k) h = cc
look_place p (Words at ws) h = cc
look_place p (Printed place v) h = cc
look_place p (Looked t) h = refl
look_place p (Counted sum) h = cc

-- a new process has r0 = 0
pub small_new : (d n ring start : ℕ) → Small (new_process d n ring start)
small_new d n ring start = omega arith

own_small : (q after : Process) → Small q → Own q ≡ Own after → Small after
own_small q after h e = let same : q ≡ after = cc in subst Small same h

module _ (s : Shared) (d : ℕ) (p : Process) where
  known_small : (o : Option Known) (tests : Known → List (Bool × Rule)) (request : Known → Request) (after : Process) → of_known p o tests request ≡ Own after → Small after
  known_small None tests request after h = own_small _ after (small_refused p UnknownSegno) h
  known_small (Some k) tests request after h = by_rule (first_broken (tests k)) h
    where
      by_rule : (r : Option Rule) → tried p r (Ask (request k)) ≡ Own after → Small after
      by_rule None h = cc
      by_rule (Some rule) h = own_small _ after (small_refused p rule) h

  called_small : (g : Gate) (o : Option ℕ) → Small (called p g o)
  called_small g None = small_refused p RingCall
  called_small g (Some ring) = by_size (nat_le 8 (length p.stack))
    where
      inside : Process
      inside = record (answered p ring) { script = g.script; place = 0; ring = ring; stack = record { script = p.script; place = p.place + 1; ring = p.ring } ∷ p.stack }

      by_size : (b : Bool) → Small (if b then refused p StackFull else inside)
      by_size true = small_refused p StackFull
      by_size false = small_answered p ring

  call_small : (o : Option Gate) → Small (call s d p o)
  call_small None = small_refused p NoScript
  call_small (Some g) = by_test (flows s g.class d)
    where
      by_test : (b : Bool) → Small (if b then called p g (call_ring g.brackets p.ring) else refused p NoScript)
      by_test true = called_small g (call_ring g.brackets p.ring)
      by_test false = small_refused p NoScript

  spawned_small : (n start : ℕ) (o : Option Script) (after : Process) → spawned s d p n start o ≡ Own after → Small after
  spawned_small n start None after h = own_small _ after (small_refused p NoScript) h
  spawned_small n start (Some x) after h = by_test (flows s x.class d) h
    where
      by_test : (b : Bool) → (if b then Begin (new_process d n p.ring start) else Own (refused p NoScript)) ≡ Own after → Small after
      by_test true h = cc
      by_test false h = own_small _ after (small_refused p NoScript) h

  forgotten_small : (segno : ℕ) (o : Option Known) → Small (forgotten p segno o)
  forgotten_small segno None = small_refused p UnknownSegno
  forgotten_small segno (Some k) = small_answered (record p { known = slice_set p.known segno None }) 0

  -- a ret is refused, or passes
  returned_small : (free : Bool) (stack : List Return) (after : Process) → stack ≡ p.stack → Own (returned p stack) ≡ Own after → passes_by free p I.Ret (Own after) ≡ false → Small after
  returned_small free [] after e h f = own_small _ after (small_refused p StackEmpty) h
  returned_small free (back ∷ stack) after e h f =
      let same : record p { script = back.script; place = back.place; ring = back.ring; stack = stack } ≡ after = cc in
      let longer : nat_lt (length stack) (length (back ∷ stack)) ≡ true = lt-ltb (length stack) (length (back ∷ stack)) (omega arith) in
      let passes : nat_lt (length after.stack) (length p.stack) ≡ true = subst (λ (q : Process). nat_lt (length q.stack) (length p.stack) ≡ true) same (subst (λ (l : List Return). nat_lt (length stack) (length l) ≡ true) e longer) in
      absurd (true_false (nat_lt (length after.stack) (length p.stack)) passes f)
    where
      true_false : (b : Bool) → b ≡ true → b ≡ false → ⊥
      true_false true e f = cc
      true_false false e f = cc

  -- an instruction that gives a reply, and takes effect on the process alone, leaves a small r0, but for a ret that passes
  pub own_reply : (free : Bool) (i : Instr) (number : ℕ) (after : Process) → reply_number i ≡ Some number → plan_of s d p i ≡ Own after →
      (goes_back i ≡ true → passes_by free p i (Own after) ≡ false) → Small after
  own_reply free (I.Call g) number after r h back = own_small _ after (call_small (slice_index_or s.gates g None)) h
  own_reply free I.Ret number after r h back = returned_small free p.stack after refl h (back refl)
  own_reply free (I.Spawn n b) number after r h back = spawned_small n (reg p b) (slice_index_or s.scripts n None) after h
  own_reply free (I.Terminate a) number after r h back = own_small _ after (forgotten_small (reg p a) (known_at p (reg p a))) h
  own_reply free (I.MakeKnown a b c) number after r h back = known_small (usable_at p (reg p a)) _ _ after h
  own_reply free (I.Create a b c x e) number after r h back = known_small (usable_at p (reg p a)) _ _ after h
  own_reply free (I.Delete a b) number after r h back = known_small (usable_at p (reg p a)) _ _ after h
  own_reply free (I.SwapIn a) number after r h back = known_small (usable_at p (reg p a)) _ _ after h
  own_reply free (I.SwapOut a) number after r h back = known_small (usable_at p (reg p a)) _ _ after h
  own_reply free (I.Fetch a b c x) number after r h back = known_small (usable_at p (reg p a)) _ _ after h
  own_reply free (I.Update a b c x) number after r h back = known_small (usable_at p (reg p a)) _ _ after h
  own_reply free (I.Read a) number after r h back = known_small (usable_at p (reg p a)) _ _ after h
  own_reply free (I.Await a b) number after r h back = known_small (usable_at p (reg p a)) _ _ after h
  own_reply free (I.Advance a) number after r h back = known_small (known_at p (reg p a)) _ _ after h
  own_reply free (I.Ticket a) number after r h back = known_small (usable_at p (reg p a)) _ _ after h
  own_reply free (I.Out a) number after r h back = cc
  own_reply free _ number after r h back = cc

  -- a child has r0 = 0, and a spawn alone begins one
  pub begun_new : (n start : ℕ) (o : Option Script) (child : Process) → spawned s d p n start o ≡ Begin child → Small child
  begun_new n start None child h = cc
  begun_new n start (Some x) child h = by_test (flows s x.class d) h
    where
      by_test : (b : Bool) → (if b then Begin (new_process d n p.ring start) else Own (refused p NoScript)) ≡ Begin child → Small child
      by_test true h = let same : new_process d n p.ring start ≡ child = cc in subst Small same (small_new d n p.ring start)
      by_test false h = cc
