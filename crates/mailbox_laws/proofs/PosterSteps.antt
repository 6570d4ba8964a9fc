-- The steps of a poster: where it stands after each, and what it holds then.
use Rattle.std.proofs.Common.{ℕ, suc, zero, ◌+◌, ◌-◌, ◌%◌, ◌^◌, ◌<◌, ◌≤◌, Bool, true, false, List, [], ◌∷◌, ◌≡◌, refl, sym, ap, subst, ◌∙◌, Option, Some, None, ◌⊎◌, inl, inr, length, arith}
use Rattle.std.specs.Prelude.{slice_index_or, slice_set, not, ◌||◌, ◌==◌, is_none, nat_lt}
use Rattle.std.proofs.lemmas.Bool.{ne_eqb, ltb-false}
use Rattle.std.proofs.lemmas.List.{get_or-set_same, length-set}
use Rattle.std.proofs.lemmas.List.Quantifiers.{position-Some}
use Rattle.lists.specs.Lists.{part_of}
use Rattle.labels.specs.Label.{label_of}
use Rattle.rings.specs.Brackets.{may_write}
use Rattle.policy.specs.Known.{Known, rights_of, signals, modifies}
use Rattle.policy.specs.Outcome.{Outcome, Refused, Value, Learns, Looked, Counted, Tally}
use Rattle.policy.specs.Private.{read_tests, update_tests, advance_tests, ticket_tests, make_known_tests}
use Rattle.policy.specs.Verdict.{number, first_broken, verdict}
use Rattle.policy.specs.declared.rule.Rule.{Rule}
use Rattle.policy.specs.declared.rule.Rule.TheVariants.{KstFull, NotModify, RingWrite, Bounds}
use Rattle.script_lang.specs.declared.instr.Instr.{Instr}
use Rattle.class_model.specs.Config.{Shared}
use Rattle.class_model.specs.Process.{Process, reg, with_reg, reply, known_at, usable_at, tally_of, free_known, learned, settled, refused, answered}
use Rattle.class_model.specs.Plan.{Plan, Ask, Request, MakeKnown, Update, Read, Advance, Ticket, plan, of_known, tested}
use Rattle.mail_scripts.specs.Programs.{post_program}
use Rattle.mailbox_laws.specs.Protocol.{Hold}
use Rattle.mailbox_laws.specs.Places.{Writes, Runs, Posting, PosterAt, held, held_at, sets_entry, sets_mode, finds, tests_found, finds_again, has, sets_size, sets_count, sets_first, sets_one, goes, draws, has_drawn, tests_room, no_room, awaits, came_through, writes, tests_written, writes_again, serves, next_value, one_less, goes_back, ends}
use Rattle.mailbox_laws.proofs.Registers.{runs_set, runs_reply, runs_as, writes_usable, writes_as, reg_other, reg_same, reply_other, reply_code, reply_value, refused_code}
use Rattle.mailbox_laws.proofs.Shows.{Learnt, IsValue, IsWritten, IsLook}
use Rattle.mailbox_laws.proofs.Goes.{Goes, goes_by, goes_known, goes_zero, goes_less}
use Rattle.mailbox_laws.proofs.Finds.{grants_both}

-- ---- plans that are never refused

pub known_plan : (p : Process) (o : Option Known) (k : Known) (tests : Known → List (Bool × Rule)) (request : Known → Request) → o ≡ Some k → of_known p o tests request ≡ tested p (tests k) (Ask (request k))
known_plan p o k tests request e = ap (λ o. of_known p o tests request) e

pub tested_read : (p : Process) (b : Bool) (plan : Plan) → b ≡ true → (rule : Rule) → tested p ((not b, rule) ∷ []) plan ≡ plan
tested_read p true plan e rule = refl
tested_read p false plan e rule = absurd (cc)

tested_change : (p : Process) (b c : Bool) (rule other : Rule) (plan : Plan) → b ≡ true → c ≡ true → tested p ((not b, rule) ∷ (not c, other) ∷ []) plan ≡ plan
tested_change p true true rule other plan e f = refl
tested_change p true false rule other plan e f = absurd (cc)
tested_change p false c rule other plan e f = absurd (cc)

tested_signal : (p : Process) (b z c : Bool) (rule other : Rule) (plan : Plan) → b ≡ true → c ≡ true → tested p ((not (b || z), rule) ∷ (not c, other) ∷ []) plan ≡ plan
tested_signal p true z true rule other plan e f = refl
tested_signal p true z false rule other plan e f = absurd (cc)
tested_signal p false z c rule other plan e f = absurd (cc)

-- one word of a list
pub one_word : (xs : List ℕ) (i : ℕ) → i < length xs → part_of xs i 1 ≡ slice_index_or xs i 0 ∷ []
one_word [] i low = absurd (omega (arith, low))
one_word (x ∷ xs) zero low = refl
one_word (x ∷ xs) (suc i) low = one_word xs i (omega (arith, low))

-- ---- what a poster holds

abbrev pub some_hold : ℕ → ℕ → Bool → Bool → Option Hold
some_hold t v through written = Some (record { ticket = t; value = v; through = through; written = written })

same_hold : (t t' v v' : ℕ) (through written written' : Bool) → t ≡ t' → v ≡ v' → written ≡ written' → some_hold t v through written ≡ some_hold t' v' through written'
same_hold t t' v v' through written written' e f g = ap (λ t. some_hold t v through written) e ∙ ap (λ v. some_hold t' v through written) f ∙ ap (λ w. some_hold t' v' through w) g

is_at : (place : ℕ) (q : Process) → q.place ≡ place → held q ≡ held_at place q
is_at place q e = ap (λ n. held_at n q) e

-- What a step of a poster does to what it holds, by what it asked and was shown: a ticket is drawn, the await ends, the word is
-- written, the ticket is served; or it holds what it held, or nothing.
abbrev pub HoldMoves : Process → Process → Option (Request × Outcome) → Type 0
HoldMoves p q (Some (Ticket x, Value v)) = (known_at p (reg p 8) ≡ Some x) × (held q ≡ some_hold v (reg p 9) false false)
HoldMoves p q (Some (Read x wanted t, Counted v)) = (known_at p (reg p 8) ≡ Some x) × (held p ≡ some_hold wanted (reg p 9) false false) × (held q ≡ some_hold wanted (reg p 9) true false)
HoldMoves p q (Some (Update x offset words, Value v)) =
    (known_at p (reg p 8) ≡ Some x) × (held p ≡ some_hold offset (reg p 9) true false) × (held q ≡ some_hold offset (reg p 9) true true) × (words ≡ reg p 9 ∷ []) × (offset + 1 ≤ x.size)
HoldMoves p q (Some (Advance x, Value v)) = (ticket : ℕ) × (known_at p (reg p 8) ≡ Some x) × (held p ≡ some_hold ticket (reg p 9) true true) × (held q ≡ None) × (ticket < 64)
HoldMoves p q _ = (held q ≡ held p) ⊎ (held q ≡ None)

-- all that a step of a poster comes to
pub record PosterGoes (s : Shared) (instrs : List Instr) (size : ℕ) (p q : Process) (asked : Option (Request × Outcome)) : Type 0 where
  pub runs : Runs s instrs q
  pub at : PosterAt size q
  pub same : (h : Hold) → held q ≡ Some h → known_at q (reg q 8) ≡ known_at p (reg p 8)
  pub moves : HoldMoves p q asked

-- ---- what stays

-- the known places and the ring are as they were, and so are r2, r5, r8 and r10
still_posting : (size : ℕ) (p q : Process) → q.known ≡ p.known → q.ring ≡ p.ring → reg q 8 ≡ reg p 8 → reg q 2 ≡ reg p 2 → reg q 5 ≡ reg p 5 → reg q 10 ≡ reg p 10 → Posting size p → Posting size q
still_posting size p q known ring at none limit one c = record { known = writes_as p q _ _ known at ring c.known; zero = none ∙ c.zero; limit = limit ∙ c.limit; one = one ∙ c.one }

replied : (size : ℕ) (p : Process) (code v : ℕ) → Posting size p → Posting size (reply p code v)
replied size p code v c = still_posting size p (reply p code v) refl refl (reply_other p code v 8 (omega arith)) (reply_other p code v 2 (omega arith)) (reply_other p code v 5 (omega arith)) (reply_other p code v 10 (omega arith)) c

set_posting : (size : ℕ) (p : Process) (a v : ℕ) → (8 ≡ a → ⊥) → (2 ≡ a → ⊥) → (5 ≡ a → ⊥) → (10 ≡ a → ⊥) → Posting size p → Posting size (with_reg p a v)
set_posting size p a v n8 n2 n5 n10 c = still_posting size p (with_reg p a v) refl refl (reg_other p a v 8 n8) (reg_other p a v 2 n2) (reg_other p a v 5 n5) (reg_other p a v 10 n10) c

to_posting : (size : ℕ) (p : Process) (to : ℕ) → Posting size p → Posting size (record p { place = to })
to_posting size p to c = still_posting size p (record p { place = to }) refl refl refl refl refl refl c

-- it knows what it knew at r8
same_known : (p q : Process) → q.known ≡ p.known → reg q 8 ≡ reg p 8 → known_at q (reg q 8) ≡ known_at p (reg p 8)
same_known p q known at = ap (λ (l : List (Option Known)). slice_index_or l (reg q 8) None) known ∙ ap (λ n. known_at p n) at

-- it holds nothing
none_held : {A : Type 0} (q : Process) → held q ≡ None → (h : Hold) → held q ≡ Some h → A
none_held q e h f = absurd (cc)

-- the words of an update lie in its segment
bounds_pass : (a b c e f g : Bool) (r1 r2 r3 : Rule) → first_broken ((a, r1) ∷ (b, r2) ∷ (c || e || f || g, r3) ∷ []) ≡ None → f ≡ false
bounds_pass true b c e f g r1 r2 r3 h = absurd (cc)
bounds_pass false true c e f g r1 r2 r3 h = absurd (cc)
bounds_pass false false true e f g r1 r2 r3 h = absurd (cc)
bounds_pass false false false true f g r1 r2 r3 h = absurd (cc)
bounds_pass false false false false true g r1 r2 r3 h = absurd (cc)
bounds_pass false false false false false g r1 r2 r3 h = refl

in_bounds : (ring offset count pad : ℕ) (k : Known) → first_broken (update_tests ring offset count pad k) ≡ None → offset + count ≤ k.size
in_bounds ring offset count pad k h = ltb-false k.size (offset + count)
    (bounds_pass (not (modifies k.rights)) (not (may_write k.brackets ring)) (count == 0) (nat_lt 64 count) (nat_lt k.size (offset + count)) (nat_lt 64 (pad + count)) NotModify RingWrite Bounds h)

module _ (s : Shared) (d entry size first count : ℕ) (limit : size ≤ 64) (p : Process) (r : Runs s (post_program entry size first count) p) where
  abbrev prog : List Instr
  prog = post_program entry size first count

  abbrev G : Process → Option (Request × Outcome) → Type 0
  G q asked = PosterGoes s prog size p q asked

  -- a step that leaves it with nothing to hold, and asked nothing that serves
  quiet : (q : Process) → Runs s prog q → PosterAt size q → (place : ℕ) → q.place ≡ place → held_at place q ≡ None → G q None
  quiet q run at place e none = let is : held q ≡ None = is_at place q e ∙ none in record { runs = run; at = at; same = none_held q is; moves = inr is }

  set_run : (a v : ℕ) → Runs s prog (with_reg p a v)
  set_run a v = runs_set s prog p a v r

  to_run : (to : ℕ) → Runs s prog (record p { place = to })
  to_run to = runs_as s prog p (record p { place = to }) refl refl refl r

  -- ---- finding its segment

  -- a makeknown that was refused
  not_found : (rule : Rule) (asked : Option (Request × Outcome)) → p.place ≡ 2 → reg p 2 ≡ 0 → reg p 7 ≡ 3 → ((none : held (refused p rule) ≡ None) → HoldMoves p (refused p rule) asked) → G (refused p rule) asked
  not_found rule asked at two mode moves =
      let is : held (refused p rule) ≡ None = is_at 3 (refused p rule) (ap (λ n. n + 1) at) in record {
        runs = runs_reply s prog p (number rule) 0 r;
        at = tests_found (ap (λ n. n + 1) at) (reply_other p (number rule) 0 2 (omega arith) ∙ two) (reply_other p (number rule) 0 7 (omega arith) ∙ mode)
            (λ e. absurd (refused_code rule (sym (reply_code p (number rule) 0 r.regs) ∙ e)));
        same = none_held (refused p rule) is;
        moves = moves is;
      }

  -- a makeknown that is Ok
  found : (x k : Known) (e mode : ℕ) → p.place ≡ 2 → reg p 2 ≡ 0 → reg p 7 ≡ 3 → mode ≡ reg p 7 → Learnt s.table d p.ring mode (Learns k) → (o : Option ℕ) → free_known p ≡ o →
      G (learned p k o) (Some (MakeKnown x e mode, Learns k))
  found x k e mode at two three is l None free = not_found KstFull (Some (MakeKnown x e mode, Learns k)) at two three (λ none. inr none)
  found x k e mode at two three is l (Some place) free =
      let p0 : Process = record p { known = slice_set p.known place (Some k) } in
      let q : Process = answered p0 place in
      let none : held q ≡ None = is_at 3 q (ap (λ n. n + 1) at) in
      let want : mode ≡ 3 = is ∙ three in
      let may = grants_both (label_of s.table d) (label_of s.table k.class) p.ring k.brackets (subst (λ m. verdict (label_of s.table d) p.ring (label_of s.table k.class) k.brackets m ≡ None) want l.1) in
      let rights : k.rights ≡ 3 = l.0 ∙ ap rights_of want in
      let inside = (position-Some (λ z. is_none z) p.known place None free).0 in
      record {
        runs = record { program = r.program; regs = length-set (slice_set p.regs 0 0) 1 place ∙ length-set p.regs 0 0 ∙ r.regs; pad = r.pad };
        at = tests_found (ap (λ n. n + 1) at) (reply_other p0 0 place 2 (omega arith) ∙ two) (reply_other p0 0 place 7 (omega arith) ∙ three)
            (λ ok. record {
              seen = k;
              is = ap (λ n. known_at q n) (reply_value p0 0 place r.regs) ∙ get_or-set_same p.known place (Some k) None inside;
              usable = ap signals rights;
              ring = may.0;
              rights = ap modifies rights;
              write_ring = may.1;
            });
        same = none_held q none;
        moves = inr none;
      }

  learnt : (x : Known) (e mode : ℕ) → p.place ≡ 2 → reg p 2 ≡ 0 → reg p 7 ≡ 3 → mode ≡ reg p 7 → (o : Outcome) → Learnt s.table d p.ring mode o → G (settled p o) (Some (MakeKnown x e mode, o))
  learnt x e mode at two three is (Refused rule) l = not_found rule (Some (MakeKnown x e mode, Refused rule)) at two three (λ none. inr none)
  learnt x e mode at two three is (Learns k) l = found x k e mode at two three is l (free_known p) refl
  learnt x e mode at two three is _ l = absurd l

  -- ---- serving

  -- its ticket is never refused
  ticketed : (k : Writes p (reg p 8)) → p.place ≡ 11 → Posting size p → (o : Outcome) → IsValue o → G (settled p o) (Some (Ticket k.seen, o))
  ticketed k at c (Value v) i = record {
    runs = runs_reply s prog p 0 v r;
    at = has_drawn (ap (λ n. n + 1) at) (replied size p 0 v c);
    same = λ h e. same_known p (reply p 0 v) refl (reply_other p 0 v 8 (omega arith));
    moves = (k.is, is_at 12 (settled p (Value v)) (ap (λ n. n + 1) at) ∙ same_hold _ _ _ _ false false false (reply_value p 0 v r.regs) (reply_other p 0 v 9 (omega arith)) refl);
  }
  ticketed k at c _ i = absurd i

  -- one look of its await
  looked : (k : Writes p (reg p 8)) (t : Tally) → p.place ≡ 15 → Posting size p → reg p 11 < size → (o : Outcome) → IsLook o → G (settled p o) (Some (Read k.seen (reg p 11) t, o))
  looked k t at c room (Looked u) i = let q : Process = record p { look = u } in record {
    runs = runs_as s prog p q refl refl refl r;
    at = awaits at (still_posting size p q refl refl refl refl refl refl c) room;
    same = λ h e. refl;
    moves = inl (is_at 15 q at ∙ sym (is_at 15 p at));
  }
  looked k t at c room (Counted v) i = let p0 : Process = record p { look = None } in record {
    runs = runs_reply s prog p0 0 v (runs_as s prog p p0 refl refl refl r);
    at = came_through (ap (λ n. n + 1) at) (replied size p0 0 v (still_posting size p p0 refl refl refl refl refl refl c)) (rw (reply_other p0 0 v 11 (omega arith)) room);
    same = λ h e. same_known p (reply p0 0 v) refl (reply_other p0 0 v 8 (omega arith));
    moves = (k.is, is_at 15 p at, is_at 16 (settled p (Counted v)) (ap (λ n. n + 1) at) ∙ same_hold _ _ _ _ true false false (reply_other p0 0 v 11 (omega arith)) (reply_other p0 0 v 9 (omega arith)) refl);
  }
  looked k t at c room _ i = absurd i

  -- a refused update is tried again
  not_written : (rule : Rule) (asked : Option (Request × Outcome)) → p.place ≡ 17 → Posting size p → reg p 11 < size → slice_index_or p.pad 0 0 ≡ reg p 9 → (held (refused p rule) ≡ held p → HoldMoves p (refused p rule) asked) →
      G (refused p rule) asked
  not_written rule asked at c room value moves = record {
    runs = runs_reply s prog p (number rule) 0 r;
    at = tests_written (ap (λ n. n + 1) at) (replied size p (number rule) 0 c) (rw (reply_other p (number rule) 0 11 (omega arith)) room) (value ∙ sym (reply_other p (number rule) 0 9 (omega arith)));
    same = λ h e. same_known p (refused p rule) refl (reply_other p (number rule) 0 8 (omega arith));
    moves = moves (is_at 18 (refused p rule) (ap (λ n. n + 1) at) ∙ same_hold _ _ _ _ true _ false (reply_other p (number rule) 0 11 (omega arith)) (reply_other p (number rule) 0 9 (omega arith))
        (ne_eqb (reg (refused p rule) 0) 0 (λ e. refused_code rule (sym (reply_code p (number rule) 0 r.regs) ∙ e))) ∙ sym (is_at 17 p at));
  }

  update_words : Posting size p → slice_index_or p.pad 0 0 ≡ reg p 9 → part_of p.pad (reg p 2) (reg p 10) ≡ reg p 9 ∷ []
  update_words c value =
      let wide = r.pad in
      ap (λ n. part_of p.pad n (reg p 10)) c.zero ∙ ap (λ n. part_of p.pad 0 n) c.one ∙ one_word p.pad 0 (omega (arith, wide)) ∙ ap (λ n. n ∷ []) value

  written : (x : Known) (words : List ℕ) → known_at p (reg p 8) ≡ Some x → words ≡ part_of p.pad (reg p 2) (reg p 10) → reg p 11 + reg p 10 ≤ x.size → p.place ≡ 17 → Posting size p → reg p 11 < size → slice_index_or p.pad 0 0 ≡ reg p 9 → (o : Outcome) → IsWritten o →
      G (settled p o) (Some (Update x (reg p 11) words, o))
  written x words known are inside at c room value (Refused rule) i = not_written rule (Some (Update x (reg p 11) words, Refused rule)) at c room value (λ e. inl e)
  written x words known are inside at c room value (Value v) i = record {
    runs = runs_reply s prog p 0 v r;
    at = tests_written (ap (λ n. n + 1) at) (replied size p 0 v c) (rw (reply_other p 0 v 11 (omega arith)) room) (value ∙ sym (reply_other p 0 v 9 (omega arith)));
    same = λ h e. same_known p (reply p 0 v) refl (reply_other p 0 v 8 (omega arith));
    moves = (
      known,
      is_at 17 p at,
      is_at 18 (settled p (Value v)) (ap (λ n. n + 1) at) ∙ same_hold _ _ _ _ true _ true (reply_other p 0 v 11 (omega arith)) (reply_other p 0 v 9 (omega arith)) (ap (λ n. n == 0) (reply_code p 0 v r.regs)),
      are ∙ update_words c value,
      (let one = c.one in omega (arith, inside, one)),
    );
  }
  written x words known are inside at c room value _ i = absurd i

  -- its advance is never refused
  advanced : (k : Writes p (reg p 8)) → p.place ≡ 20 → Posting size p → reg p 11 < size → (o : Outcome) → IsValue o → G (settled p o) (Some (Advance k.seen, o))
  advanced k at c room (Value v) i = let none : held (settled p (Value v)) ≡ None = is_at 21 (settled p (Value v)) (ap (λ n. n + 1) at) in record {
    runs = runs_reply s prog p 0 v r;
    at = next_value (ap (λ n. n + 1) at) (replied size p 0 v c);
    same = none_held (settled p (Value v)) none;
    moves = (reg p 11, k.is, is_at 20 p at, none, omega (arith, room, limit));
  }
  advanced k at c room _ i = absurd i

  -- ---- all places

  step_on : (place : ℕ) → p.place ≡ place → p.place + 1 ≡ place + 1
  step_on place at = ap (λ n. n + 1) at

  -- it goes on holding what it held
  keeps : (q : Process) → Runs s prog q → PosterAt size q → q.known ≡ p.known → reg q 8 ≡ reg p 8 → held q ≡ held p → G q None
  keeps q run at known eight is = record { runs = run; at = at; same = λ h e. same_known p q known eight; moves = inl is }

  is_known : (k x : Known) (o : Option Known) → o ≡ Some k → o ≡ Some x → known_at p (reg p 8) ≡ Some k → known_at p (reg p 8) ≡ Some x
  is_known k x o e f is = cc

  pub poster_goes : PosterAt size p → Goes s d p G (plan s d p)
  poster_goes (sets_entry at z) = goes_by s d p G prog r 0 at
      (quiet (with_reg p 4 entry) (set_run 4 entry) (sets_mode (step_on 0 at) (reg_other p 4 entry 2 (λ e. absurd (cc)) ∙ z)) 1 (step_on 0 at) refl)
  poster_goes (sets_mode at z) = goes_by s d p G prog r 1 at
      (quiet (with_reg p 7 3) (set_run 7 3) (finds (step_on 1 at) (reg_other p 7 3 2 (λ e. absurd (cc)) ∙ z) (reg_same p 7 3 (let n = r.regs in omega (arith, n)))) 2 (step_on 1 at) refl)
  poster_goes (finds at z m) = goes_by s d p G prog r 2 at
      (goes_known s d p G (usable_at p (reg p 2)) (make_known_tests p.ring (reg p 4) (reg p 7) (is_none (free_known p))) (λ k. MakeKnown k (reg p 4) (reg p 7))
      (λ rule. not_found rule None at z m (λ none. inr none)) (λ k e f o l. learnt k (reg p 4) (reg p 7) at z m refl o l))
  poster_goes (tests_found at z m w) = goes_by s d p G prog r 3 at
      (goes_zero p 0 5 (λ q. G q None)
      (λ e. quiet (record p { place = 5 }) (to_run 5) (has refl z (writes_as p (record p { place = 5 }) _ _ refl refl refl (w e))) 5 refl refl)
      (λ e. quiet (record p { place = p.place + 1 }) (to_run (p.place + 1)) (finds_again (step_on 3 at) z m) 4 (step_on 3 at) refl))
  poster_goes (finds_again at z m) = goes_by s d p G prog r 4 at (quiet (record p { place = 2 }) (to_run 2) (finds refl z m) 2 refl refl)
  poster_goes (has at z w) = let q : Process = with_reg p 8 (reg p 1) in goes_by s d p G prog r 5 at
      (quiet q (set_run 8 (reg p 1)) (sets_size (step_on 5 at) (reg_other p 8 (reg p 1) 2 (λ e. absurd (cc)) ∙ z)
      (writes_as p q _ _ refl (reg_same p 8 (reg p 1) (let n = r.regs in omega (arith, n))) refl w)) 6 (step_on 5 at) refl)
  poster_goes (sets_size at z w) = let q : Process = with_reg p 5 size in goes_by s d p G prog r 6 at
      (quiet q (set_run 5 size) (sets_count (step_on 6 at) (reg_other p 5 size 2 (λ e. absurd (cc)) ∙ z)
      (writes_as p q _ _ refl (reg_other p 5 size 8 (λ e. absurd (cc))) refl w) (reg_same p 5 size (let n = r.regs in omega (arith, n)))) 7 (step_on 6 at) refl)
  poster_goes (sets_count at z w l) = let q : Process = with_reg p 6 count in goes_by s d p G prog r 7 at
      (quiet q (set_run 6 count) (sets_first (step_on 7 at) (reg_other p 6 count 2 (λ e. absurd (cc)) ∙ z)
      (writes_as p q _ _ refl (reg_other p 6 count 8 (λ e. absurd (cc))) refl w) (reg_other p 6 count 5 (λ e. absurd (cc)) ∙ l)) 8 (step_on 7 at) refl)
  poster_goes (sets_first at z w l) = let q : Process = with_reg p 9 first in goes_by s d p G prog r 8 at
      (quiet q (set_run 9 first) (sets_one (step_on 8 at) (reg_other p 9 first 2 (λ e. absurd (cc)) ∙ z)
      (writes_as p q _ _ refl (reg_other p 9 first 8 (λ e. absurd (cc))) refl w) (reg_other p 9 first 5 (λ e. absurd (cc)) ∙ l)) 9 (step_on 8 at) refl)
  poster_goes (sets_one at z w l) = let q : Process = with_reg p 10 1 in goes_by s d p G prog r 9 at
      (quiet q (set_run 10 1) (goes (step_on 9 at) (record {
        known = writes_as p q _ _ refl (reg_other p 10 1 8 (λ e. absurd (cc))) refl w;
        zero = reg_other p 10 1 2 (λ e. absurd (cc)) ∙ z;
        limit = reg_other p 10 1 5 (λ e. absurd (cc)) ∙ l;
        one = reg_same p 10 1 (let n = r.regs in omega (arith, n));
      })) 10 (step_on 9 at) refl)
  poster_goes (goes at c) = goes_by s d p G prog r 10 at
      (goes_zero p 6 24 (λ q. G q None)
      (λ e. quiet (record p { place = 24 }) (to_run 24) (ends refl (to_posting size p 24 c)) 24 refl refl)
      (λ e. quiet (record p { place = p.place + 1 }) (to_run (p.place + 1)) (draws (step_on 10 at) (to_posting size p (p.place + 1) c)) 11 (step_on 10 at) refl))
  poster_goes (draws at c) = let k = c.known in goes_by s d p G prog r 11 at
      (subst (Goes s d p G) (sym (known_plan p _ k.seen (ticket_tests p.ring) (λ x. Ticket x) (writes_usable p (reg p 8) k) ∙ tested_change p _ _ _ _ _ k.rights k.write_ring))
      (λ o i. ticketed k at c o i))
  poster_goes (has_drawn at c) = let q : Process = with_reg p 11 (reg p 1) in goes_by s d p G prog r 12 at
      (keeps q (set_run 11 (reg p 1)) (tests_room (step_on 12 at) (set_posting size p 11 (reg p 1) (λ e. absurd (cc)) (λ e. absurd (cc)) (λ e. absurd (cc)) (λ e. absurd (cc)) c)) refl
      (reg_other p 11 (reg p 1) 8 (λ e. absurd (cc)))
      (is_at 13 q (step_on 12 at) ∙ same_hold _ _ _ _ false false false (reg_same p 11 (reg p 1) (let n = r.regs in omega (arith, n))) (reg_other p 11 (reg p 1) 9 (λ e. absurd (cc))) refl ∙ sym (is_at 12 p at)))
  poster_goes (tests_room at c) = goes_by s d p G prog r 13 at
      (goes_less p 11 5 15 (λ q. G q None)
      (λ lt. keeps (record p { place = 15 }) (to_run 15) (awaits refl (to_posting size p 15 c) (let l = c.limit in omega (arith, lt, l))) refl refl (is_at 15 (record p { place = 15 }) refl ∙ sym (is_at 13 p at)))
      (λ ge. quiet (record p { place = p.place + 1 }) (to_run (p.place + 1)) (no_room (step_on 13 at) (to_posting size p (p.place + 1) c)) 14 (step_on 13 at) refl))
  poster_goes (no_room at c) = goes_by s d p G prog r 14 at (quiet (record p { place = 24 }) (to_run 24) (ends refl (to_posting size p 24 c)) 24 refl refl)
  poster_goes (awaits at c room) = let k = c.known in goes_by s d p G prog r 15 at
      (subst (Goes s d p G) (sym (known_plan p _ k.seen (read_tests p.ring) (λ x. Read x (reg p 11) (tally_of p)) (writes_usable p (reg p 8) k) ∙ tested_read p _ _ k.ring _))
      (λ o i. looked k (tally_of p) at c room o i))
  poster_goes (came_through at c room) = let q : Process = record p { pad = slice_set p.pad (reg p 2 % 64) (reg p 9); place = p.place + 1 } in goes_by s d p G prog r 16 at
      (keeps q (runs_as s prog p q refl refl (length-set p.pad (reg p 2 % 64) (reg p 9)) r)
      (writes (step_on 16 at) (still_posting size p q refl refl refl refl refl refl c) room
      (ap (λ n. slice_index_or (slice_set p.pad (n % 64) (reg p 9)) 0 0) c.zero ∙ get_or-set_same p.pad 0 (reg p 9) 0 (let n = r.pad in omega (arith, n)))) refl refl
      (is_at 17 q (step_on 16 at) ∙ sym (is_at 16 p at)))
  poster_goes (writes at c room v) = goes_by s d p G prog r 17 at
      (goes_known s d p G (usable_at p (reg p 8)) (update_tests p.ring (reg p 11) (reg p 10) (reg p 2)) (λ x. Update x (reg p 11) (part_of p.pad (reg p 2) (reg p 10)))
      (λ rule. not_written rule None at c room v (λ e. inl e))
      (λ k e f o i. written k _ (is_known c.known.seen k _ (writes_usable p (reg p 8) c.known) e c.known.is) refl
      (in_bounds p.ring (reg p 11) (reg p 10) (reg p 2) k f) at c room v o i))
  poster_goes (tests_written at c room v) = goes_by s d p G prog r 18 at
      (goes_zero p 0 20 (λ q. G q None)
      (λ e. keeps (record p { place = 20 }) (to_run 20) (serves refl (to_posting size p 20 c) room) refl refl
      (is_at 20 (record p { place = 20 }) refl ∙ same_hold _ _ _ _ true true _ refl refl (ap (λ n. n == 0) (sym e)) ∙ sym (is_at 18 p at)))
      (λ e. keeps (record p { place = p.place + 1 }) (to_run (p.place + 1)) (writes_again (step_on 18 at) (to_posting size p (p.place + 1) c) room v) refl refl
      (is_at 19 (record p { place = p.place + 1 }) (step_on 18 at) ∙ same_hold _ _ _ _ true false _ refl refl (sym (ne_eqb (reg p 0) 0 e)) ∙ sym (is_at 18 p at))))
  poster_goes (writes_again at c room v) = goes_by s d p G prog r 19 at
      (keeps (record p { place = 17 }) (to_run 17) (writes refl (to_posting size p 17 c) room v) refl refl (is_at 17 (record p { place = 17 }) refl ∙ sym (is_at 19 p at)))
  poster_goes (serves at c room) = let k = c.known in goes_by s d p G prog r 20 at
      (subst (Goes s d p G) (sym (known_plan p _ k.seen (advance_tests p.ring) (λ x. Advance x) k.is ∙ tested_signal p _ _ _ _ _ _ k.rights k.write_ring))
      (λ o i. advanced k at c room o i))
  poster_goes (next_value at c) = let v : ℕ = (reg p 9 + reg p 10) % 2 ^ 64 in goes_by s d p G prog r 21 at
      (quiet (with_reg p 9 v) (set_run 9 v) (one_less (step_on 21 at) (set_posting size p 9 v (λ e. absurd (cc)) (λ e. absurd (cc)) (λ e. absurd (cc)) (λ e. absurd (cc)) c)) 22 (step_on 21 at) refl)
  poster_goes (one_less at c) = let v : ℕ = (reg p 6 + 2 ^ 64 - reg p 10) % 2 ^ 64 in goes_by s d p G prog r 22 at
      (quiet (with_reg p 6 v) (set_run 6 v) (goes_back (step_on 22 at) (set_posting size p 6 v (λ e. absurd (cc)) (λ e. absurd (cc)) (λ e. absurd (cc)) (λ e. absurd (cc)) c)) 23 (step_on 22 at) refl)
  poster_goes (goes_back at c) = goes_by s d p G prog r 23 at (quiet (record p { place = 10 }) (to_run 10) (goes refl (to_posting size p 10 c)) 10 refl refl)
  poster_goes (ends at c) = let q : Process = record p { live = false } in goes_by s d p G prog r 24 at
      (quiet q (runs_as s prog p q refl refl refl r) (ends at (still_posting size p q refl refl refl refl refl refl c)) 24 at refl)
