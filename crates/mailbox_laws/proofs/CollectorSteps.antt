-- The steps of a collector: where it stands after each, and what it holds then.
use Rattle.std.proofs.Common.{ℕ, ◌+◌, ◌%◌, ◌^◌, ◌<◌, ◌≤◌, Bool, true, false, List, [], ◌∷◌, ◌≡◌, refl, sym, ap, subst, ◌∙◌, Option, Some, None, ◌⊎◌, inl, inr, length, arith}
use Rattle.std.specs.Prelude.{slice_index, slice_index_or, slice_set, not, ◌||◌, ◌==◌, is_none, nat_lt}
use Rattle.std.proofs.Math.Nat.{mod-eq_of_lt}
use Rattle.std.proofs.lemmas.Bool.{cases_lt, cases_eq, ltb-false}
use Rattle.std.proofs.lemmas.List.{get_or-set_same, get_or-set_other, length-set}
use Rattle.std.proofs.lemmas.List.Quantifiers.{position-Some}
use Rattle.lists.specs.Lists.{part_of, overwrite}
use Rattle.labels.specs.Label.{label_of}
use Rattle.rings.specs.Brackets.{may_read}
use Rattle.words_layout.specs.Segments.{same_seg}
use Rattle.words_layout.specs.declared.segment.SegId.{SegId}
use Rattle.policy.specs.Known.{Known, rights_of, signals}
use Rattle.policy.specs.Outcome.{Outcome, Refused, Learns, Words, Printed, Looked, Counted, Tally}
use Rattle.policy.specs.Private.{read_tests, fetch_tests, make_known_tests}
use Rattle.policy.specs.Verdict.{number, first_broken, verdict}
use Rattle.policy.specs.declared.rule.Rule.{Rule}
use Rattle.policy.specs.declared.rule.Rule.TheVariants.{KstFull, RingRead, Bounds}
use Rattle.script_lang.specs.declared.instr.Instr.{Instr}
use Rattle.class_model.specs.Config.{Shared}
use Rattle.class_model.specs.Process.{Process, reg, with_reg, known_at, usable_at, tally_of, free_known, learned, settled, refused, answered}
use Rattle.class_model.specs.Plan.{Request, MakeKnown, Fetch, Read, Out, plan}
use Rattle.mail_scripts.specs.Programs.{collect_program}
use Rattle.mailbox_laws.specs.Places.{Reads, Runs, KnowsNone, Collecting, CollectorAt, Collected, HasCollected, sets_entry, sets_mode, finds, tests_found, finds_again, has, sets_count, sets_one, goes, ends, copies, adds, awaits, fetches, tests_fetched, fetches_again, has_fetched, prints, counts, goes_back}
use Rattle.mailbox_laws.proofs.Registers.{runs_set, runs_reply, runs_as, length_over, reads_usable, found_as, none_as, reg_other, reg_same, reply_other, reply_code, reply_value, refused_code}
use Rattle.mailbox_laws.proofs.Shows.{Learnt, IsLook, IsFetched, IsPrinted}
use Rattle.mailbox_laws.proofs.Goes.{Goes, goes_by, goes_known, goes_zero, goes_less}
use Rattle.mailbox_laws.proofs.Finds.{grants_observe}
use Rattle.mailbox_laws.proofs.Told.{Told}
use Rattle.mailbox_laws.proofs.PosterSteps.{known_plan, tested_read, one_word}

-- ---- what it holds

-- it holds as much where its pad is as it was
still_has : (posts : List ℕ) (count n m : ℕ) (p q : Process) → q.pad ≡ p.pad → m ≡ n → HasCollected posts count n p → HasCollected posts count m q
still_has posts count n m p q pad same h = subst (λ m. HasCollected posts count m q) (sym same) (record {
  served = h.served;
  same = λ i low. ap (λ (l : List ℕ). slice_index_or l i 0) pad ∙ h.same i low;
})

-- it goes on holding where more is posted and served
pub has_more : (posts posts' : List ℕ) (count count' n : ℕ) (p : Process) → count ≤ count' → ((i : ℕ) → i < count → slice_index_or posts' i 0 ≡ slice_index_or posts i 0) → HasCollected posts count n p → HasCollected posts' count' n p
has_more posts posts' count count' n p up front h = let served = h.served in record {
  served = omega (arith, served, up);
  same = λ i low. h.same i low ∙ sym (front i (omega (arith, served, low)));
}

-- with r9 still 0 it holds nothing
pub nothing_yet : (posts : List ℕ) (count : ℕ) (q : Process) → reg q 9 ≡ 0 → HasCollected posts count (reg q 9) q
nothing_yet posts count q z = record { served = omega (arith, z); same = λ i low. absurd (omega (arith, low, z)) }

small_sum : (n : ℕ) → n ≤ 64 → (n + 1) % 2 ^ 64 ≡ n + 1
small_sum n low = mod-eq_of_lt (omega (arith, low))

still_collecting : (p q : Process) → q.known ≡ p.known → q.ring ≡ p.ring → reg q 8 ≡ reg p 8 → reg q 10 ≡ reg p 10 → Collecting p → Collecting q
still_collecting p q known ring at one c = record { found = found_as p q _ _ known at ring c.found; one = one ∙ c.one }

bounds_pass : (a c e f g : Bool) (r1 r2 : Rule) → first_broken ((a, r1) ∷ (c || e || f || g, r2) ∷ []) ≡ None → f ≡ false
bounds_pass true c e f g r1 r2 h = absurd (cc)
bounds_pass false true e f g r1 r2 h = absurd (cc)
bounds_pass false false true f g r1 r2 h = absurd (cc)
bounds_pass false false false true g r1 r2 h = absurd (cc)
bounds_pass false false false false g r1 r2 h = refl

-- the words of a fetch lie in its segment
in_bounds : (ring offset count pad : ℕ) (k : Known) → first_broken (fetch_tests ring offset count pad k) ≡ None → offset + count ≤ k.size
in_bounds ring offset count pad k h = ltb-false k.size (offset + count)
    (bounds_pass (not (may_read k.brackets ring)) (count == 0) (nat_lt 64 count) (nat_lt k.size (offset + count)) (nat_lt 64 (pad + count)) RingRead Bounds h)

module _ (s : Shared) (d entry amount : ℕ) (p : Process) (r : Runs s (collect_program entry amount) p) (u : SegId) (posts words : List ℕ) (count : ℕ) (few : count ≤ 64)
    (served : (i : ℕ) → i < count → slice_index_or words i 0 ≡ slice_index_or posts i 0) where
  abbrev prog : List Instr
  prog = collect_program entry amount

  -- what is held of u, if it is the segment at r8
  abbrev OfU : Process → Type 0 → Type 0
  OfU q H = (x : Known) → known_at q (reg q 8) ≡ Some x → same_seg x.seg u ≡ true → H

  -- all that a step of a collector comes to
  pub record CollectorGoes (q : Process) (asked : Option (Request × Outcome)) : Type 0 where
    pub runs : Runs s prog q
    pub at : CollectorAt q
    pub has : Told u posts words count asked → OfU q (Collected posts count q at)

  abbrev G : Process → Option (Request × Outcome) → Type 0
  G q asked = CollectorGoes q asked

  set_run : (a v : ℕ) → Runs s prog (with_reg p a v)
  set_run a v = runs_set s prog p a v r

  to_run : (to : ℕ) → Runs s prog (record p { place = to })
  to_run to = runs_as s prog p (record p { place = to }) refl refl refl r

  step_on : (place : ℕ) → p.place ≡ place → p.place + 1 ≡ place + 1
  step_on place at = ap (λ n. n + 1) at

  -- where it knows what it knew
  back : (q : Process) (H : Type 0) → q.known ≡ p.known → reg q 8 ≡ reg p 8 → OfU p H → OfU q H
  back q H known eight h x e of_u = h x (sym (ap (λ (l : List (Option Known)). slice_index_or l (reg q 8) None) known ∙ ap (λ n. known_at p n) eight) ∙ e) of_u

  -- the segment at r8 is the one that it reads
  seen_of : (k : Reads p (reg p 8)) (x : Known) → known_at p (reg p 8) ≡ Some x → same_seg x.seg u ≡ true → same_seg k.seen.seg u ≡ true
  seen_of k x e of_u = let same : x ≡ k.seen = by_some x k.seen (sym e ∙ k.is) in subst (λ (z : Known). same_seg z.seg u ≡ true) same of_u
    where
      by_some : (x y : Known) → Some x ≡ Some y → x ≡ y
      by_some x y h = cc

  -- ---- finding its segment

  not_found : (rule : Rule) (asked : Option (Request × Outcome)) → p.place ≡ 2 → reg p 9 ≡ 0 → reg p 7 ≡ 1 → KnowsNone p → G (refused p rule) asked
  not_found rule asked at z one none = record {
    runs = runs_reply s prog p (number rule) 0 r;
    at = tests_found (step_on 2 at) (reply_other p (number rule) 0 9 (omega arith) ∙ z) (reply_other p (number rule) 0 7 (omega arith) ∙ one)
        (λ e. absurd (refused_code rule (sym (reply_code p (number rule) 0 r.regs) ∙ e))) (λ e. none_as p (refused p rule) refl none);
    has = λ t x e f. nothing_yet posts count (refused p rule) (reply_other p (number rule) 0 9 (omega arith) ∙ z);
  }

  found : (x k : Known) (e mode : ℕ) → p.place ≡ 2 → reg p 9 ≡ 0 → reg p 7 ≡ 1 → KnowsNone p → mode ≡ reg p 7 → Learnt s.table d p.ring mode (Learns k) → (o : Option ℕ) → free_known p ≡ o →
      G (learned p k o) (Some (MakeKnown x e mode, Learns k))
  found x k e mode at z one none is l None free = not_found KstFull (Some (MakeKnown x e mode, Learns k)) at z one none
  found x k e mode at z one none is l (Some place) free = record {
    runs = record { program = r.program; regs = length-set (slice_set p.regs 0 0) 1 place ∙ length-set p.regs 0 0 ∙ r.regs; pad = r.pad };
    at = tests_found (step_on 2 at) (reply_other p0 0 place 9 (omega arith) ∙ z) (reply_other p0 0 place 7 (omega arith) ∙ one)
        (λ ok. record {
          reads = record {
            seen = k;
            is = ap (λ n. known_at q n) (reply_value p0 0 place r.regs) ∙ get_or-set_same p.known place (Some k) None (position-Some (λ z. is_none z) p.known place None free).0;
            usable = ap signals (l.0 ∙ ap rights_of want);
            ring = grants_observe (label_of s.table d) (label_of s.table k.class) p.ring k.brackets (subst (λ m. verdict (label_of s.table d) p.ring (label_of s.table k.class) k.brackets m ≡ None) want l.1);
          };
          only = λ i y high h. by_place i y high h (cases_eq i place) ∙ sym (reply_value p0 0 place r.regs);
        })
        (λ other. absurd (other (reply_code p0 0 place r.regs)));
    has = λ t y h f. nothing_yet posts count q (reply_other p0 0 place 9 (omega arith) ∙ z);
  }
    where
      p0 : Process
      p0 = record p { known = slice_set p.known place (Some k) }

      q : Process
      q = answered p0 place

      want : mode ≡ 1
      want = is ∙ one

      by_place : (i : ℕ) (y : Known) → 1 ≤ i → known_at q i ≡ Some y → (i ≡ place) ⊎ (i ≡ place → ⊥) → i ≡ place
      by_place i y high h (inl same) = same
      by_place i y high h (inr other) = absurd (none i y high (sym (get_or-set_other p.known place i (Some k) None other) ∙ h))

  learnt : (x : Known) (e mode : ℕ) → p.place ≡ 2 → reg p 9 ≡ 0 → reg p 7 ≡ 1 → KnowsNone p → mode ≡ reg p 7 → (o : Outcome) → Learnt s.table d p.ring mode o → G (settled p o) (Some (MakeKnown x e mode, o))
  learnt x e mode at z one none is (Refused rule) l = not_found rule (Some (MakeKnown x e mode, Refused rule)) at z one none
  learnt x e mode at z one none is (Learns k) l = found x k e mode at z one none is l (free_known p) refl
  learnt x e mode at z one none is _ l = absurd l

  -- ---- collecting

  looked : (c : Collecting p) (t : Tally) → p.place ≡ 12 → reg p 11 ≡ (reg p 9 + 1) % 2 ^ 64 → OfU p (HasCollected posts count (reg p 9) p) → (o : Outcome) → IsLook o → G (settled p o) (Some (Read c.found.reads.seen (reg p 11) t, o))
  looked c t at next old (Looked v) i = let q : Process = record p { look = v } in record {
    runs = runs_as s prog p q refl refl refl r;
    at = awaits at (still_collecting p q refl refl refl refl c) next;
    has = λ told x e f. still_has posts count (reg p 9) _ p q refl refl (old x e f);
  }
  looked c t at next old (Counted v) i = record {
    runs = runs_reply s prog p0 0 v (runs_as s prog p p0 refl refl refl r);
    at = fetches (step_on 12 at) (still_collecting p q refl refl eight (reply_other p0 0 v 10 (omega arith)) c);
    has = λ told. back q _ refl eight (λ x e f. (still_has posts count (reg p 9) _ p q refl nine (old x e f), less (old x e f) (told (seen_of c.found.reads x e f))));
  }
    where
      p0 : Process
      p0 = record p { look = None }

      q : Process
      q = answered p0 v

      eight : reg q 8 ≡ reg p 8
      eight = reply_other p0 0 v 8 (omega arith)

      nine : reg q 9 ≡ reg p 9
      nine = reply_other p0 0 v 9 (omega arith)

      less : HasCollected posts count (reg p 9) p → (reg p 11 ≤ v) × (v ≤ count) → reg q 9 < count
      less h told = let low = h.served in let small = small_sum (reg p 9) (omega (arith, low, few)) in let is = nine in let a = told.0 in let b = told.1 in omega (arith, next, small, a, b, is)
  looked c t at next old _ i = absurd i

  -- a refused fetch is tried again
  not_fetched : (rule : Rule) (asked : Option (Request × Outcome)) → p.place ≡ 13 → Collecting p → OfU p (HasCollected posts count (reg p 9) p × (reg p 9 < count)) → G (refused p rule) asked
  not_fetched rule asked at c old = let q : Process = refused p rule in let nine : reg q 9 ≡ reg p 9 = reply_other p (number rule) 0 9 (omega arith) in record {
    runs = runs_reply s prog p (number rule) 0 r;
    at = tests_fetched (step_on 13 at) (still_collecting p q refl refl (reply_other p (number rule) 0 8 (omega arith)) (reply_other p (number rule) 0 10 (omega arith)) c);
    has = λ told. back q _ refl (reply_other p (number rule) 0 8 (omega arith)) (λ x e f. (let h = old x e f in (
      still_has posts count (reg p 9) _ p q refl nine h.0,
      rw nine h.1,
      (λ ok. absurd (refused_code rule (sym (reply_code p (number rule) 0 r.regs) ∙ ok))),
    )));
  }

  fetched : (k : Known) (offset n pad : ℕ) → known_at p (reg p 8) ≡ Some k → offset ≡ reg p 9 → n ≡ reg p 10 → pad ≡ reg p 9 → offset + n ≤ k.size → p.place ≡ 13 → Collecting p →
      OfU p (HasCollected posts count (reg p 9) p × (reg p 9 < count)) → (o : Outcome) → IsFetched pad o → G (settled p o) (Some (Fetch k offset n pad, o))
  fetched k offset n pad known is_offset is_n is_pad inside at c old (Refused rule) i = not_fetched rule (Some (Fetch k offset n pad, Refused rule)) at c old
  fetched k offset n pad known is_offset is_n is_pad inside at c old (Words to ws) i = record {
    runs = runs_reply s prog p0 0 (length ws) (record { program = r.program; regs = r.regs; pad = length_over p.pad to ws ∙ r.pad });
    at = tests_fetched (step_on 13 at) (still_collecting p q refl refl (other 8 (omega arith)) (other 10 (omega arith)) c);
    has = λ told. back q _ refl (other 8 (omega arith)) (λ x e f. has_now (old x e f) (told (subst (λ (z : Known). same_seg z.seg u ≡ true) (same_known x k (sym e ∙ known)) f)));
  }
    where
      p0 : Process
      p0 = record p { pad = overwrite p.pad to ws }

      q : Process
      q = answered p0 (length ws)

      same_known : (x y : Known) → Some x ≡ Some y → x ≡ y
      same_known x y h = cc

      other : (b : ℕ) → 2 ≤ b → reg q b ≡ reg p b
      other b high = reply_other p0 0 (length ws) b high

      has_now : HasCollected posts count (reg p 9) p × (reg p 9 < count) → (ws ≡ part_of words offset n) × (length words ≡ k.size) →
          HasCollected posts count (reg q 9) q × (reg q 9 < count) × (reg q 0 ≡ 0 → HasCollected posts count (reg q 9 + 1) q)
      has_now old told = (
        rw (other 9 (omega arith)) (record { served = (old.0).served; same = λ i low. word i (omega (arith, low)) }),
        rw (other 9 (omega arith)) old.1,
        λ ok. rw (other 9 (omega arith)) (record { served = (let less = old.1 in omega (arith, less)); same = word }),
      )
        where
          within : reg p 9 < length words
          within = let one = c.one in let size = told.1 in omega (arith, inside, is_offset, is_n, one, size)

          shown : ws ≡ slice_index_or words (reg p 9) 0 ∷ []
          shown = told.0 ∙ ap (λ m. part_of words m n) is_offset ∙ ap (λ m. part_of words (reg p 9) m) (is_n ∙ c.one) ∙ one_word words (reg p 9) within

          pad_is : q.pad ≡ slice_set p.pad (reg p 9) (slice_index_or words (reg p 9) 0)
          pad_is = ap (λ m. overwrite p.pad m ws) (i ∙ is_pad) ∙ ap (λ l. overwrite p.pad (reg p 9) l) shown

          word : (j : ℕ) → j < reg p 9 + 1 → slice_index_or q.pad j 0 ≡ slice_index_or posts j 0
          word j low = ap (λ (l : List ℕ). slice_index_or l j 0) pad_is ∙ elim (cases_lt j (reg p 9)) [
            | inl before ↦ get_or-set_other p.pad (reg p 9) j _ 0 (λ e. (let f : j ≡ reg p 9 = e in omega (arith, before, f))) ∙ (old.0).same j before
            | inr here ↦ (let same : reg p 9 ≡ j = omega (arith, low, here) in
                subst (λ j. slice_index_or (slice_set p.pad (reg p 9) (slice_index_or words (reg p 9) 0)) j 0 ≡ slice_index_or posts j 0) same
                (get_or-set_same p.pad (reg p 9) _ 0 (let wide = r.pad in let less = old.1 in omega (arith, wide, less, few)) ∙ served (reg p 9) old.1))
          ]
  fetched k offset n pad known is_offset is_n is_pad inside at c old _ i = absurd i

  printed : (v : ℕ) → p.place ≡ 17 → Collecting p → OfU p (HasCollected posts count (reg p 9 + 1) p) → (o : Outcome) → IsPrinted o → G (settled p o) (Some (Out v, o))
  printed v at c old (Refused rule) i = let q : Process = refused p rule in record {
    runs = runs_reply s prog p (number rule) 0 r;
    at = counts (step_on 17 at) (still_collecting p q refl refl (reply_other p (number rule) 0 8 (omega arith)) (reply_other p (number rule) 0 10 (omega arith)) c);
    has = λ told. back q _ refl (reply_other p (number rule) 0 8 (omega arith)) (λ x e f. still_has posts count (reg p 9 + 1) _ p q refl (ap (λ n. n + 1) (reply_other p (number rule) 0 9 (omega arith))) (old x e f));
  }
  printed v at c old (Printed place w) i = let q : Process = answered p place in record {
    runs = runs_reply s prog p 0 place r;
    at = counts (step_on 17 at) (still_collecting p q refl refl (reply_other p 0 place 8 (omega arith)) (reply_other p 0 place 10 (omega arith)) c);
    has = λ told. back q _ refl (reply_other p 0 place 8 (omega arith)) (λ x e f. still_has posts count (reg p 9 + 1) _ p q refl (ap (λ n. n + 1) (reply_other p 0 place 9 (omega arith))) (old x e f));
  }
  printed v at c old _ i = absurd i

  -- its count rises, by no wrap
  counted : HasCollected posts count (reg p 9 + 1) p → Collecting p → (let q = with_reg p 9 ((reg p 9 + reg p 10) % 2 ^ 64) in HasCollected posts count (reg q 9) q)
  counted h c = still_has posts count (reg p 9 + 1) _ p (with_reg p 9 ((reg p 9 + reg p 10) % 2 ^ 64)) refl nine h
    where
      nine : reg (with_reg p 9 ((reg p 9 + reg p 10) % 2 ^ 64)) 9 ≡ reg p 9 + 1
      nine = let low = h.served in let n = r.regs in reg_same p 9 _ (omega (arith, n)) ∙ ap (λ n. (reg p 9 + n) % 2 ^ 64) c.one ∙ small_sum (reg p 9) (omega (arith, low, few))

  is_known : (k x : Known) (o : Option Known) → o ≡ Some k → o ≡ Some x → known_at p (reg p 8) ≡ Some k → known_at p (reg p 8) ≡ Some x
  is_known k x o e f is = cc

  -- ---- all places

  -- with what it holds at once
  now : (q : Process) → Runs s prog q → (at : CollectorAt q) → Collected posts count q at → G q None
  now q run at h = record { runs = run; at = at; has = λ told x e f. h }

  -- where r9 and the pad are as they were
  abbrev Held : Process → ℕ → Type 0
  Held q n = HasCollected posts count n q

  still : (q : Process) (n m : ℕ) → q.pad ≡ p.pad → m ≡ n → Held p n → Held q m
  still q n m pad same h = still_has posts count n m p q pad same h

  pub collector_goes : (at : CollectorAt p) → OfU p (Collected posts count p at) → Goes s d p G (plan s d p)
  collector_goes (sets_entry at z none) old = let q : Process = with_reg p 4 entry in let zq = reg_other p 4 entry 9 (λ e. absurd (cc)) ∙ z in goes_by s d p G prog r 0 at
      (now q (set_run 4 entry) (sets_mode (step_on 0 at) zq (none_as p q refl none)) (nothing_yet posts count q zq))
  collector_goes (sets_mode at z none) old = let q : Process = with_reg p 7 1 in let zq = reg_other p 7 1 9 (λ e. absurd (cc)) ∙ z in goes_by s d p G prog r 1 at
      (now q (set_run 7 1) (finds (step_on 1 at) zq (reg_same p 7 1 (let n = r.regs in omega (arith, n))) (none_as p q refl none)) (nothing_yet posts count q zq))
  collector_goes (finds at z m none) old = goes_by s d p G prog r 2 at
      (goes_known s d p G (usable_at p (reg p 2)) (make_known_tests p.ring (reg p 4) (reg p 7) (is_none (free_known p))) (λ k. MakeKnown k (reg p 4) (reg p 7))
      (λ rule. not_found rule None at z m none) (λ k e f o l. learnt k (reg p 4) (reg p 7) at z m none refl o l))
  collector_goes (tests_found at z m f n) old = let q : Process = record p { place = 5 } in let q' : Process = record p { place = p.place + 1 } in goes_by s d p G prog r 3 at
      (goes_zero p 0 5 (λ q. G q None)
      (λ e. now q (to_run 5) (has refl z (found_as p q _ _ refl refl refl (f e))) (nothing_yet posts count q z))
      (λ e. now q' (to_run (p.place + 1)) (finds_again (step_on 3 at) z m (none_as p q' refl (n e))) (nothing_yet posts count q' z)))
  collector_goes (finds_again at z m none) old = let q : Process = record p { place = 2 } in goes_by s d p G prog r 4 at
      (now q (to_run 2) (finds refl z m (none_as p q refl none)) (nothing_yet posts count q z))
  collector_goes (has at z f) old = let q : Process = with_reg p 8 (reg p 1) in let zq = reg_other p 8 (reg p 1) 9 (λ e. absurd (cc)) ∙ z in goes_by s d p G prog r 5 at
      (now q (set_run 8 (reg p 1)) (sets_count (step_on 5 at) zq (found_as p q _ _ refl (reg_same p 8 (reg p 1) (let n = r.regs in omega (arith, n))) refl f)) (nothing_yet posts count q zq))
  collector_goes (sets_count at z f) old = let q : Process = with_reg p 6 amount in let zq = reg_other p 6 amount 9 (λ e. absurd (cc)) ∙ z in goes_by s d p G prog r 6 at
      (now q (set_run 6 amount) (sets_one (step_on 6 at) zq (found_as p q _ _ refl (reg_other p 6 amount 8 (λ e. absurd (cc))) refl f)) (nothing_yet posts count q zq))
  collector_goes (sets_one at z f) old = let q : Process = with_reg p 10 1 in let zq = reg_other p 10 1 9 (λ e. absurd (cc)) ∙ z in goes_by s d p G prog r 7 at
      (now q (set_run 10 1) (goes (step_on 7 at) (record { found = found_as p q _ _ refl (reg_other p 10 1 8 (λ e. absurd (cc))) refl f; one = reg_same p 10 1 (let n = r.regs in omega (arith, n)) }))
      (nothing_yet posts count q zq))
  collector_goes (goes at c) old = let q : Process = record p { place = 10 } in let q' : Process = record p { place = p.place + 1 } in goes_by s d p G prog r 8 at
      (goes_less p 9 6 10 (λ q. G q None)
      (λ lt. record { runs = to_run 10; at = copies refl (still_collecting p q refl refl refl refl c); has = λ told. back q _ refl refl (λ x e f. still q _ _ refl refl (old x e f)) })
      (λ ge. record { runs = to_run (p.place + 1); at = ends (step_on 8 at) (still_collecting p q' refl refl refl refl c); has = λ told. back q' _ refl refl (λ x e f. still q' _ _ refl refl (old x e f)) }))
  collector_goes (ends at c) old = let q : Process = record p { live = false } in goes_by s d p G prog r 9 at
      (record { runs = runs_as s prog p q refl refl refl r; at = ends at (still_collecting p q refl refl refl refl c); has = λ told. back q _ refl refl (λ x e f. still q _ _ refl refl (old x e f)) })
  collector_goes (copies at c) old = let q : Process = with_reg p 11 (reg p 9) in let nine = reg_other p 11 (reg p 9) 9 (λ e. absurd (cc)) in let eight = reg_other p 11 (reg p 9) 8 (λ e. absurd (cc)) in goes_by s d p G prog r 10 at
      (record {
        runs = set_run 11 (reg p 9);
        at = adds (step_on 10 at) (still_collecting p q refl refl eight (reg_other p 11 (reg p 9) 10 (λ e. absurd (cc))) c) (reg_same p 11 (reg p 9) (let n = r.regs in omega (arith, n)) ∙ sym nine);
        has = λ told. back q _ refl eight (λ x e f. still q _ _ refl nine (old x e f));
      })
  collector_goes (adds at c i) old = let v : ℕ = (reg p 11 + reg p 10) % 2 ^ 64 in let q : Process = with_reg p 11 v in let nine = reg_other p 11 v 9 (λ e. absurd (cc)) in let eight = reg_other p 11 v 8 (λ e. absurd (cc)) in goes_by s d p G prog r 11 at
      (record {
        runs = set_run 11 v;
        at = awaits (step_on 11 at) (still_collecting p q refl refl eight (reg_other p 11 v 10 (λ e. absurd (cc))) c)
            (reg_same p 11 v (let n = r.regs in omega (arith, n)) ∙ ap (λ n. (n + reg p 10) % 2 ^ 64) i ∙ ap (λ n. (reg p 9 + n) % 2 ^ 64) c.one ∙ ap (λ n. (n + 1) % 2 ^ 64) (sym nine));
        has = λ told. back q _ refl eight (λ x e f. still q _ _ refl nine (old x e f));
      })
  collector_goes (awaits at c i) old = let k = c.found.reads in goes_by s d p G prog r 12 at
      (subst (Goes s d p G) (sym (known_plan p _ k.seen (read_tests p.ring) (λ x. Read x (reg p 11) (tally_of p)) (reads_usable p (reg p 8) k) ∙ tested_read p _ _ k.ring _))
      (λ o l. looked c (tally_of p) at i old o l))
  collector_goes (fetches at c) old = goes_by s d p G prog r 13 at
      (goes_known s d p G (usable_at p (reg p 8)) (fetch_tests p.ring (reg p 9) (reg p 10) (reg p 9)) (λ x. Fetch x (reg p 9) (reg p 10) (reg p 9))
      (λ rule. not_fetched rule None at c old)
      (λ k e f o l. fetched k _ _ _ (is_known c.found.reads.seen k _ (reads_usable p (reg p 8) c.found.reads) e c.found.reads.is) refl refl refl
      (in_bounds p.ring (reg p 9) (reg p 10) (reg p 9) k f) at c old o l))
  collector_goes (tests_fetched at c) old = let q : Process = record p { place = 16 } in let q' : Process = record p { place = p.place + 1 } in goes_by s d p G prog r 14 at
      (goes_zero p 0 16 (λ q. G q None)
      (λ ok. record { runs = to_run 16; at = has_fetched refl (still_collecting p q refl refl refl refl c); has = λ told. back q _ refl refl (λ x e f. still q (reg p 9 + 1) _ refl refl ((old x e f).2 ok)) })
      (λ no. record {
        runs = to_run (p.place + 1);
        at = fetches_again (step_on 14 at) (still_collecting p q' refl refl refl refl c);
        has = λ told. back q' _ refl refl (λ x e f. (still q' (reg p 9) _ refl refl (old x e f).0, (old x e f).1));
      }))
  collector_goes (fetches_again at c) old = let q : Process = record p { place = 13 } in goes_by s d p G prog r 15 at
      (record { runs = to_run 13; at = fetches refl (still_collecting p q refl refl refl refl c); has = λ told. back q _ refl refl (λ x e f. (still q (reg p 9) _ refl refl (old x e f).0, (old x e f).1)) })
  collector_goes (has_fetched at c) old = let v : ℕ = slice_index p.pad (reg p 9 % 64) in let q : Process = with_reg p 12 v in let nine = reg_other p 12 v 9 (λ e. absurd (cc)) in let eight = reg_other p 12 v 8 (λ e. absurd (cc)) in goes_by s d p G prog r 16 at
      (record {
        runs = set_run 12 v;
        at = prints (step_on 16 at) (still_collecting p q refl refl eight (reg_other p 12 v 10 (λ e. absurd (cc))) c);
        has = λ told. back q _ refl eight (λ x e f. still q (reg p 9 + 1) _ refl (ap (λ n. n + 1) nine) (old x e f));
      })
  collector_goes (prints at c) old = goes_by s d p G prog r 17 at (λ o l. printed (reg p 12) at c old o l)
  collector_goes (counts at c) old = let v : ℕ = (reg p 9 + reg p 10) % 2 ^ 64 in let q : Process = with_reg p 9 v in let eight = reg_other p 9 v 8 (λ e. absurd (cc)) in goes_by s d p G prog r 18 at
      (record {
        runs = set_run 9 v;
        at = goes_back (step_on 18 at) (still_collecting p q refl refl eight (reg_other p 9 v 10 (λ e. absurd (cc))) c);
        has = λ told. back q _ refl eight (λ x e f. counted (old x e f) c);
      })
  collector_goes (goes_back at c) old = let q : Process = record p { place = 8 } in goes_by s d p G prog r 19 at
      (record { runs = to_run 8; at = goes refl (still_collecting p q refl refl refl refl c); has = λ told. back q _ refl refl (λ x e f. still q _ _ refl refl (old x e f)) })
