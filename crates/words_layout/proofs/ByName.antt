-- An operation on the list of all words is the named operation on the words of a class.
use Rattle.std.proofs.Common.{ℕ, ◌+◌, ◌*◌, ◌%◌, ◌^◌, ◌<◌, Bool, true, false, List, length, get_or, set, replicate, ◌≡◌, refl, sym, ap, ◌∙◌, ⊎_elim, arith}
use Rattle.std.specs.Prelude.{◌==◌, nat_lt, if◌then◌else◌}
use Rattle.std.proofs.lemmas.Bool.{and_parts, ltb-true, eqb-true, eq-eqb, cases_lt}
use Rattle.std.proofs.lemmas.List.{get_or-set_same, get_or-set_other, get_or-replicate, get_or_past, length-replicate}
use Rattle.words_layout.specs.Segments.{same_seg, put_seg}
use Rattle.words_layout.specs.Words.{Guard, OfClass, OfSegment, GuardedWord, NextSerial, Word, Started, Tickets, Finished, Places, ComponentOf, SequencerOf, Guarded, same_guard, same_word, address, Words, word_at, set_word, WordOp, Nothing, Load, Store, Add, answer_to, words_after}
use Rattle.words_layout.specs.Limits.{word_in_limits, op_in_limits}
use Rattle.words_layout.specs.Ops.{IsWithin, Performed}
use Rattle.words_layout.specs.Named.{word_in, words_in, addr_of, op_at, PerformedByName}
use Rattle.words_layout.specs.declared.segment.SegId.{SegId}
use Rattle.words_layout.proofs.Names.{same_seg-true, same_seg-refl, same_guard-true, same_guard-refl, same_word-true, same_word-refl}
use Rattle.words_layout.proofs.Addresses.{addresses_apart, address_limit}

-- a word read by its name is the word of that name
pub word_at-words_in : (ws : List ℕ) (c : ℕ) (w : Word) → word_at (words_in ws c) w ≡ word_in ws c w
word_at-words_in ws c (Started g) = refl
word_at-words_in ws c (Tickets g) = refl
word_at-words_in ws c (Finished g) = refl
word_at-words_in ws c Places = refl
word_at-words_in ws c (ComponentOf x u) = refl
word_at-words_in ws c (SequencerOf u) = refl
word_at-words_in ws c (Guarded w) = refl

-- within the limits it is the word at its address
pub word_in-limits : (ws : List ℕ) (c : ℕ) (w : Word) → word_in_limits w ≡ true → word_in ws c w ≡ get_or ws (address c w) 0
word_in-limits ws c w h = rw h refl

module _ (ws : List ℕ) (c : ℕ) (w : Word) (x : ℕ) (named : word_in_limits w ≡ true) (fits : address c w < length ws) where
  -- the word itself after a store
  stored : word_in (set ws (address c w) x) c w ≡ x
  stored = rw named (get_or-set_same ws (address c w) x 0 fits)

  -- any other word after it
  other : (d : ℕ) (v : Word) → (d ≡ c → v ≡ w → ⊥) → word_in (set ws (address c w) x) d v ≡ word_in ws d v
  other d v apart = by (word_in_limits v) refl
    where
      by : (b : Bool) → word_in_limits v ≡ b → word_in (set ws (address c w) x) d v ≡ word_in ws d v
      by true h = rw h (get_or-set_other ws (address c w) (address d v) x 0 (λ e. let p = addresses_apart d c v w h named e in apart p.0 p.1))
      by false h = rw h refl

  -- the words of another class
  others : (d : ℕ) → (d ≡ c → ⊥) → words_in (set ws (address c w) x) d ≡ words_in ws d
  others d apart = λ k. record {
    started = λ g. (other d (Started g) (λ e _. apart e)) k;
    tickets = λ g. (other d (Tickets g) (λ e _. apart e)) k;
    finished = λ g. (other d (Finished g) (λ e _. apart e)) k;
    places = (other d Places (λ e _. apart e)) k;
    component = λ y u. (other d (ComponentOf y u) (λ e _. apart e)) k;
    sequencer = λ u. (other d (SequencerOf u) (λ e _. apart e)) k;
    guarded = λ v. (other d (Guarded v) (λ e _. apart e)) k;
  }

  -- another word of the class itself
  own : (v : Word) → (v ≡ w → ⊥) → word_in (set ws (address c w) x) c v ≡ word_in ws c v
  own v apart = other c v (λ _ e. apart e)

  -- a word of the class that is tested to be the stored one or not
  tested : (v : Word) (same : Bool) → (same ≡ true → v ≡ w) → (v ≡ w → same ≡ true) → word_in (set ws (address c w) x) c v ≡ (if same then x else word_in ws c v)
  tested v true sound whole = ap (word_in (set ws (address c w) x) c) (sound refl) ∙ stored
  tested v false sound whole = own v (λ e. let f = whole e in cc)

guard_same : (g h : Guard) → g ≡ h → same_guard g h ≡ true
guard_same g h e = ap (λ q. same_guard q h) e ∙ same_guard-refl h

seg_same : (v u : SegId) → v ≡ u → same_seg v u ≡ true
seg_same v u e = ap (λ q. same_seg q u) e ∙ same_seg-refl u

word_same : (v q : GuardedWord) → v ≡ q → same_word v q ≡ true
word_same v q e = ap (λ r. same_word r q) e ∙ same_word-refl q

-- a component after a store of a component
component_after : (ws : List ℕ) (c z : ℕ) (u : SegId) (x : ℕ) → word_in_limits (ComponentOf z u) ≡ true → address c (ComponentOf z u) < length ws → (y : ℕ) (v : SegId) →
    word_in (set ws (address c (ComponentOf z u)) x) c (ComponentOf y v) ≡ (if y == z then put_seg (λ t. word_in ws c (ComponentOf z t)) u x else (λ t. word_in ws c (ComponentOf y t))) v
component_after ws c z u x h fits y v = by (y == z) refl
  where
    by : (b : Bool) → (y == z) ≡ b → word_in (set ws (address c (ComponentOf z u)) x) c (ComponentOf y v) ≡ (if b then put_seg (λ t. word_in ws c (ComponentOf z t)) u x else (λ t. word_in ws c (ComponentOf y t))) v
    by true e =
        ap (λ k. word_in (set ws (address c (ComponentOf z u)) x) c (ComponentOf k v)) (eqb-true y z e) ∙
        tested ws c (ComponentOf z u) x h fits (ComponentOf z v) (same_seg v u) (λ e. ap (ComponentOf z) (same_seg-true v u e)) (λ e. let same : v ≡ u = cc in seg_same v u same)
    by false e = own ws c (ComponentOf z u) x h fits (ComponentOf y v) (λ p. let same : y ≡ z = cc in let t : (y == z) ≡ true = eq-eqb y z same in cc)

-- the words of the class itself after a store
own_words : (ws : List ℕ) (c : ℕ) (w : Word) (x : ℕ) → word_in_limits w ≡ true → address c w < length ws → words_in (set ws (address c w) x) c ≡ set_word (words_in ws c) w x
own_words ws c (Started h) x l fits = λ k. record {
  started = λ g. (tested ws c (Started h) x l fits (Started g) (same_guard g h) (λ e. ap Started (same_guard-true g h e)) (λ e. let same : g ≡ h = cc in guard_same g h same)) k;
  tickets = λ g. (own ws c (Started h) x l fits (Tickets g) (λ e. cc)) k;
  finished = λ g. (own ws c (Started h) x l fits (Finished g) (λ e. cc)) k;
  places = (own ws c (Started h) x l fits Places (λ e. cc)) k;
  component = λ y v. (own ws c (Started h) x l fits (ComponentOf y v) (λ e. cc)) k;
  sequencer = λ v. (own ws c (Started h) x l fits (SequencerOf v) (λ e. cc)) k;
  guarded = λ v. (own ws c (Started h) x l fits (Guarded v) (λ e. cc)) k;
}
own_words ws c (Tickets h) x l fits = λ k. record {
  started = λ g. (own ws c (Tickets h) x l fits (Started g) (λ e. cc)) k;
  tickets = λ g. (tested ws c (Tickets h) x l fits (Tickets g) (same_guard g h) (λ e. ap Tickets (same_guard-true g h e)) (λ e. let same : g ≡ h = cc in guard_same g h same)) k;
  finished = λ g. (own ws c (Tickets h) x l fits (Finished g) (λ e. cc)) k;
  places = (own ws c (Tickets h) x l fits Places (λ e. cc)) k;
  component = λ y v. (own ws c (Tickets h) x l fits (ComponentOf y v) (λ e. cc)) k;
  sequencer = λ v. (own ws c (Tickets h) x l fits (SequencerOf v) (λ e. cc)) k;
  guarded = λ v. (own ws c (Tickets h) x l fits (Guarded v) (λ e. cc)) k;
}
own_words ws c (Finished h) x l fits = λ k. record {
  started = λ g. (own ws c (Finished h) x l fits (Started g) (λ e. cc)) k;
  tickets = λ g. (own ws c (Finished h) x l fits (Tickets g) (λ e. cc)) k;
  finished = λ g. (tested ws c (Finished h) x l fits (Finished g) (same_guard g h) (λ e. ap Finished (same_guard-true g h e)) (λ e. let same : g ≡ h = cc in guard_same g h same)) k;
  places = (own ws c (Finished h) x l fits Places (λ e. cc)) k;
  component = λ y v. (own ws c (Finished h) x l fits (ComponentOf y v) (λ e. cc)) k;
  sequencer = λ v. (own ws c (Finished h) x l fits (SequencerOf v) (λ e. cc)) k;
  guarded = λ v. (own ws c (Finished h) x l fits (Guarded v) (λ e. cc)) k;
}
own_words ws c Places x l fits = λ k. record {
  started = λ g. (own ws c Places x l fits (Started g) (λ e. cc)) k;
  tickets = λ g. (own ws c Places x l fits (Tickets g) (λ e. cc)) k;
  finished = λ g. (own ws c Places x l fits (Finished g) (λ e. cc)) k;
  places = (stored ws c Places x l fits) k;
  component = λ y v. (own ws c Places x l fits (ComponentOf y v) (λ e. cc)) k;
  sequencer = λ v. (own ws c Places x l fits (SequencerOf v) (λ e. cc)) k;
  guarded = λ v. (own ws c Places x l fits (Guarded v) (λ e. cc)) k;
}
own_words ws c (ComponentOf z u) x l fits = λ k. record {
  started = λ g. (own ws c (ComponentOf z u) x l fits (Started g) (λ e. cc)) k;
  tickets = λ g. (own ws c (ComponentOf z u) x l fits (Tickets g) (λ e. cc)) k;
  finished = λ g. (own ws c (ComponentOf z u) x l fits (Finished g) (λ e. cc)) k;
  places = (own ws c (ComponentOf z u) x l fits Places (λ e. cc)) k;
  component = λ y v. (component_after ws c z u x l fits y v) k;
  sequencer = λ v. (own ws c (ComponentOf z u) x l fits (SequencerOf v) (λ e. cc)) k;
  guarded = λ v. (own ws c (ComponentOf z u) x l fits (Guarded v) (λ e. cc)) k;
}
own_words ws c (SequencerOf u) x l fits = λ k. record {
  started = λ g. (own ws c (SequencerOf u) x l fits (Started g) (λ e. cc)) k;
  tickets = λ g. (own ws c (SequencerOf u) x l fits (Tickets g) (λ e. cc)) k;
  finished = λ g. (own ws c (SequencerOf u) x l fits (Finished g) (λ e. cc)) k;
  places = (own ws c (SequencerOf u) x l fits Places (λ e. cc)) k;
  component = λ y v. (own ws c (SequencerOf u) x l fits (ComponentOf y v) (λ e. cc)) k;
  sequencer = λ v. (tested ws c (SequencerOf u) x l fits (SequencerOf v) (same_seg v u) (λ e. ap SequencerOf (same_seg-true v u e)) (λ e. let same : v ≡ u = cc in seg_same v u same)) k;
  guarded = λ v. (own ws c (SequencerOf u) x l fits (Guarded v) (λ e. cc)) k;
}
own_words ws c (Guarded q) x l fits = λ k. record {
  started = λ g. (own ws c (Guarded q) x l fits (Started g) (λ e. cc)) k;
  tickets = λ g. (own ws c (Guarded q) x l fits (Tickets g) (λ e. cc)) k;
  finished = λ g. (own ws c (Guarded q) x l fits (Finished g) (λ e. cc)) k;
  places = (own ws c (Guarded q) x l fits Places (λ e. cc)) k;
  component = λ y v. (own ws c (Guarded q) x l fits (ComponentOf y v) (λ e. cc)) k;
  sequencer = λ v. (own ws c (Guarded q) x l fits (SequencerOf v) (λ e. cc)) k;
  guarded = λ v. (tested ws c (Guarded q) x l fits (Guarded v) (same_word v q) (λ e. ap Guarded (same_word-true v q e)) (λ e. let same : v ≡ q = cc in word_same v q same)) k;
}

-- a store of a named word
stored_by_name : (classes d : ℕ) (w : Word) (x : ℕ) (ws : List ℕ) → length ws ≡ 34869 * classes → d < classes → word_in_limits w ≡ true →
    (words_in (set ws (address d w) x) d ≡ set_word (words_in ws d) w x) × ((c : ℕ) → (c ≡ d → ⊥) → words_in (set ws (address d w) x) c ≡ words_in ws c)
stored_by_name classes d w x ws long within h =
    let fits : address d w < length ws = fits_in classes (address d w) (length ws) long (address_limit classes d w within h) in
    (own_words ws d w x h fits, others ws d w x h fits)
  where
    fits_in : (classes a n : ℕ) → n ≡ 34869 * classes → a < 34869 * classes → a < n
    fits_in classes a n e h = omega arith

pub operations_go_by_name : (classes d : ℕ) (op : WordOp) (before : List ℕ) (answer : ℕ) (after : List ℕ) → length before ≡ 34869 * classes → d < classes → op_in_limits classes op ≡ true →
    Performed before (op_at d op) answer after → PerformedByName before d op answer after
operations_go_by_name classes d Nothing before answer after long within h p = record {
  answered = p.answered;
  own = ap (λ ws. words_in ws d) p.done;
  others = λ c _. ap (λ ws. words_in ws c) p.done;
}
operations_go_by_name classes d (Load class w) before answer after long within h p =
    let parts = and_parts (nat_lt class classes) (word_in_limits w) h in record {
      answered = p.answered ∙ sym (word_in-limits before class w parts.1) ∙ sym (word_at-words_in before class w);
      own = ap (λ ws. words_in ws d) p.done;
      others = λ c _. ap (λ ws. words_in ws c) p.done;
    }
operations_go_by_name classes d (Store w v) before answer after long within h p =
    let done = stored_by_name classes d w v before long within h in record {
      answered = p.answered;
      own = ap (λ ws. words_in ws d) p.done ∙ done.0;
      others = λ c apart. ap (λ ws. words_in ws c) p.done ∙ done.1 c apart;
    }
operations_go_by_name classes d (Add w v) before answer after long within h p =
    let read : get_or before (address d w) 0 ≡ word_at (words_in before d) w = sym (word_in-limits before d w h) ∙ sym (word_at-words_in before d w) in
    let sum = (word_at (words_in before d) w + v) % 2 ^ 64 in
    let now : after ≡ set before (address d w) sum = p.done ∙ ap (λ n. set before (address d w) ((n + v) % 2 ^ 64)) read in
    let done = stored_by_name classes d w sum before long within h in record {
      answered = p.answered ∙ read;
      own = ap (λ ws. words_in ws d) now ∙ done.0;
      others = λ c apart. ap (λ ws. words_in ws c) now ∙ done.1 c apart;
    }

pub named_operations_are_within : (classes d : ℕ) (op : WordOp) → d < classes → op_in_limits classes op ≡ true → IsWithin classes (op_at d op)
named_operations_are_within classes d Nothing within h = tt
named_operations_are_within classes d (Load class w) within h =
    let parts = and_parts (nat_lt class classes) (word_in_limits w) h in address_limit classes class w (ltb-true class classes parts.0) parts.1
named_operations_are_within classes d (Store w v) within h = address_limit classes d w within h
named_operations_are_within classes d (Add w v) within h = address_limit classes d w within h

pub fresh_words_are_zero : (count class : ℕ) (word : Word) → word_in (replicate count 0) class word ≡ 0
fresh_words_are_zero count class word = by (word_in_limits word) refl
  where
    zero_at : (n a : ℕ) → get_or {A = ℕ} (replicate n 0) a 0 ≡ 0
    zero_at n a = ⊎_elim (λ below. get_or-replicate {A = ℕ} n a 0 0 below) (λ past. get_or_past {X = ℕ} (replicate n 0) a 0 (omega (arith, length-replicate {A = ℕ} n 0, past))) (cases_lt a n)

    by : (b : Bool) → word_in_limits word ≡ b → word_in (replicate count 0) class word ≡ 0
    by true h = rw h (zero_at count (address class word))
    by false h = rw h refl
