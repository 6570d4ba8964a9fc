-- What stands between the posters stays so: where one draws a ticket, gives it up, comes through, writes, and serves it.
use Rattle.std.proofs.Common.{ℕ, ◌+◌, ◌<◌, ◌≤◌, true, false, List, [], ◌∷◌, ◌++◌, ◌≡◌, sym, ap, subst, ◌∙◌, ◌⊎◌, inl, inr, length, arith}
use Rattle.std.specs.Prelude.{slice_index_or, slice_set}
use Rattle.std.proofs.lemmas.List.{length-append, get_or_append_left, get_or-set_same, get_or-set_other}
use Rattle.std.proofs.Math.Seq.{get_or-append_seam}
use Rattle.std.proofs.lemmas.Bool.{cases_lt}
use Rattle.class_model.specs.Process.{ProcName}
use Rattle.mailbox_laws.specs.Protocol.{Hold, HoldIs, Mail}

-- the posts before stand in front
pub before_push : (posts : List ℕ) (v i : ℕ) → i < length posts → slice_index_or (posts ++ v ∷ []) i 0 ≡ slice_index_or posts i 0
before_push posts v i h = get_or_append_left posts (v ∷ []) 0 i h

pub at_push : (posts : List ℕ) (v : ℕ) → slice_index_or (posts ++ v ∷ []) (length posts) 0 ≡ v
at_push posts v = get_or-append_seam posts v [] 0

-- one poster's hold may have changed, and no other's
module _ (Holds Holds' : ProcName → Hold → Type 0) (n : ProcName) (others : (m : ProcName) → (n ≡ m) ⊎ ((h : Hold) → Holds' m h → Holds m h)) where
  -- a property of each hold
  each_of : (Q Q' : Hold → Type 0) → ((m : ProcName) (h : Hold) → Holds m h → Q h) → ((m : ProcName) (h : Hold) → Holds m h → Q h → Q' h) →
      ((h : Hold) → Holds' n h → Q' h) → (m : ProcName) (h : Hold) → Holds' m h → Q' h
  each_of Q Q' old go new m h e = elim (others m) [
    | inl same ↦ new h (subst (λ z. Holds' z h) (sym same) e)
    | inr as_it_was ↦ go m h (as_it_was h e) (old m h (as_it_was h e))
  ]

  -- no ticket has two holders, if the changed hold has a ticket that no other one has
  apart_of : ((m k : ProcName) (h g : Hold) → Holds m h → Holds k g → h.ticket ≡ g.ticket → m ≡ k) →
      ((m : ProcName) (h g : Hold) → Holds m h → Holds' n g → h.ticket ≡ g.ticket → m ≡ n) →
      (m k : ProcName) (h g : Hold) → Holds' m h → Holds' k g → h.ticket ≡ g.ticket → m ≡ k
  apart_of old new m k h g em ek same = by_both (others m) (others k)
    where
      by_both : (n ≡ m) ⊎ ((h : Hold) → Holds' m h → Holds m h) → (n ≡ k) ⊎ ((h : Hold) → Holds' k h → Holds k h) → m ≡ k
      by_both (inl x) (inl y) = sym x ∙ y
      by_both (inl x) (inr y) = sym x ∙ sym (new k g h (y g ek) (subst (λ z. Holds' z h) (sym x) em) (sym same))
      by_both (inr x) (inl y) = new m h g (x h em) (subst (λ z. Holds' z g) (sym y) ek) same ∙ y
      by_both (inr x) (inr y) = old m k h g (x h em) (y g ek) same

  -- a ticket is drawn: the next number, and one more post
  pub draws_ticket : (posts words : List ℕ) (count v : ℕ) → Mail posts words count Holds → ((h : Hold) → Holds' n h → record { ticket = length posts; value = v; through = false; written = false } ≡ h) →
      Mail (posts ++ v ∷ []) words count Holds'
  draws_ticket posts words count v m new = record {
    drawn = (let d = m.drawn in let l = length-append posts (v ∷ []) in omega (arith, d, l));
    served = λ i h. (let d = m.drawn in m.served i h ∙ sym (before_push posts v i (omega (arith, d, h))));
    each = each_of (HoldIs posts words count) (HoldIs (posts ++ v ∷ []) words count) m.each
        (λ k h e i. record {
          waits = i.waits;
          drawn = (let d = i.drawn in let l = length-append posts (v ∷ []) in omega (arith, d, l));
          posts_value = before_push posts v h.ticket i.drawn ∙ i.posts_value;
          next = i.next;
          written = i.written;
        })
        (λ h e. subst (HoldIs (posts ++ v ∷ []) words count) (new h e) (record {
          waits = m.drawn;
          drawn = (let l = length-append posts (v ∷ []) in omega (arith, l));
          posts_value = at_push posts v;
          next = λ x. absurd (cc);
          written = λ x. absurd (cc);
        }));
    apart = apart_of m.apart (λ k h g e f same. (let i = m.each k h e in let low = i.drawn in let is : length posts ≡ g.ticket = ap (λ (z : Hold). z.ticket) (new g f) in absurd (omega (arith, low, is, same))));
  }

  -- it holds what it held, with the same ticket, or nothing
  pub keeps_holds : (posts words : List ℕ) (count : ℕ) → Mail posts words count Holds → ((h : Hold) → Holds' n h → (g : Hold) × Holds n g × (g.ticket ≡ h.ticket) × (HoldIs posts words count g → HoldIs posts words count h)) →
      Mail posts words count Holds'
  keeps_holds posts words count m new = record {
    drawn = m.drawn;
    served = m.served;
    each = each_of (HoldIs posts words count) (HoldIs posts words count) m.each (λ k h e i. i) (λ h e. (let z = new h e in z.3 (m.each n z.0 z.1)));
    apart = apart_of m.apart (λ k h g e f same. (let z = new g f in m.apart k n h z.0 e z.1 (same ∙ sym z.2)));
  }

  -- two that came through are one
  pub one_through : (posts words : List ℕ) (count : ℕ) → Mail posts words count Holds → (k : ProcName) (h g : Hold) → Holds n h → h.through ≡ true → Holds k g → g.through ≡ true → (n ≡ k) × (h.ticket ≡ g.ticket)
  one_through posts words count m k h g e t f s =
      let i = m.each n h e in let j = m.each k g f in
      let a = i.waits in let b = i.next t in let c = j.waits in let d = j.next s in
      (m.apart n k h g e f (omega (arith, a, b, c, d)), omega (arith, a, b, c, d))

  -- who came through writes its word
  pub writes_word : (posts words : List ℕ) (count : ℕ) → Mail posts words count Holds → (h : Hold) → Holds n h → h.through ≡ true → h.ticket < length words →
      ((g : Hold) → Holds' n g → record h { written = true } ≡ g) → Mail posts (slice_set words h.ticket h.value) count Holds'
  writes_word posts words count m h old through inside new = record {
    drawn = m.drawn;
    served = λ i low. (let w = m.each n h old in let a = w.waits in get_or-set_other words h.ticket i h.value 0 (λ e. (let e' : i ≡ h.ticket = e in omega (arith, a, low, e'))) ∙ m.served i low);
    each = each_of (HoldIs posts words count) (HoldIs posts (slice_set words h.ticket h.value) count) m.each
        (λ k g e i. record {
          waits = i.waits;
          drawn = i.drawn;
          posts_value = i.posts_value;
          next = i.next;
          written = λ x. ((i.written x).0, by_same k g e i (i.written x).0);
        })
        (λ g e. subst (HoldIs posts (slice_set words h.ticket h.value) count) (new g e) (let i = m.each n h old in record {
          waits = i.waits;
          drawn = i.drawn;
          posts_value = i.posts_value;
          next = i.next;
          written = λ x. (through, get_or-set_same words h.ticket h.value 0 inside);
        }));
    apart = apart_of m.apart (λ k x g e f t. (let is_new : g.ticket ≡ h.ticket = ap (λ (z : Hold). z.ticket) (sym (new g f)) in m.apart k n x h e old (t ∙ is_new)));
  }
    where
      by_same : (k : ProcName) (g : Hold) → Holds k g → HoldIs posts words count g → g.through ≡ true → slice_index_or (slice_set words h.ticket h.value) g.ticket 0 ≡ g.value
      by_same k g e j t =
          let same : h.ticket ≡ g.ticket = (one_through posts words count m k h g old through e t).1 in
          let i = m.each n h old in
          subst (λ z. slice_index_or (slice_set words h.ticket h.value) z 0 ≡ g.value) same
          (get_or-set_same words h.ticket h.value 0 inside ∙ sym i.posts_value ∙ ap (λ z. slice_index_or posts z 0) same ∙ j.posts_value)

  -- who wrote its word serves its ticket: the eventcount rises by one
  pub serves_ticket : (posts words : List ℕ) (count : ℕ) → Mail posts words count Holds → (h : Hold) → Holds n h → h.written ≡ true → ((g : Hold) → Holds' n g → ⊥) → Mail posts words (count + 1) Holds'
  serves_ticket posts words count m h old wrote new = let i = m.each n h old in let low = i.drawn in let at = i.waits in let done = i.written wrote in let reached = i.next done.0 in record {
    drawn = omega (arith, low, at, reached);
    served = λ j less. by_order j less;
    each = λ k g e. by_other k g e (others k);
    apart = apart_of m.apart (λ k h g e f same. absurd (new g f));
  }
    where
      is_next : h.ticket ≡ count
      is_next = let i = m.each n h old in let at = i.waits in let reached = i.next (i.written wrote).0 in omega (arith, at, reached)

      by_order : (j : ℕ) → j < count + 1 → slice_index_or words j 0 ≡ slice_index_or posts j 0
      by_order j less = elim (cases_lt j count) [
        | inl low ↦ m.served j low
        | inr high ↦ (let i = m.each n h old in let e = is_next in let same : h.ticket ≡ j = omega (arith, less, high, e) in
            subst (λ j. slice_index_or words j 0 ≡ slice_index_or posts j 0) same ((i.written wrote).1 ∙ sym i.posts_value))
      ]

      by_other : (k : ProcName) (g : Hold) → Holds' k g → (n ≡ k) ⊎ ((h : Hold) → Holds' k h → Holds k h) → HoldIs posts words (count + 1) g
      by_other k g e (inl same) = absurd (new g (subst (λ z. Holds' z g) (sym same) e))
      by_other k g e (inr as_it_was) =
          let was : Holds k g = as_it_was g e in let i = m.each k g was in let waits = i.waits in
          let later : count + 1 ≤ g.ticket = elim (cases_lt count g.ticket) [
            | inl low ↦ omega (arith, low)
            | inr high ↦ (let is = is_next in let same : n ≡ k = m.apart n k h g old was (omega (arith, is, high, waits)) in
                absurd (new g (subst (λ z. Holds' z g) (sym same) e)))
          ] in
          record {
            waits = later;
            drawn = i.drawn;
            posts_value = i.posts_value;
            next = λ t. (let low = i.next t in absurd (omega (arith, low, later)));
            written = i.written;
          }

-- where each word reads as it did
pub words_same : (posts words words' : List ℕ) (count : ℕ) (Holds : ProcName → Hold → Type 0) → ((i : ℕ) → slice_index_or words' i 0 ≡ slice_index_or words i 0) → Mail posts words count Holds → Mail posts words' count Holds
words_same posts words words' count Holds same m = record {
  drawn = m.drawn;
  served = λ i low. same i ∙ m.served i low;
  each = λ n h e. (let i = m.each n h e in record { waits = i.waits; drawn = i.drawn; posts_value = i.posts_value; next = i.next; written = λ x. ((i.written x).0, same h.ticket ∙ (i.written x).1) });
  apart = m.apart;
}
