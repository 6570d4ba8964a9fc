-- What a state holds is what the effects so far come to.
use Rattle.std.proofs.Common.{ℕ, ◌+◌, Bool, true, false, ◌&&◌, List, [], ◌∷◌, ◌≡◌, refl, sym, ap, ◌∙◌, Option, Some, None, map, arith}
use Rattle.std.specs.Prelude.{◌==◌, is_some, count_by}
use Rattle.std.proofs.lemmas.Bool.{eq-eqb}
use Rattle.lists.specs.Lists.{below}
use Rattle.words_layout.specs.declared.segment.SegId.{SegId}
use Rattle.words_layout.specs.declared.coding.Alias.{Alias}
use Rattle.policy.specs.Outcome.{Outcome}
use Rattle.class_model.specs.Config.{Config, shared_of}
use Rattle.class_model.specs.Plan.{Request}
use Rattle.class_model.specs.State.{State, Part, CellHome, Never, Stored, In, Deleted, cell_at, with_part}
use Rattle.class_model.specs.Run.{Happened, opening, kept_of, opening_home, opening_serial}
use Rattle.class_model.specs.Content.{prints, outs_in}
use Rattle.effect_laws.proofs.Counting.{one_if}
use Rattle.effect_laws.proofs.Growing.{by_put}
use Rattle.content_laws.proofs.Tallies.{count_cons}
use Rattle.grant_laws.specs.Grants.{Place, Outside, Inside, Lost, entry_asked, stands_in, place_asked, place_after, page_asked, has_page_after, creates, creates_in}

-- the place that a home is
abbrev pub place_of : CellHome → Place
place_of Never = Outside
place_of Stored = Outside
place_of (In live) = Inside
place_of Deleted = Lost

-- what stands in the entries of the mentor of class c, before a request of that class
abbrev pub standing : Config → ℕ → List Happened → SegId → ℕ → Option Alias
standing k c latest v e = stands_in k c v e latest

-- all of a state after these effects, the latest first
pub record Kept (k : Config) (latest : List Happened) (a : State) : Type 0 where
  pub shared : a.shared ≡ shared_of k
  pub used : (c : ℕ) → (a.part c).used ≡ outs_in c latest
  pub serial : (c : ℕ) → (a.part c).next_serial ≡ opening_serial k c + creates_in c latest
  pub entries : (c : ℕ) (u : SegId) → (cell_at a c u).entries ≡ map (λ e. stands_in k c u e latest) (below 8)
  pub places : (c : ℕ) (u : SegId) → place_of (cell_at a c u).home ≡ place_after k c u latest
  pub pages : (c : ℕ) (u : SegId) → is_some (cell_at a c u).stored ≡ has_page_after k c u latest

pub opening_kept : (k : Config) → Kept k [] (opening k)
opening_kept k = record {
  shared = refl;
  used = λ c. refl;
  serial = λ c. omega arith;
  entries = λ c u. refl;
  places = λ c u. by_kept (kept_of k c u);
  pages = λ c u. refl;
}
  where
    by_kept : (o : Option (List ℕ)) → place_of (opening_home o) ≡ Outside
    by_kept None = refl
    by_kept (Some words) = refl

-- what the part of class d is after it asked this
pub record PartKept (k : Config) (latest : List Happened) (a : State) (d : ℕ) (asked : Option (Request × Outcome)) (X : Part) : Type 0 where
  pub used : X.used ≡ (a.part d).used + one_if (prints asked)
  pub serial : X.next_serial ≡ (a.part d).next_serial + one_if (creates asked)
  pub entries : (u : SegId) → (X.cell u).entries ≡ map (λ e. entry_asked u e asked (stands_in k d u e latest)) (below 8)
  pub places : (u : SegId) → place_of (X.cell u).home ≡ place_asked d u (standing k d latest) asked (place_after k d u latest)
  pub pages : (u : SegId) → is_some (X.cell u).stored ≡ page_asked d u (standing k d latest) asked (has_page_after k d u latest)

module _ (k : Config) (latest : List Happened) (a : State) (s : Kept k latest a) (h : Happened) where
  own : (h.who.class == h.who.class) ≡ true
  own = eq-eqb h.who.class h.who.class refl

  flip : (c : ℕ) → (c == h.who.class) ≡ false → (h.who.class == c) ≡ false
  flip c e = Rattle.std.proofs.lemmas.Bool.ne_eqb h.who.class c (λ same. Rattle.std.proofs.lemmas.Bool.both_ways (c == h.who.class) e (eq-eqb c h.who.class (sym same)))

  -- counts of the own class rise where the test holds, those of others not
  own_count : (f : Option (Request × Outcome) → Bool) →
      count_by (λ (h' : Happened). h'.who.class == h.who.class && f h'.deed.asked) (h ∷ latest) ≡ one_if (f h.deed.asked) + count_by (λ (h' : Happened). h'.who.class == h.who.class && f h'.deed.asked) latest
  own_count f =
      let c = count_cons (λ (h' : Happened). h'.who.class == h.who.class && f h'.deed.asked) h latest in
      let o : one_if (h.who.class == h.who.class && f h.deed.asked) ≡ one_if (f h.deed.asked) = rw own refl in omega (arith, c, o)

  other_count : (c : ℕ) → (c == h.who.class) ≡ false → (f : Option (Request × Outcome) → Bool) →
      count_by (λ (h' : Happened). h'.who.class == c && f h'.deed.asked) (h ∷ latest) ≡ count_by (λ (h' : Happened). h'.who.class == c && f h'.deed.asked) latest
  other_count c other f =
      let r = count_cons (λ (h' : Happened). h'.who.class == c && f h'.deed.asked) h latest in
      let o : one_if (h.who.class == c && f h.deed.asked) ≡ 0 = rw (flip c other) refl in omega (arith, r, o)

  used_more : (n : ℕ) → n ≡ (a.part h.who.class).used + one_if (prints h.deed.asked) → n ≡ outs_in h.who.class (h ∷ latest)
  used_more n e = let c = own_count prints in let b = s.used h.who.class in omega (arith, e, c, b)

  serial_more : (n : ℕ) → n ≡ (a.part h.who.class).next_serial + one_if (creates h.deed.asked) → n ≡ opening_serial k h.who.class + creates_in h.who.class (h ∷ latest)
  serial_more n e = let c = own_count creates in let b = s.serial h.who.class in omega (arith, e, c, b)

  pub kept_with : (X : Part) → PartKept k latest a h.who.class h.deed.asked X → Kept k (h ∷ latest) (with_part a h.who.class X)
  kept_with X p = record {
    shared = s.shared;
    used = λ c. by_put (λ c (z : Part). z.used ≡ outs_in c (h ∷ latest)) a.part h.who.class X c
        (used_more _ p.used) (λ other. s.used c ∙ sym (other_count c other prints));
    serial = λ c. by_put (λ c (z : Part). z.next_serial ≡ opening_serial k c + creates_in c (h ∷ latest)) a.part h.who.class X c
        (serial_more _ p.serial) (λ other. s.serial c ∙ ap (λ n. opening_serial k c + n) (sym (other_count c other creates)));
    entries = λ c u. by_put (λ c (z : Part). (z.cell u).entries ≡ map (λ e. stands_in k c u e (h ∷ latest)) (below 8)) a.part h.who.class X c
        (rw own (p.entries u)) (λ other. rw (flip c other) (s.entries c u));
    places = λ c u. by_put (λ c (z : Part). place_of (z.cell u).home ≡ place_after k c u (h ∷ latest)) a.part h.who.class X c
        (rw own (p.places u)) (λ other. rw (flip c other) (s.places c u));
    pages = λ c u. by_put (λ c (z : Part). is_some (z.cell u).stored ≡ has_page_after k c u (h ∷ latest)) a.part h.who.class X c
        (rw own (p.pages u)) (λ other. rw (flip c other) (s.pages c u));
  }
