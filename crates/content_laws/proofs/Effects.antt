-- The effect of each request leaves in its part what the effects so far and it come to.
use Rattle.std.proofs.Common.{ℕ, ◌+◌, Bool, true, false, not, ◌&&◌, List, [], ◌∷◌, ◌++◌, ◌≡◌, refl, sym, ap, subst, ◌∙◌, Option, Some, None, arith, length}
use Rattle.std.specs.Prelude.{◌==◌, if◌then◌else◌, nat_lt, nat_le, is_none, replicate, unwrap_or}
use Rattle.std.specs.List.{cons_option}
use Rattle.std.proofs.lemmas.Bool.{both_ways, ne_eqb, eq-eqb}
use Rattle.std.proofs.lemmas.List.{append-nil}
use Rattle.lists.specs.Lists.{overwrite, part_of}
use Rattle.rings.specs.Brackets.{Brackets}
use Rattle.words_layout.specs.Segments.{seg, same_seg, put_seg}
use Rattle.words_layout.specs.declared.segment.SegId.{SegId}
use Rattle.words_layout.specs.declared.coding.Alias.{Alias}
use Rattle.words_layout.proofs.Names.{same_seg-true, same_seg-refl}
use Rattle.policy.specs.Known.{Known, new_alias}
use Rattle.policy.specs.Outcome.{Outcome, Refused, Value, Words, Printed, Tally}
use Rattle.policy.specs.Verdict.{first_broken, ◌⇒◌}
use Rattle.policy.specs.declared.rule.Rule.{Rule}
use Rattle.policy.specs.declared.rule.Rule.TheVariants.{NoEntry, Gone, NotIn, AlreadyIn, NoFrame, NoPage, ConsoleFull}
use Rattle.class_model.specs.Config.{Config, pool_of}
use Rattle.class_model.specs.Plan.{Request, MakeKnown, Create, Delete, SwapIn, SwapOut, Fetch, Update, Read, Advance, Ticket, Out}
use Rattle.class_model.specs.State.{State, Part, Cell, CellHome, Never, In, Stored, Deleted, with_cell, cell_of, entry_at, live_words, live_of, is_deleted, is_deleted_home, is_in, is_in_home, frames_in_use, pages_in_use}
use Rattle.class_model.specs.Step.{Effect, chosen, effect, delete_effect, deleted, emptied, with_entry}
use Rattle.class_model.specs.Run.{Happened}
use Rattle.class_model.specs.Access.{Given, given_to}
use Rattle.class_model.specs.Content.{update_asked, updates_of, after_updates, advances, draws, prints}
use Rattle.effect_laws.proofs.CreateTests.{passed_head, not_false}
use Rattle.effect_laws.proofs.Growing.{by_put}
use Rattle.effect_laws.proofs.GateData.{put-seg-both}
use Rattle.access_laws.proofs.Told.{IsGiven, EntryTold}
use Rattle.content_laws.proofs.Shown.{Of, given_size, first_words, words_now, HomeIs, Blank, Shown, one, PartShown}

-- no draw, no advance, no update
abbrev pub Quiet : Option (Request × Outcome) → Type 0
Quiet asked = (u : SegId) → (draws u asked ≡ false) × (advances u asked ≡ false) × (update_asked u asked ≡ None)

-- the words after one update more
after_push : (words : List ℕ) (xs : List (ℕ × List ℕ)) (x : ℕ × List ℕ) → after_updates words (xs ++ x ∷ []) ≡ overwrite (after_updates words xs) x.0 x.1
after_push words [] x = refl
after_push words (y ∷ ys) x = after_push (overwrite words y.0 y.1) ys x

seg_apart : (u v : SegId) → (u ≡ v → ⊥) → same_seg u v ≡ false
seg_apart u v h = by_test (same_seg u v) refl
  where
    by_test : (b : Bool) → same_seg u v ≡ b → b ≡ false
    by_test true e = absurd (h (same_seg-true u v e))
    by_test false e = refl

seg_flip : (u v : SegId) → same_seg u v ≡ false → same_seg v u ≡ false
seg_flip u v e = seg_apart v u (λ same. both_ways (same_seg u v) e (subst (λ z. same_seg u z ≡ true) (sym same) (same_seg-refl u)))

pub plus_none : (test : Bool) (n m : ℕ) → test ≡ false → n ≡ m → n ≡ m + one test
plus_none test n m e f = rw e (omega (arith, f))

-- the live words of a cell that is In
pub in_live : (size : ℕ) (h : CellHome) (st : Option (List ℕ)) (words : List ℕ) → is_in_home h ≡ true → HomeIs size h st words → live_of h ≡ words
in_live size Never st words e h = absurd (cc)
in_live size Stored st words e h = absurd (cc)
in_live size (In live) st words e h = h
in_live size Deleted st words e h = absurd (cc)

-- the words that a cell would have if it were swapped in
unswapped : (size : ℕ) (h : CellHome) (st : Option (List ℕ)) (words : List ℕ) → is_deleted_home h ≡ false → is_in_home h ≡ false → HomeIs size h st words → unwrap_or st (replicate size 0) ≡ words
unswapped size Never st words e f h = rw h.0 h.1
unswapped size Stored st words e f h = rw h refl
unswapped size (In live) st words e f h = absurd (cc)
unswapped size Deleted st words e f h = absurd (cc)

module _ (k : Config) (all : List Given) (past : List Happened) (a : State) (s : Shown k all past a) (d : ℕ) where
  -- cells of the class with the words of the updates so far, and the sequencers of before
  pub record CellsShown (f : SegId → Cell) : Type 0 where
    pub sequencers : (u : SegId) → (f u).sequencer ≡ ((a.part d).cell u).sequencer
    pub writes : (u : SegId) → (f u).writes ≡ ((a.part d).cell u).writes
    pub homes : (u : SegId) → Of all d u → HomeIs (given_size (given_to all u)) (f u).home (f u).stored (words_now k all past u)
    pub blank : (u : SegId) → given_to all u ≡ None → Blank (f u).home (f u).stored

  pub as_before : CellsShown (a.part d).cell
  as_before = record { sequencers = λ u. refl; writes = λ u. refl; homes = s.homes d; blank = λ u e. s.blank u e d }

  one_cell : (f : SegId → Cell) → CellsShown f → (v : SegId) (cell : Cell) → cell.sequencer ≡ (f v).sequencer → cell.writes ≡ (f v).writes →
      (Of all d v → HomeIs (given_size (given_to all v)) cell.home cell.stored (words_now k all past v)) → (given_to all v ≡ None → Blank cell.home cell.stored) → CellsShown (put_seg f v cell)
  one_cell f c v cell seq wrote home none = record {
    writes = λ u. put-seg-both (λ u (z : Cell). z.writes ≡ ((a.part d).cell u).writes) f v u cell
        (λ same. wrote ∙ c.writes v ∙ ap (λ u. ((a.part d).cell u).writes) (sym same)) (λ other. c.writes u);
    sequencers = λ u. put-seg-both (λ u (z : Cell). z.sequencer ≡ ((a.part d).cell u).sequencer) f v u cell
        (λ same. seq ∙ c.sequencers v ∙ ap (λ u. ((a.part d).cell u).sequencer) (sym same)) (λ other. c.sequencers u);
    homes = λ u. put-seg-both (λ u (z : Cell). Of all d u → HomeIs (given_size (given_to all u)) z.home z.stored (words_now k all past u)) f v u cell
        (λ same. subst (λ u. Of all d u → HomeIs (given_size (given_to all u)) cell.home cell.stored (words_now k all past u)) (sym same) home) (λ other. c.homes u);
    blank = λ u. put-seg-both (λ u (z : Cell). given_to all u ≡ None → Blank z.home z.stored) f v u cell
        (λ same. subst (λ u. given_to all u ≡ None → Blank cell.home cell.stored) (sym same) none) (λ other. c.blank u);
  }

  -- what asks for nothing that is counted
  pub still : (asked : Option (Request × Outcome)) → Quiet asked → (X : Part) → X.used ≡ (a.part d).used + one (prints asked) → X.component ≡ (a.part d).component → CellsShown X.cell → PartShown k all past a d asked X
  still asked q X used component c = record {
    used = used;
    components = λ x u o. plus_none (advances u asked) _ _ (q u).1 (ap (λ (f : ℕ → SegId → ℕ). f x u) component);
    sequencers = λ u o. plus_none (draws u asked) _ _ (q u).0 (c.sequencers u);
    writes = λ u o. rw (q u).2 (plus_none false _ _ refl (c.writes u));
    homes = λ u o. subst (λ (ups : List (ℕ × List ℕ)). HomeIs (given_size (given_to all u)) (X.cell u).home (X.cell u).stored (after_updates (first_words k u (given_to all u)) ups))
        (sym (not_written u)) (c.homes u o);
    blank = c.blank;
    unwritten = λ u e. (q u).2;
    others = λ x u o ne. ((q u).0, (q u).2);
  }
    where
      not_written : (u : SegId) → updates_of u past ++ cons_option (update_asked u asked) [] ≡ updates_of u past
      not_written u = rw (q u).2 (append-nil (updates_of u past))

  pub unchanged : (asked : Option (Request × Outcome)) → Quiet asked → prints asked ≡ false → PartShown k all past a d asked (a.part d)
  unchanged asked q p = still asked q (a.part d) (plus_none (prints asked) _ _ p refl) refl as_before

  -- by its tests
  pub tested : (q : Request) → ((rule : Rule) → Quiet (Some (q, Refused rule))) → ((rule : Rule) → prints (Some (q, Refused rule)) ≡ false) → (r : Option Rule) (e : Effect) →
      (r ≡ None → PartShown k all past a d (Some (q, e.outcome)) e.part) → PartShown k all past a d (Some (q, (chosen (a.part d) r e).outcome)) (chosen (a.part d) r e).part
  tested q quiet p None e h = h refl
  tested q quiet p (Some rule) e h = unchanged (Some (q, Refused rule)) (quiet rule) (p rule)

  pub make_known_shown : (x : Known) (e mode ring : ℕ) → (let z = effect a d ring (MakeKnown x e mode) in PartShown k all past a d (Some (MakeKnown x e mode, z.outcome)) z.part)
  make_known_shown x e mode ring = unchanged (Some (MakeKnown x e mode, (effect a d ring (MakeKnown x e mode)).outcome)) (λ u. (refl, refl, refl)) refl

  pub read_shown : (x : Known) (wanted : ℕ) (t : Tally) (ring : ℕ) → (let z = effect a d ring (Read x wanted t) in PartShown k all past a d (Some (Read x wanted t, z.outcome)) z.part)
  read_shown x wanted t ring = unchanged (Some (Read x wanted t, (effect a d ring (Read x wanted t)).outcome)) (λ u. (refl, refl, refl)) refl

  pub fetch_shown : (x : Known) (offset count pad ring : ℕ) → (let z = effect a d ring (Fetch x offset count pad) in PartShown k all past a d (Some (Fetch x offset count pad, z.outcome)) z.part)
  fetch_shown x offset count pad ring = tested (Fetch x offset count pad) (λ rule u. (refl, refl, refl)) (λ rule. refl) _ _
      (λ z. unchanged (Some (Fetch x offset count pad, Words pad (part_of (live_words (cell_of a x)) offset count))) (λ u. (refl, refl, refl)) refl)

  -- ---- entries alone

  entry_changed : (f : SegId → Cell) → CellsShown f → (v : SegId) (e : ℕ) (x : Option Alias) → CellsShown (put_seg f v (with_entry (f v) e x))
  entry_changed f c v e x = one_cell f c v (with_entry (f v) e x) refl refl (c.homes v) (c.blank v)

  pub create_shown : (x : Known) (e class : ℕ) (b : Brackets) (size ring : ℕ) →
      (let z = effect a d ring (Create x e class b size) in PartShown k all past a d (Some (Create x e class b size, z.outcome)) z.part)
  create_shown x e class b size ring = tested (Create x e class b size) (λ rule u. (refl, refl, refl)) (λ rule. refl) _ _
      (λ z. still (Some (Create x e class b size, Value (a.part d).next_serial)) (λ u. (refl, refl, refl)) _ (plus_none false _ _ refl refl) refl
      (entry_changed (a.part d).cell as_before x.seg e (Some (new_alias class b size (a.part d).next_serial))))

  pub delete_shown : (x : Known) (e ring : ℕ) → ((y : Alias) → entry_at ((a.part d).cell x.seg) e ≡ Some y → EntryTold all d y) →
      (let z = effect a d ring (Delete x e) in PartShown k all past a d (Some (Delete x e, z.outcome)) z.part)
  delete_shown x e ring told = by_entry (entry_at ((a.part d).cell x.seg) e) told
    where
      by_class : (y : Alias) → EntryTold all d y → (b : Bool) →
          PartShown k all past a d (Some (Delete x e, Value 0)) (emptied (if b then deleted (a.part d) (seg d y.serial) else a.part d) x.seg e)
      by_class y t true = still _ (λ u. (refl, refl, refl)) _ (plus_none false _ _ refl refl) refl
          (entry_changed (deleted (a.part d) (seg d y.serial)).cell
          (one_cell (a.part d).cell as_before (seg d y.serial) (record ((a.part d).cell (seg d y.serial)) { home = Deleted; stored = None }) refl refl (λ o. tt) (λ none. absurd (cc (t, none)))) x.seg e None)
      by_class y t false = still _ (λ u. (refl, refl, refl)) _ (plus_none false _ _ refl refl) refl (entry_changed (a.part d).cell as_before x.seg e None)

      by_entry : (o : Option Alias) → ((y : Alias) → o ≡ Some y → EntryTold all d y) →
          (let z = delete_effect d (a.part d) x.seg e o in PartShown k all past a d (Some (Delete x e, z.outcome)) z.part)
      by_entry None t = unchanged (Some (Delete x e, Refused NoEntry)) (λ u. (refl, refl, refl)) refl
      by_entry (Some y) t = tested (Delete x e) (λ rule u. (refl, refl, refl)) (λ rule. refl) _ _ (λ z. by_class y (t y refl) (y.class == d))

  pub out_shown : (value ring : ℕ) → (let z = effect a d ring (Out value) in PartShown k all past a d (Some (Out value, z.outcome)) z.part)
  out_shown value ring = by_room (nat_lt (a.part d).used a.shared.console)
    where
      by_room : (b : Bool) → (let z : Effect =
          (if b then record { part = record (a.part d) { lines = (a.part d).lines ++ value ∷ []; used = (a.part d).used + 1 }; outcome = Printed (a.part d).used value }
          else record { part = record (a.part d) { used = (a.part d).used + 1 }; outcome = Refused ConsoleFull }) in PartShown k all past a d (Some (Out value, z.outcome)) z.part)
      by_room true = still _ (λ u. (refl, refl, refl)) _ refl refl as_before
      by_room false = still _ (λ u. (refl, refl, refl)) _ refl refl as_before

  -- ---- of a known segment, by what it was given

  module _ (x : Known) (g : IsGiven all x.seg x.class x.brackets x.size) where
    apart_new : (u : SegId) → given_to all u ≡ None → same_seg x.seg u ≡ false
    apart_new u e = seg_apart x.seg u (λ same. (let e' : given_to all x.seg ≡ None = ap (given_to all) same ∙ e in cc))

    apart_class : (c : ℕ) (u : SegId) → Of all c u → (x.class == c) ≡ false → same_seg x.seg u ≡ false
    apart_class c u o ne = seg_apart x.seg u (λ same. both_ways (x.class == c) ne (eq-eqb x.class c (o _ (ap (given_to all) (sym same) ∙ g))))

    is_size : given_size (given_to all x.seg) ≡ x.size
    is_size = ap given_size g

    given_now : given_to all x.seg ≡ None → ⊥
    given_now e = cc

    pub advance_shown : (ring : ℕ) → (let z = effect a d ring (Advance x) in PartShown k all past a d (Some (Advance x, z.outcome)) z.part)
    advance_shown ring = record {
      used = plus_none false _ _ refl refl;
      components = λ c u o. by_put (λ c (f : SegId → ℕ). Of all c u → f u ≡ (a.part d).component c u + one (same_seg x.seg u)) (a.part d).component x.class (put_seg ((a.part d).component x.class) x.seg ((a.part d).component x.class x.seg + 1)) c
          (λ o. put-seg-both (λ u n. n ≡ (a.part d).component x.class u + one (same_seg x.seg u)) ((a.part d).component x.class) x.seg u ((a.part d).component x.class x.seg + 1)
          (λ same. subst (λ u. (a.part d).component x.class x.seg + 1 ≡ (a.part d).component x.class u + one (same_seg x.seg u)) (sym same) (rw (same_seg-refl x.seg) refl))
          (λ other. plus_none (same_seg x.seg u) _ _ (seg_flip u x.seg other) refl))
          (λ other o. plus_none (same_seg x.seg u) _ _ (apart_class c u o (ne_eqb x.class c (λ same. both_ways (c == x.class) other (eq-eqb c x.class (sym same))))) refl) o;
      sequencers = λ u o. plus_none false _ _ refl refl;
      writes = λ u o. plus_none false _ _ refl refl;
      homes = λ u o. subst (λ (ups : List (ℕ × List ℕ)). HomeIs (given_size (given_to all u)) ((a.part d).cell u).home ((a.part d).cell u).stored (after_updates (first_words k u (given_to all u)) ups))
          (sym (append-nil (updates_of u past))) (s.homes d u o);
      blank = λ u e. s.blank u e d;
      unwritten = λ u e. refl;
      others = λ c u o ne. (refl, refl);
    }

    module _ (own : x.class ≡ d) where
      of_own : Of all d x.seg
      of_own z e = (let w : Some (record { seg = x.seg; class = x.class; brackets = x.brackets; size = x.size }) ≡ Some z = sym g ∙ e in
          ap (λ (o : Option Given). class_or o) (sym w) ∙ own)
        where
          class_or : Option Given → ℕ
          class_or None = 0
          class_or (Some z) = z.class

      not_own : (c : ℕ) → (c == d) ≡ false → (x.class == c) ≡ false
      not_own c ne = ne_eqb x.class c (λ same. both_ways (c == d) ne (eq-eqb c d (sym same ∙ own)))

      home_now : HomeIs x.size ((a.part d).cell x.seg).home ((a.part d).cell x.seg).stored (words_now k all past x.seg)
      home_now = subst (λ n. HomeIs n ((a.part d).cell x.seg).home ((a.part d).cell x.seg).stored (words_now k all past x.seg)) is_size (s.homes d x.seg of_own)

      pub ticket_shown : (ring : ℕ) → (let z = effect a d ring (Ticket x) in PartShown k all past a d (Some (Ticket x, z.outcome)) z.part)
      ticket_shown ring = record {
        used = plus_none false _ _ refl refl;
        components = λ c u o. plus_none false _ _ refl refl;
        sequencers = λ u o. put-seg-both (λ u (z : Cell). z.sequencer ≡ ((a.part d).cell u).sequencer + one (same_seg x.seg u)) (a.part d).cell x.seg u after
            (λ same. subst (λ u. after.sequencer ≡ ((a.part d).cell u).sequencer + one (same_seg x.seg u)) (sym same) (rw (same_seg-refl x.seg) refl))
            (λ other. plus_none (same_seg x.seg u) _ _ (seg_flip u x.seg other) refl);
        writes = λ u o. plus_none false _ _ refl (put-seg-both (λ u (z : Cell). z.writes ≡ ((a.part d).cell u).writes) (a.part d).cell x.seg u after
            (λ same. ap (λ u. ((a.part d).cell u).writes) (sym same)) (λ other. refl));
        homes = λ u o. subst (λ (ups : List (ℕ × List ℕ)). HomeIs (given_size (given_to all u)) (put_seg (a.part d).cell x.seg after u).home (put_seg (a.part d).cell x.seg after u).stored (after_updates (first_words k u (given_to all u)) ups))
            (sym (append-nil (updates_of u past)))
            (put-seg-both (λ u (z : Cell). Of all d u → HomeIs (given_size (given_to all u)) z.home z.stored (words_now k all past u)) (a.part d).cell x.seg u after
            (λ same. subst (λ u. Of all d u → HomeIs (given_size (given_to all u)) after.home after.stored (words_now k all past u)) (sym same) (s.homes d x.seg)) (λ other. s.homes d u) o);
        blank = λ u. put-seg-both (λ u (z : Cell). given_to all u ≡ None → Blank z.home z.stored) (a.part d).cell x.seg u after
            (λ same. subst (λ u. given_to all u ≡ None → Blank after.home after.stored) (sym same) (λ e. s.blank x.seg e d)) (λ other e. s.blank u e d);
        unwritten = λ u e. refl;
        others = λ c u o ne. (apart_class c u o (not_own c ne), refl);
      }
        where
          after : Cell
          after = record ((a.part d).cell x.seg) { sequencer = ((a.part d).cell x.seg).sequencer + 1 }

      pub swap_in_shown : (ring : ℕ) → (let z = effect a d ring (SwapIn x) in PartShown k all past a d (Some (SwapIn x, z.outcome)) z.part)
      swap_in_shown ring = tested (SwapIn x) (λ rule u. (refl, refl, refl)) (λ rule. refl) (first_broken ((is_deleted ((a.part d).cell x.seg) ⇒ Gone) ∷ more)) _
          (λ e. (let first = passed_head (is_deleted ((a.part d).cell x.seg) ⇒ Gone) more e in let second = passed_head (is_in ((a.part d).cell x.seg) ⇒ AlreadyIn) ((nat_le (pool_of a.shared d).frames (frames_in_use a.shared (a.part d)) ⇒ NoFrame) ∷ []) first.1 in
          still _ (λ u. (refl, refl, refl)) _ (plus_none false _ _ refl refl) refl
          (one_cell (a.part d).cell as_before x.seg _ refl refl (λ o. unswapped x.size ((a.part d).cell x.seg).home ((a.part d).cell x.seg).stored _ first.0 second.0 home_now) (λ none. absurd (given_now none)))))
        where
          more : List (Bool × Rule)
          more = (is_in ((a.part d).cell x.seg) ⇒ AlreadyIn) ∷ (nat_le (pool_of a.shared d).frames (frames_in_use a.shared (a.part d)) ⇒ NoFrame) ∷ []

      pub swap_out_shown : (ring : ℕ) → (let z = effect a d ring (SwapOut x) in PartShown k all past a d (Some (SwapOut x, z.outcome)) z.part)
      swap_out_shown ring = tested (SwapOut x) (λ rule u. (refl, refl, refl)) (λ rule. refl) (first_broken ((is_deleted ((a.part d).cell x.seg) ⇒ Gone) ∷ (not (is_in ((a.part d).cell x.seg)) ⇒ NotIn) ∷ more)) _
          (λ e. (let first = passed_head (is_deleted ((a.part d).cell x.seg) ⇒ Gone) ((not (is_in ((a.part d).cell x.seg)) ⇒ NotIn) ∷ more) e in let second = passed_head (not (is_in ((a.part d).cell x.seg)) ⇒ NotIn) more first.1 in
          still _ (λ u. (refl, refl, refl)) _ (plus_none false _ _ refl refl) refl
          (one_cell (a.part d).cell as_before x.seg _ refl refl (λ o. ap (λ (l : List ℕ). Some l) (in_live x.size ((a.part d).cell x.seg).home ((a.part d).cell x.seg).stored _ (not_false _ second.0) home_now)) (λ none. absurd (given_now none)))))
        where
          more : List (Bool × Rule)
          more = (is_none ((a.part d).cell x.seg).stored && nat_le (pool_of a.shared d).pages (pages_in_use a.shared (a.part d)) ⇒ NoPage) ∷ []

      pub update_shown : (offset : ℕ) (words : List ℕ) (ring : ℕ) → (let z = effect a d ring (Update x offset words) in PartShown k all past a d (Some (Update x offset words, z.outcome)) z.part)
      update_shown offset words ring = tested (Update x offset words) (λ rule u. (refl, refl, refl)) (λ rule. refl) (first_broken ((is_deleted ((a.part d).cell x.seg) ⇒ Gone) ∷ more)) _
          (λ e. (let first = passed_head (is_deleted ((a.part d).cell x.seg) ⇒ Gone) more e in let second = passed_head (not (is_in ((a.part d).cell x.seg)) ⇒ NotIn) [] first.1 in updated (not_false _ second.0)))
        where
          more : List (Bool × Rule)
          more = (not (is_in ((a.part d).cell x.seg)) ⇒ NotIn) ∷ []

          after : Cell
          after = record ((a.part d).cell x.seg) { home = In (overwrite (live_words ((a.part d).cell x.seg)) offset words); writes = ((a.part d).cell x.seg).writes + 1 }

          wrote : (u : SegId) → List (ℕ × List ℕ)
          wrote u = updates_of u past ++ cons_option (if same_seg x.seg u then Some (offset, words) else None) []

          own_wrote : is_in ((a.part d).cell x.seg) ≡ true → overwrite (live_words ((a.part d).cell x.seg)) offset words ≡ after_updates (first_words k x.seg (given_to all x.seg)) (wrote x.seg)
          own_wrote i = rw (same_seg-refl x.seg)
              (ap (λ (l : List ℕ). overwrite l offset words) (in_live x.size ((a.part d).cell x.seg).home ((a.part d).cell x.seg).stored _ i home_now)
              ∙ sym (after_push (first_words k x.seg (given_to all x.seg)) (updates_of x.seg past) (offset, words)))

          not_wrote : (u : SegId) → same_seg u x.seg ≡ false → updates_of u past ≡ wrote u
          not_wrote u other = rw (seg_flip u x.seg other) (sym (append-nil (updates_of u past)))

          updated : is_in ((a.part d).cell x.seg) ≡ true → PartShown k all past a d (Some (Update x offset words, Value (((a.part d).cell x.seg).writes + 1))) (with_cell (a.part d) x.seg after)
          updated i = record {
            used = plus_none false _ _ refl refl;
            components = λ c u o. plus_none false _ _ refl refl;
            sequencers = λ u o. plus_none false _ _ refl (put-seg-both (λ u (z : Cell). z.sequencer ≡ ((a.part d).cell u).sequencer) (a.part d).cell x.seg u after
                (λ same. ap (λ u. ((a.part d).cell u).sequencer) (sym same)) (λ other. refl));
            writes = λ u o. put-seg-both (λ u (z : Cell). z.writes ≡ ((a.part d).cell u).writes + length {A = ℕ × List ℕ} (cons_option (if same_seg x.seg u then Some (offset, words) else None) [])) (a.part d).cell x.seg u after
                (λ same. subst (λ u. after.writes ≡ ((a.part d).cell u).writes + length {A = ℕ × List ℕ} (cons_option (if same_seg x.seg u then Some (offset, words) else None) [])) (sym same) (rw (same_seg-refl x.seg) refl))
                (λ other. rw (seg_flip u x.seg other) (plus_none false _ _ refl refl));
            homes = λ u o. put-seg-both (λ u (z : Cell). Of all d u → HomeIs (given_size (given_to all u)) z.home z.stored (after_updates (first_words k u (given_to all u)) (wrote u))) (a.part d).cell x.seg u after
                (λ same o. subst (λ u. overwrite (live_words ((a.part d).cell x.seg)) offset words ≡ after_updates (first_words k u (given_to all u)) (wrote u)) (sym same) (own_wrote i))
                (λ other o. subst (λ (ups : List (ℕ × List ℕ)). HomeIs (given_size (given_to all u)) ((a.part d).cell u).home ((a.part d).cell u).stored (after_updates (first_words k u (given_to all u)) ups))
                (not_wrote u other) (s.homes d u o)) o;
            blank = λ u. put-seg-both (λ u (z : Cell). given_to all u ≡ None → Blank z.home z.stored) (a.part d).cell x.seg u after
                (λ same e. absurd (given_now (ap (given_to all) (sym same) ∙ e))) (λ other e. s.blank u e d);
            unwritten = λ u e. rw (apart_new u e) refl;
            others = λ c u o ne. (refl, rw (apart_class c u o (not_own c ne)) refl);
          }
