-- The effect of each request leaves in its part what the effects so far and it come to.
use Rattle.std.proofs.Common.{ℕ, zero, suc, ◌+◌, ◌<◌, Bool, true, false, not, ◌&&◌, List, [], ◌∷◌, ◌++◌, ◌≡◌, refl, sym, ap, subst, ◌∙◌, Option, Some, None, map, arith}
use Rattle.std.specs.Prelude.{◌==◌, if◌then◌else◌, is_some, nat_lt, nat_le, replicate, unwrap_or, slice_index_or, slice_set}
use Rattle.lists.specs.Lists.{overwrite, part_of, below}
use Rattle.rings.specs.Brackets.{Brackets}
use Rattle.words_layout.specs.Segments.{seg, same_seg, put_seg}
use Rattle.words_layout.specs.declared.segment.SegId.{SegId}
use Rattle.words_layout.specs.declared.coding.Alias.{Alias}
use Rattle.words_layout.proofs.Names.{same_seg-refl}
use Rattle.policy.specs.Known.{Known, new_alias}
use Rattle.policy.specs.Outcome.{Outcome, Refused, Value, Words, Printed, Tally}
use Rattle.policy.specs.Verdict.{first_broken, ◌⇒◌}
use Rattle.policy.specs.declared.rule.Rule.{Rule}
use Rattle.policy.specs.declared.rule.Rule.TheVariants.{NoEntry, Gone, EntryTaken, SerialsUsed, NotIn, ConsoleFull}
use Rattle.class_model.specs.Config.{Config}
use Rattle.class_model.specs.Plan.{Request, MakeKnown, Create, Delete, SwapIn, SwapOut, Fetch, Update, Read, Advance, Ticket, Out}
use Rattle.class_model.specs.Process.{Process}
use Rattle.class_model.specs.State.{State, Part, Cell, CellHome, Never, In, Stored, Deleted, with_cell, cell_of, entry_at, live_words, is_deleted, is_in, is_in_home}
use Rattle.class_model.specs.Step.{Effect, chosen, effect, delete_effect, deleted, emptied, with_entry}
use Rattle.class_model.specs.Run.{Happened}
use Rattle.class_model.specs.Content.{prints}
use Rattle.effect_laws.proofs.Counting.{one_if}
use Rattle.effect_laws.proofs.CreateTests.{passed_head, not_false}
use Rattle.effect_laws.proofs.GateData.{put-seg-both}
use Rattle.grant_laws.specs.Grants.{Outside, Inside, Lost, takes, entry_asked, stands_in, place_asked, place_after, page_asked, has_page_after, creates}
use Rattle.grant_laws.proofs.Kept.{place_of, standing, Kept, PartKept}

-- one of eight entries is set
set_eight : (f : ℕ → Option Alias) (e : ℕ) (x : Option Alias) → e < 8 → slice_set (map f (below 8)) e x ≡ map (λ i. if true && e == i then x else f i) (below 8)
set_eight f zero x h = refl
set_eight f (suc zero) x h = refl
set_eight f (suc (suc zero)) x h = refl
set_eight f (suc (suc (suc zero))) x h = refl
set_eight f (suc (suc (suc (suc zero)))) x h = refl
set_eight f (suc (suc (suc (suc (suc zero))))) x h = refl
set_eight f (suc (suc (suc (suc (suc (suc zero)))))) x h = refl
set_eight f (suc (suc (suc (suc (suc (suc (suc zero))))))) x h = refl
set_eight f (suc (suc (suc (suc (suc (suc (suc (suc e)))))))) x h = absurd (omega (arith, h))

-- one of eight entries is read
pub at_eight : (f : ℕ → Option Alias) (e : ℕ) → e < 8 → slice_index_or (map f (below 8)) e None ≡ f e
at_eight f zero h = refl
at_eight f (suc zero) h = refl
at_eight f (suc (suc zero)) h = refl
at_eight f (suc (suc (suc zero))) h = refl
at_eight f (suc (suc (suc (suc zero)))) h = refl
at_eight f (suc (suc (suc (suc (suc zero))))) h = refl
at_eight f (suc (suc (suc (suc (suc (suc zero)))))) h = refl
at_eight f (suc (suc (suc (suc (suc (suc (suc zero))))))) h = refl
at_eight f (suc (suc (suc (suc (suc (suc (suc (suc e)))))))) h = absurd (omega (arith, h))

is_inside : (h : CellHome) → is_in_home h ≡ true → place_of h ≡ Inside
is_inside Never e = absurd (cc (e))
is_inside Stored e = absurd (cc (e))
is_inside (In live) e = refl
is_inside Deleted e = absurd (cc (e))

-- what holds of each cell, and of the new one
put_keeps : (P : SegId → Cell → Type 0) (f : SegId → Cell) (v : SegId) (cell : Cell) → ((u : SegId) → P u (f u)) → P v cell → (u : SegId) → P u (put_seg f v cell u)
put_keeps P f v cell each here u = put-seg-both P f v u cell (λ same. subst (λ z. P z cell) (sym same) here) (λ other. each u)

-- what these owe: an entry below 8
abbrev pub Small : Request → Type 0
Small (Delete x e) = e < 8
Small (Create x e class b size) = e < 8
Small (MakeKnown x e mode) = e < 8
Small _ = Unit {0}

module _ (k : Config) (latest : List Happened) (a : State) (s : Kept k latest a) (d : ℕ) where
  abbrev Entries : SegId → Cell → Type 0
  Entries u z = z.entries ≡ map (λ e. stands_in k d u e latest) (below 8)

  abbrev Places : SegId → Cell → Type 0
  Places u z = place_of z.home ≡ place_after k d u latest

  abbrev Pages : SegId → Cell → Type 0
  Pages u z = is_some z.stored ≡ has_page_after k d u latest

  pub entry_is : (u : SegId) (e : ℕ) → e < 8 → entry_at ((a.part d).cell u) e ≡ stands_in k d u e latest
  entry_is u e h = ap (λ (l : List (Option Alias)). slice_index_or l e None) (s.entries d u) ∙ at_eight (λ e. stands_in k d u e latest) e h

  -- an entry is set, of cells with the entries of before
  entry_set : (f : SegId → Cell) → ((u : SegId) → Entries u (f u)) → (v : SegId) (e : ℕ) (x : Option Alias) → e < 8 → (u : SegId) →
      (put_seg f v (with_entry (f v) e x) u).entries ≡ map (λ i. if same_seg u v && e == i then x else stands_in k d u i latest) (below 8)
  entry_set f each v e x small u = put-seg-both (λ u (z : Cell). z.entries ≡ map (λ i. if same_seg u v && e == i then x else stands_in k d u i latest) (below 8)) f v u (with_entry (f v) e x)
      (λ same. subst (λ u. slice_set (f v).entries e x ≡ map (λ i. if same_seg u v && e == i then x else stands_in k d u i latest) (below 8)) (sym same)
      (subst (λ b. slice_set (f v).entries e x ≡ map (λ i. if b && e == i then x else stands_in k d v i latest) (below 8)) (sym (same_seg-refl v))
      (ap (λ l. slice_set l e x) (each v) ∙ set_eight (λ i. stands_in k d v i latest) e x small)))
      (λ other. subst (λ b. (f u).entries ≡ map (λ i. if b && e == i then x else stands_in k d u i latest) (below 8)) (sym other) (each u))

  none_more : (n : ℕ) (b : Bool) → b ≡ false → n ≡ n + one_if b
  none_more n b e = rw e (omega arith)

  -- nothing is changed
  pub unchanged : (asked : Option (Request × Outcome)) → prints asked ≡ false → creates asked ≡ false →
      ((u : SegId) → map (λ e. stands_in k d u e latest) (below 8) ≡ map (λ e. entry_asked u e asked (stands_in k d u e latest)) (below 8)) →
      ((u : SegId) → place_after k d u latest ≡ place_asked d u (standing k d latest) asked (place_after k d u latest)) →
      ((u : SegId) → has_page_after k d u latest ≡ page_asked d u (standing k d latest) asked (has_page_after k d u latest)) → PartKept k latest a d asked (a.part d)
  unchanged asked p c e l g = record {
    used = none_more _ _ p;
    serial = none_more _ _ c;
    entries = λ u. s.entries d u ∙ e u;
    places = λ u. s.places d u ∙ l u;
    pages = λ u. s.pages d u ∙ g u;
  }

  refused_kept : (q : Request) (rule : Rule) → prints (Some (q, Refused rule)) ≡ false → PartKept k latest a d (Some (q, Refused rule)) (a.part d)
  refused_kept (MakeKnown x e mode) rule p = unchanged _ refl refl (λ u. refl) (λ u. refl) (λ u. refl)
  refused_kept (Create x e class b size) rule p = unchanged _ refl refl (λ u. refl) (λ u. refl) (λ u. refl)
  refused_kept (Delete x e) rule p = unchanged _ refl refl (λ u. refl) (λ u. refl) (λ u. refl)
  refused_kept (SwapIn x) rule p = unchanged _ refl refl (λ u. refl) (λ u. refl) (λ u. refl)
  refused_kept (SwapOut x) rule p = unchanged _ refl refl (λ u. refl) (λ u. refl) (λ u. refl)
  refused_kept (Fetch x offset count pad) rule p = unchanged _ refl refl (λ u. refl) (λ u. refl) (λ u. refl)
  refused_kept (Update x offset words) rule p = unchanged _ refl refl (λ u. refl) (λ u. refl) (λ u. refl)
  refused_kept (Read x wanted t) rule p = unchanged _ refl refl (λ u. refl) (λ u. refl) (λ u. refl)
  refused_kept (Advance x) rule p = unchanged _ refl refl (λ u. refl) (λ u. refl) (λ u. refl)
  refused_kept (Ticket x) rule p = unchanged _ refl refl (λ u. refl) (λ u. refl) (λ u. refl)
  refused_kept (Out value) rule p = absurd (cc (p))

  -- by its tests
  tested : (q : Request) → ((rule : Rule) → prints (Some (q, Refused rule)) ≡ false) → (r : Option Rule) (e : Effect) →
      (r ≡ None → PartKept k latest a d (Some (q, e.outcome)) e.part) → PartKept k latest a d (Some (q, (chosen (a.part d) r e).outcome)) (chosen (a.part d) r e).part
  tested q p None e h = h refl
  tested q p (Some rule) e h = refused_kept q rule (p rule)

  -- the effect of a request
  abbrev Keeps : ℕ → Request → Type 0
  Keeps ring q = let z : Effect = effect a d ring q in PartKept k latest a d (Some (q, z.outcome)) z.part

  make_known_kept : (x : Known) (e mode ring : ℕ) → Keeps ring (MakeKnown x e mode)
  make_known_kept x e mode ring = unchanged _ refl refl (λ u. refl) (λ u. refl) (λ u. refl)

  read_kept : (x : Known) (wanted : ℕ) (t : Tally) (ring : ℕ) → Keeps ring (Read x wanted t)
  read_kept x wanted t ring = unchanged _ refl refl (λ u. refl) (λ u. refl) (λ u. refl)

  fetch_kept : (x : Known) (offset count pad ring : ℕ) → Keeps ring (Fetch x offset count pad)
  fetch_kept x offset count pad ring = tested (Fetch x offset count pad) (λ rule. refl) _ _
      (λ z. unchanged (Some (Fetch x offset count pad, Words pad (part_of (live_words (cell_of a x)) offset count))) refl refl (λ u. refl) (λ u. refl) (λ u. refl))

  create_kept : (x : Known) (e class : ℕ) (b : Brackets) (size ring : ℕ) → e < 8 → Keeps ring (Create x e class b size)
  create_kept x e class b size ring small = tested (Create x e class b size) (λ rule. refl) (first_broken tests) done (λ z. kept)
    where
      new : Option Alias
      new = Some (new_alias class b size (a.part d).next_serial)

      tests : List (Bool × Rule)
      tests = (is_deleted ((a.part d).cell x.seg) ⇒ Gone) ∷ (is_some (entry_at ((a.part d).cell x.seg) e) ⇒ EntryTaken) ∷ (nat_le 64 (a.part d).next_serial ⇒ SerialsUsed) ∷ []

      done : Effect
      done = record {
        part = record (with_cell (a.part d) x.seg (with_entry ((a.part d).cell x.seg) e new)) { next_serial = (a.part d).next_serial + 1 };
        outcome = Value (a.part d).next_serial;
      }

      kept : PartKept k latest a d (Some (Create x e class b size, done.outcome)) done.part
      kept = record {
        used = none_more _ _ refl;
        serial = refl;
        entries = entry_set (a.part d).cell (s.entries d) x.seg e new small;
        places = put_keeps Places (a.part d).cell x.seg (with_entry ((a.part d).cell x.seg) e new) (s.places d) (s.places d x.seg);
        pages = put_keeps Pages (a.part d).cell x.seg (with_entry ((a.part d).cell x.seg) e new) (s.pages d) (s.pages d x.seg);
      }

  module _ (x : Known) (e : ℕ) (small : e < 8) where
    module _ (y : Alias) (stands : stands_in k d x.seg e latest ≡ Some y) where
      abbrev child : SegId
      child = seg d y.serial

      abbrev lost_cell : Cell
      lost_cell = record ((a.part d).cell child) { home = Deleted; stored = None }

      abbrev lost_part : Part
      lost_part = deleted (a.part d) child

      by_class : (b : Bool) → (y.class == d) ≡ b → PartKept k latest a d (Some (Delete x e, Value 0)) (emptied (if b then lost_part else a.part d) x.seg e)
      by_class true same = record {
        used = none_more _ _ refl;
        serial = none_more _ _ refl;
        entries = entry_set lost_part.cell (put_keeps Entries (a.part d).cell child lost_cell (s.entries d) (s.entries d child)) x.seg e None small;
        places = λ u. subst (λ o. place_of ((emptied lost_part x.seg e).cell u).home ≡ (if takes d u o then Lost else place_after k d u latest)) (sym stands)
            (subst (λ b. place_of ((emptied lost_part x.seg e).cell u).home ≡ (if b && same_seg u child then Lost else place_after k d u latest)) (sym same)
            (put_keeps (λ u (z : Cell). place_of z.home ≡ (if true && same_seg u child then Lost else place_after k d u latest)) lost_part.cell x.seg (with_entry (lost_part.cell x.seg) e None) gone (gone x.seg) u));
        pages = λ u. subst (λ o. is_some ((emptied lost_part x.seg e).cell u).stored ≡ (if takes d u o then false else has_page_after k d u latest)) (sym stands)
            (subst (λ b. is_some ((emptied lost_part x.seg e).cell u).stored ≡ (if b && same_seg u child then false else has_page_after k d u latest)) (sym same)
            (put_keeps (λ u (z : Cell). is_some z.stored ≡ (if true && same_seg u child then false else has_page_after k d u latest)) lost_part.cell x.seg (with_entry (lost_part.cell x.seg) e None) paged (paged x.seg) u));
      }
        where
          gone : (u : SegId) → place_of (put_seg (a.part d).cell child lost_cell u).home ≡ (if true && same_seg u child then Lost else place_after k d u latest)
          gone u = elim (same_seg u child) as (λ c. place_of (if c then lost_cell else (a.part d).cell u).home ≡ (if true && c then Lost else place_after k d u latest)) [ true ↦ refl | false ↦ s.places d u ]

          paged : (u : SegId) → is_some (put_seg (a.part d).cell child lost_cell u).stored ≡ (if true && same_seg u child then false else has_page_after k d u latest)
          paged u = elim (same_seg u child) as (λ c. is_some (if c then lost_cell else (a.part d).cell u).stored ≡ (if true && c then false else has_page_after k d u latest)) [ true ↦ refl | false ↦ s.pages d u ]
      by_class false other = record {
        used = none_more _ _ refl;
        serial = none_more _ _ refl;
        entries = entry_set (a.part d).cell (s.entries d) x.seg e None small;
        places = λ u. subst (λ o. place_of ((emptied (a.part d) x.seg e).cell u).home ≡ (if takes d u o then Lost else place_after k d u latest)) (sym stands)
            (subst (λ b. place_of ((emptied (a.part d) x.seg e).cell u).home ≡ (if b && same_seg u child then Lost else place_after k d u latest)) (sym other)
            (put_keeps Places (a.part d).cell x.seg (with_entry ((a.part d).cell x.seg) e None) (s.places d) (s.places d x.seg) u));
        pages = λ u. subst (λ o. is_some ((emptied (a.part d) x.seg e).cell u).stored ≡ (if takes d u o then false else has_page_after k d u latest)) (sym stands)
            (subst (λ b. is_some ((emptied (a.part d) x.seg e).cell u).stored ≡ (if b && same_seg u child then false else has_page_after k d u latest)) (sym other)
            (put_keeps Pages (a.part d).cell x.seg (with_entry ((a.part d).cell x.seg) e None) (s.pages d) (s.pages d x.seg) u));
      }

    delete_kept : (ring : ℕ) → Keeps ring (Delete x e)
    delete_kept ring = by_entry (entry_at ((a.part d).cell x.seg) e) refl
      where
        by_entry : (o : Option Alias) → entry_at ((a.part d).cell x.seg) e ≡ o → (let z : Effect = delete_effect d (a.part d) x.seg e o in PartKept k latest a d (Some (Delete x e, z.outcome)) z.part)
        by_entry None f = refused_kept (Delete x e) NoEntry refl
        by_entry (Some y) f = tested (Delete x e) (λ rule. refl) _ _ (λ z. by_class y (sym (entry_is x.seg e small) ∙ f) (y.class == d) refl)

  swap_in_kept : (x : Known) (ring : ℕ) → Keeps ring (SwapIn x)
  swap_in_kept x ring = tested (SwapIn x) (λ rule. refl) _ _ (λ z. record {
    used = none_more _ _ refl;
    serial = none_more _ _ refl;
    entries = put_keeps Entries (a.part d).cell x.seg after (s.entries d) (s.entries d x.seg);
    places = λ u. elim (same_seg u x.seg) as (λ c. place_of (if c then after else (a.part d).cell u).home ≡ (if c then Inside else place_after k d u latest)) [ true ↦ refl | false ↦ s.places d u ];
    pages = put_keeps Pages (a.part d).cell x.seg after (s.pages d) (s.pages d x.seg);
  })
    where
      after : Cell
      after = record ((a.part d).cell x.seg) { home = In (unwrap_or ((a.part d).cell x.seg).stored (replicate x.size 0)) }

  swap_out_kept : (x : Known) (ring : ℕ) → Keeps ring (SwapOut x)
  swap_out_kept x ring = tested (SwapOut x) (λ rule. refl) _ _ (λ z. record {
    used = none_more _ _ refl;
    serial = none_more _ _ refl;
    entries = put_keeps Entries (a.part d).cell x.seg after (s.entries d) (s.entries d x.seg);
    places = λ u. elim (same_seg u x.seg) as (λ c. place_of (if c then after else (a.part d).cell u).home ≡ (if c then Outside else place_after k d u latest)) [ true ↦ refl | false ↦ s.places d u ];
    pages = λ u. elim (same_seg u x.seg) as (λ c. is_some (if c then after else (a.part d).cell u).stored ≡ (if c then true else has_page_after k d u latest)) [ true ↦ refl | false ↦ s.pages d u ];
  })
    where
      after : Cell
      after = record ((a.part d).cell x.seg) { home = Stored; stored = Some (live_words ((a.part d).cell x.seg)) }

  update_kept : (x : Known) (offset : ℕ) (words : List ℕ) (ring : ℕ) → Keeps ring (Update x offset words)
  update_kept x offset words ring = tested (Update x offset words) (λ rule. refl) (first_broken ((is_deleted ((a.part d).cell x.seg) ⇒ Gone) ∷ more)) _
      (λ e. (let first = passed_head (is_deleted ((a.part d).cell x.seg) ⇒ Gone) more e in let second = passed_head (not (is_in ((a.part d).cell x.seg)) ⇒ NotIn) [] first.1 in
      written (is_inside ((a.part d).cell x.seg).home (not_false _ second.0))))
    where
      more : List (Bool × Rule)
      more = (not (is_in ((a.part d).cell x.seg)) ⇒ NotIn) ∷ []

      after : Cell
      after = record ((a.part d).cell x.seg) { home = In (overwrite (live_words ((a.part d).cell x.seg)) offset words); writes = ((a.part d).cell x.seg).writes + 1 }

      written : place_of ((a.part d).cell x.seg).home ≡ Inside → PartKept k latest a d (Some (Update x offset words, Value (((a.part d).cell x.seg).writes + 1))) (with_cell (a.part d) x.seg after)
      written is = record {
        used = none_more _ _ refl;
        serial = none_more _ _ refl;
        entries = put_keeps Entries (a.part d).cell x.seg after (s.entries d) (s.entries d x.seg);
        places = put_keeps Places (a.part d).cell x.seg after (s.places d) (sym is ∙ s.places d x.seg);
        pages = put_keeps Pages (a.part d).cell x.seg after (s.pages d) (s.pages d x.seg);
      }

  advance_kept : (x : Known) (ring : ℕ) → Keeps ring (Advance x)
  advance_kept x ring = record { used = none_more _ _ refl; serial = none_more _ _ refl; entries = s.entries d; places = s.places d; pages = s.pages d }

  ticket_kept : (x : Known) (ring : ℕ) → Keeps ring (Ticket x)
  ticket_kept x ring = record {
    used = none_more _ _ refl;
    serial = none_more _ _ refl;
    entries = put_keeps Entries (a.part d).cell x.seg after (s.entries d) (s.entries d x.seg);
    places = put_keeps Places (a.part d).cell x.seg after (s.places d) (s.places d x.seg);
    pages = put_keeps Pages (a.part d).cell x.seg after (s.pages d) (s.pages d x.seg);
  }
    where
      after : Cell
      after = record ((a.part d).cell x.seg) { sequencer = ((a.part d).cell x.seg).sequencer + 1 }

  out_kept : (value ring : ℕ) → Keeps ring (Out value)
  out_kept value ring = by_room (nat_lt (a.part d).used a.shared.console)
    where
      by_room : (b : Bool) → (let z : Effect =
          (if b then record { part = record (a.part d) { lines = (a.part d).lines ++ value ∷ []; used = (a.part d).used + 1 }; outcome = Printed (a.part d).used value }
          else record { part = record (a.part d) { used = (a.part d).used + 1 }; outcome = Refused ConsoleFull }) in PartKept k latest a d (Some (Out value, z.outcome)) z.part)
      by_room true = record { used = refl; serial = none_more _ _ refl; entries = s.entries d; places = s.places d; pages = s.pages d }
      by_room false = record { used = refl; serial = none_more _ _ refl; entries = s.entries d; places = s.places d; pages = s.pages d }

  pub effect_kept : (q : Request) (ring : ℕ) → Small q → Keeps ring q
  effect_kept (MakeKnown x e mode) ring h = make_known_kept x e mode ring
  effect_kept (Create x e class b size) ring h = create_kept x e class b size ring h
  effect_kept (Delete x e) ring h = delete_kept x e h ring
  effect_kept (SwapIn x) ring h = swap_in_kept x ring
  effect_kept (SwapOut x) ring h = swap_out_kept x ring
  effect_kept (Fetch x offset count pad) ring h = fetch_kept x offset count pad ring
  effect_kept (Update x offset words) ring h = update_kept x offset words ring
  effect_kept (Read x wanted t) ring h = read_kept x wanted t ring
  effect_kept (Advance x) ring h = advance_kept x ring
  effect_kept (Ticket x) ring h = ticket_kept x ring
  effect_kept (Out value) ring h = out_kept value ring

  -- the processes of the part are others
  pub slots_kept : (asked : Option (Request × Outcome)) (X : Part) → PartKept k latest a d asked X → (slots : ℕ → List (Option Process)) → PartKept k latest a d asked (record X { slots = slots })
  slots_kept asked X p slots = record { used = p.used; serial = p.serial; entries = p.entries; places = p.places; pages = p.pages }
