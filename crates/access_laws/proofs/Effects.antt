-- The effect of each request shows what was given, and what it leaves in its part was given.
use Rattle.std.proofs.Common.{ℕ, ◌+◌, ◌≤◌, ◌<◌, ◌%◌, ◌^◌, Bool, true, false, not, ◌&&◌, List, [], ◌∷◌, ◌++◌, ◌≡◌, refl, sym, ap, subst, ◌∙◌, Option, Some, None, inl, inr, arith}
use Rattle.std.specs.Prelude.{◌==◌, if◌then◌else◌, nat_lt, nat_le, is_none, replicate, slice_index_or, unwrap_or}
use Rattle.std.specs.List.{cons_option}
use Rattle.lists.specs.Lists.{overwrite, part_of}
use Rattle.labels.specs.Label.{label_of}
use Rattle.labels.proofs.OrderLaws.{dominates_twin}
use Rattle.rings.specs.Brackets.{Brackets}
use Rattle.words_layout.specs.Segments.{seg, same_seg}
use Rattle.words_layout.specs.declared.segment.SegId.{SegId}
use Rattle.words_layout.specs.declared.coding.Alias.{Alias}
use Rattle.words_layout.proofs.Names.{same_seg-true, same_seg-refl}
use Rattle.policy.specs.Known.{Known, signals, modifies, rights_of, alias_brackets, known_by, new_alias}
use Rattle.policy.specs.Outcome.{Outcome, Refused, Value, Learns, Words, Printed, Looked, Counted, Tally, shown, judged, tallied}
use Rattle.policy.specs.Verdict.{verdict, first_broken, ◌⇒◌}
use Rattle.policy.specs.declared.rule.Rule.{Rule}
use Rattle.policy.specs.declared.rule.Rule.TheVariants.{NoEntry, Gone, NotIn, AlreadyIn, NoFrame, NoPage, ConsoleFull}
use Rattle.policy.proofs.Verdicts.{passes_where_permitted}
use Rattle.class_model.specs.Config.{pool_of}
use Rattle.class_model.specs.Process.{Process, free_known}
use Rattle.class_model.specs.Plan.{Request, MakeKnown, Create, Delete, SwapIn, SwapOut, Fetch, Update, Read, Advance, Ticket, Out}
use Rattle.class_model.specs.State.{State, Part, Cell, In, Stored, Deleted, with_cell, cell_of, entry_at, live_words, is_deleted, is_in, frames_in_use, pages_in_use}
use Rattle.class_model.specs.Step.{Effect, chosen, unless, effect, delete_effect, deleted, emptied, with_entry}
use Rattle.class_model.specs.Access.{Given, given_to, given_asked}
use Rattle.effect_laws.proofs.Growing.{set-read}
use Rattle.effect_laws.proofs.GateData.{put-seg-both}
use Rattle.effect_laws.proofs.Planned.{Planned}
use Rattle.access_laws.proofs.Told.{IsGiven, EntryTold, LearnsTold, Told, MoreBelow, given_back, more_entry, more_known}
use Rattle.access_laws.proofs.Permits.{mode_wants}

-- what a request that came to this gave
abbrev pub given_by : ℕ → Request → Outcome → List Given
given_by d q o = cons_option (given_asked d (Some (q, o))) []

-- the effect of a request keeps what was given, and what it gives
pub record EffectTold (all : List Given) (a : State) (d : ℕ) (q : Request) (e : Effect) : Type 0 where
  pub serial : (a.part d).next_serial ≤ e.part.next_serial
  pub slots : e.part.slots ≡ (a.part d).slots
  pub entries : (u : SegId) (f : ℕ) (x : Alias) → entry_at (e.part.cell u) f ≡ Some x → EntryTold (all ++ given_by d q e.outcome) d x
  pub below : MoreBelow (given_by d q e.outcome) d e.part.next_serial
  pub learns : LearnsTold (all ++ given_by d q e.outcome) a.shared d e.outcome

-- each entry of a part was one of another
abbrev pub Fewer : Part → Part → Type 0
Fewer part after = (u : SegId) (f : ℕ) (x : Alias) → entry_at (after.cell u) f ≡ Some x → entry_at (part.cell u) f ≡ Some x

-- a cell with the same entries
same_entries : (part : Part) (u : SegId) (cell : Cell) → cell.entries ≡ (part.cell u).entries → Fewer part (with_cell part u cell)
same_entries part u cell same v f x = put-seg-both (λ v (c : Cell). entry_at c f ≡ Some x → entry_at (part.cell v) f ≡ Some x) part.cell u v cell
    (λ e h. subst (λ z. entry_at (part.cell z) f ≡ Some x) (sym e) (ap (λ (l : List (Option Alias)). slice_index_or l f None) (sym same) ∙ h)) (λ e h. h)

-- a cell with an entry emptied
fewer_emptied : (part : Part) (u : SegId) (e : ℕ) → Fewer part (emptied part u e)
fewer_emptied part u e v f x = put-seg-both (λ v (c : Cell). entry_at c f ≡ Some x → entry_at (part.cell v) f ≡ Some x) part.cell u v (with_entry (part.cell u) e None)
    (λ same h. subst (λ z. entry_at (part.cell z) f ≡ Some x) (sym same) (was h)) (λ other h. h)
  where
    was : entry_at (with_entry (part.cell u) e None) f ≡ Some x → entry_at (part.cell u) f ≡ Some x
    was h = elim (set-read (part.cell u).entries e f None x h) [ inl q ↦ absurd (cc) | inr q ↦ q ]

module _ (all : List Given) (a : State) (t : Told all a) (d : ℕ) where
  -- an effect that gives nothing
  plain : (q : Request) (e : Effect) → given_by d q e.outcome ≡ [] → e.part.next_serial ≡ (a.part d).next_serial → e.part.slots ≡ (a.part d).slots → Fewer (a.part d) e.part →
      LearnsTold (all ++ given_by d q e.outcome) a.shared d e.outcome → EffectTold all a d q e
  plain q e none serial slots fewer learns = record {
    serial = omega (arith, serial);
    slots = slots;
    entries = λ u f x h. more_entry all (given_by d q e.outcome) a.shared d x (t.entries d u f x (fewer u f x h));
    below = λ u g h. (let h' : given_to [] u ≡ Some g = ap (λ l. given_to l u) (sym none) ∙ h in absurd (cc));
    learns = learns;
  }

  -- by its tests
  tested : (q : Request) → ((rule : Rule) → given_by d q (Refused rule) ≡ []) → (r : Option Rule) (e : Effect) → (r ≡ None → EffectTold all a d q e) → EffectTold all a d q (chosen (a.part d) r e)
  tested q none None e h = h refl
  tested q none (Some rule) e h = plain q (record { part = a.part d; outcome = Refused rule }) (none rule) refl refl (λ u f x g. g) tt

  -- the next identity was not given before
  fresh : given_to all (seg d (a.part d).next_serial) ≡ None
  fresh = by_found (given_to all (seg d (a.part d).next_serial)) refl
    where
      by_found : (o : Option Given) → given_to all (seg d (a.part d).next_serial) ≡ o → o ≡ None
      by_found None e = refl
      by_found (Some g) e = (let low : (a.part d).next_serial < (a.part d).next_serial = t.serials (seg d (a.part d).next_serial) g e in absurd (omega arith))

  -- ---- create

  module _ (k : Known) (e class : ℕ) (b : Brackets) (size : ℕ) where
    abbrev new : Given
    new = record { seg = seg d (a.part d).next_serial; class = class; brackets = b; size = size }

    abbrev made : Alias
    made = new_alias class b size (a.part d).next_serial

    abbrev X : Part
    X = record (with_cell (a.part d) k.seg (with_entry ((a.part d).cell k.seg) e (Some made))) { next_serial = (a.part d).next_serial + 1 }

    found_new : (u : SegId) (g : Given) → given_to (new ∷ []) u ≡ Some g → seg d (a.part d).next_serial ≡ u
    found_new u g h = by_test (same_seg (seg d (a.part d).next_serial) u) refl h
      where
        by_test : (b : Bool) → same_seg (seg d (a.part d).next_serial) u ≡ b → (if b then Some new else None) ≡ Some g → seg d (a.part d).next_serial ≡ u
        by_test true e h = same_seg-true (seg d (a.part d).next_serial) u e
        by_test false e h = cc

    new_given : IsGiven (all ++ new ∷ []) (seg d (a.part d).next_serial) class b size
    new_given = given_back all (new ∷ []) (seg d (a.part d).next_serial) fresh
        ∙ ap (λ (z : Bool). if z then Some new else None) (same_seg-refl (seg d (a.part d).next_serial))

    entry_told : (v : SegId) (f : ℕ) (x : Alias) → entry_at (X.cell v) f ≡ Some x → EntryTold (all ++ new ∷ []) d x
    entry_told v f x = put-seg-both (λ v (c : Cell). entry_at c f ≡ Some x → EntryTold (all ++ new ∷ []) d x) (a.part d).cell k.seg v (with_entry ((a.part d).cell k.seg) e (Some made))
        (λ same h. elim (set-read ((a.part d).cell k.seg).entries e f (Some made) x h) [
          | inl q ↦ (let is : made ≡ x = cc in subst (EntryTold (all ++ new ∷ []) d) is new_given)
          | inr q ↦ more_entry all (new ∷ []) a.shared d x (t.entries d k.seg f x q)
        ])
        (λ other h. more_entry all (new ∷ []) a.shared d x (t.entries d v f x h))

    created : EffectTold all a d (Create k e class b size) (record { part = X; outcome = Value (a.part d).next_serial })
    created = record {
      serial = omega arith;
      slots = refl;
      entries = entry_told;
      below = λ u g h. (let is = found_new u g h in
          (sym (ap (λ (z : SegId). z.mentor) is), (let serial : (a.part d).next_serial ≡ u.serial = ap (λ (z : SegId). z.serial) is in omega (arith, serial))));
      learns = tt;
    }

    pub create_told : (r : Option Rule) → EffectTold all a d (Create k e class b size) (chosen (a.part d) r (record { part = X; outcome = Value (a.part d).next_serial }))
    create_told r = tested (Create k e class b size) (λ rule. refl) r _ (λ z. created)

  -- ---- makeknown

  module _ (ring : ℕ) (k : Known) (e mode : ℕ) (wants : signals (rights_of mode) ≡ true → modifies mode ≡ true) where
    judged_told : (x : Alias) → EntryTold all k.class x → (v : Option Rule) →
        verdict (label_of a.shared.table d) ring (label_of a.shared.table x.class) (alias_brackets x) mode ≡ v → LearnsTold all a.shared d (judged v (known_by k.class x (rights_of mode)))
    judged_told x entry None h = record {
      given = entry;
      signalled = λ g.
          (let p = ((passes_where_permitted (label_of a.shared.table d) ring (label_of a.shared.table x.class) (alias_brackets x) mode).0 h).modifying (wants g) in
          (dominates_twin (label_of a.shared.table x.class) (label_of a.shared.table d)).1 (p.no_write_down, p.no_write_up));
    }
    judged_told x entry (Some rule) h = tt

    shown_told : (o : Option Alias) → ((x : Alias) → o ≡ Some x → EntryTold all k.class x) → LearnsTold all a.shared d (shown a.shared.table d ring k.class mode o)
    shown_told None h = tt
    shown_told (Some x) h = judged_told x (h x refl) (verdict (label_of a.shared.table d) ring (label_of a.shared.table x.class) (alias_brackets x) mode) refl

    learns_more : (o : Outcome) → LearnsTold all a.shared d o → LearnsTold (all ++ []) a.shared d o
    learns_more (Learns x) h = more_known all [] a.shared d x h
    learns_more (Refused r) h = tt
    learns_more (Value v) h = tt
    learns_more (Words at ws) h = tt
    learns_more (Printed at v) h = tt
    learns_more (Looked x) h = tt
    learns_more (Counted x) h = tt

    pub make_known_told : EffectTold all a d (MakeKnown k e mode) (effect a d ring (MakeKnown k e mode))
    make_known_told = plain (MakeKnown k e mode) (effect a d ring (MakeKnown k e mode)) refl refl refl (λ u f x h. h)
        (learns_more (shown a.shared.table d ring k.class mode (entry_at (cell_of a k) e)) (shown_told (entry_at (cell_of a k) e) (λ x h. t.entries k.class k.seg e x h)))

  -- ---- delete

  pub delete_told : (ring : ℕ) (k : Known) (e : ℕ) → EffectTold all a d (Delete k e) (effect a d ring (Delete k e))
  delete_told ring k e = by_entry (entry_at ((a.part d).cell k.seg) e)
    where
      by_class : (child : SegId) (b : Bool) → EffectTold all a d (Delete k e) (record { part = emptied (if b then deleted (a.part d) child else a.part d) k.seg e; outcome = Value 0 })
      by_class child true = plain (Delete k e) _ refl refl refl
          (λ u f x h. same_entries (a.part d) child (record ((a.part d).cell child) { home = Deleted; stored = None }) refl u f x (fewer_emptied (deleted (a.part d) child) k.seg e u f x h)) tt
      by_class child false = plain (Delete k e) _ refl refl refl (fewer_emptied (a.part d) k.seg e) tt

      by_entry : (o : Option Alias) → EffectTold all a d (Delete k e) (delete_effect d (a.part d) k.seg e o)
      by_entry None = plain (Delete k e) (record { part = a.part d; outcome = Refused NoEntry }) refl refl refl (λ u f x g. g) tt
      by_entry (Some x) = tested (Delete k e) (λ rule. refl) _ _ (λ z. by_class (seg d x.serial) (x.class == d))

  -- ---- the others

  -- what is given by none but create
  module _ (q : Request) (none : (o : Outcome) → given_by d q o ≡ []) where
    -- by tests, an effect by which nothing is learned
    unless_told : (tests : List (Bool × Rule)) (part : Part) (o : Outcome) → part.next_serial ≡ (a.part d).next_serial → part.slots ≡ (a.part d).slots → Fewer (a.part d) part →
        LearnsTold (all ++ given_by d q o) a.shared d o → EffectTold all a d q (unless (a.part d) tests (record { part = part; outcome = o }))
    unless_told tests part o serial slots fewer learns =
        tested q (λ rule. none (Refused rule)) (first_broken tests) (record { part = part; outcome = o }) (λ z. plain q (record { part = part; outcome = o }) (none o) serial slots fewer learns)

  pub swap_in_told : (ring : ℕ) (k : Known) → EffectTold all a d (SwapIn k) (effect a d ring (SwapIn k))
  swap_in_told ring k =
      let cell : Cell = record ((a.part d).cell k.seg) { home = In (unwrap_or ((a.part d).cell k.seg).stored (replicate k.size 0)) } in
      unless_told (SwapIn k) (λ o. refl) ((is_deleted ((a.part d).cell k.seg) ⇒ Gone) ∷ (is_in ((a.part d).cell k.seg) ⇒ AlreadyIn) ∷
      (nat_le (pool_of a.shared d).frames (frames_in_use a.shared (a.part d)) ⇒ NoFrame) ∷ []) (with_cell (a.part d) k.seg cell) (Value 0) refl refl (same_entries (a.part d) k.seg cell refl) tt

  pub swap_out_told : (ring : ℕ) (k : Known) → EffectTold all a d (SwapOut k) (effect a d ring (SwapOut k))
  swap_out_told ring k =
      let cell : Cell = record ((a.part d).cell k.seg) { home = Stored; stored = Some (live_words ((a.part d).cell k.seg)) } in
      unless_told (SwapOut k) (λ o. refl) ((is_deleted ((a.part d).cell k.seg) ⇒ Gone) ∷ (not (is_in ((a.part d).cell k.seg)) ⇒ NotIn) ∷
      (is_none ((a.part d).cell k.seg).stored && nat_le (pool_of a.shared d).pages (pages_in_use a.shared (a.part d)) ⇒ NoPage) ∷ [])
      (with_cell (a.part d) k.seg cell) (Value 0) refl refl (same_entries (a.part d) k.seg cell refl) tt

  pub fetch_told : (ring : ℕ) (k : Known) (offset count pad : ℕ) → EffectTold all a d (Fetch k offset count pad) (effect a d ring (Fetch k offset count pad))
  fetch_told ring k offset count pad =
      unless_told (Fetch k offset count pad) (λ o. refl) ((is_deleted (cell_of a k) ⇒ Gone) ∷ (not (is_in (cell_of a k)) ⇒ NotIn) ∷ [])
      (a.part d) (Words pad (part_of (live_words (cell_of a k)) offset count)) refl refl (λ u f x h. h) tt

  pub update_told : (ring : ℕ) (k : Known) (offset : ℕ) (words : List ℕ) → EffectTold all a d (Update k offset words) (effect a d ring (Update k offset words))
  update_told ring k offset words =
      let cell : Cell = record ((a.part d).cell k.seg) { home = In (overwrite (live_words ((a.part d).cell k.seg)) offset words); writes = ((a.part d).cell k.seg).writes + 1 } in
      unless_told (Update k offset words) (λ o. refl) ((is_deleted ((a.part d).cell k.seg) ⇒ Gone) ∷ (not (is_in ((a.part d).cell k.seg)) ⇒ NotIn) ∷ [])
      (with_cell (a.part d) k.seg cell) (Value (((a.part d).cell k.seg).writes + 1)) refl refl (same_entries (a.part d) k.seg cell refl) tt

  tallied_told : (all : List Given) (m wanted : ℕ) (x : Tally) (value : ℕ) → LearnsTold all a.shared d (tallied m wanted x value)
  tallied_told all m wanted x value = first (nat_lt (x.seen + 1) m) (nat_lt ((x.sum + value) % 2 ^ 64) wanted)
    where
      first : (b c : Bool) → LearnsTold all a.shared d (if b then Looked (Some (record { seen = x.seen + 1; sum = (x.sum + value) % 2 ^ 64 })) else (if c then Looked None else Counted ((x.sum + value) % 2 ^ 64)))
      first true c = tt
      first false true = tt
      first false false = tt

  pub read_told : (ring : ℕ) (k : Known) (wanted : ℕ) (x : Tally) → EffectTold all a d (Read k wanted x) (effect a d ring (Read k wanted x))
  read_told ring k wanted x = plain (Read k wanted x) (effect a d ring (Read k wanted x)) refl refl refl (λ u f x h. h) (tallied_told _ _ wanted x _)

  pub advance_told : (ring : ℕ) (k : Known) → EffectTold all a d (Advance k) (effect a d ring (Advance k))
  advance_told ring k = plain (Advance k) _ refl refl refl (λ u f x h. h) tt

  pub ticket_told : (ring : ℕ) (k : Known) → EffectTold all a d (Ticket k) (effect a d ring (Ticket k))
  ticket_told ring k = plain (Ticket k) _ refl refl refl
      (same_entries (a.part d) k.seg (record ((a.part d).cell k.seg) { sequencer = ((a.part d).cell k.seg).sequencer + 1 }) refl) tt

  pub out_told : (ring value : ℕ) → EffectTold all a d (Out value) (effect a d ring (Out value))
  out_told ring value = by_room (nat_lt (a.part d).used a.shared.console)
    where
      by_room : (b : Bool) → EffectTold all a d (Out value)
          (if b then record { part = record (a.part d) { lines = (a.part d).lines ++ value ∷ []; used = (a.part d).used + 1 }; outcome = Printed (a.part d).used value }
          else record { part = record (a.part d) { used = (a.part d).used + 1 }; outcome = Refused ConsoleFull })
      by_room true = plain (Out value) _ refl refl refl (λ u f x h. h) tt
      by_room false = plain (Out value) _ refl refl refl (λ u f x h. h) tt

  -- the effect of any request that a process has come to
  pub effect_told : (p : Process) (q : Request) → Planned a.shared p q → EffectTold all a d q (effect a d p.ring q)
  effect_told p (MakeKnown k e mode) pl = make_known_told p.ring k e mode (mode_wants p.ring e mode (is_none (free_known p)) k pl.2)
  effect_told p (Create k e class b size) pl = create_told k e class b size _
  effect_told p (Delete k e) pl = delete_told p.ring k e
  effect_told p (SwapIn k) pl = swap_in_told p.ring k
  effect_told p (SwapOut k) pl = swap_out_told p.ring k
  effect_told p (Fetch k offset count pad) pl = fetch_told p.ring k offset count pad
  effect_told p (Update k offset words) pl = update_told p.ring k offset words
  effect_told p (Read k wanted x) pl = read_told p.ring k wanted x
  effect_told p (Advance k) pl = advance_told p.ring k
  effect_told p (Ticket k) pl = ticket_told p.ring k
  effect_told p (Out value) pl = out_told p.ring value
