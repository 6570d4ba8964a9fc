-- Each step keeps what stands: the mail of a segment, the posters and the collectors.
use Rattle.std.proofs.Common.{ℕ, ◌+◌, ◌<◌, ◌≤◌, Bool, true, false, List, [], ◌∷◌, ◌++◌, ◌≡◌, refl, sym, ap, subst, ◌∙◌, Option, Some, None, ◌⊎◌, inl, inr, length, arith}
use Rattle.std.specs.Prelude.{◌||◌, if◌then◌else◌, is_some, slice_index_or, slice_set}
use Rattle.std.specs.Option.{option_map_or}
use Rattle.lists.specs.Lists.{overwrite}
use Rattle.words_layout.specs.Segments.{same_seg}
use Rattle.words_layout.specs.declared.segment.SegId.{SegId}
use Rattle.policy.specs.Known.{Known}
use Rattle.policy.specs.Outcome.{Outcome, Value, Counted}
use Rattle.class_model.specs.Config.{Config, ProcessLine, program_of}
use Rattle.class_model.specs.Process.{Process, ProcName, reg, known_at}
use Rattle.class_model.specs.Plan.{Request, Update, Read, Advance, Ticket}
use Rattle.class_model.specs.State.{State, process_at}
use Rattle.class_model.specs.Step.{Deed, done}
use Rattle.class_model.specs.Content.{draws, advances, update_asked}
use Rattle.mail_scripts.specs.Programs.{post_program, collect_program}
use Rattle.mailbox_laws.specs.Mail.{IsPoster, IsCollector, line_of, named_program, serves}
use Rattle.mailbox_laws.specs.Protocol.{Hold, HoldIs, Mail}
use Rattle.mailbox_laws.specs.Places.{Poster, Collector, PosterHolds, MailStands, held, HasCollected, CollectorAt, Collected, sets_entry, sets_mode, finds, tests_found, finds_again, has, sets_count, sets_one, goes, ends, copies, adds, awaits, fetches, tests_fetched, fetches_again, has_fetched, prints, counts, goes_back}
use Rattle.mailbox_laws.proofs.Protocol.{draws_ticket, writes_word, serves_ticket, before_push, keeps_holds, words_same}
use Rattle.mailbox_laws.proofs.Told.{Told}
use Rattle.mailbox_laws.proofs.Slots.{Changes, did_goes}
use Rattle.mailbox_laws.proofs.PosterSteps.{PosterGoes, HoldMoves, poster_goes}
use Rattle.mailbox_laws.proofs.CollectorSteps.{CollectorGoes, collector_goes, has_more}

-- ---- what an effect is to u

-- an Ok ticket, an Ok update or an Ok advance of u, or none of these
pub data Kind (u : SegId) (asked : Option (Request × Outcome)) : Type 0 where
  drawn : (x : Known) (v : ℕ) → asked ≡ Some (Ticket x, Value v) → same_seg x.seg u ≡ true → Kind u asked
  written : (x : Known) (offset : ℕ) (ws : List ℕ) (v : ℕ) → asked ≡ Some (Update x offset ws, Value v) → same_seg x.seg u ≡ true → Kind u asked
  advanced : (x : Known) (v : ℕ) → asked ≡ Some (Advance x, Value v) → same_seg x.seg u ≡ true → Kind u asked
  other : draws u asked ≡ false → update_asked u asked ≡ None → advances u asked ≡ false → Kind u asked

pub kind_of : (u : SegId) (asked : Option (Request × Outcome)) → Kind u asked
kind_of u (Some (Ticket x, Value v)) = by_seg (same_seg x.seg u) refl
  where
    by_seg : (b : Bool) → same_seg x.seg u ≡ b → Kind u (Some (Ticket x, Value v))
    by_seg true e = drawn x v refl e
    by_seg false e = other e refl refl
kind_of u (Some (Update x offset ws, Value v)) = by_seg (same_seg x.seg u) refl
  where
    by_seg : (b : Bool) → same_seg x.seg u ≡ b → Kind u (Some (Update x offset ws, Value v))
    by_seg true e = written x offset ws v refl e
    by_seg false e = other refl (ap (λ (b : Bool). if b then Some (offset, ws) else None) e) refl
kind_of u (Some (Advance x, Value v)) = by_seg (same_seg x.seg u) refl
  where
    by_seg : (b : Bool) → same_seg x.seg u ≡ b → Kind u (Some (Advance x, Value v))
    by_seg true e = advanced x v refl e
    by_seg false e = other refl refl e
kind_of u _ = other refl refl refl

-- What a step makes of the posts, the words and the eventcount of u. Where it is no update of u, each word is what it was, and 0 where
-- there was none.
pub record Becomes (u : SegId) (p : Process) (asked : Option (Request × Outcome)) (posts words : List ℕ) (count : ℕ) (posts' words' : List ℕ) (count' : ℕ) : Type 0 where
  pub drawn : draws u asked ≡ true → posts' ≡ posts ++ reg p 9 ∷ []
  pub undrawn : draws u asked ≡ false → posts' ≡ posts
  pub written : (offset : ℕ) (ws : List ℕ) → update_asked u asked ≡ Some (offset, ws) → words' ≡ overwrite words offset ws
  pub unwritten : update_asked u asked ≡ None → (i : ℕ) → slice_index_or words' i 0 ≡ slice_index_or words i 0
  pub advanced : advances u asked ≡ true → count' ≡ count + 1
  pub unadvanced : advances u asked ≡ false → count' ≡ count

-- ---- what a poster held before an effect that is none of these

module _ (u : SegId) (posts words : List ℕ) (count : ℕ) (p q : Process) where
  -- what it held before, with the same ticket
  record HeldBefore (h : Hold) : Type 0 where
    before : Hold
    holds : held p ≡ Some before
    same : before.ticket ≡ h.ticket
    goes_on : HoldIs posts words count before → HoldIs posts words count h

  as_before : (h : Hold) → (held q ≡ held p) ⊎ (held q ≡ None) → held q ≡ Some h → HeldBefore h
  as_before h (inl same) e = record { before = h; holds = sym same ∙ e; same = refl; goes_on = λ i. i }
  as_before h (inr none) e = absurd (cc)

  no_draw : (x seen : Known) (A : Type 0) → same_seg x.seg u ≡ false → known_at p (reg p 8) ≡ Some x → known_at p (reg p 8) ≡ Some seen → same_seg seen.seg u ≡ true → A
  no_draw x seen A apart e f of_u = let same : x ≡ seen = by_some x seen (sym e ∙ f) in let is : same_seg seen.seg u ≡ false = subst (λ (z : Known). same_seg z.seg u ≡ false) same apart in absurd (cc)
    where
      by_some : (x y : Known) → Some x ≡ Some y → x ≡ y
      by_some x y h = cc

  not_written : (b : Bool) (x : ℕ × List ℕ) → (if b then Some x else None) ≡ None → b ≡ false
  not_written true x e = absurd (cc)
  not_written false x e = refl

  held_before : (asked : Option (Request × Outcome)) → draws u asked ≡ false → update_asked u asked ≡ None → advances u asked ≡ false → Told u posts words count asked → HoldMoves p q asked → (h : Hold) → held q ≡ Some h →
      (seen : Known) → known_at p (reg p 8) ≡ Some seen → same_seg seen.seg u ≡ true → HeldBefore h
  held_before (Some (Ticket x, Value v)) d w c told moves h e seen known of_u = no_draw x seen (HeldBefore h) d moves.0 known of_u
  held_before (Some (Update x offset ws, Value v)) d w c told moves h e seen known of_u = no_draw x seen (HeldBefore h) (not_written (same_seg x.seg u) (offset, ws) w) moves.0 known of_u
  held_before (Some (Advance x, Value v)) d w c told moves h e seen known of_u = absurd (none moves.3)
    where
      none : held q ≡ None → ⊥
      none f = absurd (cc)
  held_before (Some (Read x wanted t, Counted v)) d w c told moves h e seen known of_u =
      let same_known : x ≡ seen = by_some x seen (sym moves.0 ∙ known) in
      let t = told (subst (λ (z : Known). same_seg z.seg u ≡ true) (sym same_known) of_u) in
      let is : record { ticket = wanted; value = reg p 9; through = true; written = false } ≡ h = by_hold _ h (sym moves.2 ∙ e) in record {
        before = record { ticket = wanted; value = reg p 9; through = false; written = false };
        holds = moves.1;
        same = ap (λ (z : Hold). z.ticket) is;
        goes_on = λ i. subst (HoldIs posts words count) is (record {
          waits = i.waits;
          drawn = i.drawn;
          posts_value = i.posts_value;
          next = λ x. (let a = t.0 in let b = t.1 in omega (arith, a, b));
          written = λ x. absurd (cc);
        });
      }
    where
      by_some : (x y : Known) → Some x ≡ Some y → x ≡ y
      by_some x y h = cc

      by_hold : (x y : Hold) → Some x ≡ Some y → x ≡ y
      by_hold x y h = cc
  held_before _ d w c told moves h e seen known of_u = as_before h moves e

-- ---- more is posted and served

module _ (posts posts' : List ℕ) (count count' : ℕ) (up : count ≤ count') (front : (i : ℕ) → i < count → slice_index_or posts' i 0 ≡ slice_index_or posts i 0) where
  more : (n : ℕ) (p : Process) → HasCollected posts count n p → HasCollected posts' count' n p
  more n p h = has_more posts posts' count count' n p up front h

  collected_more : (p : Process) (at : CollectorAt p) → Collected posts count p at → Collected posts' count' p at
  collected_more p (fetches at c) h = (more _ p h.0, (let low = h.1 in omega (arith, low, up)))
  collected_more p (tests_fetched at c) h = (more _ p h.0, (let low = h.1 in omega (arith, low, up)), λ ok. more _ p (h.2 ok))
  collected_more p (fetches_again at c) h = (more _ p h.0, (let low = h.1 in omega (arith, low, up)))
  collected_more p (has_fetched at c) h = more _ p h
  collected_more p (prints at c) h = more _ p h
  collected_more p (counts at c) h = more _ p h
  collected_more p (sets_entry at e f) h = more _ p h
  collected_more p (sets_mode at e f) h = more _ p h
  collected_more p (finds at e f g) h = more _ p h
  collected_more p (tests_found at e f g i) h = more _ p h
  collected_more p (finds_again at e f g) h = more _ p h
  collected_more p (has at e f) h = more _ p h
  collected_more p (sets_count at e f) h = more _ p h
  collected_more p (sets_one at e f) h = more _ p h
  collected_more p (goes at c) h = more _ p h
  collected_more p (ends at c) h = more _ p h
  collected_more p (copies at c) h = more _ p h
  collected_more p (adds at c e) h = more _ p h
  collected_more p (awaits at c e) h = more _ p h
  collected_more p (goes_back at c) h = more _ p h

-- ---- a step

some_same : {A : Type 0} (x y : A) → Some x ≡ Some y → x ≡ y
some_same x y h = cc

-- who has no process line is neither a poster nor a collector
no_program : (k : Config) (m : ProcName) → line_of k m ≡ None → named_program k m ≡ []
no_program k m e = ap (λ o. option_map_or (λ (l : ProcessLine). program_of (slice_index_or k.scripts l.script None)) o []) e

no_poster : {A : Type 0} (k : Config) (m : ProcName) → line_of k m ≡ None → IsPoster k m → A
no_poster k m e i = let same : [] ≡ post_program i.entry i.size i.first i.count = sym (no_program k m e) ∙ i.is in absurd (cc)

no_collector : {A : Type 0} (k : Config) (m : ProcName) → line_of k m ≡ None → IsCollector k m → A
no_collector k m e i = let same : [] ≡ collect_program i.entry i.count = sym (no_program k m e) ∙ i.is in absurd (cc)

module _ (k : Config) (u : SegId) (posts words : List ℕ) (count : ℕ) (a : State) (z : MailStands k u posts words count a) (n : ProcName) (p : Process) (there : process_at a n ≡ Some p) (x : Deed)
    (c : Changes a n p x) (sizes : (i : ℕ) (y : Known) → known_at p i ≡ Some y → same_seg y.seg u ≡ true → length words ≡ y.size) (told : Told u posts words count x.asked) (only : serves u x.asked ≡ true → IsPoster k n)
    (posts' words' : List ℕ) (count' : ℕ) (r : Becomes u p x.asked posts words count posts' words' count') where
  abbrev b : State
  b = done a n.class (Some x)

  abbrev q : Process
  q = c.after

  -- whose slot is filled by a new process has no line
  no_line : (m : ProcName) → (process_at a m ≡ None) × (m.slot < length ((a.part m.class).slots m.processor)) → line_of k m ≡ None
  no_line m new = let l = z.slots m in let low = new.1 in z.lines m new.0 (omega (arith, low, l))

  after_is : (t : Process) → process_at b n ≡ Some t → q ≡ t
  after_is t e = some_same q t (sym c.own ∙ e)

  poster_step : (i : IsPoster k n) → PosterGoes a.shared (post_program i.entry i.size i.first i.count) i.size p q x.asked
  poster_step i = let t = z.posters n p i there in
      did_goes a n p q x.asked (λ q asked. PosterGoes a.shared (post_program i.entry i.size i.first i.count) i.size p q asked) c.did (poster_goes a.shared n.class i.entry i.size i.first i.count i.limit p t.runs t.at)

  collector_step : (i : IsCollector k n) → CollectorGoes a.shared n.class i.entry i.count p (z.collectors n p i there).runs u posts words count z.few z.mail.served q x.asked
  collector_step i = let t = z.collectors n p i there in
      did_goes a n p q x.asked (λ q asked. CollectorGoes a.shared n.class i.entry i.count p t.runs u posts words count z.few z.mail.served q asked) c.did
      (collector_goes a.shared n.class i.entry i.count p t.runs u posts words count z.few z.mail.served t.at t.has)

  posters_after : (m : ProcName) (t : Process) (i : IsPoster k m) → process_at b m ≡ Some t → Poster b k m i t
  posters_after m t i e = elim (c.others m) [
    | inl same ↦ subst (λ m. (i : IsPoster k m) → process_at b m ≡ Some t → Poster b k m i t) same (λ i e. (let g = poster_step i in subst (Poster b k n i) (after_is t e) (record { runs = g.runs; at = g.at }))) i e
    | inr (inl as_it_was) ↦ (let o = z.posters m t i (sym as_it_was ∙ e) in record { runs = o.runs; at = o.at })
    | inr (inr new) ↦ no_poster k m (no_line m new) i
  ]

  collectors_after : count ≤ count' → ((i : ℕ) → i < count → slice_index_or posts' i 0 ≡ slice_index_or posts i 0) → (m : ProcName) (t : Process) (i : IsCollector k m) → process_at b m ≡ Some t → Collector b k posts' count' u m i t
  collectors_after up front m t i e = elim (c.others m) [
    | inl same ↦ subst (λ m. (i : IsCollector k m) → process_at b m ≡ Some t → Collector b k posts' count' u m i t) same
        (λ i e. (let g = collector_step i in subst (Collector b k posts' count' u n i) (after_is t e)
        (record { runs = g.runs; at = g.at; has = λ y known of_u. collected_more posts posts' count count' up front q g.at (g.has told y known of_u) }))) i e
    | inr (inl as_it_was) ↦ (let o = z.collectors m t i (sym as_it_was ∙ e) in record { runs = o.runs; at = o.at; has = λ y known of_u. collected_more posts posts' count count' up front t o.at (o.has y known of_u) })
    | inr (inr new) ↦ no_collector k m (no_line m new) i
  ]

  -- ---- the mail

  others_hold : (m : ProcName) → (n ≡ m) ⊎ ((h : Hold) → PosterHolds k b u m h → PosterHolds k a u m h)
  others_hold m = elim (c.others m) [
    | inl same ↦ inl same
    | inr (inl as_it_was) ↦ inr (λ h t. record { is_poster = t.is_poster; process = t.process; there = sym as_it_was ∙ t.there; seen = t.seen; known = t.known; of_u = t.of_u; holds = t.holds })
    | inr (inr new) ↦ inr (λ h t. no_poster k m (no_line m new) t.is_poster)
  ]

  -- what the stepping process holds after its step
  record OwnHold (h : Hold) : Type 0 where
    is_poster : IsPoster k n
    seen : Known
    known : known_at p (reg p 8) ≡ Some seen
    of_u : same_seg seen.seg u ≡ true
    holds : held q ≡ Some h

  own_hold : (h : Hold) → PosterHolds k b u n h → OwnHold h
  own_hold h t = record { is_poster = t.is_poster; seen = t.seen; known = sym (g.same h holds) ∙ known; of_u = t.of_u; holds = holds }
    where
      is : t.process ≡ q
      is = sym (after_is t.process t.there)

      g : PosterGoes a.shared (post_program t.is_poster.entry t.is_poster.size t.is_poster.first t.is_poster.count) t.is_poster.size p q x.asked
      g = poster_step t.is_poster

      holds : held q ≡ Some h
      holds = subst (λ z. held z ≡ Some h) is t.holds

      known : known_at q (reg q 8) ≡ Some t.seen
      known = subst (λ (z : Process). known_at z (reg z 8) ≡ Some t.seen) is t.known

  moves_of : (i : IsPoster k n) (asked : Option (Request × Outcome)) → x.asked ≡ asked → HoldMoves p q asked
  moves_of i asked is = subst (HoldMoves p q) is (poster_step i).moves

  told_of : (asked : Option (Request × Outcome)) → x.asked ≡ asked → Told u posts words count asked
  told_of asked is = subst (Told u posts words count) is told

  settle : (l : List ℕ) (d : ℕ) → posts' ≡ l → count' ≡ d → Mail l words' d (PosterHolds k b u) → Mail posts' words' count' (PosterHolds k b u)
  settle l d e f m = subst (λ l. Mail l words' count' (PosterHolds k b u)) (sym e) (subst (λ d. Mail l words' d (PosterHolds k b u)) (sym f) m)

  abbrev Fine : Type 0
  Fine = Mail posts' words' count' (PosterHolds k b u) × (count' ≤ 64) × (count ≤ count') × ((i : ℕ) → i < count → slice_index_or posts' i 0 ≡ slice_index_or posts i 0)

  same_front : posts' ≡ posts → (i : ℕ) → i < count → slice_index_or posts' i 0 ≡ slice_index_or posts i 0
  same_front e i low = ap (λ (l : List ℕ). slice_index_or l i 0) e

  drawn_fine : (y : Known) (v : ℕ) → x.asked ≡ Some (Ticket y, Value v) → same_seg y.seg u ≡ true → Fine
  drawn_fine y v is of_u = (
    settle (posts ++ reg p 9 ∷ []) count grown same (words_same (posts ++ reg p 9 ∷ []) words words' count (PosterHolds k b u) (r.unwritten (ap (update_asked u) is))
        (draws_ticket (PosterHolds k a u) (PosterHolds k b u) n others_hold posts words count (reg p 9) z.mail new)),
    (let f = z.few in omega (arith, f, same)),
    omega (arith, same),
    λ i low. (let d = z.mail.drawn in ap (λ (l : List ℕ). slice_index_or l i 0) grown ∙ before_push posts (reg p 9) i (omega (arith, low, d))),
  )
    where
      grown : posts' ≡ posts ++ reg p 9 ∷ []
      grown = r.drawn (ap (draws u) is ∙ of_u)

      same : count' ≡ count
      same = r.unadvanced (ap (advances u) is)

      new : (h : Hold) → PosterHolds k b u n h → record { ticket = length posts; value = reg p 9; through = false; written = false } ≡ h
      new h t =
          let o = own_hold h t in
          let moves = moves_of o.is_poster (Some (Ticket y, Value v)) is in
          let number : v ≡ length posts = told_of (Some (Ticket y, Value v)) is of_u in
          subst (λ v. record { ticket = v; value = reg p 9; through = false; written = false } ≡ h) number (some_same _ h (sym moves.1 ∙ o.holds))

  written_fine : (y : Known) (offset : ℕ) (ws : List ℕ) (v : ℕ) → x.asked ≡ Some (Update y offset ws, Value v) → same_seg y.seg u ≡ true → Fine
  written_fine y offset ws v is of_u = (
    settle posts count same_posts same (subst (λ l. Mail posts l count (PosterHolds k b u)) (sym set)
        (writes_word (PosterHolds k a u) (PosterHolds k b u) n others_hold posts words count z.mail (record { ticket = offset; value = reg p 9; through = true; written = false }) old refl inside new)),
    (let f = z.few in omega (arith, f, same)),
    omega (arith, same),
    same_front same_posts,
  )
    where
      i : IsPoster k n
      i = only (ap (serves u) is ∙ ap (λ (b : Bool). is_some {T = ℕ × List ℕ} (if b then Some (offset, ws) else None)) of_u)

      moves : HoldMoves p q (Some (Update y offset ws, Value v))
      moves = moves_of i (Some (Update y offset ws, Value v)) is

      same_posts : posts' ≡ posts
      same_posts = r.undrawn (ap (draws u) is)

      same : count' ≡ count
      same = r.unadvanced (ap (advances u) is)

      set : words' ≡ slice_set words offset (reg p 9)
      set = r.written offset ws (ap (update_asked u) is ∙ ap (λ (b : Bool). if b then Some (offset, ws) else None) of_u) ∙ ap (λ l. overwrite words offset l) moves.3

      inside : offset < length words
      inside = let size = sizes (reg p 8) y moves.0 of_u in let low = moves.4 in omega (arith, size, low)

      old : PosterHolds k a u n (record { ticket = offset; value = reg p 9; through = true; written = false })
      old = record { is_poster = i; process = p; there = there; seen = y; known = moves.0; of_u = of_u; holds = moves.1 }

      new : (h : Hold) → PosterHolds k b u n h → record { ticket = offset; value = reg p 9; through = true; written = true } ≡ h
      new h t = some_same _ h (sym moves.2 ∙ (own_hold h t).holds)

  advanced_fine : (y : Known) (v : ℕ) → x.asked ≡ Some (Advance y, Value v) → same_seg y.seg u ≡ true → Fine
  advanced_fine y v is of_u = (
    settle posts (count + 1) same_posts up (words_same posts words words' (count + 1) (PosterHolds k b u) (r.unwritten (ap (update_asked u) is))
        (serves_ticket (PosterHolds k a u) (PosterHolds k b u) n others_hold posts words count z.mail hold old refl new)),
    (let w = (z.mail.each n hold old).waits in let low = moves.4 in omega (arith, w, low, up)),
    omega (arith, up),
    same_front same_posts,
  )
    where
      i : IsPoster k n
      i = only (ap (serves u) is ∙ ap (λ (b : Bool). b || false) of_u)

      moves : HoldMoves p q (Some (Advance y, Value v))
      moves = moves_of i (Some (Advance y, Value v)) is

      hold : Hold
      hold = record { ticket = moves.0; value = reg p 9; through = true; written = true }

      same_posts : posts' ≡ posts
      same_posts = r.undrawn (ap (draws u) is)

      up : count' ≡ count + 1
      up = r.advanced (ap (advances u) is ∙ of_u)

      old : PosterHolds k a u n hold
      old = record { is_poster = i; process = p; there = there; seen = y; known = moves.1; of_u = of_u; holds = moves.2 }

      new : (h : Hold) → PosterHolds k b u n h → ⊥
      new h t = let none : held q ≡ None = moves.3 in let some : held q ≡ Some h = (own_hold h t).holds in absurd (cc)

  other_fine : draws u x.asked ≡ false → update_asked u x.asked ≡ None → advances u x.asked ≡ false → Fine
  other_fine d w e = (
    settle posts count same_posts same (words_same posts words words' count (PosterHolds k b u) (r.unwritten w) (keeps_holds (PosterHolds k a u) (PosterHolds k b u) n others_hold posts words count z.mail new)),
    (let f = z.few in omega (arith, f, same)),
    omega (arith, same),
    same_front same_posts,
  )
    where
      same_posts : posts' ≡ posts
      same_posts = r.undrawn d

      same : count' ≡ count
      same = r.unadvanced e

      new : (h : Hold) → PosterHolds k b u n h → (g : Hold) × PosterHolds k a u n g × (g.ticket ≡ h.ticket) × (HoldIs posts words count g → HoldIs posts words count h)
      new h t =
          let o = own_hold h t in
          let f = held_before u posts words count p q x.asked d w e told (poster_step o.is_poster).moves h o.holds o.seen o.known o.of_u in
          (f.before, record { is_poster = o.is_poster; process = p; there = there; seen = o.seen; known = o.known; of_u = o.of_u; holds = f.holds }, f.same, f.goes_on)

  fine : Kind u x.asked → Fine
  fine (drawn y v is of_u) = drawn_fine y v is of_u
  fine (written y offset ws v is of_u) = written_fine y offset ws v is of_u
  fine (advanced y v is of_u) = advanced_fine y v is of_u
  fine (other d w e) = other_fine d w e

  pub stands_after : MailStands k u posts' words' count' b
  stands_after = let f = fine (kind_of u x.asked) in record {
    mail = f.0;
    few = f.1;
    posters = posters_after;
    collectors = collectors_after f.2 f.3;
    slots = λ m. c.lengths m.class m.processor ∙ z.slots m;
    lines = λ m none low. lines_after m none low (c.others m);
  }
    where
      lines_after : (m : ProcName) → process_at b m ≡ None → m.slot < 4 → (n ≡ m) ⊎ (process_at b m ≡ process_at a m) ⊎ (process_at a m ≡ None) × (m.slot < length ((a.part m.class).slots m.processor)) → line_of k m ≡ None
      lines_after m none low (inl same) = let some : process_at b m ≡ Some q = subst (λ m. process_at b m ≡ Some q) same c.own in absurd (cc)
      lines_after m none low (inr (inl as_it_was)) = z.lines m (sym as_it_was ∙ none) low
      lines_after m none low (inr (inr new)) = z.lines m new.0 low
