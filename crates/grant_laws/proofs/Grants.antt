-- A request is granted exactly where a condition on the effects before it holds.
use Rattle.std.proofs.Common.{ℕ, ◌+◌, ◌<◌, ◌%◌, ◌^◌, Bool, true, false, not, ◌&&◌, ◌||◌, List, [], ◌∷◌, ◌++◌, ◌≡◌, refl, sym, ap, ◌∙◌, Option, Some, None, arith, length}
use Rattle.std.specs.Prelude.{◌==◌, if◌then◌else◌, is_some, is_none, nat_lt, nat_le, count_by, slice_index}
use Rattle.std.specs.List.{list_any}
use Rattle.std.proofs.lemmas.Bool.{ltb-false, leb-false, cases_eq}
use Rattle.labels.specs.Label.{label_of}
use Rattle.words_layout.specs.Segments.{seg}
use Rattle.words_layout.specs.declared.segment.SegId.{SegId}
use Rattle.words_layout.specs.declared.coding.Alias.{Alias}
use Rattle.policy.specs.Known.{Known, alias_brackets}
use Rattle.policy.specs.Outcome.{Refused, Printed, Looked, Counted, Tally, components, shown, judged}
use Rattle.policy.specs.Verdict.{verdict, first_broken, ◌⇒◌}
use Rattle.policy.specs.declared.rule.Rule.{Rule}
use Rattle.policy.specs.declared.rule.Rule.TheVariants.{Gone, EntryTaken, SerialsUsed, NotEmpty, NotIn, AlreadyIn, NoFrame, NoPage, ConsoleFull}
use Rattle.class_model.specs.Config.{Config, Shared, shared_of, pool_of, classes}
use Rattle.class_model.specs.Plan.{Request, MakeKnown, Create, Delete, SwapIn, SwapOut, Fetch, Update, Read, Advance, Ticket, Out}
use Rattle.class_model.specs.State.{State, Part, Cell, CellHome, Never, In, Stored, Deleted, cell_of, entry_at, has_entry, is_deleted, is_deleted_home, is_in, is_in_home, frames_in_use, pages_in_use, identities}
use Rattle.class_model.specs.Step.{Effect, chosen, effect, delete_effect}
use Rattle.class_model.specs.Run.{Happened, opening_serial}
use Rattle.class_model.specs.Content.{outs_in}
use Rattle.effect_laws.proofs.Counting.{one_if, count-total, total-same}
use Rattle.grant_laws.specs.Grants.{granted, inside, lost, stands_in, is_in_after, is_deleted_after, has_page_after, ins_after, pages_after, creates_in, has_child_after, may_delete, may_learn}
use Rattle.grant_laws.proofs.Kept.{place_of, Kept}
use Rattle.grant_laws.proofs.Effects.{Small, entry_is}

-- what grants a request of a process of class d in a ring, after these effects, the latest first
abbrev pub may : Config → List Happened → ℕ → ℕ → Request → Bool
may k latest d ring (MakeKnown x e mode) = may_learn k d ring mode (stands_in k x.class x.seg e latest)
may k latest d ring (Create x e class b size) =
    not (is_deleted_after k d x.seg latest) && is_none (stands_in k d x.seg e latest) && nat_lt (opening_serial k d + creates_in d latest) 64
may k latest d ring (Delete x e) = may_delete k d latest (stands_in k d x.seg e latest)
may k latest d ring (SwapIn x) =
    not (is_deleted_after k d x.seg latest) && not (is_in_after k d x.seg latest) && nat_lt (ins_after k d latest) (pool_of (shared_of k) d).frames
may k latest d ring (SwapOut x) =
    is_in_after k d x.seg latest && (has_page_after k d x.seg latest || nat_lt (pages_after k d latest) (pool_of (shared_of k) d).pages)
may k latest d ring (Fetch x offset count pad) = is_in_after k x.class x.seg latest
may k latest d ring (Update x offset words) = is_in_after k d x.seg latest
may k latest d ring (Read x wanted t) = true
may k latest d ring (Advance x) = true
may k latest d ring (Ticket x) = true
may k latest d ring (Out value) = nat_lt (outs_in d latest) k.console

-- by tests: granted exactly where none is broken
by_tests : (part : Part) (r : Option Rule) (e : Effect) → granted e.outcome ≡ true → granted (chosen part r e).outcome ≡ is_none r
by_tests part None e h = h
by_tests part (Some rule) e h = refl

not_le : (m n : ℕ) → not (nat_le m n) ≡ nat_lt n m
not_le m n = by_both (nat_le m n) (nat_lt n m) refl refl
  where
    by_both : (a b : Bool) → nat_le m n ≡ a → nat_lt n m ≡ b → not a ≡ b
    by_both true false e f = refl
    by_both false true e f = refl
    by_both true true e f = absurd (omega (arith, Rattle.std.proofs.lemmas.Bool.leb-true m n e, Rattle.std.proofs.lemmas.Bool.ltb-true n m f))
    by_both false false e f = absurd (omega (arith, leb-false m n e, ltb-false n m f))

in_home : (h : CellHome) → is_none (first_broken ((is_deleted_home h ⇒ Gone) ∷ (not (is_in_home h) ⇒ NotIn) ∷ [])) ≡ inside (place_of h)
in_home Never = refl
in_home Stored = refl
in_home (In live) = refl
in_home Deleted = refl

swap_in_home : (h : CellHome) (t : Bool) → is_none (first_broken ((is_deleted_home h ⇒ Gone) ∷ (is_in_home h ⇒ AlreadyIn) ∷ (t ⇒ NoFrame) ∷ [])) ≡ (not (lost (place_of h)) && not (inside (place_of h)) && not t)
swap_in_home Never true = refl
swap_in_home Never false = refl
swap_in_home Stored true = refl
swap_in_home Stored false = refl
swap_in_home (In live) t = refl
swap_in_home Deleted t = refl

swap_out_home : (h : CellHome) (p t : Bool) → is_none (first_broken ((is_deleted_home h ⇒ Gone) ∷ (not (is_in_home h) ⇒ NotIn) ∷ (not p && t ⇒ NoPage) ∷ [])) ≡ (inside (place_of h) && (p || not t))
swap_out_home Never p t = refl
swap_out_home Stored p t = refl
swap_out_home (In live) true t = refl
swap_out_home (In live) false true = refl
swap_out_home (In live) false false = refl
swap_out_home Deleted p t = refl

create_home : (h : CellHome) (o : Option Alias) (t : Bool) → is_none (first_broken ((is_deleted_home h ⇒ Gone) ∷ (is_some o ⇒ EntryTaken) ∷ (t ⇒ SerialsUsed) ∷ [])) ≡ (not (lost (place_of h)) && is_none o && not t)
create_home Never None true = refl
create_home Never None false = refl
create_home Never (Some y) t = refl
create_home Stored None true = refl
create_home Stored None false = refl
create_home Stored (Some y) t = refl
create_home (In live) None true = refl
create_home (In live) None false = refl
create_home (In live) (Some y) t = refl
create_home Deleted o t = refl

not_none : (o : Option (List ℕ)) → is_none o ≡ not (is_some o)
not_none None = refl
not_none (Some words) = refl

one_test : (b : Bool) (rule : Rule) → is_none (first_broken ((b ⇒ rule) ∷ [])) ≡ not b
one_test true rule = refl
one_test false rule = refl

counts : {X : Type 0} (f g : X → Bool) (xs : List X) → ((x : X) → f x ≡ g x) → count_by f xs ≡ count_by g xs
counts f g xs h = count-total f xs ∙ total-same (λ x. one_if (f x)) (λ x. one_if (g x)) xs (λ x. ap one_if (h x)) ∙ sym (count-total g xs)

module _ (k : Config) (latest : List Happened) (a : State) (s : Kept k latest a) (d ring : ℕ) where
  abbrev IsRight : Request → Type 0
  IsRight q = granted (effect a d ring q).outcome ≡ may k latest d ring q

  inside_is : (h : CellHome) → is_in_home h ≡ inside (place_of h)
  inside_is Never = refl
  inside_is Stored = refl
  inside_is (In live) = refl
  inside_is Deleted = refl

  frames_are : frames_in_use a.shared (a.part d) ≡ ins_after k d latest
  frames_are = counts (λ u. is_in ((a.part d).cell u)) (λ u. is_in_after k d u latest) (identities (classes a.shared)) (λ u. inside_is ((a.part d).cell u).home ∙ ap inside (s.places d u))
      ∙ ap (λ (z : Shared). count_by (λ u. is_in_after k d u latest) (identities (classes z))) s.shared

  pages_are : pages_in_use a.shared (a.part d) ≡ pages_after k d latest
  pages_are = counts (λ u. is_some ((a.part d).cell u).stored) (λ u. has_page_after k d u latest) (identities (classes a.shared)) (λ u. s.pages d u)
      ∙ ap (λ (z : Shared). count_by (λ u. has_page_after k d u latest) (identities (classes z))) s.shared

  free_frame : not (nat_le (pool_of a.shared d).frames (frames_in_use a.shared (a.part d))) ≡ nat_lt (ins_after k d latest) (pool_of (shared_of k) d).frames
  free_frame = not_le (pool_of a.shared d).frames (frames_in_use a.shared (a.part d)) ∙ ap (λ n. nat_lt n (pool_of a.shared d).frames) frames_are ∙ ap (λ (z : Shared). nat_lt (ins_after k d latest) (pool_of z d).frames) s.shared

  free_page : not (nat_le (pool_of a.shared d).pages (pages_in_use a.shared (a.part d))) ≡ nat_lt (pages_after k d latest) (pool_of (shared_of k) d).pages
  free_page = not_le (pool_of a.shared d).pages (pages_in_use a.shared (a.part d)) ∙ ap (λ n. nat_lt n (pool_of a.shared d).pages) pages_are ∙ ap (λ (z : Shared). nat_lt (pages_after k d latest) (pool_of z d).pages) s.shared

  fetch_right : (x : Known) (offset count pad : ℕ) → IsRight (Fetch x offset count pad)
  fetch_right x offset count pad = by_tests (a.part d) (first_broken ((is_deleted (cell_of a x) ⇒ Gone) ∷ (not (is_in (cell_of a x)) ⇒ NotIn) ∷ [])) _ refl ∙ in_home (cell_of a x).home ∙ ap inside (s.places x.class x.seg)

  update_right : (x : Known) (offset : ℕ) (words : List ℕ) → IsRight (Update x offset words)
  update_right x offset words =
      by_tests (a.part d) (first_broken ((is_deleted ((a.part d).cell x.seg) ⇒ Gone) ∷ (not (is_in ((a.part d).cell x.seg)) ⇒ NotIn) ∷ [])) _ refl ∙ in_home ((a.part d).cell x.seg).home ∙ ap inside (s.places d x.seg)

  swap_in_right : (x : Known) → IsRight (SwapIn x)
  swap_in_right x =
      by_tests (a.part d) (first_broken ((is_deleted ((a.part d).cell x.seg) ⇒ Gone) ∷ (is_in ((a.part d).cell x.seg) ⇒ AlreadyIn) ∷ (nat_le (pool_of a.shared d).frames (frames_in_use a.shared (a.part d)) ⇒ NoFrame) ∷ [])) _ refl
      ∙ swap_in_home ((a.part d).cell x.seg).home _
      ∙ ap (λ t. not (lost (place_of ((a.part d).cell x.seg).home)) && not (inside (place_of ((a.part d).cell x.seg).home)) && t) free_frame
      ∙ ap (λ p. not (lost p) && not (inside p) && nat_lt (ins_after k d latest) (pool_of (shared_of k) d).frames) (s.places d x.seg)

  swap_out_right : (x : Known) → IsRight (SwapOut x)
  swap_out_right x =
      by_tests (a.part d) (first_broken ((is_deleted ((a.part d).cell x.seg) ⇒ Gone) ∷ (not (is_in ((a.part d).cell x.seg)) ⇒ NotIn) ∷
      (is_none ((a.part d).cell x.seg).stored && nat_le (pool_of a.shared d).pages (pages_in_use a.shared (a.part d)) ⇒ NoPage) ∷ [])) _ refl
      ∙ ap (λ b. is_none (first_broken ((is_deleted ((a.part d).cell x.seg) ⇒ Gone) ∷ (not (is_in ((a.part d).cell x.seg)) ⇒ NotIn) ∷ (b && nat_le (pool_of a.shared d).pages (pages_in_use a.shared (a.part d)) ⇒ NoPage) ∷ [])))
      (not_none ((a.part d).cell x.seg).stored)
      ∙ swap_out_home ((a.part d).cell x.seg).home (is_some ((a.part d).cell x.seg).stored) _
      ∙ ap (λ t. inside (place_of ((a.part d).cell x.seg).home) && (is_some ((a.part d).cell x.seg).stored || t)) free_page
      ∙ ap (λ p. inside p && (is_some ((a.part d).cell x.seg).stored || nat_lt (pages_after k d latest) (pool_of (shared_of k) d).pages)) (s.places d x.seg)
      ∙ ap (λ b. is_in_after k d x.seg latest && (b || nat_lt (pages_after k d latest) (pool_of (shared_of k) d).pages)) (s.pages d x.seg)

  create_right : (x : Known) (e class : ℕ) (b : Rattle.rings.specs.Brackets.Brackets) (size : ℕ) → e < 8 → IsRight (Create x e class b size)
  create_right x e class b size small =
      by_tests (a.part d) (first_broken ((is_deleted ((a.part d).cell x.seg) ⇒ Gone) ∷ (is_some (entry_at ((a.part d).cell x.seg) e) ⇒ EntryTaken) ∷ (nat_le 64 (a.part d).next_serial ⇒ SerialsUsed) ∷ [])) _ refl
      ∙ create_home ((a.part d).cell x.seg).home (entry_at ((a.part d).cell x.seg) e) _
      ∙ ap (λ t. not (lost (place_of ((a.part d).cell x.seg).home)) && is_none (entry_at ((a.part d).cell x.seg) e) && t) (not_le 64 (a.part d).next_serial ∙ ap (λ n. nat_lt n 64) (s.serial d))
      ∙ ap (λ p. not (lost p) && is_none (entry_at ((a.part d).cell x.seg) e) && nat_lt (opening_serial k d + creates_in d latest) 64) (s.places d x.seg)
      ∙ ap (λ o. not (is_deleted_after k d x.seg latest) && is_none o && nat_lt (opening_serial k d + creates_in d latest) 64) (entry_is k latest a s d x.seg e small)

  has_is : (u : SegId) → has_entry ((a.part d).cell u) ≡ has_child_after k d u latest
  has_is u = ap (λ (l : List (Option Alias)). list_any (λ o. is_some o) l) (s.entries d u)

  delete_right : (x : Known) (e : ℕ) → e < 8 → IsRight (Delete x e)
  delete_right x e small = by_entry (entry_at ((a.part d).cell x.seg) e) ∙ ap (may_delete k d latest) (entry_is k latest a s d x.seg e small)
    where
      by_entry : (o : Option Alias) → granted (delete_effect d (a.part d) x.seg e o).outcome ≡ may_delete k d latest o
      by_entry None = refl
      by_entry (Some y) = by_tests (a.part d) (first_broken ((y.class == d && has_entry ((a.part d).cell (seg d y.serial)) ⇒ NotEmpty) ∷ [])) _ refl
          ∙ one_test (y.class == d && has_entry ((a.part d).cell (seg d y.serial))) NotEmpty ∙ ap (λ b. not (y.class == d && b)) (has_is (seg d y.serial))

  out_right : (value : ℕ) → IsRight (Out value)
  out_right value = by_room (nat_lt (a.part d).used a.shared.console) ∙ ap (λ n. nat_lt n a.shared.console) (s.used d) ∙ ap (λ (z : Shared). nat_lt (outs_in d latest) z.console) s.shared
    where
      by_room : (b : Bool) → granted (let z : Effect = (if b then record { part = record (a.part d) { lines = (a.part d).lines ++ value ∷ []; used = (a.part d).used + 1 }; outcome = Printed (a.part d).used value }
          else record { part = record (a.part d) { used = (a.part d).used + 1 }; outcome = Refused ConsoleFull }) in z.outcome) ≡ b
      by_room true = refl
      by_room false = refl

  make_known_right : (x : Known) (e mode : ℕ) → e < 8 → IsRight (MakeKnown x e mode)
  make_known_right x e mode small = by_entry (entry_at (cell_of a x) e) ∙ ap (λ (z : Shared). learn z (entry_at (cell_of a x) e)) s.shared ∙ ap (learn (shared_of k)) (entry_is k latest a s x.class x.seg e small) ∙ is_learn (stands_in k x.class x.seg e latest)
    where
      learn : Shared → Option Alias → Bool
      learn z None = false
      learn z (Some y) = is_none (verdict (label_of z.table d) ring (label_of z.table y.class) (alias_brackets y) mode)

      is_learn : (o : Option Alias) → learn (shared_of k) o ≡ may_learn k d ring mode o
      is_learn None = refl
      is_learn (Some y) = refl

      by_verdict : (r : Option Rule) (l : Known) → granted (judged r l) ≡ is_none r
      by_verdict None l = refl
      by_verdict (Some rule) l = refl

      by_entry : (o : Option Alias) → granted (shown a.shared.table d ring x.class mode o) ≡ learn a.shared o
      by_entry None = refl
      by_entry (Some y) = by_verdict (verdict (label_of a.shared.table d) ring (label_of a.shared.table y.class) (alias_brackets y) mode) _

  read_right : (x : Known) (wanted : ℕ) (t : Tally) → IsRight (Read x wanted t)
  read_right x wanted t = by_looks (nat_lt (t.seen + 1) (length (components a.shared.table x.class))) (nat_lt sum wanted)
    where
      sum : ℕ
      sum = (t.sum + Rattle.class_model.specs.State.component_at a (slice_index (components a.shared.table x.class) t.seen) x.class x.seg) % 2 ^ 64

      by_looks : (b c : Bool) → granted (if b then Looked (Some (record { seen = t.seen + 1; sum = sum })) else (if c then Looked None else Counted sum)) ≡ true
      by_looks true c = refl
      by_looks false true = refl
      by_looks false false = refl

  pub effect_right : (q : Request) → Small q → IsRight q
  effect_right (MakeKnown x e mode) h = make_known_right x e mode h
  effect_right (Create x e class b size) h = create_right x e class b size h
  effect_right (Delete x e) h = delete_right x e h
  effect_right (SwapIn x) h = swap_in_right x
  effect_right (SwapOut x) h = swap_out_right x
  effect_right (Fetch x offset count pad) h = fetch_right x offset count pad
  effect_right (Update x offset words) h = update_right x offset words
  effect_right (Read x wanted t) h = read_right x wanted t
  effect_right (Advance x) h = refl
  effect_right (Ticket x) h = refl
  effect_right (Out value) h = out_right value
