-- Swapout at one go, on words that hold the part of their class.
use Rattle.std.proofs.Common.{ℕ, ◌+◌, ◌≤◌, ◌<◌, Bool, true, false, not, ◌&&◌, List, [], ◌∷◌, ◌≡◌, refl, sym, ap, subst, ◌∙◌, Option, Some, None, arith, ◌⊎◌, inl, inr}
use Rattle.std.specs.Prelude.{◌==◌, nat_le, is_none}
use Rattle.std.proofs.lemmas.Bool.{eq-eqb, eqb-true, ne_eqb, cases_eq, lt-ltb, le-leb, both_ways, and_from}
use Rattle.words_layout.specs.declared.segment.SegId.{SegId}
use Rattle.words_layout.specs.declared.coding.Home.{Home}
use Rattle.words_layout.specs.declared.coding.Home.TheVariants as H
use Rattle.words_layout.specs.Segments.{seg_number, same_seg}
use Rattle.words_layout.specs.Words.{GuardedWord, GuardedWords, set_guarded, same_word, NextSerial, HomeOf, WritesOf, EntryOf, FrameTenant, FrameWord, PageTenant, PageWord}
use Rattle.words_layout.specs.Coding.{home_of, pack_home, home_in_range}
use Rattle.words_layout.proofs.CodingLaws.{home_of-pack_home}
use Rattle.words_layout.proofs.Names.{same_seg-refl}
use Rattle.policy.specs.Known.{Known}
use Rattle.policy.specs.Outcome.{Value, Refused}
use Rattle.policy.specs.Verdict.{◌⇒◌}
use Rattle.policy.specs.declared.rule.Rule.TheVariants.{Gone, NotIn, NoPage}
use Rattle.turns.specs.Bodies.{Inner}
use Rattle.turns.specs.AtOnce.{run_inner, run_outer}
use Rattle.swap_gates.specs.Swap.{find_free, take_out, take_page, swap_out_home, swap_out_body}
use Rattle.class_model.specs.Config.{Shared, pool_of}
use Rattle.class_model.specs.State.{Part, In, Stored, with_cell, is_deleted, is_deleted_home, is_in, is_in_home, live_of, live_words, pages_in_use}
use Rattle.class_model.specs.Step.{Effect, unless, swap_out_effect}
use Rattle.machine.specs.Reading.{words_from}
use Rattle.machine.specs.Stands.{Holds, HomeHolds, StoredHolds, PageHolds, IsTenant, names_frame, names_page, is_page}
use Rattle.effect_laws.proofs.GateData.{GateLaw}
use Rattle.effect_laws.proofs.Filling.{filled, set-apart, run-copy_words, filled-other, filled-row, FindsFree, FindsNone, finds}
use Rattle.effect_laws.proofs.Rehomed.{Rehomed, rehomed, tenant_kept, tenant_taken, tenant_freed}
use Rattle.effect_laws.proofs.Pools.{frame_owner, page_owner, page-free, page-none}
use Rattle.effect_laws.proofs.GateSwapIn.{Movable, length-words, law_by, row-page, page-apart}

module _ (s : Shared) (d : ℕ) (g : GuardedWords) (part : Part) (k : Known) (holds : Holds (pool_of s d) g part) (ok : Movable s d part k.seg k.size) where
  abbrev with_stored : List ℕ → Part
  with_stored words = with_cell part k.seg (record (part.cell k.seg) { home = Stored; stored = Some words })

  abbrev frame_value : ℕ → ℕ → ℕ
  frame_value f j = g (FrameWord f j)

  -- the words behind the words v, which differ from g in the tenants of pages alone
  module _ (f q size : ℕ) (v : GuardedWords) where
    abbrev on_page : GuardedWords
    on_page = filled v (PageWord q) (frame_value f) 0 k.size

    abbrev frame_freed : GuardedWords
    frame_freed = set_guarded on_page (FrameTenant f) 0

    abbrev out_words : GuardedWords
    out_words = set_guarded frame_freed (HomeOf k.seg) (pack_home (H.Stored q size))

    run-take_out : ((j : ℕ) → v (FrameWord f j) ≡ g (FrameWord f j)) → run_inner (take_out k f size q) v ≡ record { words = out_words; shown = Value 0 }
    run-take_out same = run-copy_words (FrameWord f) (PageWord q) (λ i j. refl) g v same 0 k.size
        (Inner.Store (FrameTenant f) 0 (Inner.Store (HomeOf k.seg) (pack_home (H.Stored q size)) (Inner.Shows (Value 0))))

    module _ (v_other : (w : GuardedWord) → ((h : ℕ) → same_word w (PageTenant h) ≡ false) → v w ≡ g w)
        (frame_named : (h : ℕ) → names_frame (home_of (g (HomeOf k.seg))) h ≡ (f == h))
        (size_is : size ≡ k.size) (size_low : 1 ≤ k.size) (low : q < (pool_of s d).pages)
        (live_is : live_words (part.cell k.seg) ≡ words_from (frame_value f) size)
        (own_page : (y : SegId) → same_seg y k.seg ≡ false → (h : ℕ) → names_page (home_of (g (HomeOf y))) h ≡ true → (h == q) ≡ false)
        (tenants : (after : SegId → Home) → ((y : SegId) → same_seg y k.seg ≡ false → after y ≡ home_of (g (HomeOf y))) → after k.seg ≡ H.Stored q size →
        (h : ℕ) → IsTenant (λ y. names_page (after y) h) (v (PageTenant h))) where
      abbrev before : SegId → Home
      before y = home_of (g (HomeOf y))

      abbrev after : SegId → Home
      after y = home_of (out_words (HomeOf y))

      -- a word that is none of those stored
      n_other : (w : GuardedWord) → same_word w (HomeOf k.seg) ≡ false → same_word w (FrameTenant f) ≡ false → ((j : ℕ) → same_word w (PageWord q j) ≡ false) → out_words w ≡ v w
      n_other w a b c = set-apart frame_freed (HomeOf k.seg) w (pack_home (H.Stored q size)) a ∙ set-apart on_page (FrameTenant f) w 0 b
          ∙ filled-other v (PageWord q) (frame_value f) 0 k.size w c

      in_range : home_in_range (H.Stored q size) ≡ true
      in_range = let few : (pool_of s d).pages ≤ 32 = ok.pages_few in let lower = size_low in let upper = ok.size_high in
          rw (lt-ltb q 32 (omega (arith, low, few)), le-leb 1 size (omega (arith, lower, size_is)), le-leb size 64 (omega (arith, upper, size_is))) refl

      home_is : after k.seg ≡ H.Stored q size
      home_is = ap home_of stored_here ∙ home_of-pack_home (H.Stored q size) in_range
        where
          stored_here : out_words (HomeOf k.seg) ≡ pack_home (H.Stored q size)
          stored_here = rw (same_seg-refl k.seg) refl

      others : (y : SegId) → same_seg y k.seg ≡ false → out_words (HomeOf y) ≡ g (HomeOf y)
      others y e = n_other (HomeOf y) e refl (λ j. refl) ∙ v_other (HomeOf y) (λ h. refl)

      frame_here : out_words (FrameTenant f) ≡ 0
      frame_here = rw (eq-eqb f f refl) refl

      small : (f : ℕ) (y : SegId) → names_frame (before y) f ≡ true → y.serial < 64
      small f y h = (frame_owner s (pool_of s d) g part holds ok.live y f h).1

      frames_hold : (h : ℕ) → IsTenant (λ y. names_frame (after y) h) (out_words (FrameTenant h))
      frames_hold h = by_frame (cases_eq h f)
        where
          by_frame : (h ≡ f) ⊎ (h ≡ f → ⊥) → IsTenant (λ y. names_frame (after y) h) (out_words (FrameTenant h))
          by_frame (inl e) = tenant_freed k.seg before after (λ y x. ap home_of (others y x)) names_frame h (g (FrameTenant h)) (out_words (FrameTenant h)) (holds.of_class.frames h)
              (ap (λ z. names_frame z h) home_is) (frame_named h ∙ eq-eqb f h (sym e)) (small h) (ap (λ z. out_words (FrameTenant z)) e ∙ frame_here)
          by_frame (inr e) = tenant_kept k.seg before after (λ y x. ap home_of (others y x)) names_frame h (g (FrameTenant h)) (out_words (FrameTenant h)) (holds.of_class.frames h)
              (ap (λ z. names_frame z h) home_is ∙ sym (ne_eqb f h (λ x. e (sym x))) ∙ sym (frame_named h))
              (n_other (FrameTenant h) refl (ne_eqb h f e) (λ j. refl) ∙ v_other (FrameTenant h) (λ x. refl))

      pages_hold : (h : ℕ) → IsTenant (λ y. names_page (after y) h) (out_words (PageTenant h))
      pages_hold h = subst (IsTenant (λ y. names_page (after y) h)) (sym (n_other (PageTenant h) refl refl (λ j. refl))) (tenants after (λ y x. ap home_of (others y x)) home_is h)

      stored_row : words_from (λ i. out_words (PageWord q i)) k.size ≡ words_from (frame_value f) k.size
      stored_row = filled-row (PageWord q) (frame_value f) (row-page q) v k.size

      stored_after : live_words (part.cell k.seg) ≡ words_from (λ i. out_words (PageWord q i)) size
      stored_after = live_is ∙ ap (words_from (frame_value f)) size_is ∙ sym stored_row ∙ ap (words_from (λ i. out_words (PageWord q i))) (sym size_is)

      rehomes : Rehomed (pool_of s d) g out_words k.seg (record (part.cell k.seg) { home = Stored; stored = Some (live_words (part.cell k.seg)) })
      rehomes = record {
        serial = n_other NextSerial refl refl (λ j. refl) ∙ v_other NextSerial (λ h. refl);
        entry = λ y e. n_other (EntryOf y e) refl refl (λ j. refl) ∙ v_other (EntryOf y e) (λ h. refl);
        writes = λ y. n_other (WritesOf y) refl refl (λ j. refl) ∙ v_other (WritesOf y) (λ h. refl);
        others = others;
        frames_below = λ h e. absurd (both_ways (names_frame (after k.seg) h) (ap (λ z. names_frame z h) home_is) e);
        pages_below = λ h e. (let same : q ≡ h = eqb-true q h (sym (ap (λ z. names_page z h) home_is) ∙ e) in omega (arith, same, low));
        frames = frames_hold;
        pages = pages_hold;
        frame_words = λ y e h i named. n_other (FrameWord h i) refl refl (λ j. refl) ∙ v_other (FrameWord h i) (λ x. refl);
        page_words = λ y e h i named. n_other (PageWord h i) refl refl (λ j. page-apart h q i j (own_page y e h named)) ∙ v_other (PageWord h i) (λ x. refl);
        home = subst (λ z. HomeHolds out_words z Stored) (sym home_is) refl;
        stored = subst (λ z. StoredHolds out_words z (Some (live_words (part.cell k.seg)))) (sym home_is) (ap Some stored_after);
      }

      taken_out : Holds (pool_of s d) out_words (with_stored (live_words (part.cell k.seg)))
      taken_out = rehomed (pool_of s d) g out_words part k.seg (record (part.cell k.seg) { home = Stored; stored = Some (live_words (part.cell k.seg)) }) holds rehomes refl refl

  abbrev by_tests : Bool → Bool → Bool → Effect
  by_tests dead is_out full = unless part ((dead ⇒ Gone) ∷ (is_out ⇒ NotIn) ∷ (full ⇒ NoPage) ∷ []) (record { part = with_stored (live_words (part.cell k.seg)); outcome = Value 0 })

  abbrev full_now : Bool
  full_now = is_none (part.cell k.seg).stored && nat_le (pool_of s d).pages (pages_in_use s part)

  effect_is : (x y z : Bool) → is_deleted (part.cell k.seg) ≡ x → not (is_in (part.cell k.seg)) ≡ y → full_now ≡ z → swap_out_effect s d part k ≡ by_tests x y z
  effect_is x y z a b c = ap (λ x. by_tests x (not (is_in (part.cell k.seg))) full_now) a ∙ ap (λ y. by_tests x y full_now) b ∙ ap (by_tests x y) c

  page_small : (f : ℕ) (y : SegId) → names_page (home_of (g (HomeOf y))) f ≡ true → y.serial < 64
  page_small f y h = (page_owner s (pool_of s d) g part holds ok.kept y f h).1

  -- out of a frame, to the page that it has or to a free one
  module _ (f : ℕ) (page : Option ℕ) (size : ℕ) (home : home_of (g (HomeOf k.seg)) ≡ H.Resident f page size)
      (a : (part.cell k.seg).home ≡ In (words_from (frame_value f) size)) where
    size_is : size ≡ k.size
    size_is = sym (length-words (frame_value f) size) ∙ ok.live_size (words_from (frame_value f) size) a

    size_low : 1 ≤ k.size
    size_low = ok.live_low (words_from (frame_value f) size) a

    alive : is_deleted (part.cell k.seg) ≡ false
    alive = ap is_deleted_home a

    is_here : not (is_in (part.cell k.seg)) ≡ false
    is_here = ap (λ z. not (is_in_home z)) a

    named : (h : ℕ) → names_frame (home_of (g (HomeOf k.seg))) h ≡ (f == h)
    named h = ap (λ z. names_frame z h) home

    abbrev own_words : ℕ → GuardedWords
    own_words q = out_words f q size g

    abbrev new_words : ℕ → GuardedWords
    new_words q = out_words f q size (set_guarded g (PageTenant q) (seg_number k.seg + 1))

    to_own : (q : ℕ) → page ≡ Some q → Holds (pool_of s d) (own_words q) (with_stored (live_words (part.cell k.seg)))
    to_own q e = taken_out f q size g (λ w x. refl) named size_is size_low (holds.of_class.pages_below k.seg q (own q ∙ eq-eqb q q refl)) (ap live_of a) other_page
        (λ after there is h. tenant_kept k.seg (λ y. home_of (g (HomeOf y))) after there names_page h (g (PageTenant h)) (g (PageTenant h)) (holds.of_class.pages h)
        (ap (λ z. names_page z h) is ∙ sym (own h)) refl)
      where
        own : (h : ℕ) → names_page (home_of (g (HomeOf k.seg))) h ≡ (q == h)
        own h = ap (λ z. names_page z h) home ∙ ap (λ o. is_page o h) e

        other_page : (y : SegId) → same_seg y k.seg ≡ false → (h : ℕ) → names_page (home_of (g (HomeOf y))) h ≡ true → (h == q) ≡ false
        other_page y x h n = ne_eqb h q (λ z.
            (let ty = (holds.of_class.pages h).is y n in
            let at_k : names_page (home_of (g (HomeOf k.seg))) h ≡ true = own h ∙ eq-eqb q h (sym z) in
            let tk = (holds.of_class.pages h).is k.seg at_k in
            let sy = page_small h y n in let sk = page_small h k.seg at_k in
            let m : y.mentor ≡ k.seg.mentor = omega (arith, ty, tk, sy, sk) in
            let r : y.serial ≡ k.seg.serial = omega (arith, ty, tk, sy, sk) in
            both_ways (same_seg y k.seg) x (and_from _ _ (eq-eqb y.mentor k.seg.mentor m) (eq-eqb y.serial k.seg.serial r))))

    to_free : (q : ℕ) → page ≡ None → q < (pool_of s d).pages → g (PageTenant q) ≡ 0 → Holds (pool_of s d) (new_words q) (with_stored (live_words (part.cell k.seg)))
    to_free q e low free = taken_out f q size (set_guarded g (PageTenant q) (seg_number k.seg + 1)) (λ w x. set-apart g (PageTenant q) w (seg_number k.seg + 1) (x q)) named size_is size_low low (ap live_of a) other_page tenants
      where
        no_page : (h : ℕ) → names_page (home_of (g (HomeOf k.seg))) h ≡ false
        no_page h = ap (λ z. names_page z h) home ∙ ap (λ o. is_page o h) e

        other_page : (y : SegId) → same_seg y k.seg ≡ false → (h : ℕ) → names_page (home_of (g (HomeOf y))) h ≡ true → (h == q) ≡ false
        other_page y x h n = ne_eqb h q (λ z.
            (let ty = (holds.of_class.pages h).is y n in let zero : g (PageTenant h) ≡ 0 = ap (λ j. g (PageTenant j)) z ∙ free in absurd (omega (arith, ty, zero))))

        tenants : (after : SegId → Home) → ((y : SegId) → same_seg y k.seg ≡ false → after y ≡ home_of (g (HomeOf y))) → after k.seg ≡ H.Stored q size →
            (h : ℕ) → IsTenant (λ y. names_page (after y) h) (set_guarded g (PageTenant q) (seg_number k.seg + 1) (PageTenant h))
        tenants after there is h = by_page (cases_eq h q)
          where
            by_page : (h ≡ q) ⊎ (h ≡ q → ⊥) → IsTenant (λ y. names_page (after y) h) (set_guarded g (PageTenant q) (seg_number k.seg + 1) (PageTenant h))
            by_page (inl z) = tenant_taken k.seg (λ y. home_of (g (HomeOf y))) after there names_page h (g (PageTenant h)) (set_guarded g (PageTenant q) (seg_number k.seg + 1) (PageTenant h)) (holds.of_class.pages h)
                (ap (λ y. names_page y h) is ∙ eq-eqb q h (sym z)) (ap (λ j. g (PageTenant j)) z ∙ free) (rw (eq-eqb h q z) refl)
            by_page (inr z) = tenant_kept k.seg (λ y. home_of (g (HomeOf y))) after there names_page h (g (PageTenant h)) (set_guarded g (PageTenant q) (seg_number k.seg + 1) (PageTenant h)) (holds.of_class.pages h)
                (ap (λ y. names_page y h) is ∙ ne_eqb q h (λ x. z (sym x)) ∙ sym (no_page h)) (set-apart g (PageTenant q) (PageTenant h) (seg_number k.seg + 1) (ne_eqb h q z))

    goes_out : (p : Option ℕ) → page ≡ p → PageHolds g size p (part.cell k.seg).stored →
        GateLaw (pool_of s d) (run_inner (swap_out_home (pool_of s d).pages k (H.Resident f p size)) g) (swap_out_effect s d part k)
    goes_out (Some q) e b = law_by (pool_of s d) _ (record { words = own_words q; shown = Value 0 }) _ (by_tests false false false)
        (run-take_out f q size g (λ j. refl))
        (effect_is false false false alive is_here (ap (λ (o : Option (List ℕ)). is_none o && nat_le (pool_of s d).pages (pages_in_use s part)) b))
        (record { outcome = refl; held = to_own q e })
    goes_out None e b = by_find (finds g PageTenant 0 (pool_of s d).pages (take_page k f size) (Inner.Shows (Refused NoPage)))
      where
        full_is : (z : Bool) → nat_le (pool_of s d).pages (pages_in_use s part) ≡ z → full_now ≡ z
        full_is z c = ap (λ (o : Option (List ℕ)). is_none o && nat_le (pool_of s d).pages (pages_in_use s part)) b ∙ c

        by_find : FindsFree g PageTenant 0 (pool_of s d).pages (take_page k f size) (Inner.Shows (Refused NoPage)) ⊎ FindsNone g PageTenant 0 (pool_of s d).pages (take_page k f size) (Inner.Shows (Refused NoPage)) →
            GateLaw (pool_of s d) (run_inner (find_free PageTenant 0 (pool_of s d).pages (take_page k f size) (Inner.Shows (Refused NoPage))) g) (swap_out_effect s d part k)
        by_find (inl r) =
            let low : r.at < (pool_of s d).pages = omega (arith, r.high) in
            law_by (pool_of s d) _ (record { words = new_words r.at; shown = Value 0 }) _ (by_tests false false false)
            (r.ran ∙ run-take_out f r.at size (set_guarded g (PageTenant r.at) (seg_number k.seg + 1)) (λ j. refl))
            (effect_is false false false alive is_here (full_is false (page-free s (pool_of s d) g part holds ok.kept r.at low r.free)))
            (record { outcome = refl; held = to_free r.at e low r.free })
        by_find (inr r) = law_by (pool_of s d) _ (record { words = g; shown = Refused NoPage }) _ (by_tests false false true) r.ran
            (effect_is false false true alive is_here (full_is true (page-none s (pool_of s d) g part holds ok.kept (λ f l. r.taken f (omega arith) (omega (arith, l))))))
            (record { outcome = refl; held = holds })

  pub swap_out-atomic : GateLaw (pool_of s d) (run_outer (swap_out_body (pool_of s d).pages k) g) (swap_out_effect s d part k)
  swap_out-atomic = by_home (home_of (g (HomeOf k.seg))) refl (holds.of_segments k.seg).home (holds.of_class.stored k.seg)
    where
      by_home : (h : Home) → home_of (g (HomeOf k.seg)) ≡ h → HomeHolds g h (part.cell k.seg).home → StoredHolds g h (part.cell k.seg).stored →
          GateLaw (pool_of s d) (run_inner (swap_out_home (pool_of s d).pages k h) g) (swap_out_effect s d part k)
      by_home H.Deleted e a b = law_by (pool_of s d) _ _ _ (by_tests true (not (is_in (part.cell k.seg))) full_now) refl
          (effect_is true _ _ (ap is_deleted_home a) refl refl) (record { outcome = refl; held = holds })
      by_home H.Never e a b = law_by (pool_of s d) _ _ _ (by_tests false true full_now) refl
          (effect_is false true _ (ap is_deleted_home a) (ap (λ z. not (is_in_home z)) a) refl) (record { outcome = refl; held = holds })
      by_home (H.Stored q size) e a b = law_by (pool_of s d) _ _ _ (by_tests false true full_now) refl
          (effect_is false true _ (ap is_deleted_home a) (ap (λ z. not (is_in_home z)) a) refl) (record { outcome = refl; held = holds })
      by_home (H.Resident f page size) e a b = goes_out f page size e a page refl b
