-- How many words a segment has, and what an effect more makes of them.
use Rattle.std.proofs.Common.{ℕ, zero, suc, Bool, true, false, List, [], ◌∷◌, ◌++◌, ◌≡◌, refl, sym, ap, subst, ◌∙◌, Option, Some, None, length, map}
use Rattle.std.specs.Prelude.{cond, replicate, unwrap_or, slice_index_or, ◌==◌}
use Rattle.std.specs.List.{find, filter_map, cons_option}
use Rattle.std.specs.Option.{option_map_or, option_and_then}
use Rattle.std.proofs.lemmas.Bool.{eqb-true, and_parts}
use Rattle.std.proofs.lemmas.List.{append-nil, length-replicate}
use Rattle.std.proofs.lemmas.List.Elements.{filter_map-append}
use Rattle.lists.specs.Lists.{overwrite}
use Rattle.words_layout.specs.Segments.{seg, same_seg}
use Rattle.words_layout.specs.declared.segment.SegId.{SegId}
use Rattle.words_layout.proofs.Names.{same_seg-true, same_seg-refl}
use Rattle.policy.specs.Outcome.{Outcome, Value}
use Rattle.class_model.specs.Config.{Config, SegRecord}
use Rattle.class_model.specs.Plan.{Request, Update}
use Rattle.class_model.specs.Run.{Happened}
use Rattle.class_model.specs.Valid.{IsConfig, record_ok, mentor_ok, is_root}
use Rattle.class_model.specs.Access.{Given, given_root, given_record, given_to, given_asked, given_effect, all_given}
use Rattle.class_model.specs.Content.{after_updates, updates_of, update_asked, first_content}
use Rattle.flow_laws.proofs.FlowLaws.{records_ok}
use Rattle.report_laws.proofs.Paged.{find_true, find_passes}
use Rattle.report_laws.proofs.Recorded.{record_stands}
use Rattle.access_laws.proofs.Opening.{not_true}
use Rattle.access_laws.proofs.Told.{given_front}
use Rattle.access_laws.proofs.Steps.{given_deed}
use Rattle.content_laws.proofs.History.{given_push}
use Rattle.mailbox_laws.proofs.Registers.{length_over}

-- the words of u after these effects
abbrev pub words_after : Config → SegId → List Happened → List ℕ
words_after k u past = after_updates (first_content k past u) (updates_of u past)

abbrev zeros : ℕ → List ℕ
zeros n = replicate n 0

length_after : (xs : List ℕ) (ups : List (ℕ × List ℕ)) → length (after_updates xs ups) ≡ length xs
length_after xs [] = refl
length_after xs (x ∷ ups) = length_after (overwrite xs x.0 x.1) ups ∙ length_over xs x.0 x.1

after_push : (xs : List ℕ) (ups : List (ℕ × List ℕ)) (x : ℕ × List ℕ) → after_updates xs (ups ++ x ∷ []) ≡ overwrite (after_updates xs ups) x.0 x.1
after_push xs [] x = refl
after_push xs (y ∷ ups) x = after_push (overwrite xs y.0 y.1) ups x

-- ---- what was given to a segment with a record

first_given : (u : SegId) (rs : List SegRecord) (more : List Given) (r : SegRecord) → find (λ (r : SegRecord). same_seg r.seg u) rs ≡ Some r → given_to (map given_record rs ++ more) u ≡ Some (given_record r)
first_given u [] more r e = absurd (cc)
first_given u (x ∷ rs) more r e = by_test (same_seg x.seg u) e (first_given u rs more r)
  where
    by_test : (b : Bool) → cond b (Some x) (find (λ (r : SegRecord). same_seg r.seg u) rs) ≡ Some r → (find (λ (r : SegRecord). same_seg r.seg u) rs ≡ Some r → given_to (map given_record rs ++ more) u ≡ Some (given_record r)) →
        cond b (Some (given_record x)) (given_to (map given_record rs ++ more) u) ≡ Some (given_record r)
    by_test true e rest = (let same : x ≡ r = cc in ap (λ (z : SegRecord). Some (given_record z)) same)
    by_test false e rest = rest e

module _ (k : Config) (valid : IsConfig k) (u : SegId) where
  found_ok : (r : SegRecord) → find (λ (r : SegRecord). same_seg r.seg u) k.records ≡ Some r → record_ok k r ≡ true
  found_ok r e = find_passes (λ (r : SegRecord). same_seg r.seg u) (record_ok k) k.records r (records_ok k valid) e

  record_given : (past : List Happened) (r : SegRecord) → find (λ (r : SegRecord). same_seg r.seg u) k.records ≡ Some r → given_to (all_given k past) u ≡ Some (given_record r)
  record_given past r e = by_root (same_seg (seg 0 0) u) refl
    where
      by_root : (b : Bool) → same_seg (seg 0 0) u ≡ b → cond b (Some given_root) (given_to (map given_record k.records ++ filter_map given_effect past) u) ≡ Some (given_record r)
      by_root true f =
          let is : r.seg ≡ u = same_seg-true r.seg u (find_true (λ (r : SegRecord). same_seg r.seg u) k.records r e) in
          let root : is_root r.seg ≡ true = subst (λ z. same_seg z (seg 0 0) ≡ true) (same_seg-true (seg 0 0) u f ∙ sym is) (same_seg-refl (seg 0 0)) in
          absurd (not_true (is_root r.seg) (record_stands k r (found_ok r e)).other root)
      by_root false f = first_given u k.records (filter_map given_effect past) r e

  kept_size : (r : SegRecord) → record_ok k r ≡ true → option_map_or (λ (words : List ℕ). length words == r.size) r.kept true ≡ true
  kept_size r ok = (and_parts _ (option_map_or (λ (words : List ℕ). length words == r.size) r.kept true) (and_parts _ (mentor_ok k r) ok).0).1

  -- as many words as the size that was given
  pub words_size : (past : List Happened) (g : Given) → given_to (all_given k past) u ≡ Some g → length (words_after k u past) ≡ g.size
  words_size past g given = length_after (first_content k past u) (updates_of u past) ∙ by_record (find (λ (r : SegRecord). same_seg r.seg u) k.records) refl
    where
      size : ℕ
      size = option_map_or (λ (g : Given). g.size) (given_to (all_given k past) u) 0

      size_is : size ≡ g.size
      size_is = ap (λ o. option_map_or (λ (g : Given). g.size) o 0) given

      by_kept : (r : SegRecord) → (o : Option (List ℕ)) → option_map_or (λ (words : List ℕ). length words == r.size) o true ≡ true → r.size ≡ g.size → length (unwrap_or o (replicate size 0)) ≡ g.size
      by_kept r None ok same = length-replicate size 0 ∙ size_is
      by_kept r (Some words) ok same = eqb-true (length words) r.size ok ∙ same

      by_record : (o : Option SegRecord) → find (λ (r : SegRecord). same_seg r.seg u) k.records ≡ o → length (unwrap_or (option_and_then (λ (r : SegRecord). r.kept) o) (replicate size 0)) ≡ g.size
      by_record None e = length-replicate size 0 ∙ size_is
      by_record (Some r) e = by_kept r r.kept (kept_size r (found_ok r e)) (let same : Some (given_record r) ≡ Some g = sym (record_given past r e) ∙ given in ap (λ o. option_map_or (λ (g : Given). g.size) o 0) same)

-- ---- one effect more

module _ (k : Config) (u : SegId) (past : List Happened) (h : Happened) where
  updates_push : updates_of u (past ++ h ∷ []) ≡ updates_of u past ++ cons_option (update_asked u h.deed.asked) []
  updates_push = filter_map-append (λ (h : Happened). update_asked u h.deed.asked) past (h ∷ [])

  -- where it was given
  same_first : (g : Given) → given_to (all_given k past) u ≡ Some g → first_content k (past ++ h ∷ []) u ≡ first_content k past u
  same_first g given = ap (λ o. unwrap_or (option_and_then (λ (r : SegRecord). r.kept) (find (λ (r : SegRecord). same_seg r.seg u) k.records)) (replicate (option_map_or (λ (g : Given). g.size) o 0) 0))
      (ap (λ l. given_to l u) (given_push k past h) ∙ given_front (all_given k past) (given_deed h.who.class (Some h.deed)) u g given ∙ sym given)

  no_word : (n i : ℕ) → slice_index_or (zeros n) i 0 ≡ 0
  no_word zero i = refl
  no_word (suc n) zero = refl
  no_word (suc n) (suc i) = no_word n i

  pub words_stay : (given_to (all_given k past) u ≡ None → updates_of u past ≡ []) → (given_to (all_given k past) u ≡ None → find (λ (r : SegRecord). same_seg r.seg u) k.records ≡ None) → update_asked u h.deed.asked ≡ None →
      (i : ℕ) → slice_index_or (words_after k u (past ++ h ∷ [])) i 0 ≡ slice_index_or (words_after k u past) i 0
  words_stay unwritten unrecorded none i = by_given (given_to (all_given k past) u) refl
    where
      same_updates : updates_of u (past ++ h ∷ []) ≡ updates_of u past
      same_updates = updates_push ∙ ap (λ (o : Option (ℕ × List ℕ)). updates_of u past ++ cons_option o []) none ∙ append-nil (updates_of u past)

      blank : (past' : List Happened) → given_to (all_given k past) u ≡ None → updates_of u past' ≡ [] → slice_index_or (words_after k u past') i 0 ≡ 0
      blank past' e f = ap (λ ups. slice_index_or (after_updates (first_content k past' u) ups) i 0) f
          ∙ ap (λ (o : Option SegRecord). slice_index_or (unwrap_or (option_and_then (λ (r : SegRecord). r.kept) o) (replicate (option_map_or (λ (g : Given). g.size) (given_to (all_given k past') u) 0) 0)) i 0) (unrecorded e)
          ∙ no_word (option_map_or (λ (g : Given). g.size) (given_to (all_given k past') u) 0) i

      by_given : (o : Option Given) → given_to (all_given k past) u ≡ o → slice_index_or (words_after k u (past ++ h ∷ [])) i 0 ≡ slice_index_or (words_after k u past) i 0
      by_given (Some g) e = ap (λ (l : List ℕ). slice_index_or l i 0) (ap (λ ups. after_updates (first_content k (past ++ h ∷ []) u) ups) same_updates ∙ ap (λ xs. after_updates xs (updates_of u past)) (same_first g e))
      by_given None e = blank (past ++ h ∷ []) e (same_updates ∙ unwritten e) ∙ sym (blank past e (unwritten e))

  -- an update gives nothing
  gives_none : (d : ℕ) (asked : Option (Request × Outcome)) (z : ℕ × List ℕ) → update_asked u asked ≡ Some z → given_asked d asked ≡ None
  gives_none d (Some (Update x offset ws, Value v)) z e = refl
  gives_none d _ z e = absurd (cc)

  pub words_change : (given_to (all_given k past ++ given_deed h.who.class (Some h.deed)) u ≡ None → updates_of u (past ++ h ∷ []) ≡ []) → (offset : ℕ) (ws : List ℕ) → update_asked u h.deed.asked ≡ Some (offset, ws) →
      words_after k u (past ++ h ∷ []) ≡ overwrite (words_after k u past) offset ws
  words_change unwritten offset ws e = by_given (given_to (all_given k past) u) refl
    where
      pushed : updates_of u (past ++ h ∷ []) ≡ updates_of u past ++ (offset, ws) ∷ []
      pushed = updates_push ∙ ap (λ (o : Option (ℕ × List ℕ)). updates_of u past ++ cons_option o []) e

      not_empty : (xs : List (ℕ × List ℕ)) (y : ℕ × List ℕ) → [] ≡ xs ++ y ∷ [] → ⊥
      not_empty [] y h = cc
      not_empty (x ∷ xs) y h = cc

      by_given : (o : Option Given) → given_to (all_given k past) u ≡ o → words_after k u (past ++ h ∷ []) ≡ overwrite (words_after k u past) offset ws
      by_given (Some g) f = ap (λ ups. after_updates (first_content k (past ++ h ∷ []) u) ups) pushed ∙ ap (λ xs. after_updates xs (updates_of u past ++ (offset, ws) ∷ [])) (same_first g f)
          ∙ after_push (first_content k past u) (updates_of u past) (offset, ws)
      by_given None f = absurd (not_empty (updates_of u past) (offset, ws) (sym (unwritten (ap (λ (o : Option Given). given_to (all_given k past ++ cons_option o []) u) (gives_none h.who.class h.deed.asked (offset, ws) e)
          ∙ ap (λ l. given_to l u) (append-nil (all_given k past)) ∙ f)) ∙ pushed))
