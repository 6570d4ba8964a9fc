-- At the opening of a valid configuration what stands is what no effects come to.
use Rattle.std.proofs.Common.{ℕ, Bool, true, false, ◌&&◌, List, [], ◌∷◌, ◌≡◌, refl, sym, ap, subst, ◌∙◌, Option, Some, None, map}
use Rattle.std.specs.Prelude.{◌==◌, cond, replicate, unwrap_or, slice_get}
use Rattle.std.specs.List.{find, filter}
use Rattle.std.specs.Option.{option_map, option_and_then}
use Rattle.std.proofs.lemmas.Bool.{eq-eqb, both_ways}
use Rattle.lists.specs.Lists.{below}
use Rattle.words_layout.specs.Segments.{seg, same_seg}
use Rattle.words_layout.specs.declared.segment.SegId.{SegId}
use Rattle.words_layout.proofs.Names.{same_seg-true, same_seg-refl}
use Rattle.policy.specs.Outcome.{Tally}
use Rattle.class_model.specs.Config.{Config, SegRecord, ProcessLine, shared_of}
use Rattle.class_model.specs.Process.{Process, new_process}
use Rattle.class_model.specs.Run.{kept_of, opening_home, opening}
use Rattle.class_model.specs.Valid.{IsConfig, record_ok, is_root}
use Rattle.class_model.specs.Access.{given_root, given_record, given_to}
use Rattle.flow_laws.proofs.FlowLaws.{records_ok}
use Rattle.flow_laws.proofs.Lists.{made_of_one, made_some}
use Rattle.report_laws.proofs.Paged.{find_true, find_passes}
use Rattle.report_laws.proofs.Recorded.{record_stands}
use Rattle.access_laws.proofs.Opening.{given_first, not_true}
use Rattle.content_laws.proofs.Shown.{Of, given_size, HomeIs, Shown, kept_words, first_words}
use Rattle.content_laws.proofs.Looks.{LookTold, Looks}

-- ---- what is found

-- what records gave is given where one of them is found
given_none : (u : SegId) (rs : List SegRecord) → given_to (map given_record rs) u ≡ None → find (λ (r : SegRecord). same_seg r.seg u) rs ≡ None
given_none u [] e = refl
given_none u (r ∷ rs) e = by_test (same_seg r.seg u) e (given_none u rs)
  where
    by_test : (b : Bool) → cond b (Some (given_record r)) (given_to (map given_record rs) u) ≡ None → (given_to (map given_record rs) u ≡ None → find (λ (r : SegRecord). same_seg r.seg u) rs ≡ None) →
        cond b (Some r) (find (λ (r : SegRecord). same_seg r.seg u) rs) ≡ None
    by_test true e rest = absurd (cc (e))
    by_test false e rest = rest e

given_some : (u : SegId) (rs : List SegRecord) (r : SegRecord) → find (λ (r : SegRecord). same_seg r.seg u) rs ≡ Some r → given_to (map given_record rs) u ≡ Some (given_record r)
given_some u [] r e = cc
given_some u (x ∷ rs) r e = by_test (same_seg x.seg u) e (given_some u rs r)
  where
    by_test : (b : Bool) → cond b (Some x) (find (λ (r : SegRecord). same_seg r.seg u) rs) ≡ Some r → (find (λ (r : SegRecord). same_seg r.seg u) rs ≡ Some r → given_to (map given_record rs) u ≡ Some (given_record r)) →
        cond b (Some (given_record x)) (given_to (map given_record rs) u) ≡ Some (given_record r)
    by_test true e rest = (let same : x ≡ r = cc (e) in ap (λ (z : SegRecord). Some (given_record z)) same)
    by_test false e rest = rest e

module _ {X : Type 0} (f g : X → Bool) where
  find_neither : (xs : List X) → find f xs ≡ None → find (λ x. g x && f x) xs ≡ None
  find_neither [] e = refl
  find_neither (x ∷ xs) e = by_tests (g x) (f x) e (find_neither xs)
    where
      by_tests : (a b : Bool) → cond b (Some x) (find f xs) ≡ None → (find f xs ≡ None → find (λ x. g x && f x) xs ≡ None) → cond (a && b) (Some x) (find (λ x. g x && f x) xs) ≡ None
      by_tests a true e rest = absurd (cc (e))
      by_tests true false e rest = rest e
      by_tests false false e rest = rest e

  find_both : (xs : List X) (y : X) → find f xs ≡ Some y → g y ≡ true → find (λ x. g x && f x) xs ≡ Some y
  find_both [] y e h = cc
  find_both (x ∷ xs) y e h = by_tests (g x) (f x) refl e (λ z. find_both xs y z h)
    where
      by_tests : (a b : Bool) → g x ≡ a → cond b (Some x) (find f xs) ≡ Some y → (find f xs ≡ Some y → find (λ x. g x && f x) xs ≡ Some y) → cond (a && b) (Some x) (find (λ x. g x && f x) xs) ≡ Some y
      by_tests true true i e rest = e
      by_tests false true i e rest = (let same : x ≡ y = cc (e) in absurd (both_ways (g y) (subst (λ z. g z ≡ false) same i) h))
      by_tests true false i e rest = rest e
      by_tests false false i e rest = rest e

module _ (k : Config) (valid : IsConfig k) where
  -- a record is given, and is no root
  record_given : (u : SegId) (r : SegRecord) → find (λ (r : SegRecord). same_seg r.seg u) k.records ≡ Some r → given_to (given_first k) u ≡ Some (given_record r)
  record_given u r e = by_root (same_seg (seg 0 0) u) refl
    where
      by_root : (b : Bool) → same_seg (seg 0 0) u ≡ b → cond b (Some given_root) (given_to (map given_record k.records) u) ≡ Some (given_record r)
      by_root true f =
          let is : r.seg ≡ u = same_seg-true r.seg u (find_true (λ (r : SegRecord). same_seg r.seg u) k.records r e) in
          let root : is_root r.seg ≡ true = subst (λ z. same_seg z (seg 0 0) ≡ true) (same_seg-true (seg 0 0) u f ∙ sym is) (same_seg-refl (seg 0 0)) in
          absurd (not_true (is_root r.seg) (record_stands k r (find_passes (λ (r : SegRecord). same_seg r.seg u) (record_ok k) k.records r (records_ok k valid) e)).other root)
      by_root false f = given_some u k.records r e

  no_record : (u : SegId) → given_to (given_first k) u ≡ None → find (λ (r : SegRecord). same_seg r.seg u) k.records ≡ None
  no_record u e = by_root (same_seg (seg 0 0) u) e
    where
      by_root : (b : Bool) → cond b (Some given_root) (given_to (map given_record k.records) u) ≡ None → find (λ (r : SegRecord). same_seg r.seg u) k.records ≡ None
      by_root true f = absurd (cc (f))
      by_root false f = given_none u k.records f

  not_kept : (c : ℕ) (u : SegId) → find (λ (r : SegRecord). same_seg r.seg u) k.records ≡ None → kept_of k c u ≡ None
  not_kept c u e = ap (option_and_then (λ (r : SegRecord). r.kept)) (find_neither (λ (r : SegRecord). same_seg r.seg u) (λ (r : SegRecord). r.class == c) k.records e)

  kept_as : (c : ℕ) (u : SegId) (r : SegRecord) → find (λ (r : SegRecord). same_seg r.seg u) k.records ≡ Some r → r.class ≡ c → kept_of k c u ≡ r.kept
  kept_as c u r e same = ap (option_and_then (λ (r : SegRecord). r.kept)) (find_both (λ (r : SegRecord). same_seg r.seg u) (λ (r : SegRecord). r.class == c) k.records r e (eq-eqb r.class c same))

  home_by : (size : ℕ) (kept : Option (List ℕ)) → HomeIs size (opening_home kept) kept (unwrap_or kept (replicate size 0))
  home_by size None = (refl, refl)
  home_by size (Some words) = refl

  home_shown : (c : ℕ) (u : SegId) → Of (given_first k) c u → HomeIs (given_size (given_to (given_first k) u)) (opening_home (kept_of k c u)) (kept_of k c u) (first_words k u (given_to (given_first k) u))
  home_shown c u o = by_record (find (λ (r : SegRecord). same_seg r.seg u) k.records) refl
    where
      size : ℕ
      size = given_size (given_to (given_first k) u)

      same_kept : kept_of k c u ≡ kept_words k u → HomeIs size (opening_home (kept_of k c u)) (kept_of k c u) (first_words k u (given_to (given_first k) u))
      same_kept e = subst (λ z. HomeIs size (opening_home (kept_of k c u)) (kept_of k c u) (unwrap_or z (replicate size 0))) e (home_by size (kept_of k c u))

      by_record : (z : Option SegRecord) → find (λ (r : SegRecord). same_seg r.seg u) k.records ≡ z → HomeIs size (opening_home (kept_of k c u)) (kept_of k c u) (first_words k u (given_to (given_first k) u))
      by_record None e = same_kept (not_kept c u e ∙ sym (ap (option_and_then (λ (r : SegRecord). r.kept)) e))
      by_record (Some r) e = same_kept (kept_as c u r e (o (given_record r) (record_given u r e)) ∙ sym (ap (option_and_then (λ (r : SegRecord). r.kept)) e))

  pub opening_shown : Shown k (given_first k) [] (opening k)
  opening_shown = record {
    records = no_record;
    unwritten = λ u e. refl;
    blank = λ u e c. (let z = not_kept c u (no_record u e) in (ap opening_home z, z));
    homes = home_shown;
    sequencers = λ x u o. refl;
    writes = λ x u o. refl;
    components = λ c x u o. refl;
    used = λ c. refl;
  }

  -- no process has begun a look
  pub opening_looks : Looks [] (opening k)
  opening_looks name p h t l =
      let own : ProcessLine → Bool = λ z. z.processor == name.processor && z.class == name.class in
      let begins : ProcessLine → Process = λ z. new_process name.class z.script z.ring 0 in
      let made = made_of_one (λ i. option_map begins (slice_get (filter own k.processes) i)) (below 4) name.slot p h in
      let line = made_some begins (slice_get (filter own k.processes) made.0) p made.1 in
      none (new_process name.class line.0.script line.0.ring 0).look refl (ap (λ (q : Process). q.look) line.2 ∙ l)
    where
      none : (o : Option Tally) → o ≡ None → o ≡ Some t → LookTold (shared_of k) [] name p t
      none o e f = absurd (cc (e, f))
