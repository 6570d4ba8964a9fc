-- What the words of records are after all stores.
use Rattle.std.proofs.Common.{ℕ, zero, suc, ◌+◌, ◌<◌, ◌≤◌, Bool, true, false, not, ◌&&◌, List, [], ◌∷◌, ◌++◌, ◌≡◌, ◌⊎◌, inl, inr, refl, sym, ap, subst, ◌∙◌, Option, Some, None, cond, arith, length, map}
use Rattle.std.proofs.lemmas.Bool.{cases_eq, cases_lt, and_parts, and_from, and_left, and_right, eqb-true, eq-eqb, ne_eqb, lt-ltb, le-ltb, or_parts, not_from_true, false_from_ne_true}
use Rattle.std.proofs.lemmas.List.{get_or_past, map_push}
use Rattle.std.proofs.lemmas.List.Sums.{fold-append}
use Rattle.std.specs.Prelude.{◌==◌, if◌then◌else◌, fold, nat_lt, slice_get, slice_index, unwrap_or}
use Rattle.std.specs.List.{find, list_all, list_any, position, position_or_len}
use Rattle.std.specs.Option.{option_map, option_map_or, option_and_then}
use Rattle.lists.specs.Lists.{below}
use Rattle.words_layout.specs.Segments.{seg_number, same_seg}
use Rattle.words_layout.specs.Words.{GuardedWord, HomeOf, EntryOf, PageTenant, PageWord, same_word}
use Rattle.words_layout.specs.Coding.{pack_home, pack_alias}
use Rattle.words_layout.specs.declared.segment.SegId.{SegId}
use Rattle.words_layout.specs.declared.coding.Home.TheVariants as H
use Rattle.words_layout.proofs.Names.{same_seg-true, same_seg-refl}
use Rattle.class_model.specs.Config.{SegRecord}
use Rattle.class_model.specs.Run.{alias_of}
use Rattle.class_model.specs.Valid.{records_distinct}
use Rattle.loader.specs.Stores.{WordStore, store_in, kept_words, entry_store, word_stores, page_stores, pages_from}
use Rattle.loader.proofs.Lists.{below_more}
use Rattle.loader.proofs.StoredWords.{names, value_after}

-- ---- tests

agree : (a b : Bool) → (a ≡ true → b ≡ true) → (b ≡ true → a ≡ true) → a ≡ b
agree true b f g = sym (f refl)
agree false true f g = g refl
agree false false f g = refl

same_seg-sym : (u v : SegId) → same_seg u v ≡ same_seg v u
same_seg-sym u v = agree (same_seg u v) (same_seg v u) (λ e. back u v (same_seg-true u v e)) (λ e. back v u (same_seg-true v u e))
  where
    back : (u v : SegId) → u ≡ v → same_seg v u ≡ true
    back u v e = ap (λ w. same_seg v w) e ∙ same_seg-refl v

eqb-sym : (a b : ℕ) → (a == b) ≡ (b == a)
eqb-sym a b = agree (a == b) (b == a) (λ e. eq-eqb b a (sym (eqb-true a b e))) (λ e. eq-eqb a b (sym (eqb-true b a e)))

-- ---- one of many

-- no two of the items pass
abbrev pub Lone : {X : Type 0} → (X → Bool) → List X → Type 0
Lone test [] = Unit {0}
Lone test (x ∷ xs) = (test x ≡ true → list_any test xs ≡ false) × Lone test xs

-- the number of the last that passes
abbrev last_of : {X : Type 0} → (X → Bool) → (X → ℕ) → ℕ → List X → ℕ
last_of test number v xs = fold (λ n x. if test x then number x else n) v xs

none_passes : {X : Type 0} (test : X → Bool) (number : X → ℕ) (v : ℕ) (xs : List X) → list_any test xs ≡ false → last_of test number v xs ≡ v
none_passes test number v [] e = refl
none_passes test number v (x ∷ xs) e =
    let parts = or_parts (test x) (list_any test xs) e in
    ap (λ (b : Bool). last_of test number (if b then number x else v) xs) parts.0 ∙ none_passes test number v xs parts.1

only_is_first : {X : Type 0} (test : X → Bool) (number : X → ℕ) (v : ℕ) (xs : List X) → Lone test xs → last_of test number v xs ≡ option_map_or number (find test xs) v
only_is_first test number v [] lone = refl
only_is_first test number v (x ∷ xs) lone = by_test (test x) refl lone (only_is_first test number v xs lone.1)
  where
    by_test : (b : Bool) → test x ≡ b → Lone test (x ∷ xs) → last_of test number v xs ≡ option_map_or number (find test xs) v → last_of test number v (x ∷ xs) ≡ option_map_or number (find test (x ∷ xs)) v
    by_test true is one rest =
        ap (λ (b : Bool). last_of test number (if b then number x else v) xs) is ∙ none_passes test number (number x) xs (one.0 is)
        ∙ sym (ap (λ (b : Bool). option_map_or number (if b then Some x else find test xs) v) is)
    by_test false is one rest =
        ap (λ (b : Bool). last_of test number (if b then number x else v) xs) is ∙ rest
        ∙ sym (ap (λ (b : Bool). option_map_or number (if b then Some x else find test xs) v) is)

-- another identity, and another entry
abbrev pub differs : SegRecord → SegRecord → Bool
differs r x = not (same_seg x.seg r.seg) && not (same_seg x.mentor r.mentor && x.seg.mentor == r.seg.mentor && x.entry == r.entry)

-- of records that differ from one another only one passes a test that any two of which that pass don't differ
pub lone : (test : SegRecord → Bool) → ((r x : SegRecord) → test r ≡ true → test x ≡ true → differs r x ≡ false) → (rs : List SegRecord) → records_distinct rs ≡ true → Lone test rs
lone test alike [] h = tt
lone test alike (r ∷ rs) h =
    let parts : (list_all (differs r) rs ≡ true) × (records_distinct rs ≡ true) = and_parts _ _ h in
    (λ e. none e rs parts.0, lone test alike rs parts.1)
  where
    none : test r ≡ true → (xs : List SegRecord) → list_all (differs r) xs ≡ true → list_any test xs ≡ false
    none e [] all = refl
    none e (x ∷ xs) all =
        let a : (differs r x ≡ true) × (list_all (differs r) xs ≡ true) = and_parts _ _ all in
        let fails : test x ≡ false = false_from_ne_true (test x) (λ p. let f : true ≡ false = sym a.0 ∙ alike r x e p in cc) in
        rw fails (none e xs a.1)

pub same_identity : (u : SegId) (r x : SegRecord) → same_seg r.seg u ≡ true → same_seg x.seg u ≡ true → differs r x ≡ false
same_identity u r x a b =
    let same : x.seg ≡ r.seg = same_seg-true x.seg u b ∙ sym (same_seg-true r.seg u a) in
    and_left _ _ (not_from_true _ (ap (λ (w : SegId). same_seg w r.seg) same ∙ same_seg-refl r.seg))

-- ---- places

-- where an item stands that passes or not, in front of those of which the first that passes is at place n, or there is none
abbrev place_with : Bool → ℕ → ℕ → Option ℕ
place_with b n len = cond (nat_lt (cond (not b) (1 + n) 0) (suc len)) (Some (cond (not b) (1 + n) 0)) None

place_no : (n len : ℕ) → place_with false n len ≡ option_map (λ m. suc m) (cond (nat_lt n len) (Some n) None)
place_no n len = either (cases_lt n len)
  where
    either : (n < len) ⊎ (len ≤ n) → place_with false n len ≡ option_map (λ m. suc m) (cond (nat_lt n len) (Some n) None)
    either (inl lt) =
        let e : 1 + n ≡ suc n = omega arith in
        ap (λ (b : Bool). cond b (Some (1 + n)) None) (lt-ltb (1 + n) (suc len) (omega (arith, lt))) ∙ ap Some e
        ∙ sym (ap (λ (b : Bool). option_map (λ m. suc m) (cond b (Some n) None)) (lt-ltb n len lt))
    either (inr le) =
        ap (λ (b : Bool). cond b (Some (1 + n)) None) (le-ltb (1 + n) (suc len) (omega (arith, le)))
        ∙ sym (ap (λ (b : Bool). option_map (λ m. suc m) (cond b (Some n) None)) (le-ltb n len le))

position_yes : {X : Type 0} (test : X → Bool) (x : X) (xs : List X) → test x ≡ true → position test (x ∷ xs) ≡ Some 0
position_yes test x xs e =
    ap (λ (b : Bool). place_with b (position_or_len test xs) (length xs)) e ∙ ap (λ (b : Bool). cond b (Some 0) None) (lt-ltb 0 (suc (length xs)) (omega arith))

position_no : {X : Type 0} (test : X → Bool) (x : X) (xs : List X) → test x ≡ false → position test (x ∷ xs) ≡ option_map (λ m. suc m) (position test xs)
position_no test x xs e = ap (λ (b : Bool). place_with b (position_or_len test xs) (length xs)) e ∙ place_no (position_or_len test xs) (length xs)

-- ---- stores of other words

-- a list of stores that are all of other words
pub unnamed : {X : Type 0} (c : ℕ) (q : GuardedWord) (f : X → WordStore) → ((x : X) → names c q (f x) ≡ false) → (v : ℕ) (xs : List X) → value_after c q v (map f xs) ≡ v
unnamed c q f other v [] = refl
unnamed c q f other v (x ∷ xs) = ap (λ (b : Bool). value_after c q (if b then (f x).number else v) (map f xs)) (other x) ∙ unnamed c q f other v xs

pub both_after : (c : ℕ) (q : GuardedWord) (v : ℕ) (xs ys : List WordStore) → value_after c q v (xs ++ ys) ≡ value_after c q (value_after c q v xs) ys
both_after c q v xs ys = fold-append (λ n (s : WordStore). if names c q s then s.number else n) v xs ys

-- a store of another word
pub other_word : (c d n : ℕ) (q w : GuardedWord) → same_word q w ≡ false → names c q (store_in d w n) ≡ false
other_word c d n q w e = and_left (same_word q w) (d == c) e

pub own_class : (c n : ℕ) (q w : GuardedWord) → same_word q w ≡ true → names c q (store_in c w n) ≡ true
own_class c n q w e = and_from (same_word q w) (c == c) e (eq-eqb c c refl)

-- ---- entries

module _ (c : ℕ) (u : SegId) (e : ℕ) where
  -- a record stands in entry e of the cell of class c and identity u
  abbrev pub stands : SegRecord → Bool
  stands r = r.seg.mentor == c && same_seg r.mentor u && r.entry == e

  stands_is : (r : SegRecord) → names c (EntryOf u e) (entry_store r) ≡ stands r
  stands_is r = agree (names c (EntryOf u e) (entry_store r)) (stands r)
      (λ h. let a = and_parts (same_seg u r.mentor && e == r.entry) (r.seg.mentor == c) h in let b = and_parts (same_seg u r.mentor) (e == r.entry) a.0 in
      and_from _ _ (and_from _ _ a.1 (same_seg-sym r.mentor u ∙ b.0)) (eqb-sym r.entry e ∙ b.1))
      (λ h. let a = and_parts (r.seg.mentor == c && same_seg r.mentor u) (r.entry == e) h in let b = and_parts (r.seg.mentor == c) (same_seg r.mentor u) a.0 in
      and_from _ _ (and_from _ _ (same_seg-sym u r.mentor ∙ b.1) (eqb-sym e r.entry ∙ a.1)) b.0)

  same_stand : (r x : SegRecord) → stands r ≡ true → stands x ≡ true → differs r x ≡ false
  same_stand r x h g =
      let a = and_parts (r.seg.mentor == c && same_seg r.mentor u) (r.entry == e) h in let b = and_parts (r.seg.mentor == c) (same_seg r.mentor u) a.0 in
      let p = and_parts (x.seg.mentor == c && same_seg x.mentor u) (x.entry == e) g in let q = and_parts (x.seg.mentor == c) (same_seg x.mentor u) p.0 in
      let mentors : x.mentor ≡ r.mentor = same_seg-true x.mentor u q.1 ∙ sym (same_seg-true r.mentor u b.1) in
      let same : (same_seg x.mentor r.mentor && x.seg.mentor == r.seg.mentor && x.entry == r.entry) ≡ true = and_from _ _ (and_from _ _
      (ap (λ (w : SegId). same_seg w r.mentor) mentors ∙ same_seg-refl r.mentor)
      (eq-eqb _ _ (eqb-true x.seg.mentor c q.0 ∙ sym (eqb-true r.seg.mentor c b.0)))) (eq-eqb _ _ (eqb-true x.entry e p.1 ∙ sym (eqb-true r.entry e a.1))) in
      and_right _ _ (not_from_true _ same)

  abbrev spelled : SegRecord → ℕ
  spelled r = pack_alias (Some (alias_of r))

  as_fold : (v : ℕ) (rs : List SegRecord) → value_after c (EntryOf u e) v (map entry_store rs) ≡ last_of stands spelled v rs
  as_fold v [] = refl
  as_fold v (r ∷ rs) = ap (λ (b : Bool). value_after c (EntryOf u e) (if b then spelled r else v) (map entry_store rs)) (stands_is r) ∙ as_fold (if stands r then spelled r else v) rs

  spelled_or : (o : Option SegRecord) → option_map_or spelled o 0 ≡ pack_alias (option_map alias_of o)
  spelled_or None = refl
  spelled_or (Some r) = refl

  pub entries_are : (rs : List SegRecord) → records_distinct rs ≡ true → value_after c (EntryOf u e) 0 (map entry_store rs) ≡ pack_alias (option_map alias_of (find stands rs))
  entries_are rs distinct = as_fold 0 rs ∙ only_is_first stands spelled 0 rs (lone stands same_stand rs distinct) ∙ spelled_or (find stands rs)

-- ---- pages, one after the other

module _ (c : ℕ) (word : ℕ → GuardedWord) (number : SegRecord → ℕ)
    (own : (g : ℕ) (r : SegRecord) → value_after c (word g) 0 (page_stores c g r) ≡ number r)
    (other : (p g v : ℕ) (r : SegRecord) → (p ≡ g → ⊥) → value_after c (word p) v (page_stores c g r) ≡ v) where
  earlier : (rs : List SegRecord) (g p v : ℕ) → p < g → value_after c (word p) v (pages_from c g rs) ≡ v
  earlier [] g p v lt = refl
  earlier (r ∷ rs) g p v lt =
      both_after c (word p) v (page_stores c g r) (pages_from c (g + 1) rs)
      ∙ ap (λ n. value_after c (word p) n (pages_from c (g + 1) rs)) (other p g v r (λ e. absurd (omega (arith, e, lt))))
      ∙ earlier rs (g + 1) p v (omega (arith, lt))

  paged_is : (rs : List SegRecord) (g m p : ℕ) → p ≡ g + m → value_after c (word p) 0 (pages_from c g rs) ≡ option_map_or number (slice_get rs m) 0
  paged_is [] g m p e = refl
  paged_is (r ∷ rs) g zero p e =
      let same : p ≡ g = omega (arith, e) in
      both_after c (word p) 0 (page_stores c g r) (pages_from c (g + 1) rs)
      ∙ ap (λ n. value_after c (word p) n (pages_from c (g + 1) rs)) (subst (λ q. value_after c (word q) 0 (page_stores c g r) ≡ number r) (sym same) (own g r))
      ∙ earlier rs (g + 1) p (number r) (omega (arith, same))
  paged_is (r ∷ rs) g (suc m) p e =
      let apart : p ≡ g → ⊥ = λ same. absurd (omega (arith, e, same)) in
      both_after c (word p) 0 (page_stores c g r) (pages_from c (g + 1) rs)
      ∙ ap (λ n. value_after c (word p) n (pages_from c (g + 1) rs)) (other p g 0 r apart)
      ∙ paged_is rs (g + 1) m p (omega (arith, e))

module _ (c : ℕ) where
  -- ---- tenants

  pub no_words : (q : GuardedWord) (g : ℕ) → ((i : ℕ) → same_word q (PageWord g i) ≡ false) → (v : ℕ) (words : List ℕ) → value_after c q v (word_stores c g words) ≡ v
  no_words q g other v words = unnamed c q (λ i. store_in c (PageWord g i) (slice_index words i)) (λ i. other_word c c (slice_index words i) q (PageWord g i) (other i)) v (below (length words))

  own_tenant : (g : ℕ) (r : SegRecord) → value_after c (PageTenant g) 0 (page_stores c g r) ≡ seg_number r.seg + 1
  own_tenant g r =
      let here : names c (PageTenant g) (store_in c (PageTenant g) (seg_number r.seg + 1)) ≡ true = own_class c (seg_number r.seg + 1) (PageTenant g) (PageTenant g) (eq-eqb g g refl) in
      ap (λ (b : Bool). value_after c (PageTenant g) (if b then seg_number r.seg + 1 else 0) (word_stores c g (kept_words r))) here ∙ no_words (PageTenant g) g (λ i. refl) (seg_number r.seg + 1) (kept_words r)

  other_tenant : (p g v : ℕ) (r : SegRecord) → (p ≡ g → ⊥) → value_after c (PageTenant p) v (page_stores c g r) ≡ v
  other_tenant p g v r apart =
      let there : names c (PageTenant p) (store_in c (PageTenant g) (seg_number r.seg + 1)) ≡ false = other_word c c (seg_number r.seg + 1) (PageTenant p) (PageTenant g) (ne_eqb p g apart) in
      ap (λ (b : Bool). value_after c (PageTenant p) (if b then seg_number r.seg + 1 else v) (word_stores c g (kept_words r))) there ∙ no_words (PageTenant p) g (λ i. refl) v (kept_words r)

  pub tenants_are : (rs : List SegRecord) (g : ℕ) → value_after c (PageTenant g) 0 (pages_from c 0 rs) ≡ option_map_or (λ (r : SegRecord). seg_number r.seg + 1) (slice_get rs g) 0
  tenants_are rs g = paged_is c PageTenant (λ r. seg_number r.seg + 1) own_tenant other_tenant rs 0 g g (omega arith)

  -- ---- words of pages

  module _ (g i : ℕ) (words : List ℕ) (v : ℕ) where
    abbrev word_store : ℕ → WordStore
    word_store j = store_in c (PageWord g j) (slice_index words j)

    -- the word after the first n stores of the words of the page
    abbrev so_far : ℕ → ℕ
    so_far n = value_after c (PageWord g i) v (map word_store (below n))

    one_more : (n : ℕ) → so_far (n + 1) ≡ (if names c (PageWord g i) (word_store n) then slice_index words n else so_far n)
    one_more n =
        ap (λ (t : List ℕ). value_after c (PageWord g i) v (map word_store t)) (below_more n)
        ∙ ap (value_after c (PageWord g i) v) (map_push word_store (below n) n)
        ∙ both_after c (PageWord g i) v (map word_store (below n)) (word_store n ∷ [])

    more_own : (n : ℕ) → i ≡ n → so_far (n + 1) ≡ slice_index words n
    more_own n e = one_more n ∙ ap (λ (b : Bool). if b then slice_index words n else so_far n) (own_class c (slice_index words n) (PageWord g i) (PageWord g n) (and_from (g == g) (i == n) (eq-eqb g g refl) (eq-eqb i n e)))

    more_other : (n : ℕ) → (i ≡ n → ⊥) → so_far (n + 1) ≡ so_far n
    more_other n e = one_more n ∙ ap (λ (b : Bool). if b then slice_index words n else so_far n) (other_word c c (slice_index words n) (PageWord g i) (PageWord g n) (and_right (g == g) (i == n) (ne_eqb i n e)))

    past_word : (n : ℕ) → n ≤ i → so_far n ≡ v
    past_word zero le = refl
    past_word (suc n) le =
        let e : suc n ≡ n + 1 = omega arith in
        ap so_far e ∙ more_other n (λ same. absurd (omega (arith, le, same))) ∙ past_word n (omega (arith, le))

    passed_word : (n : ℕ) → i < n → so_far n ≡ slice_index words i
    passed_word zero lt = absurd (omega (arith, lt))
    passed_word (suc n) lt = let e : suc n ≡ n + 1 = omega arith in ap so_far e ∙ by_last (passed_word n) (cases_eq i n)
      where
        by_last : (i < n → so_far n ≡ slice_index words i) → (i ≡ n) ⊎ (i ≡ n → ⊥) → so_far (n + 1) ≡ slice_index words i
        by_last before (inl same) = more_own n same ∙ ap (slice_index words) (sym same)
        by_last before (inr apart) = more_other n apart ∙ before (omega (arith, lt, apart))

  -- word i of the kept words of a record
  abbrev kept_word : ℕ → SegRecord → ℕ
  kept_word i r = slice_index (kept_words r) i

  own_word : (i g : ℕ) (r : SegRecord) → value_after c (PageWord g i) 0 (page_stores c g r) ≡ kept_word i r
  own_word i g r = by_place (cases_lt i (length (kept_words r)))
    where
      by_place : (i < length (kept_words r)) ⊎ (length (kept_words r) ≤ i) → value_after c (PageWord g i) 0 (word_stores c g (kept_words r)) ≡ kept_word i r
      by_place (inl lt) = passed_word g i (kept_words r) 0 (length (kept_words r)) lt
      by_place (inr le) = past_word g i (kept_words r) 0 (length (kept_words r)) le ∙ sym (get_or_past (kept_words r) i 0 le)

  other_page_word : (i p g v : ℕ) (r : SegRecord) → (p ≡ g → ⊥) → value_after c (PageWord p i) v (page_stores c g r) ≡ v
  other_page_word i p g v r apart = no_words (PageWord p i) g (λ j. and_left (p == g) (i == j) (ne_eqb p g apart)) v (kept_words r)

  kept_or : (i : ℕ) (o : Option SegRecord) → option_map_or (kept_word i) o 0 ≡ option_map_or (λ words. slice_index words i) (option_and_then (λ (r : SegRecord). r.kept) o) 0
  kept_or i None = refl
  kept_or i (Some r) = by_kept r.kept
    where
      by_kept : (k : Option (List ℕ)) → slice_index (unwrap_or k []) i ≡ option_map_or (λ words. slice_index words i) k 0
      by_kept None = refl
      by_kept (Some words) = refl

  pub page_words_are : (rs : List SegRecord) (g i : ℕ) → value_after c (PageWord g i) 0 (pages_from c 0 rs) ≡ option_map_or (λ words. slice_index words i) (option_and_then (λ (r : SegRecord). r.kept) (slice_get rs g)) 0
  page_words_are rs g i = paged_is c (λ p. PageWord p i) (kept_word i) (own_word i) (other_page_word i) rs 0 g g (omega arith) ∙ kept_or i (slice_get rs g)

  -- ---- homes

  module _ (u : SegId) where
    abbrev pub is_own : SegRecord → Bool
    is_own r = same_seg r.seg u

    abbrev pub size_at : List SegRecord → ℕ → ℕ
    size_at rs n = option_map_or (λ (r : SegRecord). r.size) (slice_get rs n) 0

    -- the home of what is at this place, where pages begin with page g
    abbrev home_at : ℕ → List SegRecord → Option ℕ → ℕ → ℕ
    home_at g rs place v = option_map_or (λ n. pack_home (H.Stored (g + n) (size_at rs n))) place v

    page_home : (b : Bool) (g v : ℕ) (r : SegRecord) → is_own r ≡ b → value_after c (HomeOf u) v (page_stores c g r) ≡ (if b then pack_home (H.Stored g r.size) else v)
    page_home true g v r e =
        let here : names c (HomeOf u) (store_in c (HomeOf r.seg) (pack_home (H.Stored g r.size))) ≡ true = own_class c (pack_home (H.Stored g r.size)) (HomeOf u) (HomeOf r.seg) (same_seg-sym u r.seg ∙ e) in
        ap (λ (b : Bool). value_after c (HomeOf u) (if b then pack_home (H.Stored g r.size) else v) (word_stores c g (kept_words r))) here ∙ no_words (HomeOf u) g (λ i. refl) (pack_home (H.Stored g r.size)) (kept_words r)
    page_home false g v r e =
        let there : names c (HomeOf u) (store_in c (HomeOf r.seg) (pack_home (H.Stored g r.size))) ≡ false = other_word c c (pack_home (H.Stored g r.size)) (HomeOf u) (HomeOf r.seg) (same_seg-sym u r.seg ∙ e) in
        ap (λ (b : Bool). value_after c (HomeOf u) (if b then pack_home (H.Stored g r.size) else v) (word_stores c g (kept_words r))) there ∙ no_words (HomeOf u) g (λ i. refl) v (kept_words r)

    pages_home : (b : Bool) (g v : ℕ) (r : SegRecord) (rs : List SegRecord) → is_own r ≡ b →
        value_after c (HomeOf u) v (pages_from c g (r ∷ rs)) ≡ value_after c (HomeOf u) (if b then pack_home (H.Stored g r.size) else v) (pages_from c (g + 1) rs)
    pages_home b g v r rs e =
        both_after c (HomeOf u) v (page_stores c g r) (pages_from c (g + 1) rs) ∙ ap (λ n. value_after c (HomeOf u) n (pages_from c (g + 1) rs)) (page_home b g v r e)

    no_home : (rs : List SegRecord) (g v : ℕ) → list_any is_own rs ≡ false → value_after c (HomeOf u) v (pages_from c g rs) ≡ v
    no_home [] g v none = refl
    no_home (r ∷ rs) g v none =
        let parts = or_parts (is_own r) (list_any is_own rs) none in
        pages_home false g v r rs parts.0 ∙ no_home rs (g + 1) v parts.1

    shifted : (g v : ℕ) (r : SegRecord) (rs : List SegRecord) (place : Option ℕ) → home_at (g + 1) rs place v ≡ home_at g (r ∷ rs) (option_map (λ n. suc n) place) v
    shifted g v r rs None = refl
    shifted g v r rs (Some n) = let e : g + 1 + n ≡ g + suc n = omega arith in ap (λ m. pack_home (H.Stored m (size_at rs n))) e

    homes_from : (rs : List SegRecord) (g v : ℕ) → Lone is_own rs → value_after c (HomeOf u) v (pages_from c g rs) ≡ home_at g rs (position is_own rs) v
    homes_from [] g v lone = refl
    homes_from (r ∷ rs) g v lone = by_test (homes_from rs (g + 1) v lone.1) (is_own r) refl lone
      where
        by_test : value_after c (HomeOf u) v (pages_from c (g + 1) rs) ≡ home_at (g + 1) rs (position is_own rs) v → (b : Bool) → is_own r ≡ b → Lone is_own (r ∷ rs) → value_after c (HomeOf u) v (pages_from c g (r ∷ rs)) ≡ home_at g (r ∷ rs) (position is_own (r ∷ rs)) v
        by_test later true is one =
            let same : g ≡ g + 0 = omega arith in
            pages_home true g v r rs is ∙ no_home rs (g + 1) (pack_home (H.Stored g r.size)) (one.0 is) ∙ ap (λ m. pack_home (H.Stored m r.size)) same
            ∙ sym (ap (λ place. home_at g (r ∷ rs) place v) (position_yes is_own r rs is))
        by_test later false is one =
            pages_home false g v r rs is ∙ later ∙ shifted g v r rs (position is_own rs) ∙ sym (ap (λ place. home_at g (r ∷ rs) place v) (position_no is_own r rs is))

    pub homes_are : (rs : List SegRecord) → Lone is_own rs → value_after c (HomeOf u) 0 (pages_from c 0 rs) ≡ option_map_or (λ n. pack_home (H.Stored n (size_at rs n))) (position is_own rs) 0
    homes_are rs one = homes_from rs 0 0 one ∙ from_zero (position is_own rs)
      where
        from_zero : (place : Option ℕ) → home_at 0 rs place 0 ≡ option_map_or (λ n. pack_home (H.Stored n (size_at rs n))) place 0
        from_zero None = refl
        from_zero (Some n) = let e : 0 + n ≡ n = omega arith in ap (λ m. pack_home (H.Stored m (size_at rs n))) e
