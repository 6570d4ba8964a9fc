-- After all stores the words are those of the opening.
use Rattle.std.proofs.Common.{ℕ, zero, suc, ◌+◌, ◌*◌, ◌<◌, ◌≤◌, Bool, true, false, List, [], ◌∷◌, ◌++◌, ◌≡◌, ◌⊎◌, inl, inr, refl, sym, ap, subst, ◌∙◌, arith, length, map, replicate}
use Rattle.std.proofs.lemmas.Bool.{cases_eq, cases_lt, and_from, and_left, and_right, or_parts, or_from, ne_eqb, lt-ltb}
use Rattle.std.proofs.lemmas.List.Elements.{All-head, All-tail, All-filter}
use Rattle.std.proofs.lemmas.List.Sums.{length-filter}
use Rattle.std.specs.Prelude.{◌==◌, if◌then◌else◌, fold, max, nat_lt, count_by, is_some, slice_get, slice_index}
use Rattle.std.specs.List.{filter, flat_map, list_any, position, All, AllByRecursion}
use Rattle.std.specs.Option.{option_map_or, option_and_then}
use Rattle.lists.specs.Lists.{below, numbers_from}
use Rattle.words_layout.specs.Segments.{seg_number}
use Rattle.words_layout.specs.Words.{GuardedWord, NextSerial, HomeOf, WritesOf, EntryOf, FrameTenant, FrameWord, PageTenant, PageWord, same_word}
use Rattle.words_layout.specs.Limits.{guarded_in_limits}
use Rattle.words_layout.specs.Named.{words_in}
use Rattle.words_layout.specs.Coding.{pack_home}
use Rattle.words_layout.specs.declared.segment.SegId.{SegId}
use Rattle.words_layout.specs.declared.coding.Home.TheVariants as H
use Rattle.class_model.specs.Config.{Config, SegRecord}
use Rattle.class_model.specs.Run.{opening_serial}
use Rattle.machine.specs.Opening.{opening_guarded, opening_words}
use Rattle.loader.specs.Records.{is_kept}
use Rattle.loader.specs.Stores.{WordStore, store_in, IsStorable, AreStorable, kept_words, after_stores, serial_under, entry_store, word_stores, page_stores, pages_from, class_stores, stores_of}
use Rattle.loader.proofs.StoredWords.{names, value_after, StoreFits, identity_fits, entry_fits, words_after_stores}
use Rattle.loader.proofs.Lookups.{Lone, lone, same_identity, unnamed, both_after, other_word, own_class, no_words, entries_are, tenants_are, page_words_are, is_own, homes_are}

-- ---- each store is of a word of the layout

-- the store is of a word of class d
pub record StoreOf (d : ℕ) (s : WordStore) : Type 0 where
  pub class : s.class ≡ d
  pub word : guarded_in_limits s.word ≡ true

all_both : {X : Type 0} (P : X → Type 0) (xs ys : List X) → AllByRecursion P xs → AllByRecursion P ys → AllByRecursion P (xs ++ ys)
all_both P [] ys a b = b
all_both P (x ∷ xs) ys a b = (a.0, all_both P xs ys a.1 b)

all_numbers : {X : Type 0} (P : X → Type 0) (f : ℕ → X) (s n : ℕ) → ((i : ℕ) → s ≤ i → i < s + n → P (f i)) → AllByRecursion P (map f (numbers_from s n))
all_numbers P f s zero each = tt
all_numbers P f s (suc n) each = (each s (omega arith) (omega arith), all_numbers P f (s + 1) n (λ i a b. each i (omega (arith, a)) (omega (arith, b))))

module _ (classes : ℕ) where
  entries_fit : (rs : List SegRecord) → All (IsStorable classes) rs → AllByRecursion (StoreFits classes) (map entry_store rs)
  entries_fit [] ok = tt
  entries_fit (r ∷ rs) ok = (entry_fits classes r (All-head (IsStorable classes) r rs ok), entries_fit rs (All-tail (IsStorable classes) r rs ok))

  module _ (d : ℕ) where
    words_of : (g : ℕ) (words : List ℕ) → g < 32 → length words ≤ 64 → AllByRecursion (StoreOf d) (word_stores d g words)
    words_of g words low few = all_numbers (StoreOf d) (λ i. store_in d (PageWord g i) (slice_index words i)) 0 (length words) (λ i a b.
        record { class = refl; word = and_from (nat_lt g 32) (nat_lt i 64) (lt-ltb g 32 low) (lt-ltb i 64 (omega (arith, b, few))) })

    page_of : (g : ℕ) (r : SegRecord) → IsStorable classes r → g < 32 → AllByRecursion (StoreOf d) (page_stores d g r)
    page_of g r ok low = (record { class = refl; word = identity_fits r.seg ok.seg }, (record { class = refl; word = lt-ltb g 32 low }, words_of g (kept_words r) low ok.words))

    pages_of : (g : ℕ) (rs : List SegRecord) → All (IsStorable classes) rs → g + length rs ≤ 32 → AllByRecursion (StoreOf d) (pages_from d g rs)
    pages_of g [] ok few = tt
    pages_of g (r ∷ rs) ok few = all_both (StoreOf d) (page_stores d g r) (pages_from d (g + 1) rs)
        (page_of g r (All-head (IsStorable classes) r rs ok) (omega (arith, few)))
        (pages_of (g + 1) rs (All-tail (IsStorable classes) r rs ok) (omega (arith, few)))

    class_of : (rs : List SegRecord) → All (IsStorable classes) rs → count_by (is_kept d) rs ≤ 32 → AllByRecursion (StoreOf d) (class_stores rs d)
    class_of rs ok few = (
      record { class = refl; word = refl },
      pages_of 0 (filter (is_kept d) rs) (All-filter (is_kept d) (IsStorable classes) rs ok) (omega (arith, few, length-filter (is_kept d) rs)),
    )

    fits_from : d < classes → (ss : List WordStore) → AllByRecursion (StoreOf d) ss → AllByRecursion (StoreFits classes) ss
    fits_from known [] all = tt
    fits_from known (s ∷ ss) all = (record { class = subst (λ c. c < classes) (sym all.0.class) known; word = all.0.word }, fits_from known ss all.1)

  groups_fit : (group : ℕ → List WordStore) (s n : ℕ) → ((d : ℕ) → s ≤ d → d < s + n → AllByRecursion (StoreFits classes) (group d)) → AllByRecursion (StoreFits classes) (flat_map group (numbers_from s n))
  groups_fit group s zero each = tt
  groups_fit group s (suc n) each = all_both (StoreFits classes) (group s) (flat_map group (numbers_from (s + 1) n))
      (each s (omega arith) (omega arith)) (groups_fit group (s + 1) n (λ d a b. each d (omega (arith, a)) (omega (arith, b))))

  all_fit : (rs : List SegRecord) → AreStorable classes rs → AllByRecursion (StoreFits classes) (stores_of classes rs)
  all_fit rs ok = all_both (StoreFits classes) (flat_map (class_stores rs) (below classes)) (map entry_store rs)
      (groups_fit (class_stores rs) 0 classes (λ d a b. let known : d < classes = omega (arith, b) in fits_from d known (class_stores rs d) (class_of d rs ok.each (ok.pages d known))))
      (entries_fit rs ok.each)

-- ---- the stores of each class

module _ (c : ℕ) (q : GuardedWord) where
  apart_class : (d v : ℕ) (ss : List WordStore) → (d ≡ c → ⊥) → AllByRecursion (StoreOf d) ss → value_after c q v ss ≡ v
  apart_class d v [] apart all = refl
  apart_class d v (s ∷ ss) apart all =
      let other : names c q s ≡ false = and_right (same_word q s.word) (s.class == c) (ne_eqb s.class c (λ e. apart (sym all.0.class ∙ e))) in
      rw other (apart_class d v ss apart all.1)

  module _ (group : ℕ → List WordStore) where
    none_of : (s n v : ℕ) → ((d : ℕ) → s ≤ d → d < s + n → AllByRecursion (StoreOf d) (group d)) → (c < s) ⊎ (s + n ≤ c) → value_after c q v (flat_map group (numbers_from s n)) ≡ v
    none_of s zero v of out = refl
    none_of s (suc n) v of out =
        both_after c q v (group s) (flat_map group (numbers_from (s + 1) n))
        ∙ ap (λ m. value_after c q m (flat_map group (numbers_from (s + 1) n))) (apart_class s v (group s) (not_here out) (of s (omega arith) (omega arith)))
        ∙ none_of (s + 1) n v (λ d a b. of d (omega (arith, a)) (omega (arith, b))) (still out)
      where
        not_here : (c < s) ⊎ (s + suc n ≤ c) → s ≡ c → ⊥
        not_here (inl lt) e = absurd (omega (arith, lt, e))
        not_here (inr le) e = absurd (omega (arith, le, e))

        still : (c < s) ⊎ (s + suc n ≤ c) → (c < s + 1) ⊎ (s + 1 + n ≤ c)
        still (inl lt) = inl (omega (arith, lt))
        still (inr le) = inr (omega (arith, le))

    one_of : (s n v : ℕ) → ((d : ℕ) → s ≤ d → d < s + n → AllByRecursion (StoreOf d) (group d)) → s ≤ c → c < s + n → value_after c q v (flat_map group (numbers_from s n)) ≡ value_after c q v (group c)
    one_of s zero v of low high = absurd (omega (arith, low, high))
    one_of s (suc n) v of low high =
        both_after c q v (group s) (flat_map group (numbers_from (s + 1) n)) ∙ either (one_of (s + 1) n v) (cases_eq s c)
      where
        later : (d : ℕ) → s + 1 ≤ d → d < s + 1 + n → AllByRecursion (StoreOf d) (group d)
        later d a b = of d (omega (arith, a)) (omega (arith, b))

        either : (((d : ℕ) → s + 1 ≤ d → d < s + 1 + n → AllByRecursion (StoreOf d) (group d)) → s + 1 ≤ c → c < s + 1 + n → value_after c q v (flat_map group (numbers_from (s + 1) n)) ≡ value_after c q v (group c)) →
            (s ≡ c) ⊎ (s ≡ c → ⊥) → value_after c q (value_after c q v (group s)) (flat_map group (numbers_from (s + 1) n)) ≡ value_after c q v (group c)
        either rest (inl e) = none_of (s + 1) n (value_after c q v (group s)) later (inl (omega (arith, e))) ∙ ap (λ d. value_after c q v (group d)) e
        either rest (inr apart) =
            ap (λ m. value_after c q m (flat_map group (numbers_from (s + 1) n))) (apart_class s v (group s) apart (of s (omega arith) (omega arith)))
            ∙ rest later (omega (arith, low, apart)) (omega (arith, high))

  -- pages, where none of the words is of them
  no_pages : ((u : SegId) → same_word q (HomeOf u) ≡ false) → ((g : ℕ) → same_word q (PageTenant g) ≡ false) → ((g i : ℕ) → same_word q (PageWord g i) ≡ false) →
      (v g : ℕ) (rs : List SegRecord) → value_after c q v (pages_from c g rs) ≡ v
  no_pages home tenant word v g [] = refl
  no_pages home tenant word v g (r ∷ rs) =
      both_after c q v (page_stores c g r) (pages_from c (g + 1) rs)
      ∙ ap (λ m. value_after c q m (pages_from c (g + 1) rs)) one_page
      ∙ no_pages home tenant word v (g + 1) rs
    where
      one_page : value_after c q v (page_stores c g r) ≡ v
      one_page =
          let a : names c q (store_in c (HomeOf r.seg) (pack_home (H.Stored g r.size))) ≡ false = other_word c c (pack_home (H.Stored g r.size)) q (HomeOf r.seg) (home r.seg) in
          let b : names c q (store_in c (PageTenant g) (seg_number r.seg + 1)) ≡ false = other_word c c (seg_number r.seg + 1) q (PageTenant g) (tenant g) in
          ap (λ (t : Bool). value_after c q (if t then seg_number r.seg + 1 else (if names c q (store_in c (HomeOf r.seg) (pack_home (H.Stored g r.size))) then pack_home (H.Stored g r.size) else v)) (word_stores c g (kept_words r))) b
          ∙ ap (λ (t : Bool). value_after c q (if t then pack_home (H.Stored g r.size) else v) (word_stores c g (kept_words r))) a
          ∙ no_words c q g (word g) v (kept_words r)

-- ---- the opening

none_filtered : (test p : SegRecord → Bool) (xs : List SegRecord) → list_any test xs ≡ false → list_any test (filter p xs) ≡ false
none_filtered test p [] none = refl
none_filtered test p (x ∷ xs) none =
    let parts = or_parts (test x) (list_any test xs) none in
    elim (p x) as (λ b. list_any test (if b then x ∷ filter p xs else filter p xs) ≡ false) [
      | true ↦ or_from (test x) (list_any test (filter p xs)) parts.0 (none_filtered test p xs parts.1)
      | false ↦ none_filtered test p xs parts.1
    ]

lone_filtered : (test p : SegRecord → Bool) (xs : List SegRecord) → Lone test xs → Lone test (filter p xs)
lone_filtered test p [] one = tt
lone_filtered test p (x ∷ xs) one =
    elim (p x) as (λ b. Lone test (if b then x ∷ filter p xs else filter p xs)) [
      | true ↦ (λ e. none_filtered test p xs (one.0 e), lone_filtered test p xs one.1)
      | false ↦ lone_filtered test p xs one.1
    ]

module _ (classes c : ℕ) (past : classes ≤ c) where
  no_kept : (xs : List SegRecord) → All (IsStorable classes) xs → filter (is_kept c) xs ≡ []
  no_kept [] ok = refl
  no_kept (x ∷ xs) ok =
      let here : IsStorable classes x = All-head (IsStorable classes) x xs ok in
      let other : (x.class == c) ≡ false = ne_eqb x.class c (λ e. absurd (omega (arith, e, here.class, past))) in
      let fails : is_kept c x ≡ false = and_left (x.class == c) (is_some x.kept) other in
      rw fails (no_kept xs (All-tail (IsStorable classes) x xs ok))

  no_serial : (xs : List SegRecord) → All (IsStorable classes) xs → (n : ℕ) → fold (λ m (r : SegRecord). if r.seg.mentor == c then max m (r.seg.serial + 1) else m) n xs ≡ n
  no_serial [] ok n = refl
  no_serial (x ∷ xs) ok n =
      let here : IsStorable classes x = All-head (IsStorable classes) x xs ok in
      let other : (x.seg.mentor == c) ≡ false = ne_eqb x.seg.mentor c (λ e. absurd (omega (arith, e, here.under, past))) in
      rw other (no_serial xs (All-tail (IsStorable classes) x xs ok) n)

module _ (classes : ℕ) (k : Config) (ok : AreStorable classes k.records) (some : 1 ≤ classes) where
  abbrev rs : List SegRecord
  rs = k.records

  of_class : (d : ℕ) → 0 ≤ d → d < 0 + classes → AllByRecursion (StoreOf d) (class_stores rs d)
  of_class d a b = let known : d < classes = omega (arith, b) in class_of classes d rs ok.each (ok.pages d known)

  abbrev groups : List WordStore
  groups = flat_map (class_stores rs) (below classes)

  groups_are : (c : ℕ) (q : GuardedWord) (x : ℕ) → (c < classes → value_after c q 0 (class_stores rs c) ≡ x) → (classes ≤ c → 0 ≡ x) → value_after c q 0 groups ≡ x
  groups_are c q x known past = either (cases_lt c classes)
    where
      either : (c < classes) ⊎ (classes ≤ c) → value_after c q 0 groups ≡ x
      either (inl lt) = one_of c q (class_stores rs) 0 classes 0 of_class (omega arith) (omega (arith, lt)) ∙ known lt
      either (inr le) = none_of c q (class_stores rs) 0 classes 0 of_class (inr (omega (arith, le))) ∙ past le

  without_entries : (c : ℕ) (q : GuardedWord) → ((r : SegRecord) → names c q (entry_store r) ≡ false) → (x : ℕ) → value_after c q 0 groups ≡ x → value_after c q 0 (stores_of classes rs) ≡ x
  without_entries c q other x e = both_after c q 0 groups (map entry_store rs) ∙ unnamed c q entry_store other (value_after c q 0 groups) rs ∙ e

  abbrev kept : ℕ → List SegRecord
  kept c = filter (is_kept c) rs

  none_kept : (c : ℕ) → classes ≤ c → [] ≡ kept c
  none_kept c past = sym (no_kept classes c past rs ok.each)

  -- a word that nothing is stored in
  untouched : (c : ℕ) (q : GuardedWord) → ((r : SegRecord) → names c q (entry_store r) ≡ false) → same_word q NextSerial ≡ false →
      ((u : SegId) → same_word q (HomeOf u) ≡ false) → ((g : ℕ) → same_word q (PageTenant g) ≡ false) → ((g i : ℕ) → same_word q (PageWord g i) ≡ false) →
      value_after c q 0 groups ≡ 0
  untouched c q entry serial home tenant word = groups_are c q 0
      (λ known. (let other : names c q (store_in c NextSerial (serial_under c rs)) ≡ false = other_word c c (serial_under c rs) q NextSerial serial in
      ap (λ (b : Bool). value_after c q (if b then serial_under c rs else 0) (pages_from c 0 (kept c))) other ∙ no_pages c q home tenant word 0 0 (kept c))) (λ past. refl)

  serial_is : (c : ℕ) → value_after c NextSerial 0 groups ≡ opening_serial k c
  serial_is c = groups_are c NextSerial (opening_serial k c)
      (λ known. (let here : names c NextSerial (store_in c NextSerial (serial_under c rs)) ≡ true = own_class c (serial_under c rs) NextSerial NextSerial refl in
      ap (λ (b : Bool). value_after c NextSerial (if b then serial_under c rs else 0) (pages_from c 0 (kept c))) here ∙ no_pages c NextSerial (λ u. refl) (λ g. refl) (λ g i. refl) (serial_under c rs) 0 (kept c)))
      (λ past. (let other : (c == 0) ≡ false = ne_eqb c 0 (λ e. absurd (omega (arith, e, past, some))) in
      sym (no_serial classes c past rs ok.each (if c == 0 then 1 else 0) ∙ ap (λ (b : Bool). if b then 1 else 0) other)))

  guarded_is : (c : ℕ) (q : GuardedWord) → value_after c q 0 (stores_of classes rs) ≡ opening_guarded k c q
  guarded_is c NextSerial = without_entries c NextSerial (λ r. refl) (opening_serial k c) (serial_is c)
  guarded_is c (HomeOf u) = without_entries c (HomeOf u) (λ r. refl) (opening_guarded k c (HomeOf u)) (groups_are c (HomeOf u) (opening_guarded k c (HomeOf u))
      (λ known. homes_are c u (kept c) (lone_filtered (is_own c u) (is_kept c) rs (lone (is_own c u) (same_identity u) rs ok.distinct)))
      (λ past. ap (λ (ps : List SegRecord). option_map_or (λ g. pack_home (H.Stored g (option_map_or (λ (r : SegRecord). r.size) (slice_get ps g) 0))) (position (is_own c u) ps) 0) (none_kept c past)))
  guarded_is c (EntryOf u e) =
      both_after c (EntryOf u e) 0 groups (map entry_store rs)
      ∙ ap (λ n. value_after c (EntryOf u e) n (map entry_store rs)) (groups_are c (EntryOf u e) 0 (λ known. no_pages c (EntryOf u e) (λ v. refl) (λ g. refl) (λ g i. refl) 0 0 (kept c)) (λ past. refl))
      ∙ entries_are c u e rs ok.distinct
  guarded_is c (PageTenant g) = without_entries c (PageTenant g) (λ r. refl) (opening_guarded k c (PageTenant g)) (groups_are c (PageTenant g) (opening_guarded k c (PageTenant g))
      (λ known. tenants_are c (kept c) g)
      (λ past. ap (λ (ps : List SegRecord). option_map_or (λ (r : SegRecord). seg_number r.seg + 1) (slice_get ps g) 0) (none_kept c past)))
  guarded_is c (PageWord g i) = without_entries c (PageWord g i) (λ r. refl) (opening_guarded k c (PageWord g i)) (groups_are c (PageWord g i) (opening_guarded k c (PageWord g i))
      (λ known. page_words_are c (kept c) g i)
      (λ past. ap (λ (ps : List SegRecord). option_map_or (λ words. slice_index words i) (option_and_then (λ (r : SegRecord). r.kept) (slice_get ps g)) 0) (none_kept c past)))
  guarded_is c (WritesOf u) = without_entries c (WritesOf u) (λ r. refl) 0 (untouched c (WritesOf u) (λ r. refl) refl (λ v. refl) (λ g. refl) (λ g i. refl))
  guarded_is c (FrameTenant f) = without_entries c (FrameTenant f) (λ r. refl) 0 (untouched c (FrameTenant f) (λ r. refl) refl (λ v. refl) (λ g. refl) (λ g i. refl))
  guarded_is c (FrameWord f j) = without_entries c (FrameWord f j) (λ r. refl) 0 (untouched c (FrameWord f j) (λ r. refl) refl (λ v. refl) (λ g. refl) (λ g i. refl))

  opened : (c : ℕ) → words_in (after_stores (replicate (34869 * classes) 0) (stores_of classes rs)) c ≡ opening_words k c
  opened c = words_after_stores classes (stores_of classes rs) (all_fit classes rs ok) c (opening_guarded k c) (guarded_is c)

pub words_open : (classes : ℕ) (all : List SegRecord) → AreStorable classes all → 1 ≤ classes → (k : Config) → k.records ≡ all → (c : ℕ) →
    words_in (after_stores (replicate (34869 * classes) 0) (stores_of classes all)) c ≡ opening_words k c
words_open classes all ok some k e c =
    subst (λ (t : List SegRecord). words_in (after_stores (replicate (34869 * classes) 0) (stores_of classes t)) c ≡ opening_words k c) e
    (opened classes k (subst (AreStorable classes) (sym e) ok) some c)
