-- Stores that are made one after the other.
use Rattle.std.proofs.Common.{ℕ, suc, ◌+◌, ◌*◌, ◌/◌, ◌<◌, ◌≤◌, Bool, true, false, List, [], ◌∷◌, ◌++◌, ◌≡◌, refl, sym, ap, ◌∙◌, cond, arith, length, map, take, get_or, append_assoc, replicate}
use Rattle.std.proofs.lemmas.Bool.{and_parts, and_from, lt-ltb}
use Rattle.std.proofs.lemmas.List.{map_more, map_push, append-nil, length-replicate}
use Rattle.std.proofs.lemmas.List.Concat.{flat_map-append}
use Rattle.std.proofs.lemmas.List.Elements.{filter_more}
use Rattle.std.proofs.lemmas.List.Sums.{fold-append, length-filter, fold_more, sum_by_more, sum_by_more_le}
use Rattle.std.specs.Prelude.{◌==◌, if◌then◌else◌, max, count_by, nat_lt, slice_index, slice_set}
use Rattle.std.specs.List.{filter, flat_map}
use Rattle.lists.specs.Lists.{below}
use Rattle.words_layout.specs.Words.{PageWord, Guarded, address}
use Rattle.words_layout.specs.Coding.{home_in_range, size_in_range}
use Rattle.words_layout.specs.declared.coding.Home.TheVariants as H
use Rattle.class_model.specs.Config.{SegRecord}
use Rattle.loader.specs.Records.{is_kept}
use Rattle.loader.specs.Stores.{IsStorable, WordStore, store_in, stored, after_stores, serial_under, entry_store, page_stores, pages_from}
use Rattle.loader.proofs.Lists.{below_more}
use Rattle.loader.proofs.StoredWords.{length_after}

-- more stores after some
pub added : (ws now new : List ℕ) (xs ys zs : List WordStore) → now ≡ after_stores ws xs → new ≡ after_stores now ys → xs ++ ys ≡ zs → new ≡ after_stores ws zs
added ws now new xs ys zs before more all =
    more ∙ ap (λ (t : List ℕ). after_stores t ys) before ∙ sym (fold-append stored ws xs ys) ∙ ap (after_stores ws) all

-- one store
pub one_stored : (ws new : List ℕ) (s : WordStore) (a n : ℕ) → new ≡ slice_set ws a n → a ≡ address s.class (Guarded s.word) → n ≡ s.number → new ≡ after_stores ws (s ∷ [])
one_stored ws new s a n is place number = is ∙ (λ j. slice_set ws (place j) (number j))

-- two stores and more
pub after_two : (ws one two new : List ℕ) (s t : WordStore) (ys zs : List WordStore) → one ≡ after_stores ws (s ∷ []) → two ≡ after_stores one (t ∷ []) → new ≡ after_stores two ys → ys ≡ zs → new ≡ after_stores ws (s ∷ t ∷ zs)
after_two ws one two new s t ys zs a b c e =
    c ∙ ap (after_stores two) e ∙ ap (λ (x : List ℕ). after_stores x zs) (b ∙ ap (λ (x : List ℕ). stored x t) a)

-- one store and more
pub after_one : (ws one new : List ℕ) (s : WordStore) (ys : List WordStore) → one ≡ after_stores ws (s ∷ []) → new ≡ after_stores one ys → new ≡ after_stores ws (s ∷ ys)
after_one ws one new s ys a c = c ∙ ap (λ (x : List ℕ). after_stores x ys) a

-- the home of a record has a spelling
pub home_spelled : (n g : ℕ) (r : SegRecord) → IsStorable n r → g < 32 → home_in_range (H.Stored g r.size) ≡ true
home_spelled n g r ok low = and_from (nat_lt g 32) (size_in_range r.size) (lt-ltb g 32 low) (and_parts _ (size_in_range r.size) (and_parts _ (nat_lt r.seg.serial 64) ok.alias).0).1

-- they leave the layout
pub same_layout : (ws now : List ℕ) (xs : List WordStore) → now ≡ after_stores ws xs → length ws / 34869 ≡ length now / 34869
same_layout ws now xs is = ap (λ n. n / 34869) (sym (ap length is ∙ length_after xs ws))

-- from words that are all 0
pub layout_is : (n : ℕ) (now : List ℕ) (xs : List WordStore) → now ≡ after_stores (replicate (34869 * n) 0) xs → length now / 34869 ≡ n
layout_is n now xs is =
    let long : length now ≡ 34869 * n = ap length is ∙ length_after xs (replicate (34869 * n) 0) ∙ length-replicate {A = ℕ} (34869 * n) 0 in
    let back : 34869 * n / 34869 ≡ n = omega arith in
    ap (λ m. m / 34869) long ∙ back

-- ---- record by record

pub entries_more : (rs : List SegRecord) (i : ℕ) (x : SegRecord) → i < length rs → x ≡ get_or rs i x → map entry_store (take i rs) ++ entry_store x ∷ [] ≡ map entry_store (take (i + 1) rs)
entries_more rs i x lt is = ap (λ (y : SegRecord). map entry_store (take i rs) ++ entry_store y ∷ []) is ∙ sym (map_more entry_store rs i x lt)

pages_push : (c g : ℕ) (rs : List SegRecord) (r : SegRecord) → pages_from c g rs ++ page_stores c (g + length rs) r ≡ pages_from c g (rs ++ r ∷ [])
pages_push c g [] r = let e : g + 0 ≡ g = omega arith in ap (λ n. page_stores c n r) e ∙ sym (append-nil (page_stores c g r))
pages_push c g (x ∷ rs) r =
    let e : g + suc (length rs) ≡ g + 1 + length rs = omega arith in
    append_assoc (page_stores c g x) (pages_from c (g + 1) rs) (page_stores c (g + suc (length rs)) r)
    ∙ ap (λ n. page_stores c g x ++ (pages_from c (g + 1) rs ++ page_stores c n r)) e
    ∙ ap (λ (t : List WordStore). page_stores c g x ++ t) (pages_push c (g + 1) rs r)

-- the stores for a record, where page g of class c is the next one
abbrev pub kept_stores : ℕ → ℕ → SegRecord → List WordStore
kept_stores c g r = if is_kept c r then page_stores c g r else []

pub pages_more : (c : ℕ) (rs : List SegRecord) (i : ℕ) (x : SegRecord) → i < length rs → x ≡ get_or rs i x → (g : ℕ) → g ≡ count_by (is_kept c) (take i rs) →
    pages_from c 0 (filter (is_kept c) (take i rs)) ++ kept_stores c g x ≡ pages_from c 0 (filter (is_kept c) (take (i + 1) rs))
pages_more c rs i x lt is g count = by_kept (is_kept c x) refl
  where
    more : filter (is_kept c) (take (i + 1) rs) ≡ filter (is_kept c) (take i rs) ++ cond (is_kept c x) (x ∷ []) []
    more = filter_more (is_kept c) rs i x lt ∙ ap (λ (y : SegRecord). filter (is_kept c) (take i rs) ++ cond (is_kept c y) (y ∷ []) []) (sym is)

    next : g ≡ 0 + length (filter (is_kept c) (take i rs))
    next = omega (arith, count, length-filter (is_kept c) (take i rs))

    by_kept : (b : Bool) → is_kept c x ≡ b → pages_from c 0 (filter (is_kept c) (take i rs)) ++ kept_stores c g x ≡ pages_from c 0 (filter (is_kept c) (take (i + 1) rs))
    by_kept true e =
        ap (λ (b : Bool). pages_from c 0 (filter (is_kept c) (take i rs)) ++ (if b then page_stores c g x else [])) e
        ∙ ap (λ n. pages_from c 0 (filter (is_kept c) (take i rs)) ++ page_stores c n x) next
        ∙ pages_push c 0 (filter (is_kept c) (take i rs)) x
        ∙ sym (ap (pages_from c 0) (more ∙ ap (λ (b : Bool). filter (is_kept c) (take i rs) ++ cond b (x ∷ []) []) e))
    by_kept false e =
        ap (λ (b : Bool). pages_from c 0 (filter (is_kept c) (take i rs)) ++ (if b then page_stores c g x else [])) e
        ∙ append-nil (pages_from c 0 (filter (is_kept c) (take i rs)))
        ∙ sym (ap (pages_from c 0) (more ∙ ap (λ (b : Bool). filter (is_kept c) (take i rs) ++ cond b (x ∷ []) []) e ∙ append-nil (filter (is_kept c) (take i rs))))

pub count_more : (c : ℕ) (rs : List SegRecord) (i : ℕ) (x : SegRecord) → i < length rs → x ≡ get_or rs i x → (g h : ℕ) → g ≡ count_by (is_kept c) (take i rs) → h ≡ g + (if is_kept c x then 1 else 0) →
    h ≡ count_by (is_kept c) (take (i + 1) rs)
count_more c rs i x lt is g h count next =
    let step = sum_by_more (λ (r : SegRecord). cond (is_kept c r) 1 0) rs i x lt in
    let here = ap {B = ℕ} (λ (r : SegRecord). cond (is_kept c r) 1 0) is in
    omega (arith, step, here, count, next)

-- the page of a kept one is there
pub page_there : (c : ℕ) (rs : List SegRecord) (i : ℕ) (x : SegRecord) → i < length rs → x ≡ get_or rs i x → (g : ℕ) → g ≡ count_by (is_kept c) (take i rs) → count_by (is_kept c) rs ≤ 32 → is_kept c x ≡ true → g < 32
page_there c rs i x lt is g count few kept =
    let step = sum_by_more_le (λ (r : SegRecord). cond (is_kept c r) 1 0) rs i x lt in
    let here = ap {B = ℕ} (λ (r : SegRecord). cond (is_kept c r) 1 0) is in
    let one : ◌≡◌ {A = ℕ} (cond (is_kept c x) 1 0) 1 = ap {B = ℕ} (λ (b : Bool). cond b 1 0) kept in
    omega (arith, step, here, one, count, few)

-- ---- place by place

pub words_more : (c g : ℕ) (words : List ℕ) (i : ℕ) → map (λ j. store_in c (PageWord g j) (slice_index words j)) (below i) ++ store_in c (PageWord g i) (slice_index words i) ∷ [] ≡ map (λ j. store_in c (PageWord g j) (slice_index words j)) (below (i + 1))
words_more c g words i = sym (map_push (λ j. store_in c (PageWord g j) (slice_index words j)) (below i) i) ∙ ap (map (λ j. store_in c (PageWord g j) (slice_index words j))) (sym (below_more i))

pub groups_more : (group : ℕ → List WordStore) (i : ℕ) → flat_map group (below i) ++ group i ≡ flat_map group (below (i + 1))
groups_more group i =
    ap (λ (t : List WordStore). flat_map group (below i) ++ t) (sym (append-nil (group i))) ∙ sym (flat_map-append group (below i) (i ∷ [])) ∙ ap (flat_map group) (sym (below_more i))

-- ---- the next serial

pub serial_more : (c : ℕ) (rs : List SegRecord) (i : ℕ) (x : SegRecord) → i < length rs → x ≡ get_or rs i x →
    serial_under c (take (i + 1) rs) ≡ (if x.seg.mentor == c then max (serial_under c (take i rs)) (x.seg.serial + 1) else serial_under c (take i rs))
serial_more c rs i x lt is =
    fold_more (λ n (r : SegRecord). if r.seg.mentor == c then max n (r.seg.serial + 1) else n) (if c == 0 then 1 else 0) rs i x lt
    ∙ ap (λ (r : SegRecord). if r.seg.mentor == c then max (serial_under c (take i rs)) (r.seg.serial + 1) else serial_under c (take i rs)) (sym is)
