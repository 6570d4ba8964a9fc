-- Words within the layout, and the words of a page as they stand one after the other.
use Rattle.std.proofs.Common.{◌≡◌, ℕ, zero, suc, ◌+◌, ◌-◌, ◌*◌, ◌<◌, ◌≤◌, Bool, true, false, ◌&&◌, List, length, map, get_or, take, drop, refl, sym, ap, subst, ◌∙◌, Option, Some, None, arith, ◌∷◌}
use Rattle.std.proofs.lemmas.Bool.{and_from, and_parts, lt-ltb, ltb-true}
use Rattle.std.proofs.lemmas.List.{drop_more}
use Rattle.std.specs.Prelude.{◌==◌, nat_lt, nat_le, slice_index, slice_range, if◌then◌else◌, unwrap_or, IfSome}
use Rattle.std.specs.Option.{option_and_then}
use Rattle.lists.specs.Lists.{numbers_from}
use Rattle.words_layout.specs.Words.{Word, GuardedWords, address, Guarded, EntryOf, PageWord}
use Rattle.words_layout.specs.Limits.{IsIdentity, identity_in_limits, word_in_limits}
use Rattle.words_layout.specs.Coding.{entry_of, pack_entry, alias_read, alias_in_range, size_in_range}
use Rattle.words_layout.specs.Named.{word_in, words_in}
use Rattle.words_layout.specs.declared.segment.SegId.{SegId}
use Rattle.words_layout.specs.declared.coding.Alias.{Alias}
use Rattle.rings.specs.Brackets.{in_order}
use Rattle.labels.specs.Label.{ClassEntry}
use Rattle.policy.specs.Known.{alias_brackets, in_table}
use Rattle.loader.proofs.Lists.{made_length}
use Rattle.end_volumes.specs.After.{IsEntry, page_words}

-- ---- words within the limits

pub identity_ok : (u : SegId) → IsIdentity u → identity_in_limits u ≡ true
identity_ok u h = and_from (nat_lt u.mentor 16) (nat_lt u.serial 64) (lt-ltb u.mentor 16 h.0) (lt-ltb u.serial 64 h.1)

pub entry_ok : (u : SegId) (e : ℕ) → IsIdentity u → e < 8 → word_in_limits (Guarded (EntryOf u e)) ≡ true
entry_ok u e h k = and_from (identity_in_limits u) (nat_lt e 8) (identity_ok u h) (lt-ltb e 8 k)

page_ok : (g i : ℕ) → g < 32 → i < 64 → word_in_limits (Guarded (PageWord g i)) ≡ true
page_ok g i h k = and_from (nat_lt g 32) (nat_lt i 64) (lt-ltb g 32 h) (lt-ltb i 64 k)

-- the word of that name stands at its address
named_at : (words : List ℕ) (class : ℕ) (word : Word) → word_in_limits word ≡ true → slice_index words (address class word) ≡ word_in words class word
named_at words class word limits = sym (there (word_in_limits word) limits)
  where
    there : (b : Bool) → b ≡ true → (if b then slice_index words (address class word) else 0) ≡ slice_index words (address class word)
    there true h = refl
    there false h = absurd cc

-- the word at an address, by name
pub read_named : (words : List ℕ) (class addr value : ℕ) → value ≡ slice_index words addr → (word : Word) → word_in_limits word ≡ true → addr ≡ address class word → value ≡ word_in words class word
read_named words class addr value e word limits at = e ∙ (ap (slice_index words) at ∙ named_at words class word limits)

-- ---- the serial of an entry

in_range : (a y : Alias) (b : Bool) → unwrap_or (option_and_then (λ (x : Alias). Some (Some x)) (if b then Some a else None)) None ≡ Some y → (b ≡ true) × (a ≡ y)
in_range a y true h = (refl, cc)
in_range a y false h = absurd cc

small : (y : Alias) → alias_in_range y ≡ true → y.serial < 64
small y h =
    ltb-true y.serial 64 (and_parts (nat_lt y.class 16 && nat_le y.r1 7 && nat_le y.r2 7 && nat_le y.r3 7 && size_in_range y.size) (nat_lt y.serial 64) h).1

spelled : (word : ℕ) (y : Alias) (z : Bool) →
    unwrap_or (if z then Some None else option_and_then (λ (x : Alias). Some (Some x)) (if alias_in_range (alias_read word) && pack_entry (alias_read word) == word then Some (alias_read word) else None)) None ≡ Some y → y.serial < 64
spelled word y true h = absurd cc
spelled word y false h =
    let p = in_range (alias_read word) y (alias_in_range (alias_read word) && pack_entry (alias_read word) == word) h in
    small y (ap alias_in_range (sym p.1) ∙ (and_parts (alias_in_range (alias_read word)) (pack_entry (alias_read word) == word) p.0).0)

pub serial_small : (word : ℕ) (y : Alias) → entry_of word ≡ Some y → y.serial < 64
serial_small word y h = spelled word y (word == 0) h

serials_small : (word : ℕ) (o : Option Alias) → o ≡ entry_of word → IfSome o (λ (y : Alias). y.serial < 64)
serials_small word None is = tt
serials_small word (Some y) is = serial_small word y (sym is)

-- an entry that is in the table
entries_in : (table : List ClassEntry) (o : Option Alias) → IfSome o (λ (y : Alias). y.serial < 64) → IfSome (in_table table o) IsEntry
entries_in table None small = tt
entries_in table (Some y) small = either (nat_lt y.class (length table)) (in_order (alias_brackets y)) refl
  where
    either : (a b : Bool) → in_order (alias_brackets y) ≡ b → IfSome (if a && b then Some y else None) IsEntry
    either true true e = (small, e)
    either true false e = tt
    either false b e = tt

pub entry_read : (table : List ClassEntry) (word : ℕ) (o p : Option Alias) → o ≡ entry_of word → p ≡ in_table table o → IfSome p IsEntry
entry_read table word o p is taken = subst (λ (x : Option Alias). IfSome x IsEntry) (sym taken) (entries_in table o (serials_small word o is))

-- ---- a page

-- words that stand one after the other
row_of : (ws : List ℕ) (f : ℕ → ℕ) (a s n : ℕ) → ((i : ℕ) → i < s + n → f i ≡ get_or ws (a + i) 0) → a + (s + n) ≤ length ws → take n (drop (a + s) ws) ≡ map f (numbers_from s n)
row_of ws f a s zero each long = refl
row_of ws f a s (suc n) each long =
    let lt : a + s < length ws = omega arith in
    let e : a + s + 1 ≡ a + (s + 1) = omega arith in
    ap (take (suc n)) (drop_more ws (a + s) 0 lt)
    ∙ (λ j. sym (each s (omega arith)) j ∷ (ap (λ k. take n (drop k ws)) e ∙ row_of ws f a (s + 1) n (λ i h. each i (omega arith)) (omega arith)) j)

pub page_row : (ws : List ℕ) (c g size first last : ℕ) → first ≡ address c (Guarded (PageWord g 0)) → last ≡ first + size → g < 32 → size ≤ 64 → 34869 * c + 34869 ≤ length ws →
    slice_range ws first last ≡ page_words (words_in ws c).guarded (g, size)
page_row ws c g size first last at end few short long =
    let n : last - first ≡ size = omega (arith, end) in
    let z : first ≡ first + 0 = omega arith in
    let each : (i : ℕ) → i < 0 + size → word_in ws c (Guarded (PageWord g i)) ≡ get_or ws (first + i) 0 = λ i lt.
    let e : first + i ≡ address c (Guarded (PageWord g i)) = omega (arith, at) in
    sym (ap (slice_index ws) e ∙ named_at ws c (Guarded (PageWord g i)) (page_ok g i few (omega (arith, lt, short)))) in
    (λ j. take (n j) (drop (z j) ws)) ∙ row_of ws (λ i. word_in ws c (Guarded (PageWord g i))) first 0 size each (omega (arith, at, few, short, long))

pub page_length : (w : GuardedWords) (words : List ℕ) (p : ℕ × ℕ) → words ≡ page_words w p → p.1 ≤ 64 → length words ≤ 64
page_length w words p is few = omega (arith, ap length is, made_length (λ i. w (PageWord p.0 i)) p.1, few)
