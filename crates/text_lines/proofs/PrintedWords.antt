-- What is printed line by line is read again: the same lines, and the same words.
use Rattle.std.proofs.Common.{◌≡◌, ◌≢◌, ℕ, suc, ◌^◌, ◌<◌, ◌≤◌, Bool, true, false, not, eqb, leb, ltb, ◌&&◌, ◌||◌, List, [], ◌∷◌, ◌++◌, length, get_or, refl, sym, ap, subst, ◌∙◌, append_assoc, arith, inl, inr}
use Rattle.std.specs.Prelude.{map, filter}
use Rattle.std.specs.Fmt.{decimal}
use Rattle.std.specs.List.{AllByRecursion, list_all, slice_split, position_or_len}
use Rattle.std.specs.Str.Parse.{AllDigits}
use Rattle.std.proofs.lemmas.Bool.{cases_lt, le-leb, leb-true, ltb-true, eqb-false, ne_eqb, and_parts}
use Rattle.std.proofs.lemmas.List.{take_all, append-nil}
use Rattle.std.proofs.lemmas.List.Elements.{All-from_recursion}
use Rattle.std.proofs.lemmas.List.Splits.{slice_split_at, slice_split_none}
use Rattle.std.proofs.lemmas.List.Sums.{position_or_len_is}
use Rattle.std.proofs.lemmas.Str.Parse.{digit_from_value}
use Rattle.std.proofs.lemmas.Fmt.{decimal_digit, decimal_is_IsNumeral, first_decimal}
use Rattle.text_lines.specs.Number.{IsNumber}
use Rattle.text_lines.specs.Lines.{lines, is_blank, without_comment, words_of_part, words_of}
use Rattle.text_lines.specs.Name.{is_allowed, all_allowed, is_name_byte, is_name}
use Rattle.text_lines.specs.Printed.{spaced, printed, IsPlain, IsWord, IsLineOfWords}

-- ---- numbers and names are words

digits_plain : (ds : List ℕ) → AllDigits 10 ds → AllByRecursion IsPlain ds
digits_plain [] all = tt
digits_plain (d ∷ ds) all = let range = digit_from_value d all.0 in (record { low = omega (arith, range.0); high = omega (arith, range.1); mark = λ e. omega (arith, range.0, e) }, digits_plain ds all.1)

pub decimal_word : (n : ℕ) → n < 2 ^ 64 → IsWord (decimal n)
decimal_word n lt = let d = decimal_is_IsNumeral n lt in (d.0.0, digits_plain (decimal n) d.0.1)

plain_decimal : (n : ℕ) → n < 2 ^ 64 → get_or (decimal n) 0 0 ≡ 48 → length (decimal n) ≡ 1
plain_decimal n lt zero_first = elim (cases_lt 0 n) [
  | inl some ↦ absurd (omega (arith, first_decimal n some lt))
  | inr none ↦ let same : n ≡ 0 = omega arith in rw (same, decimal_digit 0 (omega arith)) refl
]

-- The decimal digits of a number spell it.
pub decimal_number : (n : ℕ) → n < 2 ^ 64 → IsNumber (decimal n) n
decimal_number n lt = let d = decimal_is_IsNumeral n lt in record { digits = d.0; plain = plain_decimal n lt; value = d.1 }

abbrev is_plain : ℕ → Bool
is_plain b = (leb 33 b && leb b 126) && not (eqb b 35)

is_not : (b : Bool) → not b ≡ true → b ≡ false
is_not false e = refl
is_not true e = absurd cc

-- A text that computes to plain bytes is a word, as a fixed one.
pub plain_from : (w : List ℕ) → list_all is_plain w ≡ true → AllByRecursion IsPlain w
plain_from [] e = tt
plain_from (b ∷ bs) e =
    let one = and_parts (is_plain b) (list_all is_plain bs) e in
    let parts = and_parts (leb 33 b && leb b 126) (not (eqb b 35)) one.0 in
    let range = and_parts (leb 33 b) (leb b 126) parts.0 in
    (record { low = leb-true _ _ range.0; high = leb-true _ _ range.1; mark = eqb-false _ _ (is_not (eqb b 35) parts.1) }, plain_from bs one.1)

name_byte : (b : ℕ) → (t : Bool) → (leb 97 b && leb b 122) ≡ t → (t || (leb 48 b && leb b 57)) ≡ true → IsPlain b
name_byte b true letter e =
    let range = and_parts (leb 97 b) (leb b 122) letter in
    let low = leb-true 97 b range.0 in
    let high = leb-true b 122 range.1 in
    record { low = omega arith; high = omega arith; mark = λ same. omega arith }
name_byte b false letter e =
    let range = and_parts (leb 48 b) (leb b 57) e in
    let low = leb-true 48 b range.0 in
    let high = leb-true b 57 range.1 in
    record { low = omega arith; high = omega arith; mark = λ same. omega arith }

name_bytes : (w : List ℕ) → list_all is_name_byte w ≡ true → AllByRecursion IsPlain w
name_bytes [] e = tt
name_bytes (b ∷ bs) e = let both = and_parts (is_name_byte b) (list_all is_name_byte bs) e in (name_byte b (leb 97 b && leb b 122) refl both.0, name_bytes bs both.1)

pub name_word : (w : List ℕ) → is_name w ≡ true → IsWord w
name_word w e =
    let both = and_parts (ltb 0 (length w) && leb (length w) 16) (list_all is_name_byte w) e in
    (ltb-true _ _ (and_parts (ltb 0 (length w)) (leb (length w) 16) both.0).0, name_bytes w both.1)

-- ---- the words of a line

keep_word : (word : List ℕ) (parts : List (List ℕ)) → 0 < length word → filter (λ w. not (eqb (length w) 0)) (word ∷ parts) ≡ word ∷ filter (λ w. not (eqb (length w) 0)) parts
keep_word [] parts some = absurd (omega arith)
keep_word (b ∷ bs) parts some =
    let full : eqb (suc (length bs)) 0 ≡ false = ne_eqb (suc (length bs)) 0 (λ e. omega (arith, e)) in
    rw full refl

no_blank : (w : List ℕ) → AllByRecursion IsPlain w → AllByRecursion (λ b. is_blank b ≡ false) w
no_blank [] all = tt
no_blank (b ∷ bs) all = (rw (ne_eqb b 32 (λ e. omega (arith, all.0.low, e)), ne_eqb b 9 (λ e. omega (arith, all.0.low, e))) refl, no_blank bs all.1)

first_word : (w rest : List ℕ) → IsWord w → words_of_part (w ++ 32 ∷ rest) ≡ w ∷ words_of_part rest
first_word w rest is = rw (slice_split_at is_blank w 32 rest (All-from_recursion (λ b. is_blank b ≡ false) w (no_blank w is.1)) refl) (keep_word w (slice_split is_blank rest) is.0)

last_word : (w : List ℕ) → IsWord w → words_of_part w ≡ w ∷ []
last_word w is = rw (slice_split_none is_blank w (All-from_recursion (λ b. is_blank b ≡ false) w (no_blank w is.1))) (keep_word w [] is.0)

spaced_words : (ws : List (List ℕ)) → IsLineOfWords ws → words_of_part (spaced ws) ≡ ws
spaced_words [] are = absurd (omega (arith, are.0))
spaced_words (w ∷ []) are = last_word w are.1.0
spaced_words (w ∷ v ∷ more) are =
    first_word w (spaced (v ∷ more)) are.1.0 ∙ ap (λ ws. w ∷ ws) (spaced_words (v ∷ more) (omega arith, are.1.1))

-- a byte of a printed line: a blank, or one of a word
abbrev IsLineByte : ℕ → Type 0
IsLineByte b = (32 ≤ b) × (b ≤ 126) × (b ≢ 35)

words_bytes : (w rest : List ℕ) → AllByRecursion IsPlain w → AllByRecursion IsLineByte rest → AllByRecursion IsLineByte (w ++ rest)
words_bytes [] rest all more = more
words_bytes (b ∷ bs) rest all more = ((omega (arith, all.0.low), all.0.high, all.0.mark), words_bytes bs rest all.1 more)

spaced_bytes : (ws : List (List ℕ)) → AllByRecursion IsWord ws → AllByRecursion IsLineByte (spaced ws)
spaced_bytes [] are = tt
spaced_bytes (w ∷ []) are = subst (AllByRecursion IsLineByte) (append-nil w) (words_bytes w [] are.0.1 tt)
spaced_bytes (w ∷ v ∷ more) are = words_bytes w (32 ∷ spaced (v ∷ more)) are.0.1 ((omega arith, omega arith, λ e. omega (arith, e)), spaced_bytes (v ∷ more) are.1)

no_mark : (bs : List ℕ) → AllByRecursion IsLineByte bs → AllByRecursion (λ b. eqb b 35 ≡ false) bs
no_mark [] all = tt
no_mark (b ∷ bs) all = (ne_eqb b 35 all.0.2, no_mark bs all.1)

no_comment : (bs : List ℕ) → AllByRecursion IsLineByte bs → without_comment bs ≡ bs
no_comment bs all =
    let none = All-from_recursion (λ b. eqb b 35 ≡ false) bs (no_mark bs all) in
    let end : position_or_len (λ b. eqb b 35) bs ≡ length bs = position_or_len_is (λ b. eqb b 35) bs (length bs) 0 (omega arith) (λ k lt. none k 0 lt) (λ lt. absurd (omega (arith, lt))) in
    take_all (position_or_len (λ b. eqb b 35) bs) bs (omega (arith, end))

-- A printed line has the words that it was printed from.
pub line_words : (ws : List (List ℕ)) → IsLineOfWords ws → words_of (spaced ws) ≡ ws
line_words ws are = ap words_of_part (no_comment (spaced ws) (spaced_bytes ws are.1)) ∙ spaced_words ws are

allowed_bytes : (bs : List ℕ) → AllByRecursion IsLineByte bs → list_all is_allowed bs ≡ true
allowed_bytes [] all = refl
allowed_bytes (b ∷ bs) all = rw (ne_eqb b 9 (λ e. omega (arith, all.0.0, e)), le-leb 32 b all.0.0, le-leb b 126 all.0.1, allowed_bytes bs all.1) refl

-- Its bytes are allowed.
pub line_allowed : (ws : List (List ℕ)) → IsLineOfWords ws → all_allowed (spaced ws) ≡ true
line_allowed ws are = allowed_bytes (spaced ws) (spaced_bytes ws are.1)

-- ---- the lines of the text

one_line : (bs rest : List ℕ) → AllByRecursion IsLineByte bs → lines (bs ++ 10 ∷ rest) ≡ bs ∷ lines rest
one_line [] rest all = refl
one_line (b ∷ bs) rest all = rw (ne_eqb b 10 (λ e. omega (arith, all.0.0, e)), one_line bs rest all.1) refl

-- A printed text has the lines that it was printed from.
pub printed_lines : (ls : List (List (List ℕ))) → AllByRecursion IsLineOfWords ls → lines (printed ls) ≡ map spaced ls
printed_lines [] are = refl
printed_lines (l ∷ ls) are =
    ap lines (append_assoc (spaced l) (10 ∷ []) (printed ls)) ∙ one_line (spaced l) (printed ls) (spaced_bytes l are.0.1) ∙ ap (λ more. spaced l ∷ more) (printed_lines ls are.1)

pub printed-append : (xs ys : List (List (List ℕ))) → printed (xs ++ ys) ≡ printed xs ++ printed ys
printed-append [] ys = refl
printed-append (l ∷ ls) ys = ap (λ (t : List ℕ). (spaced l ++ 10 ∷ []) ++ t) (printed-append ls ys) ∙ sym (append_assoc (spaced l ++ 10 ∷ []) (printed ls) (printed ys))

-- one more line
pub printed-push : (ls : List (List (List ℕ))) (l : List (List ℕ)) → printed (ls ++ l ∷ []) ≡ printed ls ++ (spaced l ++ 10 ∷ [])
printed-push ls l = printed-append ls (l ∷ []) ∙ ap (λ (t : List ℕ). printed ls ++ t) (append-nil (spaced l ++ 10 ∷ []))
