-- Words that are written plainly, and spell what they say.
use Rattle.std.proofs.Common.{◌≡◌, ℕ, zero, suc, ◌+◌, ◌-◌, ◌^◌, ◌<◌, ◌≤◌, Bool, true, false, ltb, leb, eqb, ◌&&◌, List, [], ◌∷◌, ◌++◌, length, refl, sym, ap, subst, ◌∙◌, arith}
use Rattle.std.specs.Prelude.{map, codes}
use Rattle.std.specs.List.{AllZip, AllByRecursion, list_all, flat_map}
use Rattle.std.specs.Fmt.{decimal}
use Rattle.text_lines.specs.Name.{is_name}
use Rattle.text_lines.specs.Printed.{IsPlain, IsWord, IsLineOfWords}
use Rattle.text_lines.proofs.PrintedWords.{decimal_word, decimal_number, plain_from, name_word}
use Rattle.labels.specs.Label.{Label, ClassEntry}
use Rattle.labels.specs.Order.{IsLabel}
use Rattle.labels.specs.Text.{AreCategories}
use Rattle.labels.specs.Spelling.{listed, joined, half_text, label_text}
use Rattle.labels.proofs.Printed.{listed_rises, text_is}
use Rattle.config_text.specs.Text.{SpellsWord}
use Rattle.script_lang.specs.declared.instr.Instr.{Instr}
use Rattle.config_text.specs.declared.config.Pool.{Pool}
use Rattle.config_text.specs.declared.config.Script.{Script}
use Rattle.config_text.specs.declared.config.ProcessLine.{ProcessLine}
use Rattle.config_text.specs.declared.config.Item.{Item}
use Rattle.config_text.specs.declared.config.Item.TheVariants as item
use Rattle.config_text.specs.Written.{Word, fixed, number, label, register, immediate, target, events, word_text, texts_of}

plain_append : (xs ys : List ℕ) → AllByRecursion IsPlain xs → AllByRecursion IsPlain ys → AllByRecursion IsPlain (xs ++ ys)
plain_append [] ys a b = b
plain_append (x ∷ xs) ys a b = (a.0, plain_append xs ys a.1 b)

some_more : (xs ys : List ℕ) → 0 < length ys → 0 < length (xs ++ ys)
some_more [] ys some = some
some_more (x ∷ xs) ys some = omega arith

word_append : (xs ys : List ℕ) → AllByRecursion IsPlain xs → IsWord ys → IsWord (xs ++ ys)
word_append xs ys a b = (some_more xs ys b.0, plain_append xs ys a b.1)

mark : (c : ℕ) → 36 ≤ c → c ≤ 126 → IsPlain c
mark c low high = record { low = omega arith; high = high; mark = λ e. omega (arith, e) }

word_cons : (c : ℕ) (ys : List ℕ) → 36 ≤ c → c ≤ 126 → AllByRecursion IsPlain ys → IsWord (c ∷ ys)
word_cons c ys low high all = (omega arith, (mark c low high, all))

-- ---- labels

joined_plain : (ns : List ℕ) → AllByRecursion (λ n. n < 2 ^ 64) ns → AllByRecursion IsPlain (joined ns)
joined_plain [] all = tt
joined_plain (n ∷ []) all = (decimal_word n all.0).1
joined_plain (n ∷ m ∷ ms) all = plain_append (decimal n) (44 ∷ joined (m ∷ ms)) (decimal_word n all.0).1 (mark 44 (omega arith) (omega arith), joined_plain (m ∷ ms) all.1)

categories_small : (low : ℕ) (ns : List ℕ) → AreCategories low ns → AllByRecursion (λ n. n < 2 ^ 64) ns
categories_small low [] all = tt
categories_small low (n ∷ ns) all = (omega (arith, all.1), categories_small (n + 1) ns all.2)

half_word : (level word : ℕ) → level ≤ 15 → IsWord (half_text level word)
half_word level word low =
    word_append (decimal level) (123 ∷ (joined (listed 32 word) ++ 125 ∷ [])) (decimal_word level (omega arith)).1
    (word_cons 123 (joined (listed 32 word) ++ 125 ∷ []) (omega arith) (omega arith)
    (plain_append (joined (listed 32 word)) (125 ∷ []) (joined_plain (listed 32 word) (categories_small 0 (listed 32 word) (listed_rises 32 word (omega arith)).0)) (mark 125 (omega arith) (omega arith), tt)))

pub label_word : (l : Label) → IsLabel l → IsWord (label_text l)
unfolding label_text
label_word l is =
    word_append (half_text l.secrecy_level l.secrecy_cats) (47 ∷ half_text l.integrity_level l.integrity_cats) (half_word l.secrecy_level l.secrecy_cats is.secrecy_level).1
    (word_cons 47 (half_text l.integrity_level l.integrity_cats) (omega arith) (omega arith) (half_word l.integrity_level l.integrity_cats is.integrity_level).1)

-- ---- words

-- what a word of a line outside a script must be to be written plainly
abbrev pub IsFineWord : Word → Type 0
IsFineWord (fixed text) = IsWord text
IsFineWord (number n) = n < 2 ^ 64
IsFineWord (label l) = IsLabel l
IsFineWord (register n) = ⊥
IsFineWord (immediate n) = ⊥
IsFineWord (target n) = ⊥
IsFineWord (events p c n) = (p < 2 ^ 64) × (c < 2 ^ 64) × (n < 2 ^ 64)

fine_word : (w : Word) → IsFineWord w → IsWord (word_text w)
fine_word (fixed text) fine = fine
fine_word (number n) fine = decimal_word n fine
fine_word (label l) fine = label_word l fine
fine_word (register n) fine = absurd fine
fine_word (immediate n) fine = absurd fine
fine_word (target n) fine = absurd fine
fine_word (events p c n) fine =
    word_append (decimal p) (46 ∷ (decimal c ++ 42 ∷ decimal n)) (decimal_word p fine.0).1
    (word_cons 46 (decimal c ++ 42 ∷ decimal n) (omega arith) (omega arith)
    (plain_append (decimal c) (42 ∷ decimal n) (decimal_word c fine.1).1 (mark 42 (omega arith) (omega arith), (decimal_word n fine.2).1)))

fine_spells : (w : Word) → IsFineWord w → SpellsWord (word_text w) w
fine_spells (fixed text) fine = refl
fine_spells (number n) fine = decimal_number n fine
fine_spells (label l) fine = text_is l fine
fine_spells (register n) fine = absurd fine
fine_spells (immediate n) fine = absurd fine
fine_spells (target n) fine = absurd fine
fine_spells (events p c n) fine = (decimal p, decimal c, decimal n, refl, decimal_number p fine.0, decimal_number c fine.1, decimal_number n fine.2)

abbrev pub IsFineLine : List Word → Type 0
IsFineLine ws = (0 < length ws) × AllByRecursion IsFineWord ws

abbrev pub AreFine : List (List Word) → Type 0
AreFine ls = AllByRecursion IsFineLine ls

fine_words : (ws : List Word) → AllByRecursion IsFineWord ws → AllByRecursion IsWord (map word_text ws)
fine_words [] fine = tt
fine_words (w ∷ ws) fine = (fine_word w fine.0, fine_words ws fine.1)

pub all_spelled : (ws : List Word) → AllByRecursion IsFineWord ws → AllZip SpellsWord (map word_text ws) ws
all_spelled [] fine = tt
all_spelled (w ∷ ws) fine = (fine_spells w fine.0, all_spelled ws fine.1)

length_texts : (ws : List Word) → 0 < length ws → 0 < length (map word_text ws)
length_texts [] some = some
length_texts (w ∷ ws) some = omega arith

pub fine_line : (ws : List Word) → IsFineLine ws → IsLineOfWords (map word_text ws)
fine_line ws fine = (length_texts ws fine.0, fine_words ws fine.1)

pub fine_append : (xs ys : List (List Word)) → AreFine xs → AreFine ys → AreFine (xs ++ ys)
fine_append [] ys a b = b
fine_append (x ∷ xs) ys a b = (a.0, fine_append xs ys a.1 b)

-- a fixed word
pub fixed_word : (w : List ℕ) → 0 < length w → list_all (λ b. (leb 33 b && leb b 126) && Rattle.std.proofs.Common.not (eqb b 35)) w ≡ true → IsWord w
fixed_word w some e = (some, plain_from w e)
