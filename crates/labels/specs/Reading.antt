-- A label read from left to right. `read_label` is the answer of `Label::parse` as a function, and `label_of_text` the
-- label alone; the rest serves private functions.
use Rattle.std.specs.Prelude.{ℕ, ◌+◌, ◌-◌, ◌*◌, ◌^◌, ◌%◌, List, [], ◌∷◌, length, take, slice_index, Option, Some, None, option_map, option_and_then, Result, Ok, Err, ◌==◌, ◌&&◌, nat_le, nat_lt, if◌then◌else◌, bit_or, min}
use Rattle.std.specs.Str.Parse.{digits_value}
use Rattle.std.specs.Result.{result_ok}
use Rattle.text_lines.specs.declared.decimal.NumberFault.{NumberFault}
use Rattle.text_lines.specs.declared.decimal.NumberFault.TheVariants.{Spelling as Misspelt, Large}
use Rattle.text_lines.specs.Number.{number_of}
use Rattle.text_lines.specs.Lines.{cut}
use Rattle.labels.specs.Label.{Label}
use Rattle.labels.specs.declared.fault.LabelFault.{LabelFault}
use Rattle.labels.specs.declared.fault.LabelFault.TheVariants.{Spelling, Level, Category}
use Rattle.labels.specs.declared.half.Half.{Half}
use Rattle.labels.specs.declared.half.Rising.{Rising}
use Rattle.labels.specs.Text.{Parts, pieces}

infixl 10 ◌>>=◌
-- the next step, where this one gave something
abbrev ◌>>=◌ : {A B : Type 0} → Option A → (A → Option B) → Option B
o >>= f = option_and_then f o

-- ---- the form

-- the number, of any size
abbrev pub number_in : List ℕ → Result ℕ NumberFault → Option ℕ
number_in text (Ok n) = Some n
number_in text (Err Large) = Some (digits_value 10 text)
number_in text (Err Misspelt) = None

-- the number that the text spells, of any size
unfoldable pub spelled : List ℕ → Option ℕ
spelled text = number_in text (number_of text)

-- the numbers that the texts spell
abbrev pub numbers_of : List (List ℕ) → Option (List ℕ)
numbers_of [] = Some []
numbers_of (t ∷ ts) = do
  n ← spelled t
  ns ← numbers_of ts
  Some (n ∷ ns)

-- what stands before the closing brace
abbrev pub without_brace : List ℕ → Option (List ℕ)
without_brace text = if slice_index text (length text - 1) == 125 then Some (take (length text - 1) text) else None

-- the level and the categories of a half
unfoldable pub half_of : List ℕ → Option (ℕ × List ℕ)
half_of text = do
  front ← without_brace text
  parts ← cut 123 front
  level ← spelled parts.0
  cats ← numbers_of (pieces parts.1)
  Some (level, cats)

-- both halves
unfoldable pub form_of : List ℕ → Option ((ℕ × List ℕ) × (ℕ × List ℕ))
form_of text = do
  halves ← cut 47 text
  secrecy ← half_of halves.0
  integrity ← half_of halves.1
  Some (secrecy, integrity)

-- both halves as the parts of a text
abbrev pub parts_of : (ℕ × List ℕ) × (ℕ × List ℕ) → Parts
parts_of halves = record { secrecy_level = halves.0.0; secrecy_cats = halves.0.1; integrity_level = halves.1.0; integrity_cats = halves.1.1 }

-- ---- the numbers

-- no category, and 0 may come next
abbrev pub start : Rising
start = record { word = 0; next = 0 }

-- one more category, where it rises and is at most 31
abbrev pub with_category : Rising → ℕ → Option Rising
with_category cats n = if nat_le cats.next n && nat_lt n 32 then Some (record { word = bit_or cats.word (1 * 2 ^ n % 2 ^ 32); next = n + 1 }) else None

-- likewise, where all so far did
abbrev pub with_optional : Option Rising → ℕ → Option Rising
with_optional cats n = option_and_then (λ c. with_category c n) cats

-- the word of the categories so far with these
abbrev pub rising : Option Rising → List ℕ → Option ℕ
rising None ns = None
rising (Some cats) [] = Some cats.word
rising (Some cats) (n ∷ ns) = rising (with_category cats n) ns

-- a half as it is kept while it is read
abbrev pub seen_half : ℕ × List ℕ → Half
seen_half half = record { level = min half.0 (2 ^ 64 - 1); cats = rising (Some start) half.1 }

-- both halves, likewise
abbrev pub seen_form : (ℕ × List ℕ) × (ℕ × List ℕ) → Half × Half
seen_form halves = (seen_half halves.0, seen_half halves.1)

-- the label of these levels and category words
abbrev pub label_with : ℕ → ℕ → Option ℕ → Option ℕ → Result Label LabelFault
label_with s i (Some a) (Some b) = Ok (record { secrecy_level = s; secrecy_cats = a; integrity_level = i; integrity_cats = b })
label_with s i (Some a) None = Err Category
label_with s i None o = Err Category

-- what is answered to two halves
abbrev pub label_of_halves : Half → Half → Result Label LabelFault
label_of_halves s i = if nat_lt 15 s.level then Err Level else if nat_lt 15 i.level then Err Level else label_with s.level i.level s.cats i.cats

-- what is answered to two halves, or to a text without them
abbrev pub label_of_form : Option (Half × Half) → Result Label LabelFault
label_of_form None = Err Spelling
label_of_form (Some halves) = label_of_halves halves.0 halves.1

-- ---- the answer

-- what `Label::parse` answers to a text
unfoldable pub read_label : List ℕ → Result Label LabelFault
read_label text = label_of_form (option_map seen_form (form_of text))

-- the label that the text spells
abbrev pub label_of_text : List ℕ → Option Label
label_of_text text = result_ok (read_label text)
