-- Which texts spell a release order, and what is answered to a text.
use Rattle.std.specs.Prelude.{◌≡◌, ℕ, ◌+◌, List, [], ◌∷◌, ◌++◌, map, codes, length, true, Result, Ok, Err}
use Rattle.std.specs.List.{AllZip, list_all}
use Rattle.text_lines.specs.Lines.{lines, words_of}
use Rattle.text_lines.specs.Name.{all_allowed}
use Rattle.text_lines.specs.Faults.{IsFirstFault, IsFaultless}
use Rattle.labels.specs.Label.{ClassEntry}
use Rattle.config_text.specs.Written.{Word, fixed, number, label, number_line, end_line}
use Rattle.config_text.specs.Text.{SpellsWord}
use Rattle.config_text.specs.Rules.{Text, Line}
use Rattle.release_guard.specs.declared.order.Release.{Release}
use Rattle.release_guard.specs.declared.order.Order.{Order}
use Rattle.release_guard.specs.declared.fault.Code.{Code}
use Rattle.release_guard.specs.declared.fault.OrderError.{OrderError}
use Rattle.release_guard.specs.declared.fault.OrderError.TheVariants as error
use Rattle.release_guard.specs.Codes.{code_number}
use Rattle.release_guard.specs.Valid.{IsOrder}
use Rattle.release_guard.specs.Place.{Place, start, order_in}
use Rattle.release_guard.specs.Rules.{order_rules}

-- ---- the lines of an order

-- what a line says: words, and for a release also the number of the line
pub data Said : Type 0 where
  says : List Word → Said
  says_at : ℕ → List Word → Said

-- `gemrelease 1`
abbrev pub header_line : Said
header_line = says (fixed (codes "gemrelease") ∷ fixed (codes "1") ∷ [])

-- `class NAME LABEL`
abbrev pub class_line : ClassEntry → Said
class_line c = says (fixed (codes "class") ∷ fixed c.name ∷ label c.label ∷ [])

-- `release M S to M S`, at its line
abbrev pub release_line : Release → Said
release_line x =
    says_at x.line
    (fixed (codes "release") ∷ number x.from.mentor ∷ number x.from.serial ∷ fixed (codes "to") ∷ number x.to.mentor ∷ number x.to.serial ∷ [])

-- the export and the end
abbrev pub last_lines : Order → List Said
last_lines k = says (number_line (codes "export") k.export) ∷ says end_line ∷ []

-- the lines of an order
abbrev pub order_lines : Order → List Said
order_lines k =
    header_line ∷ says (number_line (codes "classes") (length k.table)) ∷ (map class_line k.table ++ (map release_line k.releases ++ last_lines k))

-- ---- a text

-- a line with words, behind lines that come later
abbrev pub with_words : ℕ → List Text → List (ℕ × List Text) → List (ℕ × List Text)
with_words n [] more = more
with_words n (w ∷ ws) more = (n, w ∷ ws) ∷ more

-- The lines that have words, each with its number, where the first line has the number n. A line without a word means
-- nothing.
abbrev pub lines_with_words : ℕ → List Line → List (ℕ × List Text)
lines_with_words n [] = []
lines_with_words n (line ∷ more) = with_words n (words_of line) (lines_with_words (n + 1) more)

-- The line spells what it says.
abbrev pub SpellsLine : ℕ × List Text → Said → Type 0
SpellsLine line (says words) = AllZip SpellsWord line.1 words
SpellsLine line (says_at n words) = (line.0 ≡ n) × AllZip SpellsWord line.1 words

-- The text spells the order.
pub record Spells (text : List ℕ) (k : Order) : Type 0 where
  pub bytes : list_all all_allowed (lines text) ≡ true
  pub spelled : AllZip SpellsLine (lines_with_words 1 (lines text)) (order_lines k)
  pub valid : IsOrder k

-- ---- answers

-- the first faulty line of the text, counted from 1, and the number of its least code
abbrev pub IsFault : List ℕ → ℕ → ℕ → Type 0
IsFault text at n = (c : Code) × (n ≡ code_number c) × IsFirstFault order_rules start (lines text) at c

-- No line of the text has a code, and the lines say this order.
abbrev pub Says : List ℕ → Order → Type 0
Says text k = (q : Place) × IsFaultless order_rules start (lines text) q × (order_in q ≡ k)

-- The text spells some order.
abbrev pub SpellsOne : List ℕ → Type 0
SpellsOne text = (k : Order) × Spells text k

-- Some line of the text is the first faulty one, with its least code.
abbrev pub HasFault : List ℕ → Type 0
HasFault text = (line : ℕ) × (code : ℕ) × IsFault text line code

-- what is answered: the order that the text spells, its first fault, or no memory
abbrev pub AnswersText : List ℕ → Result Order OrderError → Type 0
AnswersText text (Ok k) = Spells text k
AnswersText text (Err (error.Fault at n)) = IsFault text at n
AnswersText text (Err error.NoMemory) = Unit {0}

-- It is read as this order, unless memory runs out.
abbrev pub IsReadAs : Order → Result Order OrderError → Type 0
IsReadAs k (Ok c) = c ≡ k
IsReadAs k (Err (error.Fault at n)) = ⊥
IsReadAs k (Err error.NoMemory) = Unit {0}

-- It is refused with this fault, unless memory runs out.
abbrev pub IsRefusedWith : ℕ → ℕ → Result Order OrderError → Type 0
IsRefusedWith at n (Ok k) = ⊥
IsRefusedWith at n (Err (error.Fault a m)) = (a ≡ at) × (m ≡ n)
IsRefusedWith at n (Err error.NoMemory) = Unit {0}
