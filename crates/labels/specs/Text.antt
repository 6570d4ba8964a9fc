-- Labels in text: `L{cats}/L{cats}`, the secrecy half first.
use Rattle.std.specs.Prelude.{◌≡◌, ℕ, ◌+◌, ◌≤◌, ◌↔◌, List, [], ◌∷◌, ◌++◌, Contains, Result, Ok, Err}
use Rattle.std.specs.List.{slice_split, AllZip}
use Rattle.std.specs.Prelude.{◌==◌}
use Rattle.text_lines.specs.Number.{IsNumber}
use Rattle.labels.specs.Label.{Label}
use Rattle.labels.specs.declared.fault.LabelFault.{LabelFault}
use Rattle.labels.specs.declared.fault.LabelFault.TheVariants.{Spelling, Level, Category}
use Rattle.labels.specs.Order.{HasCategory}

-- ---- the form

-- what stands between commas
abbrev pub pieces : List ℕ → List (List ℕ)
pieces [] = []
pieces (b ∷ bs) = slice_split (λ c. c == 44) (b ∷ bs)

-- numbers with commas between, or nothing
abbrev pub AreNumbers : List ℕ → List ℕ → Type 0
AreNumbers text ns = AllZip IsNumber (pieces text) ns

-- `L{cats}`
pub record IsHalf (text : List ℕ) (level : ℕ) (cats : List ℕ) : Type 0 where
  pub level_text : List ℕ
  pub cats_text : List ℕ
  pub whole : text ≡ level_text ++ 123 ∷ (cats_text ++ 125 ∷ [])
  pub level_is : IsNumber level_text level
  pub cats_are : AreNumbers cats_text cats

-- the numbers in a label's text, of any size
pub record Parts : Type 0 where
  pub secrecy_level : ℕ
  pub secrecy_cats : List ℕ
  pub integrity_level : ℕ
  pub integrity_cats : List ℕ

-- two halves with `/` between
pub record HasForm (text : List ℕ) (p : Parts) : Type 0 where
  pub secrecy_text : List ℕ
  pub integrity_text : List ℕ
  pub whole : text ≡ secrecy_text ++ 47 ∷ integrity_text
  pub secrecy : IsHalf secrecy_text p.secrecy_level p.secrecy_cats
  pub integrity : IsHalf integrity_text p.integrity_level p.integrity_cats

-- ---- the answer

-- Both levels are at most 15.
abbrev pub HasLevels : Parts → Type 0
HasLevels p = (p.secrecy_level ≤ 15) × (p.integrity_level ≤ 15)

-- categories that rise, each at least low and at most 31
abbrev pub AreCategories : ℕ → List ℕ → Type 0
AreCategories low [] = Unit {0}
AreCategories low (n ∷ ns) = (low ≤ n) × (n ≤ 31) × AreCategories (n + 1) ns

-- the word has just these categories
abbrev pub IsSetOf : List ℕ → ℕ → Type 0
IsSetOf ns word = (k : ℕ) → HasCategory word k ↔ Contains ns k

-- the parts are those of the label
pub record IsLabelOf (p : Parts) (l : Label) : Type 0 where
  pub levels : HasLevels p
  pub secrecy_level : l.secrecy_level ≡ p.secrecy_level
  pub secrecy_cats : AreCategories 0 p.secrecy_cats × IsSetOf p.secrecy_cats l.secrecy_cats
  pub integrity_level : l.integrity_level ≡ p.integrity_level
  pub integrity_cats : AreCategories 0 p.integrity_cats × IsSetOf p.integrity_cats l.integrity_cats

-- what is answered to a text of this form: a level too high comes before a faulty category
abbrev pub IsPartsAnswer : Parts → Result Label LabelFault → Type 0
IsPartsAnswer p (Ok l) = IsLabelOf p l
IsPartsAnswer p (Err Spelling) = ⊥
IsPartsAnswer p (Err Level) = ¬ HasLevels p
IsPartsAnswer p (Err Category) = HasLevels p × ¬ (AreCategories 0 p.secrecy_cats × AreCategories 0 p.integrity_cats)

-- what is answered to a text
abbrev pub IsAnswer : List ℕ → Result Label LabelFault → Type 0
IsAnswer text (Err Spelling) = (p : Parts) → HasForm text p → ⊥
IsAnswer text r = (p : Parts) × HasForm text p × IsPartsAnswer p r

-- the text spells the label
abbrev pub Spells : List ℕ → Label → Type 0
Spells text l = IsAnswer text (Ok l)
