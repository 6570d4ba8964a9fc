-- A label has one text.
use Rattle.std.proofs.Common.{◌≡◌, ℕ, ◌+◌, ◌^◌, ◌<◌, ◌≤◌, true, false, cond, eqb, List, [], ◌∷◌, ◌++◌, refl, sym, ap, subst, ◌∙◌, arith, inl, inr}
use Rattle.std.specs.Prelude.{Contains}
use Rattle.std.specs.Fmt.{decimal}
use Rattle.std.specs.List.{slice_split, onto_first, AllZip, AllByRecursion}
use Rattle.std.proofs.lemmas.Bool.{eqb-true}
use Rattle.std.proofs.lemmas.Fmt.{decimal-digits_value}
use Rattle.std.proofs.lemmas.Str.Parse.{numerals_by_value, tells_digits}
use Rattle.text_lines.specs.Number.{IsNumber}
use Rattle.labels.specs.Label.{Label}
use Rattle.labels.specs.Text.{AreNumbers, IsHalf, AreCategories, IsSetOf, Spells}
use Rattle.labels.specs.Spelling.{listed, joined, half_text, label_text}
use Rattle.labels.proofs.Printed.{IsListed, listed_is, listed_rises, text_is}
use Rattle.labels.proofs.Answer.{read_answer, Contains-cons_cases, Contains-here, Contains-there}

-- ---- numbers and lists of them

number_text : (text : List ℕ) (n : ℕ) → IsNumber text n → n < 2 ^ 64 → text ≡ decimal n
number_text text n is lt =
    sym (decimal-digits_value (numerals_by_value _ tells_digits) text is.digits.1 is.digits.0 is.plain (omega (arith, is.value, lt))) ∙ ap decimal is.value

-- parts with commas between
abbrev commas : List (List ℕ) → List ℕ
commas [] = []
commas (p ∷ []) = p
commas (p ∷ q ∷ qs) = p ++ 44 ∷ commas (q ∷ qs)

abbrev split_commas : List ℕ → List (List ℕ)
split_commas text = slice_split (λ c. eqb c 44) text

some_part : (bs : List ℕ) → (p : List ℕ) × (ps : List (List ℕ)) × (split_commas bs ≡ p ∷ ps)
some_part [] = ([], [], refl)
some_part (b ∷ bs) =
    let rest = some_part bs in
    elim (eqb b 44) as (λ t. (p : List ℕ) × (ps : List (List ℕ)) × (cond t ([] ∷ split_commas bs) (onto_first b (split_commas bs)) ≡ p ∷ ps)) [
      | true ↦ ([], split_commas bs, refl)
      | false ↦ (b ∷ rest.0, rest.1, ap (onto_first b) rest.2)
    ]

commas_front : (b : ℕ) (ps : List (List ℕ)) → commas (onto_first b ps) ≡ b ∷ commas ps
commas_front b [] = refl
commas_front b (p ∷ []) = refl
commas_front b (p ∷ q ∷ qs) = refl

comma_front : (bs : List ℕ) → commas ([] ∷ split_commas bs) ≡ 44 ∷ commas (split_commas bs)
comma_front bs = let part = some_part bs in rw part.2 refl

rejoined : (bs : List ℕ) → commas (split_commas bs) ≡ bs
rejoined [] = refl
rejoined (b ∷ bs) =
    elim (eqb b 44) as (λ t. eqb b 44 ≡ t → commas (cond t ([] ∷ split_commas bs) (onto_first b (split_commas bs))) ≡ b ∷ bs) [
      | true ↦ λ e. comma_front bs ∙ ap (λ (t : List ℕ). 44 ∷ t) (rejoined bs) ∙ ap (λ (n : ℕ). n ∷ bs) (sym (eqb-true b 44 e))
      | false ↦ λ e. commas_front b (split_commas bs) ∙ ap (λ (t : List ℕ). b ∷ t) (rejoined bs)
    ] refl

parts_joined : (parts : List (List ℕ)) (ns : List ℕ) → AllZip IsNumber parts ns → AllByRecursion (λ n. n < 2 ^ 64) ns → commas parts ≡ joined ns
parts_joined [] [] are fit = refl
parts_joined [] (n ∷ ns) are fit = absurd are
parts_joined (t ∷ ts) [] are fit = absurd are
parts_joined (t ∷ []) (n ∷ []) are fit = number_text t n are.0 fit.0
parts_joined (t ∷ []) (n ∷ m ∷ ms) are fit = absurd are.1
parts_joined (t ∷ u ∷ us) (n ∷ []) are fit = absurd are.1
parts_joined (t ∷ u ∷ us) (n ∷ m ∷ ms) are fit =
    ap (λ (x : List ℕ). x ++ 44 ∷ commas (u ∷ us)) (number_text t n are.0 fit.0) ∙ ap (λ (x : List ℕ). decimal n ++ 44 ∷ x) (parts_joined (u ∷ us) (m ∷ ms) are.1 fit.1)

joined_text : (text ns : List ℕ) → AreNumbers text ns → AllByRecursion (λ n. n < 2 ^ 64) ns → text ≡ joined ns
joined_text [] [] are fit = refl
joined_text [] (n ∷ ns) are fit = absurd are
joined_text (b ∷ bs) ns are fit = sym (rejoined (b ∷ bs)) ∙ parts_joined (split_commas (b ∷ bs)) ns are fit

-- ---- lists of categories that rise

rising_low : (low k : ℕ) (ns : List ℕ) → AreCategories low ns → Contains ns k → (low ≤ k) × (k ≤ 31)
rising_low low k [] rise c = absurd (omega (arith, c.1))
rising_low low k (n ∷ ns) rise c = elim (Contains-cons_cases n k ns c) [
  | inl same ↦ (omega (arith, same, rise.0), omega (arith, same, rise.1))
  | inr later ↦ let more = rising_low (n + 1) k ns rise.2 later in (omega (arith, more.0, rise.0), more.1)
]

none_in : (k : ℕ) → Contains [] k → ⊥
none_in k c = omega (arith, c.1)

rising_same : (low : ℕ) (ns ms : List ℕ) → AreCategories low ns → AreCategories low ms → ((k : ℕ) → Contains ns k → Contains ms k) → ((k : ℕ) → Contains ms k → Contains ns k) → ns ≡ ms
rising_same low [] [] a b f g = refl
rising_same low [] (m ∷ ms) a b f g = absurd (none_in m (g m (Contains-here m ms)))
rising_same low (n ∷ ns) [] a b f g = absurd (none_in n (f n (Contains-here n ns)))
rising_same low (n ∷ ns) (m ∷ ms) a b f g =
    let least_n : m ≤ n = elim (Contains-cons_cases m n ms (f n (Contains-here n ns))) [ inl same ↦ omega (arith, same) | inr later ↦ omega (arith, (rising_low (m + 1) n ms b.2 later).0) ] in
    let least_m : n ≤ m = elim (Contains-cons_cases n m ns (g m (Contains-here m ms))) [ inl same ↦ omega (arith, same) | inr later ↦ omega (arith, (rising_low (n + 1) m ns a.2 later).0) ] in
    let same : n ≡ m = omega (arith, least_n, least_m) in
    let rest : ns ≡ ms = rising_same (n + 1) ns ms a.2 (subst (λ x. AreCategories (x + 1) ms) (sym same) b.2)
    (λ k c. elim (Contains-cons_cases m k ms (f k (Contains-there n k ns c))) [ inl e ↦ absurd (omega (arith, e, same, (rising_low (n + 1) k ns a.2 c).0)) | inr later ↦ later ])
    (λ k c. elim (Contains-cons_cases n k ns (g k (Contains-there m k ms c))) [ inl e ↦ absurd (omega (arith, e, same, (rising_low (m + 1) k ms b.2 c).0)) | inr later ↦ later ]) in
    ap (λ (x : ℕ). x ∷ ns) same ∙ ap (λ (x : List ℕ). m ∷ x) rest

all_listed : (ns : List ℕ) (word : ℕ) → AreCategories 0 ns → IsSetOf ns word → ns ≡ listed 32 word
unfolding IsListed
all_listed ns word rise is =
    let listed_here : IsListed 32 word (listed 32 word) = listed_is 32 word in
    rising_same 0 ns (listed 32 word) rise (listed_rises 32 word (omega arith)).0
    (λ k c. (listed_here k).1 (omega (arith, (rising_low 0 k ns rise c).1), (is k).1 c))
    (λ k c. (is k).0 ((listed_here k).0 c).1)

fit_categories : (low : ℕ) (ns : List ℕ) → AreCategories low ns → AllByRecursion (λ n. n < 2 ^ 64) ns
fit_categories low [] rise = tt
fit_categories low (n ∷ ns) rise = (omega (arith, rise.1), fit_categories (n + 1) ns rise.2)

-- ---- the whole text

one_half : (text : List ℕ) (level : ℕ) (cats : List ℕ) (word : ℕ) → IsHalf text level cats → level ≤ 15 → AreCategories 0 cats → IsSetOf cats word → text ≡ half_text level word
one_half text level cats word is low rise set =
    let first : is.level_text ≡ decimal level = number_text is.level_text level is.level_is (omega (arith, low)) in
    let second : is.cats_text ≡ joined (listed 32 word) = joined_text is.cats_text cats is.cats_are (fit_categories 0 cats rise) ∙ ap joined (all_listed cats word rise set) in
    is.whole ∙ ap (λ (x : List ℕ). x ++ 123 ∷ (is.cats_text ++ 125 ∷ [])) first ∙ ap (λ (x : List ℕ). decimal level ++ 123 ∷ (x ++ 125 ∷ [])) second

pub one_text : (text : List ℕ) (l : Label) → Spells text l → text ≡ label_text l
unfolding label_text
one_text text l s =
    let form = s.1 in
    let is = s.2 in
    let first : form.secrecy_text ≡ half_text l.secrecy_level l.secrecy_cats =
    one_half form.secrecy_text s.0.secrecy_level s.0.secrecy_cats l.secrecy_cats form.secrecy is.levels.0 is.secrecy_cats.0 is.secrecy_cats.1 ∙ ap (λ n. half_text n l.secrecy_cats) (sym is.secrecy_level) in
    let second : form.integrity_text ≡ half_text l.integrity_level l.integrity_cats =
    one_half form.integrity_text s.0.integrity_level s.0.integrity_cats l.integrity_cats form.integrity is.levels.1 is.integrity_cats.0 is.integrity_cats.1 ∙ ap (λ n. half_text n l.integrity_cats) (sym is.integrity_level) in
    form.whole ∙ ap (λ (x : List ℕ). x ++ 47 ∷ form.integrity_text) first ∙ ap (λ (x : List ℕ). half_text l.secrecy_level l.secrecy_cats ++ 47 ∷ x) second

pub ruleset laws = (text_is, one_text, read_answer)
