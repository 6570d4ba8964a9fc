-- Lines of numbers.
use Rattle.std.proofs.Common.{◌≡◌, ℕ, ◌+◌, ◌<◌, ◌≤◌, List, [], ◌∷◌, ◌++◌, map, sym, ap, ◌∙◌, arith}
use Rattle.std.proofs.lemmas.List.{map_push, flat_map_more}
use Rattle.std.specs.Fmt.{decimal}
use Rattle.std.specs.List.{flat_map, join_with_byte}
use Rattle.lists.specs.Lists.{below}
use Rattle.report.proofs.Texts.{blanked, join-first}
use Rattle.report.proofs.Numbers.{below_more}

-- some numbers behind a word
abbrev pub numbers_behind : List ℕ → List ℕ → List ℕ
numbers_behind word numbers = word ++ flat_map blanked (map decimal numbers)

number_pushed : (word numbers : List ℕ) (v : ℕ) → numbers_behind word numbers ++ 32 ∷ decimal v ≡ numbers_behind word (numbers ++ v ∷ [])
number_pushed word numbers v =
    flat_map_more blanked word (map decimal numbers) (decimal v) ∙ ap (λ (t : List (List ℕ)). word ++ flat_map blanked t) (sym (map_push decimal numbers v))

-- the number of one place more
pub place_more : (word line next : List ℕ) (at : ℕ → ℕ) (i v : ℕ) → line ≡ numbers_behind word (map at (below i)) → next ≡ line ++ 32 ∷ decimal v → v ≡ at i
    → next ≡ numbers_behind word (map at (below (i + 1)))
place_more word line next at i v e n r =
    n ∙ (ap (λ (t : List ℕ). t ++ 32 ∷ decimal v) e ∙ (ap (λ (w : ℕ). numbers_behind word (map at (below i)) ++ 32 ∷ decimal w) r
    ∙ (number_pushed word (map at (below i)) (at i) ∙ ap (numbers_behind word) (sym (ap (map at) (below_more i) ∙ map_push at (below i) i)))))

-- all numbers, and the line feed
pub places_end : (word line next : List ℕ) (at : ℕ → ℕ) (i n : ℕ) → i < n + 1 → n ≤ i → line ≡ numbers_behind word (map at (below i)) → next ≡ line ++ 10 ∷ []
    → next ≡ join_with_byte 32 (word ∷ map decimal (map at (below n))) ++ 10 ∷ []
places_end word line next at i n h p e f =
    let same : i ≡ n = omega arith in
    f ∙ (ap (λ (t : List ℕ). t ++ 10 ∷ []) (e ∙ ap (λ (m : ℕ). numbers_behind word (map at (below m))) same) ∙ ap (λ (t : List ℕ). t ++ 10 ∷ []) (sym (join-first word (map decimal (map at (below n))))))
