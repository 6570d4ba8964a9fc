-- The pieces of the lines of segments.
use Rattle.std.proofs.Common.{◌≡◌, ℕ, Bool, true, false, List, [], ◌∷◌, ◌++◌, ◌+◌, ◌<◌, length, get_or, take, refl, sym, ap, ◌∙◌, append_assoc, append-nil, arith, Option, Some, None, map}
use Rattle.std.specs.Prelude.{codes, sum, ◌%◌, ◌^◌, cond}
use Rattle.std.specs.List.{flat_map, filter, filter_map, enumerate_from}
use Rattle.std.specs.Option.{option_map}
use Rattle.std.specs.Fmt.{decimal}
use Rattle.std.proofs.lemmas.List.{take_more, get_or_default, map-append, length-append}
use Rattle.std.proofs.lemmas.List.Sums.{sum_by-append}
use Rattle.std.proofs.lemmas.Grind.{flat_map-append}
use Rattle.lists.specs.Lists.{below}
use Rattle.std.proofs.Math.Nat.{mod-add-mod}
use Rattle.words_layout.specs.Segments.{seg}
use Rattle.words_layout.specs.declared.segment.SegId.{SegId}
use Rattle.words_layout.specs.declared.coding.Alias.{Alias}
use Rattle.class_model.specs.State.{identities}
use Rattle.class_model.specs.Report.{SeenSegment, line_of, words_text, entry_text, segment_text}
use Rattle.class_model.specs.Section.{seen_entries}
use Rattle.whole_machine.specs.Texts.{place_text, numbers_text, touched_text}
use Rattle.whole_machine.proofs.Counting.{below_more}
use Rattle.whole_machine.proofs.Pieces.{spaced_numbers}

pub entry_pieces : (out : List ℕ) (e : ℕ) (a : Alias) →
    out ++ codes "entry " ++ decimal e ++ codes " class " ++ decimal a.class ++ codes " brackets " ++ decimal a.r1 ++ codes " " ++ decimal a.r2 ++ codes " " ++ decimal a.r3 ++
    codes " size " ++ decimal a.size ++ codes " serial " ++ decimal a.serial ++ codes "\n" ≡ out ++ entry_text (e, a)
entry_pieces out e a = simp append_assoc

pub words_pieces : (out words : List ℕ) → out ++ codes "words" ++ numbers_text words ++ codes "\n" ≡ out ++ words_text (Some words)
words_pieces out words =
    ap (λ (t : List ℕ). t ++ codes "\n") (append_assoc out (codes "words") (numbers_text words)) ∙ append_assoc out (codes "words" ++ numbers_text words) (codes "\n") ∙
    ap (λ (t : List ℕ). out ++ (t ++ codes "\n")) (sym (spaced_numbers (codes "words") words))

segment_line : (out home : List ℕ) (m s w n t : ℕ) →
    out ++ codes "segment " ++ decimal m ++ codes " " ++ decimal s ++ codes " " ++ home ++ codes " writes " ++ decimal w ++ codes " count " ++ decimal n ++ codes " tickets " ++ decimal t ++ codes "\n"
    ≡ out ++ line_of (codes "segment" ∷ decimal m ∷ decimal s ∷ home ∷ codes "writes" ∷ decimal w ∷ codes "count" ∷ decimal n ∷ codes "tickets" ∷ decimal t ∷ [])
segment_line out home m s w n t = simp append_assoc

pub segment_pieces : (out : List ℕ) (x : SeenSegment) →
    out ++ codes "segment " ++ decimal x.seg.mentor ++ codes " " ++ decimal x.seg.serial ++ codes " " ++ x.home ++ codes " writes " ++ decimal x.writes ++ codes " count " ++ decimal x.count ++
    codes " tickets " ++ decimal x.tickets ++ codes "\n" ++ words_text x.words ++ flat_map entry_text x.entries ≡ out ++ segment_text x
segment_pieces out x =
    let line = line_of (codes "segment" ∷ decimal x.seg.mentor ∷ decimal x.seg.serial ∷ x.home ∷ codes "writes" ∷ decimal x.writes ∷ codes "count" ∷ decimal x.count ∷ codes "tickets" ∷ decimal x.tickets ∷ []) in
    ap (λ (t : List ℕ). t ++ words_text x.words ++ flat_map entry_text x.entries) (segment_line out x.home x.seg.mentor x.seg.serial x.writes x.count x.tickets) ∙
    ap (λ (t : List ℕ). t ++ flat_map entry_text x.entries) (append_assoc out line (words_text x.words)) ∙ append_assoc out (line ++ words_text x.words) (flat_map entry_text x.entries)

-- the entries from a number on
abbrev pub entries_from : ℕ → List (Option Alias) → List ℕ
entries_from n xs = flat_map entry_text (filter_map (λ (item : ℕ × Option Alias). option_map (λ (a : Alias). (item.0, a)) item.1) (enumerate_from n xs))

entries_head : (n : ℕ) (x : Option Alias) (xs : List (Option Alias)) → entries_from n (x ∷ xs) ≡ place_text n x ++ entries_from (n + 1) xs
entries_head n None xs = refl
entries_head n (Some a) xs = refl

entries_more : (n : ℕ) (xs : List (Option Alias)) (x : Option Alias) → entries_from n (xs ++ x ∷ []) ≡ entries_from n xs ++ place_text (n + length xs) x
entries_more n [] x =
    let e : n + 0 ≡ n = omega arith in
    entries_head n x [] ∙ append-nil (place_text n x) ∙ ap (λ i. place_text i x) (sym e)
entries_more n (y ∷ xs) x =
    let e : n + 1 + length xs ≡ n + length (y ∷ xs) = omega arith in
    entries_head n y (xs ++ x ∷ []) ∙ ap (λ t. place_text n y ++ t) (entries_more (n + 1) xs x ∙ ap (λ i. entries_from (n + 1) xs ++ place_text i x) e) ∙
    sym (append_assoc (place_text n y) (entries_from (n + 1) xs) (place_text (n + length (y ∷ xs)) x)) ∙
    ap (λ t. t ++ place_text (n + length (y ∷ xs)) x) (sym (entries_head n y xs))

-- one more entry
pub entry_pushed : (xs : List (Option Alias)) (i : ℕ) (d : Option Alias) (start out : List ℕ) → i < length xs → out ≡ start ++ flat_map entry_text (seen_entries (take i xs)) →
    out ++ place_text i (get_or xs i d) ≡ start ++ flat_map entry_text (seen_entries (take (i + 1) xs))
entry_pushed xs i d start out lt e =
    let n : 0 + length (take i xs) ≡ i = omega (arith, Rattle.std.proofs.lemmas.List.length-take i xs) in
    ap (λ t. t ++ place_text i (get_or xs i d)) e ∙ append_assoc start (entries_from 0 (take i xs)) (place_text i (get_or xs i d)) ∙
    ap (λ t. start ++ t) (ap (λ j. entries_from 0 (take i xs) ++ place_text j (get_or xs i d)) (sym n) ∙ sym (entries_more 0 (take i xs) (get_or xs i d)) ∙ ap (λ ys. entries_from 0 ys) (sym (take_more xs i d lt)))

-- one more serial of a mentor
pub serial_pushed : (f : SegId → List ℕ) (m s : ℕ) (start out : List ℕ) → out ≡ start ++ flat_map f (map (λ i. seg m i) (below s)) →
    out ++ f (seg m s) ≡ start ++ flat_map f (map (λ i. seg m i) (below (s + 1)))
serial_pushed f m s start out e =
    ap (λ t. t ++ f (seg m s)) e ∙ append_assoc start (flat_map f (map (λ i. seg m i) (below s))) (f (seg m s)) ∙
    ap (λ t. start ++ t) (ap (λ t. flat_map f (map (λ i. seg m i) (below s)) ++ t) (sym (append-nil (f (seg m s)))) ∙ sym (flat_map-append f (map (λ i. seg m i) (below s)) (seg m s ∷ [])) ∙
    ap (λ xs. flat_map f xs) (sym (ap (λ xs. map (λ i. seg m i) xs) (below_more s) ∙ map-append (λ i. seg m i) (below s) (s ∷ []))))

-- one more mentor
pub mentor_pushed : (f : SegId → List ℕ) (m : ℕ) (start out : List ℕ) → out ≡ start ++ flat_map f (identities m) →
    out ++ flat_map f (map (λ i. seg m i) (below 64)) ≡ start ++ flat_map f (identities (m + 1))
mentor_pushed f m start out e =
    let row : ℕ → List SegId = λ j. map (λ i. seg j i) (below 64) in
    ap (λ t. t ++ flat_map f (row m)) e ∙ append_assoc start (flat_map f (identities m)) (flat_map f (row m)) ∙
    ap (λ t. start ++ t) (sym (flat_map-append f (identities m) (row m)) ∙
    ap (λ xs. flat_map f xs) (ap (λ xs. identities m ++ xs) (sym (append-nil (row m))) ∙ sym (flat_map-append row (below m) (m ∷ [])) ∙ ap (λ xs. flat_map row xs) (sym (below_more m))))

touched_first : (t : Bool) (x : SeenSegment) (rest : List SeenSegment) → flat_map segment_text (cond t (x ∷ rest) rest) ≡ touched_text t x ++ flat_map segment_text rest
touched_first true x rest = refl
touched_first false x rest = refl

map_cond : {X Y : Type 0} (f : X → Y) (t : Bool) (x : X) (xs : List X) → map f (cond t (x ∷ xs) xs) ≡ cond t (f x ∷ map f xs) (map f xs)
map_cond f true x xs = refl
map_cond f false x xs = refl

-- the segments that are seen are those that were touched
pub touched_only : {X : Type 0} (p : X → Bool) (f : X → SeenSegment) (xs : List X) → flat_map (λ x. touched_text (p x) (f x)) xs ≡ flat_map segment_text (map f (filter p xs))
touched_only p f [] = refl
touched_only p f (x ∷ xs) =
    ap (λ t. touched_text (p x) (f x) ++ t) (touched_only p f xs) ∙ sym (touched_first (p x) (f x) (map f (filter p xs))) ∙ ap (λ ys. flat_map segment_text ys) (sym (map_cond f (p x) x (filter p xs)))

sum_push : (xs : List ℕ) (x : ℕ) → sum (xs ++ x ∷ []) ≡ sum xs + x
sum_push xs x = let e = sum_by-append (λ (n : ℕ). n) xs (x ∷ []) in e ∙ ap (λ n. sum xs + n) (let z : 0 + x ≡ x = omega arith in z)

-- one more component
pub sum_more : (f : ℕ → ℕ) (xs : List ℕ) (i d s v : ℕ) → i < length xs → s ≡ sum (map f (take i xs)) % 2 ^ 64 → v ≡ f (get_or xs i d) → (s + v) % 2 ^ 64 ≡ sum (map f (take (i + 1) xs)) % 2 ^ 64
sum_more f xs i d s v lt e is =
    ap (λ n. (n + v) % 2 ^ 64) e ∙ mod-add-mod (sum (map f (take i xs))) (2 ^ 64) v ∙ ap (λ n. (sum (map f (take i xs)) + n) % 2 ^ 64) is ∙
    ap (λ n. n % 2 ^ 64) (sym (sum_push (map f (take i xs)) (f (get_or xs i d))) ∙ ap (λ ys. sum ys) (sym (map-append f (take i xs) (get_or xs i d ∷ []))) ∙ ap (λ ys. sum (map f ys)) (sym (take_more xs i d lt)))

-- the parts of a section
pub section_pieces : (out a b c d : List ℕ) → out ++ a ++ b ++ c ++ d ≡ out ++ (a ++ b ++ c ++ d)
section_pieces out a b c d = simp append_assoc
