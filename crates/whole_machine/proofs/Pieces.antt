-- One piece of text after the other.
use Rattle.std.proofs.Common.{◌≡◌, ℕ, Bool, true, false, List, [], ◌∷◌, ◌++◌, ◌+◌, ◌<◌, length, get_or, take, refl, sym, ap, ◌∙◌, append_assoc, append-nil, Option, Some, None, map}
use Rattle.std.specs.Prelude.{codes, ◌||◌}
use Rattle.std.specs.List.{flat_map, list_any, join_with_byte, filter_map, enumerate_from}
use Rattle.std.specs.Fmt.{decimal}
use Rattle.std.proofs.lemmas.List.{take_more, get_or_default}
use Rattle.std.proofs.lemmas.List.Folds.{list_any-append}
use Rattle.std.proofs.lemmas.Grind.{flat_map-append}
use Rattle.lists.specs.Lists.{below}
use Rattle.class_model.specs.Process.{Process}
use Rattle.class_model.specs.Report.{SeenProcess, line_of, state_word, process_text, some_live}
use Rattle.class_model.specs.Section.{seen_slots, seen_processes}
use Rattle.whole_machine.specs.Texts.{numbers_text, slot_text, processor_text, lives}

pub class_pieces : (out name : List ℕ) (c : ℕ) → (((out ++ codes "class " ++ decimal c) ++ codes " ") ++ name) ++ codes "\n" ≡ out ++ line_of (codes "class" ∷ decimal c ∷ name ∷ [])
class_pieces out name c = simp append_assoc

pub line_pieces : (out : List ℕ) (v : ℕ) → (out ++ codes "line " ++ decimal v) ++ codes "\n" ≡ out ++ line_of (codes "line" ∷ decimal v ∷ [])
line_pieces out v = simp append_assoc

pub ruleset pieces = (class_pieces, line_pieces)

-- numbers behind a word, with blanks
pub spaced_numbers : (w : List ℕ) (ns : List ℕ) → join_with_byte 32 (w ∷ map decimal ns) ≡ w ++ numbers_text ns
spaced_numbers w [] = sym (append-nil w)
spaced_numbers w (n ∷ ns) = ap (λ (t : List ℕ). w ++ 32 ∷ t) (spaced_numbers (decimal n) ns)

-- one more item of a list, each of which has a text
pub item_more : {X : Type 0} (f : X → List ℕ) (xs : List X) (i : ℕ) (x : X) → i < length xs → x ≡ get_or xs i x → flat_map f (take (i + 1) xs) ≡ flat_map f (take i xs) ++ f x
item_more f xs i x lt is = rw (take_more xs i x lt, ← is, flat_map-append f (take i xs) (x ∷ [])) (ap (λ (t : List ℕ). flat_map f (take i xs) ++ t) (append-nil (f x)))

-- likewise behind what was there
pub item_pushed : {X : Type 0} (f : X → List ℕ) (xs : List X) (i : ℕ) (x : X) (start out : List ℕ) → i < length xs → x ≡ get_or xs i x → out ≡ start ++ flat_map f (take i xs) → out ++ f x ≡ start ++ flat_map f (take (i + 1) xs)
item_pushed f xs i x start out lt is e =
    ap (λ (t : List ℕ). t ++ f x) e ∙ append_assoc start (flat_map f (take i xs)) (f x) ∙ ap (λ (t : List ℕ). start ++ t) (sym (item_more f xs i x lt is))

-- the same where an item is read
pub read_pushed : {X : Type 0} (f : X → List ℕ) (xs : List X) (i : ℕ) (d : X) (start out : List ℕ) → i < length xs → out ≡ start ++ flat_map f (take i xs) → out ++ f (get_or xs i d) ≡ start ++ flat_map f (take (i + 1) xs)
read_pushed f xs i d start out lt e = item_pushed f xs i (get_or xs i d) start out lt (get_or_default xs i d (get_or xs i d) lt) e

process_lines : (out : List ℕ) (pr sl : ℕ) (p : Process) →
    ((((((((out ++ codes "process " ++ decimal pr) ++ codes " " ++ decimal sl) ++ codes " ") ++ state_word p.live) ++ codes " script " ++ decimal p.script) ++ codes " place " ++ decimal p.place) ++ codes " ring " ++ decimal p.ring) ++ codes "\n") ++ ((codes "regs" ++ numbers_text p.regs) ++ codes "\n")
    ≡ out ++ line_of (codes "process" ∷ decimal pr ∷ decimal sl ∷ state_word p.live ∷ codes "script" ∷ decimal p.script ∷ codes "place" ∷ decimal p.place ∷ codes "ring" ∷ decimal p.ring ∷ []) ++ ((codes "regs" ++ numbers_text p.regs) ++ codes "\n")
process_lines out pr sl p = simp append_assoc

pub process_pieces : (out : List ℕ) (pr sl : ℕ) (p : Process) →
    (((((((((out ++ codes "process " ++ decimal pr) ++ codes " " ++ decimal sl) ++ codes " ") ++ state_word p.live) ++ codes " script " ++ decimal p.script) ++ codes " place " ++ decimal p.place) ++ codes " ring " ++ decimal p.ring) ++ codes "\nregs") ++ numbers_text p.regs) ++ codes "\n"
    ≡ out ++ process_text (record { processor = pr; slot = sl; process = p })
process_pieces out pr sl p =
    let head : List ℕ = ((((((out ++ codes "process " ++ decimal pr) ++ codes " " ++ decimal sl) ++ codes " ") ++ state_word p.live) ++ codes " script " ++ decimal p.script) ++ codes " place " ++ decimal p.place) ++ codes " ring " ++ decimal p.ring in
    let joined : ((head ++ codes "\nregs") ++ numbers_text p.regs) ++ codes "\n" ≡ (head ++ codes "\n") ++ ((codes "regs" ++ numbers_text p.regs) ++ codes "\n") = simp append_assoc in
    joined ∙ process_lines out pr sl p ∙
    ap (λ (t : List ℕ). out ++ line_of (codes "process" ∷ decimal pr ∷ decimal sl ∷ state_word p.live ∷ codes "script" ∷ decimal p.script ∷ codes "place" ∷ decimal p.place ∷ codes "ring" ∷ decimal p.ring ∷ []) ++ (t ++ codes "\n"))
    (sym (spaced_numbers (codes "regs") p.regs)) ∙
    append_assoc out (line_of (codes "process" ∷ decimal pr ∷ decimal sl ∷ state_word p.live ∷ codes "script" ∷ decimal p.script ∷ codes "place" ∷ decimal p.place ∷ codes "ring" ∷ decimal p.ring ∷ []))
    (line_of (codes "regs" ∷ map decimal p.regs))

slots_text : (pr n : ℕ) (a : Option Process) (rest : List (Option Process)) →
    flat_map process_text (filter_map (λ (item : ℕ × Option Process). Rattle.std.specs.Option.option_map (λ (p : Process). record { processor = pr; slot = item.0; process = p }) item.1) (enumerate_from n (a ∷ rest)))
    ≡ slot_text pr n a ++ flat_map process_text (filter_map (λ (item : ℕ × Option Process). Rattle.std.specs.Option.option_map (λ (p : Process). record { processor = pr; slot = item.0; process = p }) item.1) (enumerate_from (n + 1) rest))
slots_text pr n None rest = refl
slots_text pr n (Some p) rest = refl

four_slots : (pr : ℕ) (a b c d : Option Process) → processor_text pr (a ∷ b ∷ c ∷ d ∷ []) ≡ slot_text pr 0 a ++ (slot_text pr 1 b ++ (slot_text pr 2 c ++ slot_text pr 3 d))
four_slots pr a b c d =
    slots_text pr 0 a (b ∷ c ∷ d ∷ []) ∙ ap (λ (t : List ℕ). slot_text pr 0 a ++ t) (slots_text pr 1 b (c ∷ d ∷ []) ∙ ap (λ (t : List ℕ). slot_text pr 1 b ++ t)
    (slots_text pr 2 c (d ∷ []) ∙ ap (λ (t : List ℕ). slot_text pr 2 c ++ t) (slots_text pr 3 d [] ∙ append-nil (slot_text pr 3 d))))

pub processor_pieces : (out : List ℕ) (pr : ℕ) (a b c d : Option Process) →
    (((out ++ slot_text pr 0 a) ++ slot_text pr 1 b) ++ slot_text pr 2 c) ++ slot_text pr 3 d ≡ out ++ processor_text pr (a ∷ b ∷ c ∷ d ∷ [])
processor_pieces out pr a b c d =
    let e : (((out ++ slot_text pr 0 a) ++ slot_text pr 1 b) ++ slot_text pr 2 c) ++ slot_text pr 3 d ≡ out ++ (slot_text pr 0 a ++ (slot_text pr 1 b ++ (slot_text pr 2 c ++ slot_text pr 3 d))) = simp append_assoc in
    e ∙ ap (λ (t : List ℕ). out ++ t) (sym (four_slots pr a b c d))

nested : {X Y : Type 0} (g : Y → List ℕ) (f : X → List Y) (xs : List X) → flat_map g (flat_map f xs) ≡ flat_map (λ x. flat_map g (f x)) xs
nested g f [] = refl
nested g f (x ∷ xs) = flat_map-append g (f x) (flat_map f xs) ∙ ap (λ t. flat_map g (f x) ++ t) (nested g f xs)

pub processes_pieces : (out : List ℕ) (slots : ℕ → List (Option Process)) →
    (((out ++ processor_text 0 (slots 0)) ++ processor_text 1 (slots 1)) ++ processor_text 2 (slots 2)) ++ processor_text 3 (slots 3) ≡ out ++ flat_map process_text (seen_processes slots)
processes_pieces out slots =
    let e : (((out ++ processor_text 0 (slots 0)) ++ processor_text 1 (slots 1)) ++ processor_text 2 (slots 2)) ++ processor_text 3 (slots 3)
    ≡ out ++ (processor_text 0 (slots 0) ++ (processor_text 1 (slots 1) ++ (processor_text 2 (slots 2) ++ (processor_text 3 (slots 3) ++ [])))) = simp (append_assoc, append-nil) in
    e ∙ ap (λ (t : List ℕ). out ++ t) (sym (nested process_text (λ pr. seen_slots pr (slots pr)) (below 4)))

one_lives : (pr n : ℕ) (a : Option Process) (rest : List (Option Process)) →
    some_live (filter_map (λ (item : ℕ × Option Process). Rattle.std.specs.Option.option_map (λ (p : Process). record { processor = pr; slot = item.0; process = p }) item.1) (enumerate_from n (a ∷ rest)))
    ≡ (lives a || some_live (filter_map (λ (item : ℕ × Option Process). Rattle.std.specs.Option.option_map (λ (p : Process). record { processor = pr; slot = item.0; process = p }) item.1) (enumerate_from (n + 1) rest)))
one_lives pr n None rest = refl
one_lives pr n (Some p) rest = refl

or_false : (a : Bool) → (a || false) ≡ a
or_false true = refl
or_false false = refl

or_assoc : (a b c : Bool) → ((a || b) || c) ≡ (a || (b || c))
or_assoc true b c = refl
or_assoc false b c = refl

or_four : (a b c d : Bool) → (a || (b || (c || d))) ≡ (a || b || c || d)
or_four a b c d = sym (or_assoc (a || b) c d ∙ or_assoc a b (c || d))

-- a process in one of four slots is live
pub four_live : (pr : ℕ) (a b c d : Option Process) → some_live (seen_slots pr (a ∷ b ∷ c ∷ d ∷ [])) ≡ (lives a || lives b || lives c || lives d)
four_live pr a b c d =
    one_lives pr 0 a (b ∷ c ∷ d ∷ []) ∙ ap (λ (t : Bool). lives a || t) (one_lives pr 1 b (c ∷ d ∷ []) ∙ ap (λ (t : Bool). lives b || t)
    (one_lives pr 2 c (d ∷ []) ∙ ap (λ (t : Bool). lives c || t) (one_lives pr 3 d [] ∙ or_false (lives d)))) ∙ or_four (lives a) (lives b) (lives c) (lives d)

-- a process of one of four processors is live
pub processors_live : (slots : ℕ → List (Option Process)) →
    (some_live (seen_slots 0 (slots 0)) || some_live (seen_slots 1 (slots 1)) || some_live (seen_slots 2 (slots 2)) || some_live (seen_slots 3 (slots 3))) ≡ some_live (seen_processes slots)
processors_live slots =
    let live : SeenProcess → Bool = λ s. s.process.live in
    let both : (xs ys : List SeenProcess) → list_any live (xs ++ ys) ≡ (list_any live xs || list_any live ys) = list_any-append live in
    let x : ℕ → List SeenProcess = λ pr. seen_slots pr (slots pr) in
    sym (or_four (some_live (x 0)) (some_live (x 1)) (some_live (x 2)) (some_live (x 3))) ∙
    sym (both (x 0) (x 1 ++ (x 2 ++ (x 3 ++ []))) ∙
    ap (λ (t : Bool). some_live (x 0) || t) (both (x 1) (x 2 ++ (x 3 ++ [])) ∙
    ap (λ (t : Bool). some_live (x 1) || t) (both (x 2) (x 3 ++ []) ∙
    ap (λ (t : List SeenProcess). some_live (x 2) || some_live t) (append-nil (x 3)))))
