-- One piece after the other.
use Rattle.std.proofs.Common.{◌≡◌, ℕ, List, [], ◌∷◌, ◌++◌, ◌+◌, ◌<◌, length, get_or, take, refl, sym, ap, ◌∙◌, append_assoc, arith}
use Rattle.std.specs.Prelude.{codes, map}
use Rattle.std.specs.List.{flat_map}
use Rattle.std.specs.Fmt.{decimal}
use Rattle.std.proofs.lemmas.List.{append-nil, take_more, map_push, map-append, length-take}
use Rattle.std.proofs.lemmas.Grind.{flat_map-append}
use Rattle.text_lines.specs.Printed.{spaced, printed}
use Rattle.text_lines.proofs.PrintedWords.{printed-append, printed-push}
use Rattle.labels.specs.Label.{Label, ClassEntry, class_at, label_of, no_class}
use Rattle.labels.specs.Spelling.{label_text}
use Rattle.script_lang.specs.declared.instr.Instr.{Instr}
use Rattle.script_lang.specs.declared.instr.Instr.TheVariants as I
use Rattle.script_asm.specs.Item.{instr_words}
use Rattle.script_asm.specs.ScriptText.{script_text}
use Rattle.config_text.specs.declared.config.GateLine.{GateLine}
use Rattle.config_text.specs.declared.config.Pool.{Pool}
use Rattle.config_text.specs.declared.config.ProcessLine.{ProcessLine}
use Rattle.config_text.specs.declared.config.Item.TheVariants as item
use Rattle.config_text.specs.declared.config.Script.{Script}
use Rattle.config_text.specs.Written.{Word, word_text, number, ended, class_text, pool_text, blank_numbers, number_line, class_line, class_lines, cycle_line, script_lines, instr_line, end_line, gate_line, process_line, item_line, texts_of}

pub number_pieces : (out keyword : List ℕ) (n : ℕ) → ((out ++ keyword) ++ 32 ∷ []) ++ decimal n ++ 10 ∷ [] ≡ out ++ ended (number_line keyword n)
number_pieces out keyword n = simp append_assoc

pub class_pieces : (out name : List ℕ) (l : Label) → (((out ++ codes "class ") ++ name) ++ 32 ∷ []) ++ label_text l ≡ out ++ class_text name l
class_pieces out name l = simp append_assoc

pub pool_pieces : (out : List ℕ) (p : Pool) →
    ((((((out ++ codes " frames ") ++ decimal p.frames) ++ codes " pages ") ++ decimal p.pages) ++ codes " volume ") ++ decimal p.volume) ++ 10 ∷ [] ≡ out ++ pool_text p
pool_pieces out p = simp append_assoc

class_whole : (out : List ℕ) (c : ClassEntry) (p : Pool) → (out ++ class_text c.name c.label) ++ pool_text p ≡ out ++ ended (class_line c p)
class_whole out c p = simp append_assoc

pub gate_pieces : (out : List ℕ) (g : GateLine) →
    ((((((((((out ++ codes "gate ") ++ decimal g.class) ++ codes " ") ++ decimal g.script) ++ codes " ") ++ decimal g.brackets.r1) ++ codes " ") ++ decimal g.brackets.r2) ++ codes " ") ++ decimal g.brackets.r3) ++ codes "\n"
    ≡ out ++ ended (gate_line g)
gate_pieces out g = simp append_assoc

pub process_pieces : (out : List ℕ) (p : ProcessLine) →
    ((((((((out ++ codes "process ") ++ decimal p.processor) ++ 32 ∷ []) ++ decimal p.class) ++ 32 ∷ []) ++ decimal p.script) ++ 32 ∷ []) ++ decimal p.ring) ++ 10 ∷ []
    ≡ out ++ ended (process_line p)
process_pieces out p = simp append_assoc

pub events_pieces : (out : List ℕ) (p c n : ℕ) →
    ((((((out ++ codes "events ") ++ decimal p) ++ 46 ∷ []) ++ decimal c) ++ 42 ∷ []) ++ decimal n) ++ 10 ∷ [] ≡ out ++ ended (item_line (item.Events p c n))
events_pieces out p c n = simp append_assoc

pub mix_pieces : (out : List ℕ) (x n : ℕ) → ((((out ++ codes "mix ") ++ decimal x) ++ 32 ∷ []) ++ decimal n) ++ 10 ∷ [] ≡ out ++ ended (item_line (item.Mix x n))
mix_pieces out x n = simp append_assoc

pub ruleset pieces = (number_pieces, class_pieces, pool_pieces, gate_pieces, process_pieces, events_pieces, mix_pieces)

-- ---- one line more

abbrev texts : List Word → List (List ℕ)
texts ws = map word_text ws

pub line_more : (ls : List (List Word)) (l : List Word) → printed (texts_of (ls ++ l ∷ [])) ≡ printed (texts_of ls) ++ ended l
line_more ls l = ap printed (map-append (λ (ws : List Word). map word_text ws) ls (l ∷ [])) ∙ printed-push (texts_of ls) (texts l)

pub mapped_at : {X : Type 0} (f : X → List Word) (xs : List X) (i : ℕ) (d : X) → i < length xs → printed (texts_of (map f (take (i + 1) xs))) ≡ printed (texts_of (map f (take i xs))) ++ ended (f (get_or xs i d))
mapped_at f xs i d lt = rw (take_more xs i d lt, map_push f (take i xs) (get_or xs i d)) (line_more (map f (take i xs)) (f (get_or xs i d)))

-- a list of lines, each from one thing
pub mapped_more : {X : Type 0} (f : X → List Word) (xs : List X) (i : ℕ) (x : X) → i < length xs → x ≡ get_or xs i x → printed (texts_of (map f (take (i + 1) xs))) ≡ printed (texts_of (map f (take i xs))) ++ ended (f x)
mapped_more f xs i x lt is = rw (take_more xs i x lt, ← is, map_push f (take i xs) x) (line_more (map f (take i xs)) (f x))

pub scripts_more : (ss : List Script) (i : ℕ) (s : Script) → i < length ss → s ≡ get_or ss i s → printed (texts_of (flat_map script_lines (take (i + 1) ss))) ≡ printed (texts_of (flat_map script_lines (take i ss))) ++ printed (texts_of (script_lines s))
scripts_more ss i s lt is =
    rw (take_more ss i s lt, ← is, flat_map-append script_lines (take i ss) (s ∷ []), append-nil (script_lines s), map-append (λ (ws : List Word). map word_text ws) (flat_map script_lines (take i ss)) (script_lines s))
    (printed-append (texts_of (flat_map script_lines (take i ss))) (texts_of (script_lines s)))

class_lines_more : (cs : List ClassEntry) (ps : List Pool) (c : ClassEntry) (p : Pool) → length ps ≡ length cs → class_lines (cs ++ c ∷ []) (ps ++ p ∷ []) ≡ class_lines cs ps ++ class_line c p ∷ []
class_lines_more [] [] c p same = refl
class_lines_more [] (q ∷ ps) c p same = absurd (omega (arith, same))
class_lines_more (d ∷ cs) [] c p same = absurd (omega (arith, same))
class_lines_more (d ∷ cs) (q ∷ ps) c p same = ap (λ (ls : List (List Word)). class_line d q ∷ ls) (class_lines_more cs ps c p (omega (arith, same)))

pub classes_more : (out : List ℕ) (cs : List ClassEntry) (ps : List Pool) (i : ℕ) (d : Pool) → i < length cs → length ps ≡ length cs →
    ((out ++ printed (texts_of (class_lines (take i cs) (take i ps)))) ++ class_text (class_at cs i).name (label_of cs i)) ++ pool_text (get_or ps i d) ≡ out ++ printed (texts_of (class_lines (take (i + 1) cs) (take (i + 1) ps)))
classes_more out cs ps i d lt same =
    let within : i < length ps = omega (arith, same, lt) in
    let lengths : length (take i ps) ≡ length (take i cs) = omega (arith, length-take i ps, length-take i cs, same) in
    let lines = class_lines (take i cs) (take i ps) in
    let more : printed (texts_of (class_lines (take (i + 1) cs) (take (i + 1) ps))) ≡ printed (texts_of lines) ++ ended (class_line (class_at cs i) (get_or ps i d)) =
    rw (take_more cs i no_class lt, take_more ps i d within, class_lines_more (take i cs) (take i ps) (class_at cs i) (get_or ps i d) lengths) (line_more lines (class_line (class_at cs i) (get_or ps i d))) in
    class_whole (out ++ printed (texts_of lines)) (class_at cs i) (get_or ps i d) ∙ append_assoc out (printed (texts_of lines)) (ended (class_line (class_at cs i) (get_or ps i d))) ∙ ap (λ (t : List ℕ). out ++ t) (sym more)

spaced_from : (w : List ℕ) (ns : List ℕ) → spaced (w ∷ map word_text (map number ns)) ≡ w ++ blank_numbers ns
spaced_from w [] = sym (append-nil w)
spaced_from w (n ∷ ns) = ap (λ (t : List ℕ). w ++ 32 ∷ t) (spaced_from (decimal n) ns)

pub cycle_pieces : (out : List ℕ) (cs : List ℕ) → ((out ++ codes "cycle") ++ blank_numbers cs) ++ 10 ∷ [] ≡ out ++ ended (cycle_line cs)
cycle_pieces out cs = rw (append_assoc out (codes "cycle") (blank_numbers cs), append_assoc out (codes "cycle" ++ blank_numbers cs) (10 ∷ [])) (ap (λ (t : List ℕ). out ++ (t ++ 10 ∷ [])) (sym (spaced_from (codes "cycle") cs)))

pub numbers_more : (cs : List ℕ) (i d : ℕ) → i < length cs → blank_numbers (take (i + 1) cs) ≡ blank_numbers (take i cs) ++ 32 ∷ decimal (get_or cs i d)
numbers_more cs i d lt = rw (take_more cs i d lt, flat_map-append (λ n. 32 ∷ decimal n) (take i cs) (get_or cs i d ∷ [])) (ap (λ (t : List ℕ). blank_numbers (take i cs) ++ t) (append-nil (32 ∷ decimal (get_or cs i d))))

-- an instruction's words are those of its line
pub same_words : (i : Instr) → map word_text (instr_line i) ≡ instr_words i
same_words I.Halt = refl
same_words (I.Set a n) = refl
same_words (I.Copy a b) = refl
same_words (I.Add a b) = refl
same_words (I.Sub a b) = refl
same_words (I.Jump to) = refl
same_words (I.JumpZ a to) = refl
same_words (I.JumpL a b to) = refl
same_words (I.Get a b) = refl
same_words (I.Put a b) = refl
same_words (I.Call g) = refl
same_words I.Ret = refl
same_words (I.Spawn s b) = refl
same_words (I.MakeKnown a b c) = refl
same_words (I.Terminate a) = refl
same_words (I.Create a b c d e) = refl
same_words (I.Delete a b) = refl
same_words (I.SwapIn a) = refl
same_words (I.SwapOut a) = refl
same_words (I.Fetch a b c d) = refl
same_words (I.Update a b c d) = refl
same_words (I.Read a) = refl
same_words (I.Await a b) = refl
same_words (I.Advance a) = refl
same_words (I.Ticket a) = refl
same_words (I.Out a) = refl

pub instr_texts : (is : List Instr) → texts_of (map instr_line is) ≡ map instr_words is
instr_texts [] = refl
instr_texts (i ∷ is) = rw (same_words i, instr_texts is) refl

pub script_pieces : (out : List ℕ) (s : Script) → ((out ++ ended (number_line (codes "script") s.class)) ++ script_text s.program) ++ codes "end\n" ≡ out ++ printed (texts_of (script_lines s))
script_pieces out s =
    let front = ended (number_line (codes "script") s.class) in
    let middle = printed (texts_of (map instr_line s.program)) in
    ap (λ (t : List (List (List ℕ))). ((out ++ front) ++ printed t) ++ codes "end\n") (sym (instr_texts s.program))
    ∙ append_assoc (out ++ front) middle (ended end_line) ∙ append_assoc out front (middle ++ ended end_line) ∙ ap (λ (t : List ℕ). out ++ (front ++ t)) (sym (line_more (map instr_line s.program) end_line))

pub ruleset scripts = (script_pieces)

pub ruleset cycles = (cycle_pieces, numbers_more)
