-- The parts of a written configuration, one after the other.
use Rattle.std.proofs.Common.{◌≡◌, ℕ, List, [], ◌∷◌, ◌++◌, length, refl, sym, ap, ◌∙◌, append_assoc}
use Rattle.std.specs.Prelude.{codes, map}
use Rattle.std.specs.List.{flat_map}
use Rattle.std.proofs.lemmas.List.{append-nil, map-append}
use Rattle.text_lines.specs.Printed.{printed}
use Rattle.text_lines.proofs.PrintedWords.{printed-append}
use Rattle.config_text.specs.declared.config.Config.{Config}
use Rattle.config_text.specs.declared.config.GateLine.{GateLine}
use Rattle.config_text.specs.Written.{Word, word_text, ended, header_line, header_lines, number_line, number_lines, cycle_line, class_lines, front_lines, script_lines, gate_line, process_line, item_line, end_line, texts_of, written}

two : (xs ys : List (List Word)) → printed (texts_of (xs ++ ys)) ≡ printed (texts_of xs) ++ printed (texts_of ys)
two xs ys = ap printed (map-append (λ (ws : List Word). map word_text ws) xs ys) ∙ printed-append (texts_of xs) (texts_of ys)

eight : (out a b c d e f g h : List ℕ) → (((((((out ++ a) ++ b) ++ c) ++ d) ++ e) ++ f) ++ g) ++ h ≡ out ++ ((a ++ (b ++ c)) ++ (d ++ (e ++ (f ++ (g ++ (h ++ []))))))
eight out a b c d e f g h = simp (append_assoc, append-nil)

-- the lines before the scripts
pub front_whole : (out : List ℕ) (k : Config) →
    (((((((out ++ codes "gemkernel 1\n") ++ ended (number_line (codes "classes") (length k.table))) ++ printed (texts_of (class_lines k.table k.pools))) ++ ended (number_line (codes "processors") k.processors)) ++ ended (cycle_line k.cycle))
    ++ ended (number_line (codes "rounds") k.rounds)) ++ ended (number_line (codes "quantum") k.quantum)) ++ ended (number_line (codes "console") k.console)
    ≡ out ++ printed (texts_of (front_lines k))
front_whole out k =
    eight out (ended header_line) (ended (number_line (codes "classes") (length k.table))) (printed (texts_of (class_lines k.table k.pools))) (ended (number_line (codes "processors") k.processors)) (ended (cycle_line k.cycle))
    (ended (number_line (codes "rounds") k.rounds)) (ended (number_line (codes "quantum") k.quantum)) (ended (number_line (codes "console") k.console))
    ∙ ap (λ (t : List ℕ). out ++ t) (sym (two (header_lines k) (number_lines k)))

six : (a b c d e f : List ℕ) → ((((([] ++ a) ++ b) ++ c) ++ d) ++ e) ++ f ≡ a ++ (b ++ (c ++ (d ++ (e ++ f))))
six a b c d e f = simp append_assoc

-- the whole
pub text_whole : (k : Config) →
    ((((([] ++ printed (texts_of (front_lines k))) ++ printed (texts_of (flat_map script_lines k.scripts))) ++ printed (texts_of (map gate_line k.gates))) ++ printed (texts_of (map process_line k.processes))) ++ printed (texts_of (map item_line k.schedule))) ++ codes "end\n" ≡ written k
text_whole k =
    let front = front_lines k in
    let scripts = flat_map script_lines k.scripts in
    let gates = map gate_line k.gates in
    let processes = map process_line k.processes in
    let items = map item_line k.schedule in
    let parts : printed (texts_of (front ++ (scripts ++ (gates ++ (processes ++ (items ++ end_line ∷ [])))))) ≡ printed (texts_of front) ++ (printed (texts_of scripts) ++ (printed (texts_of gates) ++ (printed (texts_of processes) ++ (printed (texts_of items) ++ codes "end\n")))) =
    two front (scripts ++ (gates ++ (processes ++ (items ++ end_line ∷ [])))) ∙ ap (λ (t : List ℕ). printed (texts_of front) ++ t)
    (two scripts (gates ++ (processes ++ (items ++ end_line ∷ []))) ∙ ap (λ (t : List ℕ). printed (texts_of scripts) ++ t)
    (two gates (processes ++ (items ++ end_line ∷ [])) ∙ ap (λ (t : List ℕ). printed (texts_of gates) ++ t)
    (two processes (items ++ end_line ∷ []) ∙ ap (λ (t : List ℕ). printed (texts_of processes) ++ t) (two items (end_line ∷ []))))) in
    six (printed (texts_of front)) (printed (texts_of scripts)) (printed (texts_of gates)) (printed (texts_of processes)) (printed (texts_of items)) (codes "end\n") ∙ sym parts
