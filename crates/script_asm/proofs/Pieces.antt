-- A script's text, one piece after the other.
use Rattle.std.proofs.Common.{◌≡◌, ℕ, List, [], ◌∷◌, ◌++◌, ◌+◌, ◌<◌, length, get_or, take, sym, ap, append_assoc}
use Rattle.std.specs.Prelude.{codes, map}
use Rattle.std.specs.List.{AllByRecursion}
use Rattle.std.proofs.lemmas.List.{append-nil, take_more, map_push}
use Rattle.text_lines.specs.Printed.{spaced}
use Rattle.text_lines.proofs.PrintedWords.{printed-push}
use Rattle.script_lang.specs.declared.instr.Instr.{Instr}
use Rattle.script_asm.specs.Operand.{Word}
use Rattle.script_asm.specs.Item.{instr_words, Fits}
use Rattle.script_asm.specs.ScriptText.{after_blanks, script_text}

pub register_pieces : (out ds : List ℕ) → (out ++ codes " r") ++ ds ≡ out ++ 32 ∷ (114 ∷ ds)
register_pieces out ds = simp append_assoc

pub number_pieces : (out ds : List ℕ) → (out ++ 32 ∷ []) ++ ds ≡ out ++ 32 ∷ ds
number_pieces out ds = simp append_assoc

pub operand_pieces : (out w : List ℕ) (ws : List Word) → (out ++ 32 ∷ w) ++ after_blanks ws ≡ out ++ after_blanks (w ∷ ws)
operand_pieces out w ws = append_assoc out (32 ∷ w) (after_blanks ws)

pub no_pieces : (out : List ℕ) → out ≡ out ++ []
no_pieces out = sym (append-nil out)

pub spaced_after : (w : Word) (ws : List Word) → spaced (w ∷ ws) ≡ w ++ after_blanks ws
spaced_after w [] = sym (append-nil w)
spaced_after w (v ∷ vs) = ap (λ (t : List ℕ). w ++ 32 ∷ t) (spaced_after v vs)

pub line_pieces : (out w : List ℕ) (ws : List Word) → ((out ++ w) ++ after_blanks ws) ++ 10 ∷ [] ≡ out ++ (spaced (w ∷ ws) ++ 10 ∷ [])
line_pieces out w ws = rw (spaced_after w ws, append_assoc out w (after_blanks ws)) (append_assoc out (w ++ after_blanks ws) (10 ∷ []))

pub ruleset pieces = (register_pieces, number_pieces, operand_pieces, no_pieces, line_pieces)

pub text_more : (is : List Instr) (k : ℕ) (d : Instr) → k < length is → script_text (take (k + 1) is) ≡ script_text (take k is) ++ (spaced (instr_words (get_or is k d)) ++ 10 ∷ [])
text_more is k d lt = rw (take_more is k d lt, map_push instr_words (take k is) (get_or is k d)) (printed-push (map instr_words (take k is)) (instr_words (get_or is k d)))

fits_push : (is : List Instr) (i : Instr) → AllByRecursion Fits is → Fits i → AllByRecursion Fits (is ++ i ∷ [])
fits_push [] i all fits = (fits, tt)
fits_push (j ∷ js) i all fits = (all.0, fits_push js i all.1 fits)

pub fits_more : (is : List Instr) (k : ℕ) (d : Instr) → k < length is → AllByRecursion Fits (take k is) → Fits (get_or is k d) → AllByRecursion Fits (take (k + 1) is)
fits_more is k d lt all fits = rw (take_more is k d lt) (fits_push (take k is) (get_or is k d) all fits)

pub ruleset lists = (text_more, fits_more)
