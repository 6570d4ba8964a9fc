-- The text of a program: one instruction a line, numbers in decimal digits.
use Rattle.std.specs.Prelude.{ℕ, List, [], ◌∷◌, ◌++◌, map}
use Rattle.text_lines.specs.Printed.{printed}
use Rattle.script_lang.specs.declared.instr.Instr.{Instr}
use Rattle.script_asm.specs.Operand.{Word}
use Rattle.script_asm.specs.Item.{instr_words}

-- the text of a program
abbrev pub script_text : List Instr → List ℕ
script_text program = printed (map instr_words program)

-- ---- what private functions speak of

-- the words of the operands, each with a blank in front
abbrev pub after_blanks : List Word → List ℕ
after_blanks [] = []
after_blanks (w ∷ ws) = 32 ∷ w ++ after_blanks ws
