-- The codes of a line, and their numbers: 1 to 12, and 21 to 29 for a line of a script.
use Rattle.std.specs.Prelude.{ℕ}
use Rattle.script_asm.specs.declared.fault.Code.{Code as ScriptCode}
use Rattle.script_asm.specs.declared.fault.Code.TheVariants as script
use Rattle.config_text.specs.declared.fault.Code.{Code}
use Rattle.config_text.specs.declared.fault.Code.TheVariants as code

-- the number of a code
abbrev pub code_number : Code → ℕ
code_number code.Bytes = 1
code_number code.Form = 2
code_number code.Number = 3
code_number code.Range = 4
code_number code.Label = 5
code_number code.Name = 6
code_number code.Twice = 7
code_number code.Low = 8
code_number code.Above = 9
code_number code.Fifth = 10
code_number code.Limit = 11
code_number code.Missing = 12
code_number code.ScriptWord = 21
code_number code.ScriptForm = 22
code_number code.ScriptNumber = 23
code_number code.ScriptRegister = 24
code_number code.ScriptTwice = 25
code_number code.ScriptNameless = 26
code_number code.ScriptLong = 27
code_number code.ScriptEnd = 28
code_number code.ScriptPast = 29

-- the code that a line of a script has in a configuration: its number is 20 more
abbrev pub of_script : ScriptCode → Code
of_script script.Mnemonic = code.ScriptWord
of_script script.Form = code.ScriptForm
of_script script.Number = code.ScriptNumber
of_script script.Register = code.ScriptRegister
of_script script.Twice = code.ScriptTwice
of_script script.Nameless = code.ScriptNameless
of_script script.Long = code.ScriptLong
of_script script.End = code.ScriptEnd
of_script script.Past = code.ScriptPast
