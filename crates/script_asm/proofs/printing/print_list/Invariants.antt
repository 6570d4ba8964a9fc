use Rattle.std.proofs.Common.{◌≡◌, take}
use Rattle.std.specs.Prelude.{string_bytes}
use Rattle.std.specs.List.{AllByRecursion}
use Rattle.script_asm.specs.Item.{Fits}
use Rattle.script_asm.specs.ScriptText.{script_text}
use Rattle.script_asm.proofs.printing.print_list.Given as goal

abbrev pub invariant-loop-instr : goal.invariant-loop-instr
invariant-loop-instr l =
    (string_bytes l.out ≡ script_text (take l.instr-index l.program))
    × AllByRecursion Fits (take l.instr-index l.program)
