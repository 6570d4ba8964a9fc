use Rattle.std.proofs.Common.{◌≡◌, ◌≤◌, true, ℕ, List, take}
use Rattle.text_lines.specs.Lines.{views}
use Rattle.script_asm.specs.Script as spec
use Rattle.script_asm.specs.Noting.{place_in}
use Rattle.script_asm.proofs.names.Names.new.Given as goal

abbrev pub invariant-loop-line : goal.invariant-loop-line
invariant-loop-line l =
    ((w : List ℕ) → spec.names_place w ≡ true → place_in l.places w ≡ spec.first_named (spec.words_in (views (take l.line-index l.lines))) w 0 0)
    × (l.number ≡ l.line-index)
    × (l.count ≡ spec.instructions (spec.words_in (views (take l.line-index l.lines))))
    × (l.count ≤ l.line-index)
