use Rattle.std.proofs.Common.{length}
use Rattle.script_asm.proofs.word.+hex_after.Given as goal

abbrev pub decreases-hex_after : goal.decreases-hex_after
decreases-hex_after l = length l.digits.now
