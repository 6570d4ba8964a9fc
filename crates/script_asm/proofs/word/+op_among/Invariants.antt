use Rattle.std.proofs.Common.{length}
use Rattle.script_asm.proofs.word.+op_among.Given as goal

abbrev pub decreases-op_among : goal.decreases-op_among
decreases-op_among l = length l.ops.now
