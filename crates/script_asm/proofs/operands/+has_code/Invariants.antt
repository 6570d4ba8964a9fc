use Rattle.std.proofs.Common.{length}
use Rattle.script_asm.proofs.operands.+has_code.Given as goal

abbrev pub decreases-has_code : goal.decreases-has_code
decreases-has_code l = length l.kinds.now
