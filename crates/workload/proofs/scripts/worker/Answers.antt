use Rattle.std.proofs.Common.{List, sym, subst}
use Rattle.std.specs.Prelude.{IsTrue}
use Rattle.script_lang.specs.Program.{program_ok}
use Rattle.script_lang.specs.declared.instr.Instr.{Instr}
use Rattle.workload.proofs.Programs.{worker_ok}
use Rattle.workload.proofs.scripts.worker.Goals as goal

pub program_of-requires : goal.program_of-requires
program_of-requires c = subst (λ (list : List Instr). IsTrue (program_ok list)) (sym c.in_ok-list.ensures) (worker_ok c.args.class)
