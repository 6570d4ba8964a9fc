-- The instructions of a worker are a program.
use Rattle.std.proofs.Common.{ℕ, zero, suc, ◌++◌, refl}
use Rattle.std.specs.Prelude.{IsTrue}
use Rattle.script_lang.specs.Program.{program_ok}
use Rattle.workload.specs.Large.{finding, working}

pub worker_ok : (k : ℕ) → IsTrue (program_ok (finding k ++ working k))
worker_ok zero = refl
worker_ok (suc k) = refl
