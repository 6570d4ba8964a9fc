-- The numbers of codes: of the lines of an order, and of what a release lacks in a volume.
use Rattle.std.specs.Prelude.{ℕ}
use Rattle.release_guard.specs.declared.fault.Code.{Code}
use Rattle.release_guard.specs.declared.fault.Code.TheVariants as code
use Rattle.release_guard.specs.declared.fault.Lack.{Lack}
use Rattle.release_guard.specs.declared.fault.Lack.TheVariants as lack

-- the number of a line's code
abbrev pub code_number : Code → ℕ
code_number code.Bytes = 1
code_number code.Form = 2
code_number code.Number = 3
code_number code.Range = 4
code_number code.Label = 5
code_number code.Name = 6
code_number code.Twice = 7
code_number code.Low = 8
code_number code.Limit = 11
code_number code.Missing = 12

-- the number of what a release lacks
abbrev pub lack_number : Lack → ℕ
lack_number lack.Source = 13
lack_number lack.Words = 14
lack_number lack.Target = 15
lack_number lack.Size = 16
