-- The number with which the program exits, for each answer.
use Rattle.std.specs.Prelude.{ℕ}
use Rattle.command_input.specs.declared.status.Status.{Status}
use Rattle.command_input.specs.declared.status.Status.TheVariants.{Done, Refused, Usage, HostFault, Unfinished, NoMemory}

-- the number of an answer
abbrev pub status_number : Status → ℕ
status_number Done = 0
status_number (Refused why) = 1
status_number (Usage kind) = 2
status_number (HostFault fault) = 3
status_number Unfinished = 4
status_number NoMemory = 5
