use Rattle.std.specs.Prelude.{◌≤◌}
use Rattle.command_input.specs.Reading.{VolumesRead}
use Rattle.command_input.proofs.volumes.read_volumes.Given as goal

abbrev pub invariant-loop-port : goal.invariant-loop-port
invariant-loop-port g l = VolumesRead l.port l.config (g.H.Host.ports l.fn.host) (g.H.Host.ports l.host) l.volumes.items × (1 ≤ l.port)
