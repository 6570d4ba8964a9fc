use Rattle.std.specs.Prelude.{[], ◌≤◌}
use Rattle.machine.specs.Banks.{machine_of}
use Rattle.volume_image.specs.Images.{IsMadeFor}
use Rattle.loader.specs.Configuration.{configuration}
use Rattle.command_run.specs.Headline.{image_in}
use Rattle.command_run.specs.Printed.{ImagesPushed}
use Rattle.command_run.proofs.images.push_volumes.Given as goal

abbrev pub invariant-loop-port : goal.invariant-loop-port
invariant-loop-port g l =
    ImagesPushed l.port l.config (image_in (configuration l.config []) (machine_of l.machine)) (g.H.Host.ports l.fn.host) (g.H.Host.ports l.host) × IsMadeFor l.config.table l.image × (1 ≤ l.port)
