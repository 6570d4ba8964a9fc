use Rattle.std.proofs.Common.{◌≡◌, ◌≤◌, ◌+◌, ◌∙◌, ℕ, List, [], sym, ap, subst, arith}
use Rattle.host_ports.specs.Ports.{IsPrefixTaken, with_bytes}
use Rattle.machine.specs.Banks.{machine_of}
use Rattle.volume_image.specs.Images.{Drawn, IsMadeFor}
use Rattle.loader.specs.Configuration.{configuration}
use Rattle.command_run.specs.Headline.{image_in}
use Rattle.command_run.specs.Printed.{ImagesPushed}
use Rattle.loader.proofs.NamedVolumes.{named_yes, named_no}
use Rattle.command_run.proofs.Pushing.{images_none, images_skip, images_more, image_torn}
use Rattle.command_run.proofs.images.push_volumes.Goals.{then-names_volume+in-Ok, else-names_volume}
use Rattle.command_run.proofs.images.push_volumes.Goals as goal

pub loop-port-init : goal.loop-port-init
loop-port-init g c = (images_none c.args.config.now (image_in (configuration c.args.config.now []) (machine_of c.args.machine.now)) _, c.requires.image, omega arith)

pub returns-in-Err-clause-torn : goal.returns-in-Err-clause-torn
returns-in-Err-clause-torn g c =
    let images : ℕ → List ℕ = image_in (configuration c.args.config.now []) (machine_of c.args.machine.now) in
    image_torn c.loop-port.port c.args.config.now images _ _ _ c.loop-port.invariant.2 (omega (arith, c.loop-port-test.true)) (named_yes c.args.config.now _ _ c.names_volume.ensures c.if-names_volume.true) c.loop-port.invariant.0
    (subst (λ (bytes : List ℕ). IsPrefixTaken (g.H.Host.ports c.loop-port.host c.loop-port.port).taken (g.H.Host.ports c.push_whole.new.host c.loop-port.port).taken bytes) (c.bytes.ensures ∙ c.volume_after.ensures.bytes) c.in-Err.ensures.prefix)
    c.in-Err.ensures.fault c.push_whole.ensures.keeps

pub loop-port-preserved : goal.loop-port-preserved
loop-port-preserved g c =
    let images : ℕ → List ℕ = image_in (configuration c.args.config.now []) (machine_of c.args.machine.now) in
    let made = λ (i : Drawn). ImagesPushed (c.loop-port.port + 1) c.args.config.now images (g.H.Host.ports c.args.host.now) (g.H.Host.ports c.if-names_volume.host) × IsMadeFor c.args.config.now.table i × (1 ≤ c.loop-port.port + 1) in
    elim c.if-names_volume.branch [
      | then-names_volume+in-Ok w ↦ subst made (sym w.image-is)
          (subst (λ h. ImagesPushed (c.loop-port.port + 1) c.args.config.now images (g.H.Host.ports c.args.host.now) (g.H.Host.ports h) × IsMadeFor c.args.config.now.table w.volume_after.new.image × (1 ≤ c.loop-port.port + 1)) (sym w.host-is) (
            images_more c.loop-port.port c.args.config.now images _ _ _ c.loop-port.invariant.2 c.loop-port.invariant.0 (named_yes c.args.config.now _ _ c.names_volume.ensures w.if-names_volume.true)
                (w.in-Ok.ensures.done ∙ ap (with_bytes (g.H.Host.ports c.loop-port.host c.loop-port.port).taken) (w.bytes.ensures ∙ w.volume_after.ensures.bytes)) w.push_whole.ensures.keeps w.in-Ok.ensures.same,
            w.volume_after.ensures.room,
            omega arith,
          ))
      | else-names_volume w ↦ subst made (sym w.image-is)
          (subst (λ h. ImagesPushed (c.loop-port.port + 1) c.args.config.now images (g.H.Host.ports c.args.host.now) (g.H.Host.ports h) × IsMadeFor c.args.config.now.table c.loop-port.image × (1 ≤ c.loop-port.port + 1)) (sym w.host-is) (
            images_skip c.loop-port.port c.args.config.now images _ _ (g.H.Host.ports c.loop-port.host) c.loop-port.invariant.0 (named_no c.args.config.now _ _ c.names_volume.ensures w.if-names_volume.false),
            c.loop-port.invariant.1,
            omega arith,
          ))
    ]

pub returns-clause-pushed : goal.returns-clause-pushed
returns-clause-pushed g c =
    let end : c.loop-port.port ≡ 5 = omega (arith, c.loop-port-test.false) in
    subst (λ n. ImagesPushed n c.args.config.now (image_in (configuration c.args.config.now []) (machine_of c.args.machine.now)) (g.H.Host.ports c.args.host.now) (g.H.Host.ports c.loop-port.host)) end c.loop-port.invariant.0
