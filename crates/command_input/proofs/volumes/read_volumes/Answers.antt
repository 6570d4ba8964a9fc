use Rattle.std.proofs.Common.{◌∷◌, ◌++◌, ◌≡◌, ◌≤◌, ◌+◌, ◌∙◌, [], sym, ap, subst, arith}
use Rattle.loader.specs.Records.{Volumes}
use Rattle.command_input.specs.Reading.{VolumesRead}
use Rattle.loader.proofs.NamedVolumes.{named_yes, named_no}
use Rattle.command_input.proofs.Reading.{read_none, read_skip, read_more}
use Rattle.command_input.proofs.volumes.read_volumes.Goals.{then-names_volume+in-Ok+in-Ok-push, else-names_volume}
use Rattle.command_input.proofs.volumes.read_volumes.Goals as goal

pub loop-port-init : goal.loop-port-init
loop-port-init g c = (subst (λ (vs : Volumes). VolumesRead 1 c.args.config.now (g.H.Host.ports c.args.host.now) (g.H.Host.ports c.args.host.now) vs) (sym c.new-volumes.ensures.items) (read_none c.args.config.now _), omega arith)

pub returns-in-Err-clause-fault : goal.returns-in-Err-clause-fault
returns-in-Err-clause-fault g c = (
  c.loop-port.port,
  record {
    some = c.loop-port.invariant.1;
    most = omega (arith, c.loop-port-test.true);
    named = named_yes c.args.config.now _ _ c.names_volume.ensures c.if-names_volume.true;
    middle = _;
    volumes = _;
    read = c.loop-port.invariant.0;
    fails = c.in-Err.ensures.fault;
  },
)

pub returns-in-Err-push-clause-fault : goal.returns-in-Err-push-clause-fault
returns-in-Err-push-clause-fault g c = (
  c.loop-port.port,
  record {
    some = c.loop-port.invariant.1;
    most = omega (arith, c.loop-port-test.true);
    named = named_yes c.args.config.now _ _ c.names_volume.ensures c.if-names_volume.true;
    middle = _;
    volumes = _;
    read = c.loop-port.invariant.0;
    fails = (c.in-Ok.ensures.volume.reads.keeps, c.in-Ok.ensures.volume.reads.stays);
  },
)

pub loop-port-preserved : goal.loop-port-preserved
loop-port-preserved g c =
    let Done : Volumes → Type 0 = λ (vs : Volumes). VolumesRead (c.loop-port.port + 1) c.args.config.now (g.H.Host.ports c.args.host.now) (g.H.Host.ports c.if-names_volume.host) vs × (1 ≤ c.loop-port.port + 1) in
    elim c.if-names_volume.branch [
      | then-names_volume+in-Ok+in-Ok-push w ↦ (let vs : Volumes = c.loop-port.volumes.items ++ (c.loop-port.port, w.in-Ok.volume) ∷ [] in
          subst Done (sym (ap (λ v. v.items) w.volumes-is ∙ w.in-Ok-push.ensures.items))
          (subst (λ h. VolumesRead (c.loop-port.port + 1) c.args.config.now (g.H.Host.ports c.args.host.now) (g.H.Host.ports h) vs × (1 ≤ c.loop-port.port + 1)) (sym w.host-is)
          (read_more c.loop-port.port c.args.config.now _ _ _ c.loop-port.volumes.items w.in-Ok.volume c.loop-port.invariant.1 c.loop-port.invariant.0 (named_yes c.args.config.now _ _ c.names_volume.ensures w.if-names_volume.true) w.in-Ok.ensures.volume, omega arith)))
      | else-names_volume w ↦ subst Done (sym (ap (λ v. v.items) w.volumes-is))
          (subst (λ h. VolumesRead (c.loop-port.port + 1) c.args.config.now (g.H.Host.ports c.args.host.now) (g.H.Host.ports h) c.loop-port.volumes.items × (1 ≤ c.loop-port.port + 1)) (sym w.host-is)
          (read_skip c.loop-port.port c.args.config.now _ _ c.loop-port.volumes.items c.loop-port.invariant.0 (named_no c.args.config.now _ _ c.names_volume.ensures w.if-names_volume.false), omega arith))
    ]

pub returns-clause-volumes : goal.returns-clause-volumes
returns-clause-volumes g c =
    let end : c.loop-port.port ≡ 5 = omega (arith, c.loop-port-test.false) in
    subst (λ n. VolumesRead n c.args.config.now (g.H.Host.ports c.args.host.now) (g.H.Host.ports c.loop-port.host) c.loop-port.volumes.items) end c.loop-port.invariant.0
