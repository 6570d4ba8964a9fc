use Rattle.std.proofs.Common.{arith}
use Rattle.class_model.specs.Valid.{IsConfig}
use Rattle.config_text.specs.declared.config.Config.{Config as ConfigText}
use Rattle.loader.specs.Records.{Volumes}
use Rattle.machine.specs.Machine.{Machine}
use Rattle.machine.specs.Banks.{machine_of}
use Rattle.command_input.specs.Input.{loaded}
use Rattle.low_answer.proofs.Ended.{count, low_prints}
use Rattle.command_view.specs.Viewed.{IsMachineSection, section_due}
use Rattle.command_view.proofs.Viewed.{section_is, whole}
use Rattle.command_view.proofs.viewing.print_view.Goals as goal

pub section-printed-requires : goal.section-printed-requires
section-printed-requires g c =
    let n = count c.args.class c.args.input.now.config c.args.input.now.volumes.items (machine_of c.args.machine.now) c.requires.machine in
    omega (arith, n, c.requires.class)

pub returns : goal.returns
returns g c =
    let k : ConfigText = c.args.input.now.config in
    let vs : Volumes = c.args.input.now.volumes.items in
    let m : Machine = machine_of c.args.machine.now in
    let valid : IsConfig (loaded k vs) = c.volumes_law.ensures k c.requires.valid vs c.requires.volumes c.requires.loads in
    let is = section_is c.args.class k vs c.section_laws.ensures.sections valid c.requires.few m c.requires.machine c.shown_laws.ensures.low_parts in
    low_prints c.args.class k vs m c.requires.machine section_due IsMachineSection (whole c.args.class k vs c.section_laws.ensures.sections valid c.requires.few) _ _ _ _
    (rw is at c.section-printed.ensures) c.answer_after.ensures
