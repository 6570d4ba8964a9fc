use Rattle.std.proofs.Common.{◌∙◌, refl, sym, inl, inr}
use Rattle.class_model.specs.Valid.{IsConfig}
use Rattle.config_text.specs.declared.config.Config.{Config as ConfigText}
use Rattle.loader.specs.Records.{Volumes}
use Rattle.report.proofs.Texts.{pushed_as, torn_as}
use Rattle.machine.specs.Machine.{Machine}
use Rattle.machine.specs.Banks.{machine_of}
use Rattle.command_run.specs.Headline.{image_in}
use Rattle.command_run.specs.Shows.{due}
use Rattle.command_input.specs.Input.{loaded}
use Rattle.command_run.proofs.Pushing.{images_as, image_torn_as}
use Rattle.command_run.proofs.Reports.{report_is, run_ends, images_due}
use Rattle.command_run.proofs.ending.finish.Goals as goal

pub returns-in-Err : goal.returns-in-Err
returns-in-Err g c = λ events same few.
    let k : ConfigText = c.args.input.now.config in
    let vs : Volumes = c.args.input.now.volumes.items in
    let m : Machine = machine_of c.args.machine.now in
    let valid : IsConfig (loaded k vs) = c.volumes_law.ensures k c.requires.valid vs c.requires.volumes c.requires.loads in
    inl (refl, torn_as _ _ _ _ (report_is c.section_laws.ensures.reports k vs events valid few m same) c.in-Err.ensures)

pub returns-then-some_live : goal.returns-then-some_live
returns-then-some_live g c = λ events same few.
    let k : ConfigText = c.args.input.now.config in
    let vs : Volumes = c.args.input.now.volumes.items in
    let m : Machine = machine_of c.args.machine.now in
    let valid : IsConfig (loaded k vs) = c.volumes_law.ensures k c.requires.valid vs c.requires.volumes c.requires.loads in (
      pushed_as _ _ _ _ (report_is c.section_laws.ensures.reports k vs events valid few m same) c.in-Ok.ensures,
      run_ends c.section_laws.ensures.reports k vs events valid few m same _ (sym c.some_live.ensures ∙ c.if-some_live.true),
    )

pub returns-in-Ok-push_volumes : goal.returns-in-Ok-push_volumes
returns-in-Ok-push_volumes g c = λ events same few.
    let k : ConfigText = c.args.input.now.config in
    let vs : Volumes = c.args.input.now.volumes.items in
    let m : Machine = machine_of c.args.machine.now in
    let valid : IsConfig (loaded k vs) = c.volumes_law.ensures k c.requires.valid vs c.requires.volumes c.requires.loads in
    let ends = run_ends c.section_laws.ensures.reports k vs events valid few m same _ (sym c.some_live.ensures ∙ c.if-some_live.false) in (
      record {
        middle = _;
        report = pushed_as _ _ _ _ (report_is c.section_laws.ensures.reports k vs events valid few m same) c.in-Ok.ensures;
        images = images_as 5 k (image_in (loaded k vs) m) (due k vs events) _ _ (images_due k vs events m same c.volume_laws.ensures.words valid few ends.live_is) c.in-Ok-push_volumes.ensures.pushed;
      },
      ends,
    )

pub returns-in-Err-push_volumes : goal.returns-in-Err-push_volumes
returns-in-Err-push_volumes g c = λ events same few.
    let k : ConfigText = c.args.input.now.config in
    let vs : Volumes = c.args.input.now.volumes.items in
    let m : Machine = machine_of c.args.machine.now in
    let valid : IsConfig (loaded k vs) = c.volumes_law.ensures k c.requires.valid vs c.requires.volumes c.requires.loads in
    let ends = run_ends c.section_laws.ensures.reports k vs events valid few m same _ (sym c.some_live.ensures ∙ c.if-some_live.false) in
    inr (
      _,
      pushed_as _ _ _ _ (report_is c.section_laws.ensures.reports k vs events valid few m same) c.in-Ok.ensures,
      image_torn_as _ k (image_in (loaded k vs) m) (due k vs events) _ _ (images_due k vs events m same c.volume_laws.ensures.words valid few ends.live_is) c.in-Err-push_volumes.ensures.torn,
      ends,
    )
