-- The section that is pushed is the one that is due.
use Rattle.std.proofs.Common.{◌≡◌, ℕ, ◌≤◌, length, sym, ap, ◌∙◌}
use Rattle.class_model.specs.Valid.{IsConfig}
use Rattle.machine.specs.Machine.{Machine}
use Rattle.report.specs.Reported.{section}
use Rattle.report_laws.specs.Shown.{ShowsByLowParts}
use Rattle.effect_laws.specs.Laws.{SectionsAreLow}
use Rattle.schedule.specs.Schedule.{events_of}
use Rattle.config_text.specs.declared.config.Config.{Config as ConfigText}
use Rattle.command_input.specs.Input.{loaded}
use Rattle.loader.specs.Records.{Volumes}
use Rattle.low_answer.proofs.Ended.{low_machine}
use Rattle.command_view.specs.Viewed.{IsMachineSection, section_due}

module _ (class : ℕ) (k : ConfigText) (vs : Volumes) (sections : SectionsAreLow) (valid : IsConfig (loaded k vs)) (few : length (events_of k) ≤ 4194304) where
  pub whole : IsMachineSection class k vs
  whole = sections (loaded k vs) (events_of k) valid few class

  pub section_is : (m : Machine) → m ≡ low_machine class k vs → ShowsByLowParts → section class m ≡ section_due class k vs
  section_is m same parts = ap (section class) same ∙ (sym (parts (loaded k vs) valid (events_of k) class) ∙ whole)
