use Rattle.std.proofs.Common.{◌≡◌, ap, arith}
use Rattle.class_model.specs.Config.{classes}
use Rattle.worked_mail.proofs.mail.sections.Goals as goal

pub model_section-requires-2 : goal.model_section-requires-2
model_section-requires-2 c =
    let same : classes c.run_mail.new.state.shared ≡ classes c.in_ok-state.state.shared = ap classes c.run_mail.ensures.shared in
    let two : classes c.in_ok-state.state.shared ≡ 2 = c.in_ok-state.ensures in omega (arith, same, two)
