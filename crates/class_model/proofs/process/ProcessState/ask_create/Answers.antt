use Rattle.std.proofs.Common.{◌∙◌, sym}
use Rattle.class_model.proofs.Passed.{create_child}
use Rattle.class_model.proofs.process.ProcessState.ask_create.Goals as goal

pub returns-clause-range : goal.returns-clause-range
returns-clause-range c = (
  create_child c.args.table.now c.self.inside.ring c.register-entry.result c.register-class.result c.register-brackets.result c.register-size.result
      c.in_ok-known.known (sym c.create_refusal-refusal.ensures ∙ c.in_ok-unless.ensures),
  c.in_ok-known.ensures.class _ c.requires,
)
