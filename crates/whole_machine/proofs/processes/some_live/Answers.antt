use Rattle.std.proofs.Common.{◌∙◌}
use Rattle.whole_machine.specs.Parts.{slots_in}
use Rattle.whole_machine.proofs.Pieces.{processors_live}
use Rattle.whole_machine.proofs.processes.some_live.Goals as goal

pub returns : goal.returns
returns c = c.lives_anywhere.ensures ∙ processors_live (slots_in c.args.part.now.bank)
