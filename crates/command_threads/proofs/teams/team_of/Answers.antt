use Rattle.config_text.specs.declared.config.Config.{Config}
use Rattle.command_threads.proofs.Popping.{AreWide, one_popped, none_popped}
use Rattle.command_threads.proofs.teams.team_of.Goals as goal
use Rattle.command_threads.proofs.teams.team_of.Goals.{then-len-eq2, else-len-eq2, then-len-eq3, else-len-eq3, then-len-eq4, else-len-eq4}

-- after each pop, the list and what was popped have the width
fourths : (c : goal.After-processor_of) → AreWide c.args.config.now c.if-len-eq4.banks.items c.if-len-eq4.fourth
fourths c = let k : Config = c.args.config.now in elim c.if-len-eq4.branch [
  | then-len-eq4 w ↦ one_popped k c.args.banks.now.items c.if-len-eq4.banks.items c.if-len-eq4.fourth (cc) c.requires.width
  | else-len-eq4 w ↦ none_popped k c.args.banks.now.items c.if-len-eq4.banks.items c.if-len-eq4.fourth (cc) (cc) c.requires.width
]

thirds : (c : goal.After-processor_of) → AreWide c.args.config.now c.if-len-eq3.banks.items c.if-len-eq3.third
thirds c = let k : Config = c.args.config.now in elim c.if-len-eq3.branch [
  | then-len-eq3 w ↦ one_popped k c.if-len-eq4.banks.items c.if-len-eq3.banks.items c.if-len-eq3.third (cc) (fourths c).rest
  | else-len-eq3 w ↦ none_popped k c.if-len-eq4.banks.items c.if-len-eq3.banks.items c.if-len-eq3.third (cc) (cc) (fourths c).rest
]

seconds : (c : goal.After-processor_of) → AreWide c.args.config.now c.if-len-eq2.banks.items c.if-len-eq2.second
seconds c = let k : Config = c.args.config.now in elim c.if-len-eq2.branch [
  | then-len-eq2 w ↦ one_popped k c.if-len-eq3.banks.items c.if-len-eq2.banks.items c.if-len-eq2.second (cc) (thirds c).rest
  | else-len-eq2 w ↦ none_popped k c.if-len-eq3.banks.items c.if-len-eq2.banks.items c.if-len-eq2.second (cc) (cc) (thirds c).rest
]

pub processor_if-requires-clause-width : goal.processor_if-requires-clause-width
processor_if-requires-clause-width c = (seconds c).one

pub processor_if-requires-2-clause-width : goal.processor_if-requires-2-clause-width
processor_if-requires-2-clause-width c = (thirds c.before).one

pub processor_if-requires-3-clause-width : goal.processor_if-requires-3-clause-width
processor_if-requires-3-clause-width c = (fourths c.before.before).one
