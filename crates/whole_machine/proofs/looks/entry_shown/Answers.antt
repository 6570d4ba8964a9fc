use Rattle.whole_machine.proofs.looks.entry_shown.Goals as goal

pub entry_judged-requires-clause-entry : goal.entry_judged-requires-clause-entry
entry_judged-requires-clause-entry c = c.requires.entry c.in-Some.alias c.in-Some.is
