use Rattle.class_model.proofs.process.ProcessState.ask.Goals as goal

pub returns-in-MakeKnown-clause-passed : goal.returns-in-MakeKnown-clause-passed
returns-in-MakeKnown-clause-passed c = c.ask_make_known.ensures.passed c.args.shared.now.table

pub returns-in-Fetch-clause-passed : goal.returns-in-Fetch-clause-passed
returns-in-Fetch-clause-passed c = c.ask_fetch.ensures.passed c.args.shared.now.table

pub returns-in-Update-clause-passed : goal.returns-in-Update-clause-passed
returns-in-Update-clause-passed c = c.ask_update.ensures.passed c.args.shared.now.table

pub returns-in-Advance-clause-passed : goal.returns-in-Advance-clause-passed
returns-in-Advance-clause-passed c = c.ask_advance.ensures.passed c.args.shared.now.table
