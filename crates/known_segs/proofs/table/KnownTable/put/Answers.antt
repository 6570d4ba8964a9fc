use Rattle.known_segs.proofs.Tables.{put_right, put_full}
use Rattle.known_segs.proofs.table.KnownTable.put.Goals as goal

pub returns-clause-put : goal.returns-clause-put
returns-clause-put c = put_right c.fill.result c.args.self.now c.args.item c.fill.new.self c.fill.ensures.sixteen c.fill.ensures.computed

pub returns-clause-full : goal.returns-clause-full
returns-clause-full c = put_full c.fill.result c.args.self.now c.args.item c.fill.new.self c.fill.ensures.sixteen c.fill.ensures.computed
