use Rattle.words_layout.specs.Words.{ComponentOf}
use Rattle.report.proofs.WordsRead.{component_ok}
use Rattle.report.proofs.reading.component_at.Goals as goal

pub load-requires-clause-addr : goal.load-requires-clause-addr
load-requires-clause-addr c = record { word = ComponentOf c.args.of c.args.seg; in_limits = component_ok c.args.of c.args.seg c.requires.of c.requires.seg; here = c.component_addr.ensures }

pub returns : goal.returns
returns c = c.load.ensures (ComponentOf c.args.of c.args.seg) (component_ok c.args.of c.args.seg c.requires.of c.requires.seg) c.component_addr.ensures
