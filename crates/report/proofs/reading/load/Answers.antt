use Rattle.std.proofs.Common.{◌+◌, arith}
use Rattle.report.proofs.WordsRead.{read_named}
use Rattle.report.proofs.reading.load.Goals as goal

pub word-requires : goal.word-requires
word-requires c =
    let named = c.requires.addr in
    let lt = c.address_laws.ensures.within (c.args.class + 1) c.args.class named.word (omega arith) named.in_limits in
    omega (arith, lt, named.here, c.requires.class.there)

pub returns : goal.returns
returns c = read_named c.args.words.now c.args.class c.args.addr.0 _ c.word.ensures
