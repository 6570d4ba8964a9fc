use Rattle.std.proofs.Common.{sym, subst}
use Rattle.process.specs.Running.{Absorbed}
use Rattle.process.specs.Standing.{Absorbs}
use Rattle.process.proofs.Stands.{stands_can, stands_asked, stands_low, fresh_absorb, begin_absorb}
use Rattle.process.proofs.process.Process.absorb_first.Goals as goal

pub perform-requires-clause-can : goal.perform-requires-clause-can
perform-requires-clause-can c = stands_can c.args.shared.now c.args.self.now c.requires.fits

pub begin_process-requires-clause-place : goal.begin_process-requires-clause-place
begin_process-requires-clause-place c = stands_low c.args.shared.now c.args.self.now c.requires.fits c.requires.sound

pub ask-requires-clause-fits : goal.ask-requires-clause-fits
ask-requires-clause-fits c =
    let asks = rw c.in-Ask.is at c.requires.next in
    stands_asked c.args.shared.now c.args.self.now c.requires.fits c.in-Ask.request asks

pub ask-requires-clause-place : goal.ask-requires-clause-place
ask-requires-clause-place c = stands_low c.args.shared.now c.args.self.now c.requires.fits c.requires.sound

pub returns-in-Own : goal.returns-in-Own
returns-in-Own c =
    let s = c.args.shared.now in
    let v = c.args.self.now in
    subst (λ (x : Absorbed). Absorbs s v c.perform.new.self x c.perform.result)
    (sym (fresh_absorb s v c.requires.fits c.requires.fresh c.args.free c.args.answer)) (c.perform.ensures c.args.free c.args.answer)

pub returns-in-Begin : goal.returns-in-Begin
returns-in-Begin c =
    let s = c.args.shared.now in
    let v = c.args.self.now in
    let plans = rw c.in-Begin.is at c.requires.next in
    subst (λ (x : Absorbed). Absorbs s v c.begin_process.new.self x c.begin_process.result)
    (sym (begin_absorb s v c.requires.fits c.requires.fresh c.args.free c.args.answer c.in-Begin.script c.in-Begin.start plans)) (c.begin_process.ensures s)
