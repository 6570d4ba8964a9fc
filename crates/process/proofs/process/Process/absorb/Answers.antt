use Rattle.std.proofs.Common.{sym, subst}
use Rattle.class_model.specs.Plan.{plan}
use Rattle.class_model.specs.Next.{IsNext, NextPassed}
use Rattle.process.specs.Running.{Absorbed, absorb}
use Rattle.process.specs.Standing.{Standing, StandingFits, Absorbs, IsHeld, running_of}
use Rattle.process.proofs.Stands.{sound_by, stands_can, stands_low, stands_after, stands_given, begun_absorbs}
use Rattle.process.proofs.process.Process.absorb.Goals as goal

pub next-next-requires : goal.next-next-requires
next-next-requires c = stands_can c.args.shared.now _ (subst (StandingFits c.args.shared.now) (sym c.self.view_is) c.requires.fits)

pub absorb_first-requires-clause-sound : goal.absorb_first-requires-clause-sound
absorb_first-requires-clause-sound c = sound_by c.args.shared.now c.table.result.now c.table.ensures c.table_law.ensures c.shared_law.ensures

pub absorb_first-requires-clause-next : goal.absorb_first-requires-clause-next
absorb_first-requires-clause-next c =
    let s = c.args.shared.now in
    subst (λ (v : Standing). IsNext v.class v.process (plan s v.class v.process) c.next-next.result) c.self.view_is c.next-next.ensures.next

pub absorb_first-requires-clause-passed : goal.absorb_first-requires-clause-passed
absorb_first-requires-clause-passed c =
    subst (λ (v : Standing). NextPassed c.args.shared.now.table v.process c.next-next.result) c.self.view_is c.next-next.ensures.passed

pub absorb_next-requires : goal.absorb_next-requires
absorb_next-requires c =
    let s = c.args.shared.now in
    let good = sound_by s c.table.result.now c.table.ensures c.table_law.ensures c.shared_law.ensures in
    record { fits = c.requires.fits; begun = c.is_fresh.ensures.begun c.if-is_fresh.false; place = stands_low s c.args.self.now c.requires.fits good; table = c.requires.fits.fits.class }

pub returns-then-is_fresh-clause-given : goal.returns-then-is_fresh-clause-given
returns-then-is_fresh-clause-given c =
    let s = c.args.shared.now in
    let good = sound_by s c.table.result.now c.table.ensures c.table_law.ensures c.shared_law.ensures in
    stands_given s c.args.self.now c.requires.fits good c.args.free c.args.answer c.absorb_first.new.self c.absorb_first.result c.absorb_first.ensures

pub returns-then-is_fresh-clause-fits : goal.returns-then-is_fresh-clause-fits
returns-then-is_fresh-clause-fits c =
    let s = c.args.shared.now in
    let good = sound_by s c.table.result.now c.table.ensures c.table_law.ensures c.shared_law.ensures in
    stands_after s c.args.self.now c.requires.fits good c.args.free c.args.answer c.absorb_first.new.self c.absorb_first.result c.absorb_first.ensures

pub returns-else-is_fresh : goal.returns-else-is_fresh
returns-else-is_fresh c =
    let s = c.args.shared.now in
    let v = c.args.self.now in
    let good = sound_by s c.table.result.now c.table.ensures c.table_law.ensures c.shared_law.ensures in
    let held = subst (λ (w : Standing). IsHeld w.class w.doing) c.self.view_is c.self.invariant in
    let a : Absorbs s v c.absorb_next.new.self (absorb s v.class (running_of s v) c.args.free c.args.answer) c.absorb_next.result =
    subst (λ (x : Absorbed). Absorbs s v c.absorb_next.new.self x c.absorb_next.result)
    (sym (begun_absorbs s v held (c.is_fresh.ensures.begun c.if-is_fresh.false) c.args.free c.args.answer)) c.absorb_next.ensures in
    record {
      running = a.running;
      class = a.class;
      ending = a.ending;
      reply = a.reply;
      effect = a.effect;
      made = a.made;
      given = stands_given s v c.requires.fits good c.args.free c.args.answer c.absorb_next.new.self c.absorb_next.result a;
      fits = stands_after s v c.requires.fits good c.args.free c.args.answer c.absorb_next.new.self c.absorb_next.result a;
    }
