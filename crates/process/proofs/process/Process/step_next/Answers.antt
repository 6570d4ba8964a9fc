use Rattle.std.proofs.Common.{◌≡◌, sym, subst}
use Rattle.words_layout.specs.Named.{op_at}
use Rattle.process.specs.Running.{Absorbed, next_op, absorb}
use Rattle.process.specs.Standing.{Standing, Absorbs, IsHeld, running_of}
use Rattle.process.proofs.Stands.{stands_low, stands_within, stands_step, held_within, begun_asks, begun_absorbs}
use Rattle.process.proofs.process.Process.step_next.Goals as goal

pub next_op-requires : goal.next_op-requires
next_op-requires g c =
    held_within c.args.shared.now c.self.inside.class c.self.inside.state c.self.inside.over c.self.inside.doing c.self.invariant c.args.self.now c.self.view_is c.requires.begun

pub perform-answer-requires : goal.perform-answer-requires
perform-answer-requires g c =
    let s = c.args.shared.now in
    rw c.requires.layout (stands_within s c.args.self.now c.requires.fits c.requires.sound c.next_op.result
    (begun_asks s c.self.inside.class c.self.inside.state c.self.inside.over c.self.inside.doing c.self.invariant c.args.self.now c.self.view_is c.requires.begun
    _ c.table.ensures c.next_op.result c.next_op.ensures))

pub absorb_next-requires-clause-place : goal.absorb_next-requires-clause-place
absorb_next-requires-clause-place g c = stands_low c.args.shared.now c.args.self.now c.requires.fits c.requires.sound

pub absorb_next-requires-clause-table : goal.absorb_next-requires-clause-table
absorb_next-requires-clause-table g c = c.requires.fits.fits.class

pub returns-clause-step : goal.returns-clause-step
returns-clause-step g c = λ free.
    let s = c.args.shared.now in
    let v = c.args.self.now in
    let held = subst (λ (w : Standing). IsHeld w.class w.doing) c.self.view_is c.self.invariant in
    let asks : c.next_op.result ≡ op_at v.class (next_op s v.class (running_of s v)) =
    begun_asks s c.self.inside.class c.self.inside.state c.self.inside.over c.self.inside.doing c.self.invariant v c.self.view_is c.requires.begun
    _ c.table.ensures c.next_op.result c.next_op.ensures in
    let a : Absorbs s v c.absorb_next.new.self (absorb s v.class (running_of s v) free c.perform-answer.result) c.absorb_next.result =
    subst (λ (x : Absorbed). Absorbs s v c.absorb_next.new.self x c.absorb_next.result)
    (sym (begun_absorbs s v held c.requires.begun free c.perform-answer.result)) c.absorb_next.ensures in
    stands_step s v c.requires.fits c.requires.sound g.W.WordPort.relation free _ _ c.next_op.result c.perform-answer.result _ _
    asks c.perform-answer.ensures.related a
