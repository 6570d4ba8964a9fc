use Rattle.std.proofs.Common.{◌≡◌, sym, subst}
use Rattle.words_layout.specs.Named.{op_at}
use Rattle.class_model.specs.Plan.{plan}
use Rattle.class_model.specs.Next.{IsNext, NextPassed}
use Rattle.process.specs.Running.{next_op}
use Rattle.process.specs.Standing.{Standing, StandingFits, running_of}
use Rattle.process.proofs.Stands.{sound_by, stands_can, stands_op, stands_lawful, stands_within, held_within, begun_asks}
use Rattle.process.proofs.process.Process.next_op.Goals as goal

pub next-requires : goal.next-requires
next-requires c = stands_can c.args.shared.now _ (subst (StandingFits c.args.shared.now) (sym c.self.view_is) c.requires.fits)

pub planned_op-requires-clause-sound : goal.planned_op-requires-clause-sound
planned_op-requires-clause-sound c = sound_by c.args.shared.now c.table.result.now c.table.ensures c.table_law.ensures c.shared_law.ensures

pub planned_op-requires-clause-next : goal.planned_op-requires-clause-next
planned_op-requires-clause-next c =
    let s = c.args.shared.now in
    subst (λ (v : Standing). IsNext v.class v.process (plan s v.class v.process) c.next.result) c.self.view_is c.next.ensures.next

pub planned_op-requires-clause-passed : goal.planned_op-requires-clause-passed
planned_op-requires-clause-passed c =
    subst (λ (v : Standing). NextPassed c.args.shared.now.table v.process c.next.result) c.self.view_is c.next.ensures.passed

pub returns-then-is_fresh-clause-op_fits : goal.returns-then-is_fresh-clause-op_fits
returns-then-is_fresh-clause-op_fits c =
    let s = c.args.shared.now in
    stands_op s c.args.self.now c.requires.fits (sound_by s c.table.result.now c.table.ensures c.table_law.ensures c.shared_law.ensures)

pub returns-then-is_fresh-clause-lawful : goal.returns-then-is_fresh-clause-lawful
returns-then-is_fresh-clause-lawful c =
    let s = c.args.shared.now in
    stands_lawful s c.args.self.now c.requires.fits (sound_by s c.table.result.now c.table.ensures c.table_law.ensures c.shared_law.ensures) c.planned_op.result c.planned_op.ensures

pub returns-then-is_fresh-clause-within : goal.returns-then-is_fresh-clause-within
returns-then-is_fresh-clause-within c =
    let s = c.args.shared.now in
    stands_within s c.args.self.now c.requires.fits (sound_by s c.table.result.now c.table.ensures c.table_law.ensures c.shared_law.ensures) c.planned_op.result c.planned_op.ensures

pub next_op-requires : goal.next_op-requires
next_op-requires c =
    held_within c.args.shared.now c.self.inside.class c.self.inside.state c.self.inside.over c.self.inside.doing c.self.invariant c.args.self.now c.self.view_is (c.is_fresh.ensures.begun c.if-is_fresh.false)

pub returns-else-is_fresh : goal.returns-else-is_fresh
returns-else-is_fresh c =
    let s = c.args.shared.now in
    let v = c.args.self.now in
    let good = sound_by s c.table.result.now c.table.ensures c.table_law.ensures c.shared_law.ensures in
    let asks : c.next_op.result ≡ op_at v.class (next_op s v.class (running_of s v)) =
    begun_asks s c.self.inside.class c.self.inside.state c.self.inside.over c.self.inside.doing c.self.invariant v c.self.view_is (c.is_fresh.ensures.begun c.if-is_fresh.false)
    _ c.table-else-is_fresh.ensures c.next_op.result c.next_op.ensures in
    record {
      op = asks;
      op_fits = stands_op s v c.requires.fits good;
      lawful = stands_lawful s v c.requires.fits good c.next_op.result asks;
      within = stands_within s v c.requires.fits good c.next_op.result asks;
    }
