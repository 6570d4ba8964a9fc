use Rattle.std.proofs.Common.{rules, ◌≡◌, subst}
use Rattle.safe_save.specs.Memory.{IsWhole, image_of, state_at}
use Rattle.safe_save.proofs.MemoryCalls.{drawn_left}
use Rattle.safe_save.proofs.memory.MemoryDisk.image_after.Goals as goal

pub returns-clause-left : goal.returns-clause-left
returns-clause-left c =
    let whole : IsWhole c.args.self.now = subst IsWhole c.self.view_is (record { size = c.self.invariant.size; within = c.self.invariant.within }) in
    let drawn : c.draw.new.image ≡ image_of c.args.fill (state_at c.args.self.now c.args.call) = search rules in
    drawn_left c.args.self.now c.args.call c.args.fill c.draw.new.image whole drawn
