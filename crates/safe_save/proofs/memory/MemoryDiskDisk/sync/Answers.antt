use Rattle.safe_save.specs.Memory.{Synced}
use Rattle.safe_save.proofs.MemoryCalls.{is_done}
use Rattle.safe_save.proofs.memory.MemoryDiskDisk.sync.Goals as goal

pub returns-clause-seen : goal.returns-clause-seen
returns-clause-seen c h = (is_done Synced tt c.begin.ensures.whole c.in_ok-begin.ensures.begun c.settle.ensures).seen

pub returns-clause-only : goal.returns-clause-only
returns-clause-only c h =
    let done = is_done Synced tt c.begin.ensures.whole c.in_ok-begin.ensures.begun c.settle.ensures in
    rw done.seen done.images
