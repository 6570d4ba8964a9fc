use Rattle.safe_save.specs.Memory.{Idle}
use Rattle.safe_save.proofs.MemoryCalls.{is_done}
use Rattle.safe_save.proofs.memory.MemoryDiskDisk.read.Goals as goal

pub returns-clause-seen : goal.returns-clause-seen
returns-clause-seen c h = (is_done Idle tt c.begin.ensures.whole c.in_ok-begin.ensures.begun c.read_out.ensures.noted).seen

pub returns-clause-images : goal.returns-clause-images
returns-clause-images c h = (is_done Idle tt c.begin.ensures.whole c.in_ok-begin.ensures.begun c.read_out.ensures.noted).images

pub returns-clause-time : goal.returns-clause-time
returns-clause-time c h = (is_done Idle tt c.begin.ensures.whole c.in_ok-begin.ensures.begun c.read_out.ensures.noted).time
