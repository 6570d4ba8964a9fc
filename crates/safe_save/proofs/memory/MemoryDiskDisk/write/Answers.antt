use Rattle.safe_save.specs.Memory.{Wrote}
use Rattle.safe_save.proofs.MemoryCalls.{is_done}
use Rattle.safe_save.proofs.memory.MemoryDiskDisk.write.Goals as goal

pub returns-clause-written : goal.returns-clause-written
returns-clause-written c h = (is_done (Wrote c.args.at c.args.bytes.now) c.requires c.begin.ensures.whole c.in_ok-begin.ensures.begun c.write_in.ensures).seen

pub returns-clause-images : goal.returns-clause-images
returns-clause-images c h x = ((is_done (Wrote c.args.at c.args.bytes.now) c.requires c.begin.ensures.whole c.in_ok-begin.ensures.begun c.write_in.ensures).images x).0

pub returns-clause-any_bytes : goal.returns-clause-any_bytes
returns-clause-any_bytes c h = λ d x left differs.
    ((is_done (Wrote c.args.at c.args.bytes.now) c.requires c.begin.ensures.whole c.in_ok-begin.ensures.begun c.write_in.ensures).images x).1 (d, left, differs)
