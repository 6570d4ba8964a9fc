use Rattle.safe_save.proofs.MemoryCalls.{is_refusal}
use Rattle.safe_save.proofs.memory.MemoryDisk.begin.Goals as goal

pub returns-then-next_call_fails-clause-refused : goal.returns-then-next_call_fails-clause-refused
returns-then-next_call_fails-clause-refused c = is_refusal c.next_call_fails.ensures.whole c.next_call_fails.ensures.begun c.refuse.ensures.counted
