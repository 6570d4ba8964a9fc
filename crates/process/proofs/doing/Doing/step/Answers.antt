use Rattle.std.proofs.Common.{refl}
use Rattle.process.proofs.doing.Doing.step.Goals as goal

pub step_make_known-requires-clause-class : goal.step_make_known-requires-clause-class
step_make_known-requires-clause-class c = let h = rw c.in-MakeKnown.is at c.requires.held in rw h.0 c.requires.class

pub step_make_known-requires-clause-gate : goal.step_make_known-requires-clause-gate
step_make_known-requires-clause-gate c = let h = rw c.in-MakeKnown.is at c.requires.held in (refl, h.1, h.2)

pub step_fetch-requires-clause-gate : goal.step_fetch-requires-clause-gate
step_fetch-requires-clause-gate c = rw c.in-Fetch.is at c.requires.held

pub step_create-requires-clause-gate : goal.step_create-requires-clause-gate
step_create-requires-clause-gate c = let h = rw c.in-Create.is at c.requires.held in (refl, h.1)

pub step_delete-requires-clause-gate : goal.step_delete-requires-clause-gate
step_delete-requires-clause-gate c = let h = rw c.in-Delete.is at c.requires.held in (refl, h.1)

pub step_swap_in-requires-clause-gate : goal.step_swap_in-requires-clause-gate
step_swap_in-requires-clause-gate c = let h = rw c.in-SwapIn.is at c.requires.held in (refl, h.1)

pub step_swap_out-requires-clause-gate : goal.step_swap_out-requires-clause-gate
step_swap_out-requires-clause-gate c = let h = rw c.in-SwapOut.is at c.requires.held in (refl, h.1)

pub step_update-requires-clause-gate : goal.step_update-requires-clause-gate
step_update-requires-clause-gate c = let h = rw c.in-Update.is at c.requires.held in (refl, h.1)
