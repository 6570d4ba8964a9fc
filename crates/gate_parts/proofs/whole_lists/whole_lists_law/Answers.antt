use Rattle.gate_parts.proofs.Kept.{far_after_all, kept_after_all}
use Rattle.gate_parts.proofs.whole_lists.whole_lists_law.Goals as goal

pub returns-clause-far : goal.returns-clause-far
returns-clause-far c = far_after_all

pub returns-clause-kept : goal.returns-clause-kept
returns-clause-kept c = kept_after_all
