use Rattle.std.proofs.Common.{◌∙◌, sym, ap}
use Rattle.class_model.specs.State.{Part, with_process}
use Rattle.whole_machine.specs.Parts.{part_in}
use Rattle.whole_machine.proofs.Banked.{begun_is}
use Rattle.whole_machine.proofs.part.PartState.begin.Goals as goal

pub returns-in-Some : goal.returns-in-Some
returns-in-Some c n p a b h =
    c.put.ensures ∙ ap (λ (z : Part). with_process z c.args.processor c.in-Some.free c.args.child) (c.settle-in-Some.ensures p h) ∙
    begun_is (part_in c.args.self.now) n p c.args.child c.in-Some.free _ c.args.processor c.args.slot a b (sym c.free_slot.ensures.free ∙ c.in-Some.is)
