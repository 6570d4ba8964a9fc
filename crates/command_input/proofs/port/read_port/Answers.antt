use Rattle.std.proofs.Common.{arith, ap, subst, ◌∙◌, ◌≤◌, take}
use Rattle.std.proofs.lemmas.List.{with_items_is}
use Rattle.command_input.proofs.Reading.{reads_in}
use Rattle.command_input.proofs.port.read_port.Goals as goal

pub returns-clause-bytes : goal.returns-clause-bytes
returns-clause-bytes g c =
    reads_in _ _ _ _ _ _ c.in-Ok-pull_whole.ensures.bytes (omega (arith, c.in-Ok.ensures, c.limit.ensures)) (subst (λ n. c.in-Ok-pull_whole.count ≤ n) c.limit-2.ensures c.if-count-limit.false) c.pull_whole.ensures.keeps c.in-Ok-pull_whole.ensures.same
    (c.truncate.ensures.items ∙ ap (take c.in-Ok-pull_whole.count) (with_items_is c.in-Ok.buffer c.pull_whole.new.buf (omega (arith, c.in-Ok.ensures))))
