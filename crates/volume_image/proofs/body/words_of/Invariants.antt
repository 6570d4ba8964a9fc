use Rattle.std.proofs.Common.{◌≡◌, ◌-◌}
use Rattle.volume_image.specs.Fields.{words_at}
use Rattle.volume_image.proofs.Loops.{with_front}
use Rattle.volume_image.proofs.body.words_of.Given as goal

abbrev pub invariant-loop : goal.invariant-loop
invariant-loop l = with_front l.words.items (words_at (l.count - l.counter) l.rest) ≡ words_at l.count l.bytes
