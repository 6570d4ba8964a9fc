use Rattle.std.proofs.Common.{◌≡◌, ◌-◌}
use Rattle.words_layout.specs.Segments.{seg}
use Rattle.volume_image.specs.Fields.{records_at}
use Rattle.volume_image.proofs.Loops.{with_front}
use Rattle.volume_image.proofs.body.records_of.Given as goal

abbrev pub invariant-loop : goal.invariant-loop
invariant-loop l = with_front l.records.items (records_at l.format l.table l.before (l.count - l.counter) l.rest) ≡ records_at l.format l.table (seg 0 0) l.count l.bytes
