use Rattle.std.proofs.Common.{take, Ok}
use Rattle.std.specs.Int.{w64, to_be_bytes}
use Rattle.std.specs.List.{flat_map}
use Rattle.volume_image.specs.Puts.{Puts}
use Rattle.volume_image.proofs.writing.put_words.Given as goal

abbrev pub invariant-loop-word : goal.invariant-loop-word
invariant-loop-word l = Puts l.fn.out l.out (Ok tt) (flat_map (to_be_bytes w64) (take l.word-index l.words))
