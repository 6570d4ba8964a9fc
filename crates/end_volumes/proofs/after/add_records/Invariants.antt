use Rattle.std.proofs.Common.{◌*◌, length}
use Rattle.std.specs.Prelude.{[]}
use Rattle.std.specs.Option.{option_map}
use Rattle.words_layout.specs.Segments.{numbered}
use Rattle.machine.specs.Banks.{machine_of}
use Rattle.loader.specs.Configuration.{configuration}
use Rattle.end_volumes.specs.After.{found, record_of, tree_of_words, listed}
use Rattle.end_volumes.proofs.AfterVolume.{Adding}
use Rattle.end_volumes.proofs.after.add_records.Given as goal

abbrev pub invariant-loop-number : goal.invariant-loop-number
invariant-loop-number l =
    Adding (λ n. option_map (record_of (tree_of_words (machine_of l.machine)) (numbered n)) (found (configuration l.config []) l.volume (listed l.origins) (64 * length l.config.table) (numbered n))) l.number l.fn.image l.image
