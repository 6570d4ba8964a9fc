use Rattle.std.proofs.Common.{◌≡◌, ◌*◌, ◌-◌, length}
use Rattle.words_layout.specs.Limits.{IsIdentity}
use Rattle.loader.specs.Configuration.{configuration}
use Rattle.std.specs.Prelude.{[]}
use Rattle.end_volumes.specs.After.{is_led, listed}
use Rattle.end_volumes.proofs.after.is_led.Given as goal

abbrev pub invariant-loop-entry : goal.invariant-loop-entry
invariant-loop-entry l =
    record {
      range : IsIdentity l.above;
      same : is_led (configuration l.config []) (listed l.origins) (64 * length l.config.table - l._entry) l.above_class l.above ≡ is_led (configuration l.config []) (listed l.origins) (64 * length l.config.table) l.fn.class l.fn.seg;
    }
