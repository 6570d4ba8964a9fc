-- The rows of the step table for read, await, advance, ticket and out: one operation each, and what its answer shows.
use Rattle.std.specs.Prelude.{ℕ, if◌then◌else◌, nat_lt, List, length, slice_index}
use Rattle.words_layout.specs.Words.{ComponentOf, SequencerOf, Places, WordOp, plus_one}
use Rattle.policy.specs.Known.{Known}
use Rattle.policy.specs.Outcome.{Outcome, Refused, Value, Printed, Tally, tallied}
use Rattle.policy.specs.declared.rule.Rule.TheVariants.{ConsoleFull}

-- read and await: the next component of the segment's eventcount, of those of these classes
abbrev pub read_op : List ℕ → Known → Tally → WordOp
read_op classes k t = WordOp.Load (slice_index classes t.seen) (ComponentOf k.class k.seg)

-- what the look at a component shows
abbrev pub read_shows : List ℕ → ℕ → Tally → ℕ → Outcome
read_shows classes wanted t answer = tallied (length classes) wanted t answer

-- advance: the component of the process's class
abbrev pub advance_op : Known → WordOp
advance_op k = WordOp.Add (ComponentOf k.class k.seg) 1

-- advance shows the component's new number
abbrev pub advance_shows : ℕ → Outcome
advance_shows answer = Value (plus_one answer)

-- ticket: the sequencer
abbrev pub ticket_op : Known → WordOp
ticket_op k = WordOp.Add (SequencerOf k.seg) 1

-- ticket shows the old number
abbrev pub ticket_shows : ℕ → Outcome
ticket_shows answer = Value answer

-- out: the console places used
abbrev pub out_op : WordOp
out_op = WordOp.Add Places 1

-- out shows the place, or that the console is full
abbrev pub out_shows : ℕ → ℕ → ℕ → Outcome
out_shows console value answer = if nat_lt answer console then Printed answer value else Refused ConsoleFull
