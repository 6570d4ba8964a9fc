-- What the code of the gates of counts stands for.
use Rattle.std.specs.Prelude.{ℕ, ◌==◌, List, Option, Some, None}
use Rattle.std.specs.List.{filter}
use Rattle.std.specs.Int.{bit_at}
use Rattle.lists.specs.Lists.{below}
use Rattle.policy.specs.Known.{Known}
use Rattle.policy.specs.Outcome.{Outcome, Refused, Looked, Tally}
use Rattle.policy.specs.declared.rule.Rule.{Rule}
use Rattle.turns.specs.Doing.{Fresh, Ending, Goes, Polls, Ends, Told, Act, Once}
use Rattle.gate_parts.specs.Replies.{unless_broken}
use Rattle.evc_gates.specs.Count.{read_op, read_shows, advance_op, advance_shows, ticket_op, ticket_shows, out_op, out_shows}

-- the classes whose bits are set, in order
abbrev pub classes_of : ℕ → List ℕ
classes_of bits = filter (λ c. bit_at bits c == 1) (below 16)

-- a look goes on to the next one, or starts again where the sum is too little; all else ends
abbrev pub look_ending : Outcome → Ending
look_ending (Looked (Some t)) = Goes
look_ending (Looked None) = Polls
look_ending _ = Ends

-- what one operation shows takes effect at once
abbrev pub shown_at_once : Outcome → Told Outcome
shown_at_once o = record { takes = Some o; doing = Fresh; ending = look_ending o }

-- so many looks, with this sum
abbrev pub tally : ℕ → ℕ → Tally
tally seen sum = record { seen = seen; sum = sum }

-- the next look of a read or an await
abbrev pub sum_act : Option Rule → List ℕ → Known → (wanted : ℕ) → Tally → Act Outcome
sum_act refusal classes k wanted t = unless_broken refusal (Once (read_op classes k t) (λ w. shown_at_once (read_shows classes wanted t w)))

-- the tally behind what a look showed: it starts again after the last look
abbrev pub tally_shown : Tally → Outcome → Tally
tally_shown t (Looked (Some u)) = u
tally_shown t (Refused rule) = t
tally_shown t _ = tally 0 0

-- the tally after a look
abbrev pub tally_after : Tally → Option Outcome → Tally
tally_after t None = t
tally_after t (Some o) = tally_shown t o

-- advance: one addition, or a refusal
abbrev pub advance_act : Option Rule → Known → Act Outcome
advance_act refusal k = unless_broken refusal (Once (advance_op k) (λ w. shown_at_once (advance_shows w)))

-- ticket: one addition, or a refusal
abbrev pub ticket_act : Option Rule → Known → Act Outcome
ticket_act refusal k = unless_broken refusal (Once (ticket_op k) (λ w. shown_at_once (ticket_shows w)))

-- the console has so many places, and the value is to be printed
abbrev pub out_act : (size value : ℕ) → Act Outcome
out_act size value = Once out_op (λ w. shown_at_once (out_shows size value w))
