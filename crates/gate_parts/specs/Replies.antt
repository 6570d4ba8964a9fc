-- What a gate answers to its caller at a step, and what it stands for at its start.
use Rattle.std.specs.Prelude.{ℕ, ◌<◌, ◌≤◌, Bool, true, ◌≡◌, List, length, Option, Some, None}
use Rattle.words_layout.specs.Limits.{IsIdentity}
use Rattle.policy.specs.Known.{Known, modifies}
use Rattle.policy.specs.Verdict.{number, first_broken}
use Rattle.policy.specs.Outcome.{Outcome, Refused, Value, Learns, Words, Printed, Looked, Counted}
use Rattle.policy.specs.declared.rule.Rule.{Rule}
use Rattle.policy.specs.declared.rule.Rule.TheVariants.{UnknownSegno}
use Rattle.policy.specs.declared.answers.Reply.{Reply}
use Rattle.policy.specs.declared.answers.Outcome.{Outcome as Answer}
use Rattle.policy.specs.declared.answers.Outcome.TheVariants as A
use Rattle.turns.specs.Doing.{Told, Ending, Goes, Polls, Ends, Act}
use Rattle.turns.specs.Stands.{refusing}

-- the reply of an outcome: the rule's number with value 0, or 0 with the value
abbrev pub reply_of : Outcome → Reply
reply_of (Refused rule) = record { code = number rule; value = 0 }
reply_of (Value v) = record { code = 0; value = v }
reply_of (Learns known) = record { code = 0; value = 0 }
reply_of (Words pad words) = record { code = 0; value = length words }
reply_of (Printed place v) = record { code = 0; value = place }
reply_of (Looked tally) = record { code = 0; value = 0 }
reply_of (Counted sum) = record { code = 0; value = sum }

-- the reply of what takes effect, if anything does, else the one that was kept
abbrev pub reply_now : Option Outcome → Option Reply → Reply
reply_now (Some shown) kept = reply_of shown
reply_now None (Some reply) = reply
reply_now None None = record { code = 0; value = 0 }

-- what a step is answered by, from how it ends
abbrev pub answer_by : Ending → Reply → Answer
answer_by Goes reply = A.Going
answer_by Polls reply = A.Poll
answer_by Ends reply = A.Done reply

-- what the caller is answered where the step told this, and this reply was kept from an effect before
abbrev pub answers : Told Outcome → Option Reply → Answer
answers told kept = answer_by told.ending (reply_now told.takes kept)

-- the reply is kept where the step takes effect and its turn is yet to be left
abbrev pub reply_kept_by : Ending → Option Outcome → Option Reply → Option Reply
reply_kept_by Goes (Some shown) kept = Some (reply_of shown)
reply_kept_by _ _ kept = kept

-- the reply that is kept: that of an effect which an end is still to follow
abbrev pub reply_kept : Told Outcome → Option Reply → Option Reply
reply_kept told kept = reply_kept_by told.ending told.takes kept

-- an act whose private tests have this first broken rule, or none
abbrev pub unless_broken : Option Rule → Act Outcome → Act Outcome
unless_broken None act = act
unless_broken (Some rule) act = refusing (Refused rule)

-- An act by a known segment: UnknownSegno where the place is empty, else the first broken one of the tests, else the act.
abbrev pub begins : Option Known → (Known → List (Bool × Rule)) → (Known → Act Outcome) → Act Outcome
begins None tests act = refusing (Refused UnknownSegno)
begins (Some k) tests act = unless_broken (first_broken (tests k)) (act k)

-- a known segment within the limits of the layout
abbrev pub IsKnown : Known → Type 0
IsKnown k = (k.class < 16) × IsIdentity k.seg × (k.size ≤ 64)

-- a known segment, if any, is within the limits, and of the caller's class where it may be modified
abbrev pub KnownTo : ℕ → Option Known → Type 0
KnownTo d None = Unit {0}
KnownTo d (Some k) = IsKnown k × (modifies k.rights ≡ true → k.class ≡ d)
