-- The looks of read and await.
use Rattle.std.specs.Prelude.{ℕ, ◌+◌, ◌<◌, ◌≤◌, ◌≡◌, List, [], ◌∷◌, length, take, slice_index, Option, None}
use Rattle.policy.specs.Outcome.{Outcome, Tally}
use Rattle.policy.specs.Known.{Known}
use Rattle.policy.specs.declared.rule.Rule.{Rule}
use Rattle.turns.specs.Doing.{Act, Told, act_told}
use Rattle.evc_gates.specs.Counting.{sum_act, tally, tally_after}
use Rattle.evc_gates.specs.declared.sum.Sum.{Sum}

-- the look with this tally
abbrev pub look_with : Sum → Tally → Act Outcome
look_with s t = sum_act s.refusal s.classes.items s.known s.wanted t

-- how far the looks are
abbrev pub tally_of : Sum → Tally
tally_of s = tally s.seen s.sum

-- the class of the next component
abbrev pub next_class : Sum → ℕ
next_class s = slice_index s.classes.items s.seen

-- the next look
abbrev pub next_look : Sum → Act Outcome
next_look s = look_with s (tally s.seen s.sum)

-- the look behind one that told this
abbrev pub look_behind : Sum → Told Outcome → Act Outcome
look_behind s told = look_with s (tally_after (tally s.seen s.sum) told.takes)

-- Where the private tests were passed, a component is still to be looked at. It holds from the start on.
abbrev pub HasNext : Sum → Type 0
HasNext s = s.refusal ≡ None → s.seen < length s.classes.items

-- the two look for one request: only the tally may differ
pub record SameRequest (before after : Sum) : Type 0 where
  pub refusal : after.refusal ≡ before.refusal
  pub classes : after.classes.items ≡ before.classes.items
  pub known : after.known ≡ before.known
  pub wanted : after.wanted ≡ before.wanted

-- the tally behind an answer
abbrev pub next_tally : Option Rule → List ℕ → Known → (wanted : ℕ) → Tally → ℕ → Tally
next_tally refusal classes k wanted t answer = tally_after t (act_told (sum_act refusal classes k wanted t) answer).takes

-- behind a whole list of answers
abbrev pub tally_from : Option Rule → List ℕ → Known → (wanted : ℕ) → Tally → List ℕ → Tally
tally_from refusal classes k wanted t [] = t
tally_from refusal classes k wanted t (answer ∷ more) = tally_from refusal classes k wanted (next_tally refusal classes k wanted t answer) more

-- where each answer makes the next tally, the tally after any list of answers is the one behind them all
abbrev pub TallyAfterAll : Type 0
TallyAfterAll = (refusal : Option Rule) (classes : List ℕ) (known : Known) (wanted : ℕ) (given : List ℕ) (tallies : ℕ → Tally) → tallies 0 ≡ tally 0 0 →
    ((k : ℕ) → k < length given → tallies (k + 1) ≡ next_tally refusal classes known wanted (tallies k) (slice_index given k)) →
    (k : ℕ) → k ≤ length given → tallies k ≡ tally_from refusal classes known wanted (tally 0 0) (take k given)
