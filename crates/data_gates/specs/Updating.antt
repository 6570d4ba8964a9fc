-- What the code of update stands for.
use Rattle.std.specs.Prelude.{ℕ, ◌+◌, ◌-◌, List, Option, Some, None}
use Rattle.lists.specs.Lists.{part_of}
use Rattle.words_layout.specs.declared.segment.SegId.{SegId}
use Rattle.policy.specs.Outcome.{Outcome, Refused, Value}
use Rattle.policy.specs.declared.rule.Rule.{Rule}
use Rattle.turns.specs.Bodies.{Inner}
use Rattle.turns.specs.Doing.{Doing, Fresh, Act, SegmentTurn}
use Rattle.turns.specs.Stands.{turning, refusing}
use Rattle.data_gates.specs.Data.{update_body, store_words, count_write}
use Rattle.data_gates.specs.declared.update.Rest.{Rest}
use Rattle.data_gates.specs.declared.update.Rest.TheVariants as R
use Rattle.data_gates.specs.declared.update.Update.{Update}

-- what is left of the body: words are those of the pad from place pad on, and so many of them are stored
abbrev pub update_left : SegId → (offset count pad : ℕ) → (words : List ℕ) → (frame stored : ℕ) → Rest → Inner Outcome
update_left u offset count pad words frame stored R.Home = update_body u offset (part_of words pad count)
update_left u offset count pad words frame stored R.Words =
    store_words frame (offset + stored) (part_of words (pad + stored) (count - stored)) (count_write u)
update_left u offset count pad words frame stored R.Count = count_write u
update_left u offset count pad words frame stored (R.Shown refusal) = update_body u offset (part_of words pad count)

-- what the body came to
abbrev pub update_shows : (writes : ℕ) → Rest → Outcome
update_shows writes (R.Shown (Some rule)) = Refused rule
update_shows writes _ = Value writes

-- the act, by the first broken private test
abbrev pub update_act : Update → Option Rule → Act Outcome
update_act f (Some rule) = refusing (Refused rule)
update_act f None = SegmentTurn f.seg (update_body f.seg f.offset (part_of f.words f.pad f.count))

-- how far an update is, by its turn and by what is left of its body
abbrev pub update_doing : Update → Option Rule → Doing Outcome
update_doing f (Some rule) = Fresh
update_doing f None = turning f.seg f.turn.part (update_body f.seg f.offset (part_of f.words f.pad f.count))
    (update_left f.seg f.offset f.count f.pad f.words f.frame f.stored f.rest) (update_shows f.writes f.rest)

-- what it does, and how far it is
abbrev pub act_of : Update → Act Outcome
act_of f = update_act f f.refusal

-- how far the gate is
abbrev pub doing_of : Update → Doing Outcome
doing_of f = update_doing f f.refusal
