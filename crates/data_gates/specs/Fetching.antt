-- What the code of fetch stands for.
use Rattle.std.specs.Prelude.{ℕ, ◌+◌, ◌-◌, Bool, true, false, List, length, Option, Some, None}
use Rattle.words_layout.specs.declared.segment.SegId.{SegId}
use Rattle.policy.specs.Outcome.{Outcome, Refused, Words}
use Rattle.policy.specs.declared.rule.Rule.{Rule}
use Rattle.turns.specs.Bodies.{Loads}
use Rattle.turns.specs.Doing.{Doing, Fresh, Act, Look}
use Rattle.turns.specs.Parts.{guard_class, guard_name}
use Rattle.turns.specs.Stands.{looking, refusing}
use Rattle.data_gates.specs.Data.{fetch_body, load_words}
use Rattle.data_gates.specs.declared.fetch.Rest.{Rest}
use Rattle.data_gates.specs.declared.fetch.Rest.TheVariants as R
use Rattle.data_gates.specs.declared.fetch.Fetch.{Fetch}

-- what is left of the body
abbrev pub fetch_left : SegId → (offset count pad frame : ℕ) → (got : List ℕ) → Rest → Loads Outcome
fetch_left u offset count pad frame got R.Home = fetch_body u offset count pad
fetch_left u offset count pad frame got R.Words = load_words frame (offset + length got) (count - length got) got pad
fetch_left u offset count pad frame got (R.Shown refusal) = fetch_body u offset count pad

-- what the body came to
abbrev pub fetch_shows : (pad : ℕ) → (got : List ℕ) → Rest → Outcome
fetch_shows pad got (R.Shown (Some rule)) = Refused rule
fetch_shows pad got _ = Words pad got

-- the act, by the first broken private test
abbrev pub fetch_act : Fetch → Option Rule → Act Outcome
fetch_act f (Some rule) = refusing (Refused rule)
fetch_act f None = Look (guard_class f.look.guard) (guard_name f.look.guard) (fetch_body f.seg f.offset f.count f.pad)

-- how far a fetch is, by its look and by what is left of its body
abbrev pub fetch_doing : Fetch → Option Rule → Doing Outcome
fetch_doing f (Some rule) = Fresh
fetch_doing f None = looking f.look.guard f.look.part (fetch_body f.seg f.offset f.count f.pad)
    (fetch_left f.seg f.offset f.count f.pad f.frame f.words.items f.rest) (fetch_shows f.pad f.words.items f.rest)

-- what it does, and how far it is
abbrev pub act_of : Fetch → Act Outcome
act_of f = fetch_act f f.refusal

-- how far the gate is
abbrev pub doing_of : Fetch → Doing Outcome
doing_of f = fetch_doing f f.refusal
