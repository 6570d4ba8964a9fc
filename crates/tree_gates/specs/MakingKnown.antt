-- What the code of makeknown stands for, by the class table.
use Rattle.std.specs.Prelude.{ℕ, ◌≡◌, List, Option, Some, None}
use Rattle.std.specs.Option.{option_map}
use Rattle.labels.specs.Label.{ClassEntry}
use Rattle.words_layout.specs.Words.{OfClass}
use Rattle.words_layout.specs.declared.coding.Alias.{Alias}
use Rattle.policy.specs.Known.{Known, rights_of, known_by}
use Rattle.policy.specs.Outcome.{Outcome, Refused, Value, Learns}
use Rattle.policy.specs.declared.rule.Rule.{Rule}
use Rattle.turns.specs.Bodies.{Loads}
use Rattle.turns.specs.Doing.{Doing, Fresh, Act, Look}
use Rattle.turns.specs.Stands.{looking, refusing}
use Rattle.tree_gates.specs.Tree.{make_known_body}
use Rattle.tree_gates.specs.MakeKnownRest.{IsEntry}
use Rattle.tree_gates.specs.declared.make_known.Rest.{Rest}
use Rattle.tree_gates.specs.declared.make_known.Rest.TheVariants as R
use Rattle.tree_gates.specs.declared.make_known.MakeKnown.{MakeKnown}

-- the act of a caller of class d in a ring, by a known mentor
abbrev pub make_known_by : List ClassEntry → (d ring entry mode : ℕ) → Known → Act Outcome
make_known_by table d ring entry mode k = Look k.class OfClass (make_known_body table d ring k entry mode)

-- the body
abbrev pub make_known_loads : List ClassEntry → MakeKnown → Loads Outcome
make_known_loads table f = make_known_body table f.class f.ring f.mentor f.entry f.want.0

-- what the body came to, by the mentor's class and the mode
abbrev pub make_known_shows : (mentor_class mode : ℕ) → Rest → Outcome
make_known_shows m mode R.Entry = Value 0
make_known_shows m mode (R.Refused rule) = Refused rule
make_known_shows m mode (R.Learns a) = Learns (known_by m a (rights_of mode))

-- the act, by the first broken private test
abbrev pub make_known_act : List ClassEntry → MakeKnown → Option Rule → Act Outcome
make_known_act table f (Some rule) = refusing (Refused rule)
make_known_act table f None = Look f.mentor.class OfClass (make_known_loads table f)

-- how far a makeknown is, by its look and by what is left of its body
abbrev pub make_known_doing : List ClassEntry → MakeKnown → Option Rule → Doing Outcome
make_known_doing table f (Some rule) = Fresh
make_known_doing table f None = looking f.look.guard f.look.part (make_known_loads table f) (make_known_loads table f)
    (make_known_shows f.mentor.class f.want.0 f.rest)

-- what it does, and how far it is
abbrev pub act_of : List ClassEntry → MakeKnown → Act Outcome
act_of table f = make_known_act table f f.refusal

-- how far the gate is
abbrev pub doing_of : List ClassEntry → MakeKnown → Doing Outcome
doing_of table f = make_known_doing table f f.refusal

-- where a segment is made known, its entry is found; else what was found stays
abbrev pub FoundBy : MakeKnown → MakeKnown → Option Outcome → Type 0
FoundBy before after (Some (Learns known)) =
    (a : Alias) × ((after.found ≡ Some a) × IsEntry a × (known ≡ known_by after.mentor.class a (rights_of after.want.0)))
FoundBy before after _ = after.found ≡ before.found

-- the segment that was made known, by its entry, the mentor's class and the mode
abbrev pub learnt : MakeKnown → Option Known
learnt f = option_map (λ a. known_by f.mentor.class a (rights_of f.want.0)) f.found
