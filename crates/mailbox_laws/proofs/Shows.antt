-- What the state may show a request: the kinds of outcome, and what a makeknown that is Ok says.
use Rattle.std.proofs.Common.{ℕ, ◌+◌, Bool, true, false, List, [], ◌∷◌, ◌++◌, ◌≡◌, refl, Option, Some, None}
use Rattle.std.specs.Prelude.{if◌then◌else◌, nat_lt, not, length}
use Rattle.lists.specs.Lists.{part_of}
use Rattle.labels.specs.Label.{ClassEntry, label_of}
use Rattle.words_layout.specs.declared.coding.Alias.{Alias}
use Rattle.policy.specs.Known.{rights_of, alias_brackets, known_by}
use Rattle.policy.specs.Outcome.{Outcome, Refused, Value, Learns, Words, Printed, Looked, Counted, Tally, components, judged, shown}
use Rattle.policy.specs.Verdict.{verdict, first_broken, ◌⇒◌}
use Rattle.policy.specs.declared.rule.Rule.{Rule}
use Rattle.policy.specs.declared.rule.Rule.TheVariants.{Gone, NotIn, ConsoleFull}
use Rattle.class_model.specs.Plan.{Request, MakeKnown, Create, Delete, SwapIn, SwapOut, Fetch, Update, Read, Advance, Ticket, Out}
use Rattle.class_model.specs.State.{State, Part, cell_of, entry_at, live_words, is_deleted, is_in}
use Rattle.class_model.specs.Step.{Effect, chosen, effect}

-- a segment that was judged by the mode, known with its rights; or a refusal
abbrev pub Learnt : List ClassEntry → ℕ → ℕ → ℕ → Outcome → Type 0
Learnt table d ring mode (Refused rule) = Unit {0}
Learnt table d ring mode (Learns k) = (k.rights ≡ rights_of mode) × (verdict (label_of table d) ring (label_of table k.class) k.brackets mode ≡ None)
Learnt table d ring mode _ = ⊥

abbrev pub IsValue : Outcome → Type 0
IsValue (Value v) = Unit {0}
IsValue _ = ⊥

abbrev pub IsWritten : Outcome → Type 0
IsWritten (Refused rule) = Unit {0}
IsWritten (Value v) = Unit {0}
IsWritten _ = ⊥

abbrev pub IsLook : Outcome → Type 0
IsLook (Looked t) = Unit {0}
IsLook (Counted v) = Unit {0}
IsLook _ = ⊥

abbrev pub IsFetched : ℕ → Outcome → Type 0
IsFetched pad (Refused rule) = Unit {0}
IsFetched pad (Words at words) = at ≡ pad
IsFetched pad _ = ⊥

abbrev pub IsPrinted : Outcome → Type 0
IsPrinted (Refused rule) = Unit {0}
IsPrinted (Printed place v) = Unit {0}
IsPrinted _ = ⊥

-- what a request of class d in a ring may be shown
abbrev pub MayShow : List ClassEntry → ℕ → ℕ → Request → Outcome → Type 0
MayShow table d ring (MakeKnown k e mode) o = Learnt table d ring mode o
MayShow table d ring (Fetch k offset count pad) o = IsFetched pad o
MayShow table d ring (Update k offset words) o = IsWritten o
MayShow table d ring (Read k wanted t) o = IsLook o
MayShow table d ring (Advance k) o = IsValue o
MayShow table d ring (Ticket k) o = IsValue o
MayShow table d ring (Out v) o = IsPrinted o
MayShow table d ring _ o = Unit {0}

learnt : (table : List ClassEntry) (d ring m mode : ℕ) (o : Option Alias) → Learnt table d ring mode (shown table d ring m mode o)
learnt table d ring m mode None = tt
learnt table d ring m mode (Some a) = by_rule (verdict (label_of table d) ring (label_of table a.class) (alias_brackets a) mode) refl
  where
    by_rule : (r : Option Rule) → verdict (label_of table d) ring (label_of table a.class) (alias_brackets a) mode ≡ r → Learnt table d ring mode (judged r (known_by m a (rights_of mode)))
    by_rule None e = (refl, e)
    by_rule (Some rule) e = tt

fetched : (part : Part) (pad : ℕ) (words : List ℕ) (r : Option Rule) → IsFetched pad (chosen part r (record { part = part; outcome = Words pad words })).outcome
fetched part pad words None = refl
fetched part pad words (Some rule) = tt

written : (part X : Part) (v : ℕ) (r : Option Rule) → IsWritten (chosen part r (record { part = X; outcome = Value v })).outcome
written part X v None = tt
written part X v (Some rule) = tt

printed : (part : Part) (value : ℕ) (b : Bool) → IsPrinted (let z : Effect = (if b then record { part = record part { lines = part.lines ++ value ∷ []; used = part.used + 1 }; outcome = Printed part.used value }
    else record { part = record part { used = part.used + 1 }; outcome = Refused ConsoleFull }) in z.outcome)
printed part value true = tt
printed part value false = tt

looked : (b c : Bool) (t : Tally) (sum : ℕ) → IsLook (if b then Looked (Some t) else (if c then Looked None else Counted sum))
looked true c t sum = tt
looked false true t sum = tt
looked false false t sum = tt

pub effect_shows : (a : State) (d ring : ℕ) (q : Request) → MayShow a.shared.table d ring q (effect a d ring q).outcome
effect_shows a d ring (MakeKnown k e mode) = learnt a.shared.table d ring k.class mode (entry_at (cell_of a k) e)
effect_shows a d ring (Fetch k offset count pad) = fetched (a.part d) pad (part_of (live_words (cell_of a k)) offset count) (first_broken ((is_deleted (cell_of a k) ⇒ Gone) ∷ (not (is_in (cell_of a k)) ⇒ NotIn) ∷ []))
effect_shows a d ring (Update k offset words) = written (a.part d) _ _ (first_broken ((is_deleted ((a.part d).cell k.seg) ⇒ Gone) ∷ (not (is_in ((a.part d).cell k.seg)) ⇒ NotIn) ∷ []))
effect_shows a d ring (Read k wanted t) = looked (nat_lt (t.seen + 1) (length (components a.shared.table k.class))) _ _ _
effect_shows a d ring (Advance k) = tt
effect_shows a d ring (Ticket k) = tt
effect_shows a d ring (Out v) = printed (a.part d) v (nat_lt (a.part d).used a.shared.console)
effect_shows a d ring (Create k e class b size) = tt
effect_shows a d ring (Delete k e) = tt
effect_shows a d ring (SwapIn k) = tt
effect_shows a d ring (SwapOut k) = tt
