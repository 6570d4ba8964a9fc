-- What a step tells an unfinished instruction, and what the process makes of it.
use Rattle.std.proofs.Common.{ℕ, ◌≡◌, refl, sym, ap, ◌∙◌, subst, Bool, true, false, Option, Some, None, List}
use Rattle.std.specs.Prelude.{◌==◌, if◌then◌else◌, is_some}
use Rattle.std.specs.Option.{option_map}
use Rattle.labels.specs.Label.{ClassEntry, label_of}
use Rattle.words_layout.specs.Coding.{entry_of}
use Rattle.words_layout.specs.declared.coding.Alias.{Alias}
use Rattle.policy.specs.Known.{Known, known_by, rights_of, alias_brackets, in_table}
use Rattle.policy.specs.Verdict.{verdict, number}
use Rattle.policy.specs.declared.rule.Rule.{Rule}
use Rattle.policy.specs.declared.rule.Rule.TheVariants.{UnknownSegno}
use Rattle.policy.specs.Outcome.{Outcome, Refused, Value, Learns, Words, Printed, Looked, Counted, shown, judged}
use Rattle.policy.specs.declared.answers.Reply.{Reply}
use Rattle.policy.specs.declared.answers.Outcome.{Outcome as Answer}
use Rattle.policy.specs.declared.answers.Outcome.TheVariants as A
use Rattle.turns.specs.Bodies.{Loads, Inner, Outer}
use Rattle.turns.specs.Doing.{Doing, Fresh, LookSecond, LookBody, OuterSecond, OuterThird, OuterBody, InnerSecond, InnerThird, InnerBody, Leaving, Ending, Goes, Polls, Ends, Told, going, poll, doing_op, doing_told, Act, act_told}
use Rattle.turns.specs.Stands.{step_op, step_told, looking}
use Rattle.turns.specs.declared.look.LookPart.{LookPart}
use Rattle.turns.specs.declared.look.LookPart.TheVariants as L
use Rattle.tree_gates.specs.Tree.{make_known_body}
use Rattle.tree_gates.specs.MakingKnown as MakingKnown
use Rattle.tree_gates.specs.MakingKnown.{make_known_loads, make_known_shows, make_known_doing, learnt, FoundBy}
use Rattle.tree_gates.specs.declared.make_known.MakeKnown.{MakeKnown}
use Rattle.gate_parts.specs.Replies.{reply_of, answers, reply_kept}
use Rattle.class_model.specs.Process.{Process, reply, settled}
use Rattle.process.specs.Running.{Made, taken, made_of}
use Rattle.process.specs.Shows.{LoadsShow, IsLooking, IsTurning, is_leaving, IsReply, IsLearning, IsFetch}
use Rattle.process.specs.Standing.{is_done, effect_reply, replied, turn_step, look_step, learnt_by, fetched_by, Stepped, IsNesting, IsMakeKnown}
use Rattle.process.specs.declared.doing.Step.{Step}

-- ---- looks

-- what a look is told: it goes on; it retries; or it shows what P says and is over
abbrev pub LookTold : (Outcome → Type 0) → Ending → Option Outcome → Doing Outcome → Type 0
LookTold P Goes None x = IsLooking P x
LookTold P Polls None x = x ≡ Fresh
LookTold P Ends (Some o) x = P o × (x ≡ Fresh)
LookTold P _ _ _ = ⊥

-- likewise of a whole answer
abbrev pub IsLookTold : (Outcome → Type 0) → Told Outcome → Type 0
IsLookTold P told = LookTold P told.ending told.takes told.doing

pub looking_told : (P : Outcome → Type 0) (x : Doing Outcome) (answer : ℕ) → IsLooking P x → IsLookTold P (doing_told x answer)
looking_told P (LookSecond class g s body) answer h =
    elim (answer == s) as (λ b. IsLookTold P (if b then going (LookBody class g s body) else poll Fresh)) [ true ↦ h | false ↦ refl ]
looking_told P (LookBody class g s (Loads.Load w onward)) answer h = h answer
looking_told P (LookBody class g s (Loads.Shows shown)) answer h =
    elim (answer == s) as (λ b. IsLookTold P (if b then Rattle.turns.specs.Doing.done shown else poll Fresh)) [ true ↦ (h, refl) | false ↦ refl ]
looking_told P _ answer h = absurd h

-- ---- turns

-- what a turn is told: it goes on; it takes effect within and is left; it waits; it shows what P says and is over; or it is left
abbrev pub TurnTold : (Outcome → Type 0) → Type 0 → (leaving : Bool) → Ending → Option Outcome → Doing Outcome → Type 0
TurnTold P Nests false Goes None x = IsTurning P Nests x × (is_leaving x ≡ false)
TurnTold P Nests false Goes (Some o) (Leaving t) = P o × Nests
TurnTold P Nests false Polls None x = IsTurning P Nests x × (is_leaving x ≡ false)
TurnTold P Nests false Ends (Some o) Fresh = P o
TurnTold P Nests true Ends None Fresh = Unit {0}
TurnTold P Nests _ _ _ _ = ⊥

-- likewise of a whole answer
abbrev pub IsTurnTold : (Outcome → Type 0) → Type 0 → Bool → Told Outcome → Type 0
IsTurnTold P Nests leaving told = TurnTold P Nests leaving told.ending told.takes told.doing

module _ (P : Outcome → Type 0) (Nests : Type 0) where
  pub turning_told : (x : Doing Outcome) (answer : ℕ) → IsTurning P Nests x → IsTurnTold P Nests (is_leaving x) (doing_told x answer)
  turning_told (OuterSecond body) answer h = (h, refl)
  turning_told (OuterThird t body) answer h =
      elim (answer == t) as (λ b. IsTurnTold P Nests false (if b then going (OuterBody t body) else poll (OuterThird t body))) [ true ↦ (h, refl) | false ↦ (h, refl) ]
  turning_told (OuterBody t (Outer.Load w onward)) answer h = (h answer, refl)
  turning_told (OuterBody t (Outer.Store w v rest)) answer h = (h, refl)
  turning_told (OuterBody t (Outer.Enter u body)) answer h = (h, refl)
  turning_told (OuterBody t (Outer.Shows shown)) answer h = h
  turning_told (InnerSecond within u body) answer h = (h, refl)
  turning_told (InnerThird within u t body) answer h =
      elim (answer == t) as (λ b. IsTurnTold P Nests false (if b then going (InnerBody within u t body) else poll (InnerThird within u t body))) [ true ↦ (h, refl) | false ↦ (h, refl) ]
  turning_told (InnerBody within u t (Inner.Load w onward)) answer h = ((h.0, h.1 answer), refl)
  turning_told (InnerBody within u t (Inner.Store w v rest)) answer h = (h, refl)
  turning_told (InnerBody within u t (Inner.Add w v onward)) answer h = ((h.0, h.1 answer), refl)
  turning_told (InnerBody None u t (Inner.Shows shown)) answer h = h.1
  turning_told (InnerBody (Some n) u t (Inner.Shows shown)) answer h = (h.1, h.0)
  turning_told (Leaving t) answer h = tt
  turning_told _ answer h = absurd h

-- ---- the step of a turn

-- a refusal or a number is a reply
settles : (p : Process) (o : Outcome) → IsReply o → settled p o ≡ replied p (Some (reply_of o))
settles p (Refused rule) h = refl
settles p (Value value) h = refl
settles p (Learns k) h = absurd h
settles p (Words at words) h = absurd h
settles p (Printed place value) h = absurd h
settles p (Looked tally) h = absurd h
settles p (Counted sum) h = absurd h

-- and gives no line
reply_silent : (o : Outcome) → IsReply o → made_of (Some o) ≡ Made.Nothing
reply_silent (Printed place value) h = absurd h
reply_silent _ h = refl

-- the step of a turn, by the answer that it gives and the reply that it then keeps
abbrev pub TurnStepped : Told Outcome → Process → Option Reply → Type 0
TurnStepped told p kept = Stepped told p (replied p (effect_reply kept (answers told kept) (reply_kept told kept))) (turn_step kept (answers told kept) (reply_kept told kept))

stepped : (Nests : Type 0) (p : Process) (kept : Option Reply) (leaving : Bool) (ending : Ending) (takes : Option Outcome) (x : Doing Outcome) →
    is_some kept ≡ leaving → TurnTold IsReply Nests leaving ending takes x → TurnStepped (record { takes = takes; doing = x; ending = ending }) p kept
stepped Nests p None false Goes None x e h = record { ending = refl; effect = refl; settled = refl; over = λ b. absurd (cc); silent = refl }
stepped Nests p None false Goes (Some o) (Leaving t) e h = record { ending = refl; effect = refl; settled = sym (settles p o h.0); over = λ b. absurd (cc); silent = reply_silent o h.0 }
stepped Nests p None false Polls None x e h = record { ending = refl; effect = refl; settled = refl; over = λ b. absurd (cc); silent = refl }
stepped Nests p None false Ends (Some o) Fresh e h = record { ending = refl; effect = refl; settled = sym (settles p o h); over = λ b. refl; silent = reply_silent o h }
stepped Nests p (Some r) true Ends None Fresh e h = record { ending = refl; effect = refl; settled = refl; over = λ b. refl; silent = refl }
stepped Nests p (Some r) false ending takes x e h = absurd (cc)
stepped Nests p None true ending takes x e h = absurd (cc)
stepped Nests p kept leaving ending takes x e h = absurd h

-- what is kept after a step that isn't the last
kept_on : (Nests : Type 0) (kept : Option Reply) (leaving : Bool) (ending : Ending) (takes : Option Outcome) (x : Doing Outcome) →
    is_some kept ≡ leaving → TurnTold IsReply Nests leaving ending takes x →
    is_done (answers (record { takes = takes; doing = x; ending = ending }) kept) ≡ false →
    IsTurning IsReply Nests x × (is_some (reply_kept (record { takes = takes; doing = x; ending = ending }) kept) ≡ is_leaving x)
kept_on Nests None false Goes None x e h on = (h.0, sym h.1)
kept_on Nests None false Goes (Some o) (Leaving t) e h on = (h.1, refl)
kept_on Nests None false Polls None x e h on = (h.0, sym h.1)
kept_on Nests None false Ends (Some o) Fresh e h on = absurd (cc)
kept_on Nests (Some r) true Ends None Fresh e h on = absurd (cc)
kept_on Nests (Some r) false ending takes x e h on = absurd (cc)
kept_on Nests None true ending takes x e h on = absurd (cc)
kept_on Nests kept leaving ending takes x e h on = absurd h

-- where no turn nests, no reply is kept
alone : (leaving : Bool) (ending : Ending) (takes : Option Outcome) (x : Doing Outcome) → TurnTold IsReply ⊥ leaving ending takes x →
    reply_kept (record { takes = takes; doing = x; ending = ending }) None ≡ None
alone false Goes None x h = refl
alone false Goes (Some o) (Leaving t) h = absurd h.1
alone leaving Polls takes x h = refl
alone leaving Ends takes x h = refl
alone leaving ending takes x h = absurd h

-- an instruction that was begun is told so
pub begun_told : (act : Act Outcome) (x : Doing Outcome) (answer : ℕ) (Nests : Type 0) → IsTurning IsReply Nests x → step_told act x answer ≡ doing_told x answer
begun_told act Fresh answer Nests h = absurd h
begun_told act (LookSecond class g s body) answer Nests h = refl
begun_told act (LookBody class g s rest) answer Nests h = refl
begun_told act (OuterSecond body) answer Nests h = refl
begun_told act (OuterThird t body) answer Nests h = refl
begun_told act (OuterBody t rest) answer Nests h = refl
begun_told act (InnerSecond within u body) answer Nests h = refl
begun_told act (InnerThird within u t body) answer Nests h = refl
begun_told act (InnerBody within u t rest) answer Nests h = refl
begun_told act (Leaving t) answer Nests h = refl

-- no instruction that is alone is leaving
not_leaving : (x : Doing Outcome) → IsTurning IsReply ⊥ x → is_leaving x ≡ false
not_leaving Fresh h = absurd h
not_leaving (LookSecond class g s body) h = absurd h
not_leaving (LookBody class g s rest) h = absurd h
not_leaving (OuterSecond body) h = refl
not_leaving (OuterThird t body) h = refl
not_leaving (OuterBody t rest) h = refl
not_leaving (InnerSecond within u body) h = refl
not_leaving (InnerThird within u t body) h = refl
not_leaving (InnerBody within u t rest) h = refl
not_leaving (Leaving t) h = absurd h

-- the step of a turn does what it was told, the instruction is then as far as it was told, and what is kept is in order while the turn goes on
pub record Turned (x : Doing Outcome) (answer : ℕ) (before after : Process) (step : Step) (next : Doing Outcome) (Keeps : Type 0) : Type 0 where
  pub told : Stepped (doing_told x answer) before after step
  pub doing : next ≡ (doing_told x answer).doing
  pub goes : step.over ≡ false → Keeps

turned_so : (Nests : Type 0) (x : Doing Outcome) (answer : ℕ) (p : Process) (kept : Option Reply) → IsTurning IsReply Nests x → is_some kept ≡ is_leaving x →
    let told = doing_told x answer in let now = reply_kept told kept in
    Turned x answer p (replied p (effect_reply kept (answers told kept) now)) (turn_step kept (answers told kept) now) told.doing (IsTurning IsReply Nests told.doing × (is_some now ≡ is_leaving told.doing))
turned_so Nests x answer p kept h e =
    let told = doing_told x answer in
    let is = turning_told IsReply Nests x answer h in
    record {
      told = stepped Nests p kept (is_leaving x) told.ending told.takes told.doing e is;
      doing = refl;
      goes = kept_on Nests kept (is_leaving x) told.ending told.takes told.doing e is;
    }

module _ (act : Act Outcome) (x : Doing Outcome) (answer : ℕ) (p : Process) where
  turned : {outcome : Answer} {next : Doing Outcome} {after : Process} {step : Step} (Nests : Type 0) (kept now : Option Reply) → IsTurning IsReply Nests x → is_some kept ≡ is_leaving x →
      outcome ≡ answers (step_told act x answer) kept → now ≡ reply_kept (step_told act x answer) kept → next ≡ (step_told act x answer).doing →
      after ≡ replied p (effect_reply kept outcome now) → step ≡ turn_step kept outcome now →
      Turned x answer p after step next (IsTurning IsReply Nests next × (is_some now ≡ is_leaving next))
  turned Nests kept now h e answered keeps goes settled same = rw (settled, same, answered, keeps, goes, begun_told act x answer Nests h) (turned_so Nests x answer p kept h e)

  -- a turn in which one may nest, where what is kept was read before and after the step
  pub nesting_turned : {kept was now later : Option Reply} {outcome : Answer} {next : Doing Outcome} {after : Process} {step : Step} → IsNesting x was → kept ≡ was → now ≡ later →
      outcome ≡ answers (step_told act x answer) was → later ≡ reply_kept (step_told act x answer) was → next ≡ (step_told act x answer).doing →
      after ≡ replied p (effect_reply kept outcome now) → step ≡ turn_step kept outcome now → Turned x answer p after step next (IsNesting next later)
  nesting_turned {was = was} {later = later} h read reread answered keeps goes settled same =
      turned (Unit {0}) was later h.0 h.1 answered keeps goes (rw (read, reread) at settled) (rw (read, reread) at same)

  -- a turn in which none nests: no reply is kept
  pub alone_turned : {outcome : Answer} {next : Doing Outcome} {after : Process} {step : Step} → IsTurning IsReply ⊥ x →
      outcome ≡ answers (step_told act x answer) None → next ≡ (step_told act x answer).doing →
      after ≡ replied p (effect_reply None outcome None) → step ≡ turn_step None outcome None → Turned x answer p after step next (IsTurning IsReply ⊥ next)
  alone_turned h answered goes settled same =
      let told = doing_told x answer in
      let none : None ≡ reply_kept (step_told act x answer) None = rw (begun_told act x answer ⊥ h) (sym (alone (is_leaving x) told.ending told.takes told.doing (turning_told IsReply ⊥ x answer h))) in
      let turn = turned ⊥ None None h (sym (not_leaving x h)) answered none goes settled same in
      record { told = turn.told; doing = turn.doing; goes = λ on. (turn.goes on).0 }

-- ---- the step of a look

-- a look that was begun is told so
pub begun_look : (P : Outcome → Type 0) (act : Act Outcome) (x : Doing Outcome) (answer : ℕ) → IsLooking P x → step_told act x answer ≡ doing_told x answer
begun_look P act (LookSecond class g s body) answer h = refl
begun_look P act (LookBody class g s rest) answer h = refl
begun_look P act _ answer h = absurd h

-- the step of a look, by the answer that it gives
abbrev pub LookStepped : Told Outcome → Process → Process → Type 0
LookStepped told p after = Stepped told p after (look_step (answers told None))

pub learning_silent : (o : Outcome) → IsLearning o → made_of (Some o) ≡ Made.Nothing
learning_silent (Printed place value) h = absurd h
learning_silent _ h = refl

pub fetch_silent : (pad : ℕ) (o : Outcome) → IsFetch pad o → made_of (Some o) ≡ Made.Nothing
fetch_silent pad (Printed place value) h = absurd h
fetch_silent pad _ h = refl

look_stepped_by : (P : Outcome → Type 0) → ((o : Outcome) → P o → made_of (Some o) ≡ Made.Nothing) → (p after : Process) (ending : Ending) (takes : Option Outcome) (x : Doing Outcome) → LookTold P ending takes x →
    after ≡ taken p takes → LookStepped (record { takes = takes; doing = x; ending = ending }) p after
look_stepped_by P quiet p after Goes None x h e = record { ending = refl; effect = refl; settled = e; over = λ b. absurd (cc); silent = refl }
look_stepped_by P quiet p after Polls None x h e = record { ending = refl; effect = refl; settled = e; over = λ b. h; silent = refl }
look_stepped_by P quiet p after Ends (Some o) x h e = record { ending = refl; effect = refl; settled = e; over = λ b. h.1; silent = quiet o h.0 }
look_stepped_by P quiet p after ending takes x h e = absurd h

-- a look that goes on is still a look, and nothing took effect
look_goes_by : (P : Outcome → Type 0) (ending : Ending) (takes : Option Outcome) (x : Doing Outcome) → LookTold P ending takes x →
    (look_step (answers (record { takes = takes; doing = x; ending = ending }) None)).over ≡ false → IsLooking P x × (takes ≡ None)
look_goes_by P Goes None x h e = (h, refl)
look_goes_by P Polls None x h e = absurd (cc)
look_goes_by P Ends (Some o) x h e = absurd (cc)
look_goes_by P ending takes x h e = absurd h

module _ (P : Outcome → Type 0) (act : Act Outcome) (x : Doing Outcome) (answer : ℕ) (outcome : Answer) (h : IsLooking P x)
    (answered : outcome ≡ answers (step_told act x answer) None) where
  pub look_stepped : ((o : Outcome) → P o → made_of (Some o) ≡ Made.Nothing) → (p after : Process) (step : Step) → after ≡ taken p (doing_told x answer).takes → step ≡ look_step outcome → Stepped (doing_told x answer) p after step
  look_stepped quiet p after step settled same =
      let told = doing_told x answer in
      let base = look_stepped_by P quiet p after told.ending told.takes told.doing (looking_told P x answer h) settled in
      rw (same, answered, begun_look P act x answer h) base

  pub look_goes : (step : Step) → step ≡ look_step outcome → step.over ≡ false → IsLooking P (doing_told x answer).doing × ((doing_told x answer).takes ≡ None)
  look_goes step same on =
      let told = doing_told x answer in
      let over : (look_step (answers told None)).over ≡ false =
      sym (ap (λ (o : Answer). (look_step o).over) (answered ∙ ap (λ (t : Told Outcome). answers t None) (begun_look P act x answer h))) ∙ (sym (ap (λ (s : Step). s.over) same) ∙ on) in
      look_goes_by P told.ending told.takes told.doing (looking_told P x answer h) over

-- ---- makeknown

-- what makeknown comes to
learnt_as : (p : Process) (before after : MakeKnown) (ending : Ending) (takes : Option Outcome) (x : Doing Outcome) → before.found ≡ None → FoundBy before after takes →
    LookTold IsLearning ending takes x → learnt_by p (answers (record { takes = takes; doing = x; ending = ending }) None) (learnt after) ≡ taken p takes
learnt_as p before after Goes None x e f h = refl
learnt_as p before after Polls None x e f h = refl
learnt_as p before after Ends (Some (Refused rule)) x e f h =
    ap (λ (o : Option Alias). learnt_by p (A.Done (reply_of (Refused rule))) (option_map (λ a. known_by after.mentor.class a (rights_of after.want.0)) o)) (f ∙ e)
learnt_as p before after Ends (Some (Value value)) x e f h =
    ap (λ (o : Option Alias). learnt_by p (A.Done (reply_of (Value value))) (option_map (λ a. known_by after.mentor.class a (rights_of after.want.0)) o)) (f ∙ e)
learnt_as p before after Ends (Some (Learns k)) x e f h =
    ap (λ (o : Option Alias). learnt_by p (A.Done (reply_of (Learns k))) (option_map (λ a. known_by after.mentor.class a (rights_of after.want.0)) o)) f.1.0
    ∙ ap (λ (q : Known). settled p (Learns q)) (sym f.1.2)
learnt_as p before after Ends (Some o) x e f h = absurd h.0
learnt_as p before after ending takes x e f h = absurd h

-- the body of a makeknown shows a refusal or a segment
judged_learns : (v : Option Rule) (k : Known) → IsLearning (judged v k)
judged_learns None k = tt
judged_learns (Some rule) k = tt

shown_learns : (table : List ClassEntry) (d ring m mode : ℕ) (o : Option Alias) → IsLearning (shown table d ring m mode o)
shown_learns table d ring m mode None = tt
shown_learns table d ring m mode (Some a) = judged_learns (verdict (label_of table d) ring (label_of table a.class) (alias_brackets a) mode) (known_by m a (rights_of mode))

pub make_known_learns : (table : List ClassEntry) (d ring : ℕ) (k : Known) (e mode : ℕ) → LoadsShow IsLearning (make_known_body table d ring k e mode)
make_known_learns table d ring k e mode = λ w. shown_learns table d ring k.class mode (in_table table (entry_of w))

-- a makeknown that was begun by one table is begun by each
any_part : (f : MakeKnown) (table other : List ClassEntry) (part : LookPart) →
    IsLooking IsLearning (looking f.look.guard part (make_known_loads table f) (make_known_loads table f) (make_known_shows f.mentor.class f.want.0 f.rest)) →
    IsLooking IsLearning (looking f.look.guard part (make_known_loads other f) (make_known_loads other f) (make_known_shows f.mentor.class f.want.0 f.rest))
any_part f table other L.First h = absurd h
any_part f table other (L.Second s) h = make_known_learns other f.class f.ring f.mentor f.entry f.want.0
any_part f table other (L.Body s) h = make_known_learns other f.class f.ring f.mentor f.entry f.want.0
any_part f table other (L.Last s) h = h

any_refusal : (f : MakeKnown) (table other : List ClassEntry) (r : Option Rule) → IsLooking IsLearning (make_known_doing table f r) → IsLooking IsLearning (make_known_doing other f r)
any_refusal f table other None h = any_part f table other f.look.part h
any_refusal f table other (Some rule) h = absurd h

pub any_table : (f : MakeKnown) (table other : List ClassEntry) → IsLooking IsLearning (MakingKnown.doing_of table f) → IsLooking IsLearning (MakingKnown.doing_of other f)
any_table f table other h = any_refusal f table other f.refusal h

module _ (table : List ClassEntry) (before after : MakeKnown) (answer : ℕ) (outcome : Answer) (h : IsMakeKnown before.class before)
    (answered : outcome ≡ answers (step_told (MakingKnown.act_of table before) (MakingKnown.doing_of table before) answer) None)
    (found : FoundBy before after (step_told (MakingKnown.act_of table before) (MakingKnown.doing_of table before) answer).takes) where
  begun_here : step_told (MakingKnown.act_of table before) (MakingKnown.doing_of table before) answer ≡ doing_told (MakingKnown.doing_of table before) answer
  begun_here = begun_look IsLearning (MakingKnown.act_of table before) (MakingKnown.doing_of table before) answer (h.2 table)

  found_here : FoundBy before after (doing_told (MakingKnown.doing_of table before) answer).takes
  found_here = subst (λ (t : Told Outcome). FoundBy before after t.takes) begun_here found

  pub make_known_settles : (p : Process) → learnt_by p outcome (learnt after) ≡ taken p (doing_told (MakingKnown.doing_of table before) answer).takes
  make_known_settles p =
      let told = doing_told (MakingKnown.doing_of table before) answer in
      let base = learnt_as p before after told.ending told.takes told.doing h.1 found_here (looking_told IsLearning (MakingKnown.doing_of table before) answer (h.2 table)) in
      rw (answered, begun_here) base

-- ---- fetch

-- no rule has the number 0
not_zero : (rule : Rule) → (number rule == 0) ≡ false
not_zero UnknownSegno = refl
not_zero _ = refl

-- what fetch comes to
fetched_as : (p : Process) (pad : ℕ) (got : List ℕ) (ending : Ending) (takes : Option Outcome) (x : Doing Outcome) →
    ((at : ℕ) (words : List ℕ) → takes ≡ Some (Words at words) → got ≡ words) →
    LookTold (IsFetch pad) ending takes x → fetched_by p (answers (record { takes = takes; doing = x; ending = ending }) None) pad got ≡ taken p takes
fetched_as p pad got Goes None x e h = refl
fetched_as p pad got Polls None x e h = refl
fetched_as p pad got Ends (Some (Refused rule)) x e h =
    ap (λ (b : Bool). if b then settled p (Words pad got) else reply p (number rule) 0) (not_zero rule)
fetched_as p pad got Ends (Some (Words at words)) x e h = ap (λ (q : List ℕ). settled p (Words pad q)) (e at words refl) ∙ ap (λ (q : ℕ). settled p (Words q words)) (sym h.0)
fetched_as p pad got Ends (Some o) x e h = absurd h.0
fetched_as p pad got ending takes x e h = absurd h

module _ (pad : ℕ) (got : List ℕ) (act : Act Outcome) (x : Doing Outcome) (answer : ℕ) (outcome : Answer) (h : IsLooking (IsFetch pad) x)
    (answered : outcome ≡ answers (step_told act x answer) None)
    (words : (at : ℕ) (words : List ℕ) → (step_told act x answer).takes ≡ Some (Words at words) → got ≡ words) where
  pub fetch_settles : (p : Process) → fetched_by p outcome pad got ≡ taken p (doing_told x answer).takes
  fetch_settles p =
      let told = doing_told x answer in
      let begun = begun_look (IsFetch pad) act x answer h in
      let words_here = subst (λ (t : Told Outcome). (at : ℕ) (words : List ℕ) → t.takes ≡ Some (Words at words) → got ≡ words) begun words in
      let base = fetched_as p pad got told.ending told.takes told.doing words_here (looking_told (IsFetch pad) x answer h) in
      rw (answered, begun) base

-- a look that was begun asks so
pub begun_asks : (P : Outcome → Type 0) (act : Act Outcome) (x : Doing Outcome) (d : ℕ) → IsLooking P x → step_op d act x ≡ doing_op d x
begun_asks P act (LookSecond class g s body) d h = refl
begun_asks P act (LookBody class g s rest) d h = refl
begun_asks P act _ d h = absurd h
