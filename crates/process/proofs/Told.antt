-- What a step tells an instruction fits: what takes effect by it, and how far the instruction then is.
use Rattle.std.proofs.Common.{ℕ, zero, suc, ◌+◌, true, false, List, [], ◌∷◌, ◌≡◌, ◌⊎◌, inl, inr, subst, Option, Some, None}
use Rattle.std.specs.Prelude.{◌==◌, if◌then◌else◌, slice_set, slice_index_or}
use Rattle.std.proofs.lemmas.Option.{same_Some}
use Rattle.words_layout.specs.Limits.{identity_in_limits}
use Rattle.words_layout.specs.Words.{Guard}
use Rattle.words_layout.specs.declared.segment.SegId.{SegId}
use Rattle.policy.specs.Known.{Known}
use Rattle.policy.specs.Outcome.{Outcome, Refused, Value, Learns, Words, Printed, Looked, Counted}
use Rattle.turns.specs.Bodies.{Loads, Inner, Outer}
use Rattle.turns.specs.Doing.{Doing, Fresh, LookSecond, LookBody, OuterSecond, OuterThird, OuterBody, InnerSecond, InnerThird, InnerBody, Leaving, Told, Act, Once, Look, ClassTurn, SegmentTurn, going, poll, done, look_told, outer_told, left, inner_told, doing_told, act_told}
use Rattle.class_model.specs.Config.{Shared}
use Rattle.class_model.specs.Process.{Process, known_at, free_known, reply, learned, settled}
use Rattle.process.specs.Running.{Running, taken, made_of, after_told}
use Rattle.process.specs.Fits.{Fits, PlaceFits, KnownFits, OutcomeFits, LookFits, InnerFits, OuterFits, DoingFits, GoesOn, OpFits, MadeFits}

-- a process before its next instruction
abbrev pub fresh : Process → Running
fresh p = record { process = p; doing = Fresh }

-- what is in a place of a table with one place changed: the new one, or what was there
known_after : (ks : List (Option Known)) (place : ℕ) (o : Option Known) (i : ℕ) (k : Known) →
    slice_index_or (slice_set ks place o) i None ≡ Some k → (o ≡ Some k) ⊎ (slice_index_or ks i None ≡ Some k)
known_after [] place o i k h = inr h
known_after (x ∷ xs) zero o zero k h = inl h
known_after (x ∷ xs) zero o (suc i) k h = inr h
known_after (x ∷ xs) (suc n) o zero k h = inr h
known_after (x ∷ xs) (suc n) o (suc i) k h = known_after xs n o i k h

-- Nothing took effect, and how far it is fits; or what took effect fits, and the instruction is over or leaves its turn.
abbrev pub TakesFit : Shared → ℕ → Process → Option Outcome → Doing Outcome → Type 0
TakesFit s d p None doing = DoingFits s d doing × GoesOn s d p doing
TakesFit s d p (Some o) Fresh = OutcomeFits s d o × PlaceFits s d p.script (p.place + 1)
TakesFit s d p (Some o) (Leaving t) = OutcomeFits s d o × PlaceFits s d p.script (p.place + 1)
TakesFit s d p (Some o) _ = ⊥

-- what a process is told fits
abbrev pub TellsFit : Shared → ℕ → Process → Told Outcome → Type 0
TellsFit s d p told = TakesFit s d p told.takes told.doing

-- an act fits: the word that it loads, what it tells at once, or its body
abbrev pub ActFits : Shared → ℕ → Process → Act Outcome → Type 0
ActFits s d p (Once op told) = OpFits s d op × ((answer : ℕ) → TellsFit s d p (told answer))
ActFits s d p (Look class g body) = LookFits s d class g body
ActFits s d p (ClassTurn body) = OuterFits s d body
ActFits s d p (SegmentTurn u body) = (identity_in_limits u ≡ true) × InnerFits s d body

module _ (s : Shared) (d : ℕ) where
  -- a table of what is known, with one place changed
  pub known_set : (p : Process) (place : ℕ) (o : Option Known) → ((i : ℕ) (k : Known) → known_at p i ≡ Some k → KnownFits s d k) →
      ((k : Known) → o ≡ Some k → KnownFits s d k) → (i : ℕ) (k : Known) → slice_index_or (slice_set p.known place o) i None ≡ Some k → KnownFits s d k
  known_set p place o old new i k h = elim (known_after p.known place o i k h) [ inl e ↦ new k e | inr e ↦ old i k e ]

  module _ (p : Process) (f : Fits s d (fresh p)) where
    -- at the end of a turn that took effect within
    leaving : (t : ℕ) → Fits s d (record { process = p; doing = Leaving t })
    leaving t = record { class = f.class; place = f.place; returns = f.returns; known = f.known; doing = tt; goes_on = tt }

    module _ (next : PlaceFits s d p.script (p.place + 1)) where
      pub replied : (code value : ℕ) → Fits s d (fresh (reply p code value))
      replied code value = record { class = f.class; place = next; returns = f.returns; known = f.known; doing = tt; goes_on = tt }

      learns : (k : Known) → KnownFits s d k → (o : Option ℕ) → Fits s d (fresh (learned p k o))
      learns k good None = replied 2 0
      learns k good (Some place) = record {
        class = f.class;
        place = next;
        returns = f.returns;
        known = known_set p place (Some k) f.known (λ j e. subst (KnownFits s d) (same_Some k j e) good);
        doing = tt;
        goes_on = tt;
      }

      pub settles : (o : Outcome) → OutcomeFits s d o → Fits s d (fresh (settled p o))
      settles (Refused rule) h = replied _ 0
      settles (Value value) h = replied 0 value
      settles (Learns k) h = learns k h (free_known p)
      settles (Words at words) h = record { class = f.class; place = next; returns = f.returns; known = f.known; doing = tt; goes_on = tt }
      settles (Printed place value) h = replied 0 place
      settles (Looked tally) h = record { class = f.class; place = f.place; returns = f.returns; known = f.known; doing = tt; goes_on = tt }
      settles (Counted sum) h = record { class = f.class; place = next; returns = f.returns; known = f.known; doing = tt; goes_on = tt }

  -- what a process is told, as it changes the process
  takes_fit : (p : Process) (takes : Option Outcome) (doing : Doing Outcome) → Fits s d (fresh p) → TakesFit s d p takes doing →
      Fits s d (record { process = taken p takes; doing = doing })
  takes_fit p None doing f h = record { class = f.class; place = f.place; returns = f.returns; known = f.known; doing = h.0; goes_on = h.1 }
  takes_fit p (Some o) Fresh f h = settles p f h.1 o h.0
  takes_fit p (Some o) (Leaving t) f h = leaving (settled p o) (settles p f h.1 o h.0) t
  takes_fit p (Some o) _ f h = absurd h

  pub after_fits : (p : Process) (told : Told Outcome) → Fits s d (fresh p) → TellsFit s d p told → Fits s d (after_told p told).running
  after_fits p told f h = takes_fit p told.takes told.doing f h

  -- what is made beside
  outcome_makes : (o : Outcome) → OutcomeFits s d o → MadeFits s d (made_of (Some o))
  outcome_makes (Printed place value) h = h
  outcome_makes _ h = tt

  taken_makes : (p : Process) (takes : Option Outcome) (doing : Doing Outcome) → TakesFit s d p takes doing → MadeFits s d (made_of takes)
  taken_makes p None doing h = tt
  taken_makes p (Some o) Fresh h = outcome_makes o h.0
  taken_makes p (Some o) (Leaving t) h = outcome_makes o h.0
  taken_makes p (Some o) _ h = absurd h

  pub after_makes : (p : Process) (told : Told Outcome) → TellsFit s d p told → MadeFits s d (after_told p told).made
  after_makes p told h = taken_makes p told.takes told.doing h

  module _ (p : Process) where
    look_tells : (class : ℕ) (g : Guard) (n : ℕ) (rest : Loads Outcome) (answer : ℕ) → LookFits s d class g rest →
        PlaceFits s d p.script (p.place + 1) → TellsFit s d p (look_told class g n rest answer)
    look_tells class g n (Loads.Load w onward) answer h on = (record { class = h.class; flows_up = h.flows_up; guard = h.guard; shows = h.shows.1 answer }, on)
    look_tells class g n (Loads.Shows shown) answer h on = elim (answer == n) as (λ b. TellsFit s d p (if b then done shown else poll Fresh)) [ true ↦ (h.shows, on) | false ↦ (tt, tt) ]

    outer_tells : (t : ℕ) (rest : Outer Outcome) (answer : ℕ) → OuterFits s d rest → PlaceFits s d p.script (p.place + 1) →
        TellsFit s d p (outer_told t rest answer)
    outer_tells t (Outer.Load w onward) answer h on = (h.1 answer, on)
    outer_tells t (Outer.Store w v rest) answer h on = (h.1, on)
    outer_tells t (Outer.Enter u body) answer h on = (h, on)
    outer_tells t (Outer.Shows shown) answer h on = (h, on)

    left_tells : (within : Option ℕ) (shown : Outcome) → OutcomeFits s d shown → PlaceFits s d p.script (p.place + 1) → TellsFit s d p (left within shown)
    left_tells None shown h on = (h, on)
    left_tells (Some t) shown h on = (h, on)

    inner_tells : (within : Option ℕ) (u : SegId) (t : ℕ) (rest : Inner Outcome) (answer : ℕ) → identity_in_limits u ≡ true → InnerFits s d rest →
        PlaceFits s d p.script (p.place + 1) → TellsFit s d p (inner_told within u t rest answer)
    inner_tells within u t (Inner.Load w onward) answer g h on = ((g, h.1 answer), on)
    inner_tells within u t (Inner.Store w v rest) answer g h on = ((g, h.1), on)
    inner_tells within u t (Inner.Add w v onward) answer g h on = ((g, h.1 answer), on)
    inner_tells within u t (Inner.Shows shown) answer g h on = left_tells within shown h on

    -- what an answer tells an instruction that was begun
    pub doing_tells : (x : Doing Outcome) (answer : ℕ) → DoingFits s d x → GoesOn s d p x → TellsFit s d p (doing_told x answer)
    doing_tells Fresh answer h on = (tt, tt)
    doing_tells (LookSecond class g n body) answer h on =
        elim (answer == n) as (λ b. TellsFit s d p (if b then going (LookBody class g n body) else poll Fresh)) [ true ↦ (h, on) | false ↦ (tt, tt) ]
    doing_tells (LookBody class g n rest) answer h on = look_tells class g n rest answer h on
    doing_tells (OuterSecond body) answer h on = (h, on)
    doing_tells (OuterThird t body) answer h on =
        elim (answer == t) as (λ b. TellsFit s d p (if b then going (OuterBody t body) else poll (OuterThird t body))) [ true ↦ (h, on) | false ↦ (h, on) ]
    doing_tells (OuterBody t rest) answer h on = outer_tells t rest answer h on
    doing_tells (InnerSecond within u body) answer h on = (h, on)
    doing_tells (InnerThird within u t body) answer h on =
        elim (answer == t) as (λ b. TellsFit s d p (if b then going (InnerBody within u t body) else poll (InnerThird within u t body))) [ true ↦ (h, on) | false ↦ (h, on) ]
    doing_tells (InnerBody within u t rest) answer h on = inner_tells within u t rest answer h.0 h.1 on
    doing_tells (Leaving t) answer h on = (tt, tt)

    -- what the first answer tells
    pub act_tells : (act : Act Outcome) (answer : ℕ) → ActFits s d p act → PlaceFits s d p.script (p.place + 1) → TellsFit s d p (act_told act answer)
    act_tells (Once op told) answer h on = h.1 answer
    act_tells (Look class g body) answer h on = (h, on)
    act_tells (ClassTurn body) answer h on = (h, on)
    act_tells (SegmentTurn u body) answer h on = (h, on)
