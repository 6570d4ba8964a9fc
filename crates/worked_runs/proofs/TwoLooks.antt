-- A reader's look that an update crosses retries, and its next one is accepted.
use Rattle.std.proofs.Common.{ℕ, ◌+◌, ◌≤◌, length, Bool, true, false, ◌&&◌, List, [], ◌∷◌, ◌++◌, ◌≡◌, refl, Option, Some, None, ap, ◌∙◌, arith}
use Rattle.std.specs.Prelude.{◌==◌, not}
use Rattle.std.proofs.lemmas.Bool.{eqb-true, and_parts}
use Rattle.words_layout.specs.declared.op.Event.{Event}
use Rattle.words_layout.specs.Words.{OfSegment}
use Rattle.policy.specs.Known.{Known}
use Rattle.policy.specs.Outcome.{Outcome, Words}
use Rattle.data_gates.specs.Data.{fetch_body}
use Rattle.turns.specs.Doing.{Doing, Fresh, Ending, Polls, Ends, Told, done}
use Rattle.class_model.specs.Config.{Config, Shared}
use Rattle.class_model.specs.Process.{ProcName}
use Rattle.class_model.specs.Plan.{Plan, Ask, Fetch, plan}
use Rattle.class_model.specs.Valid.{IsConfig}
use Rattle.process.specs.Running.{Running}
use Rattle.machine.specs.Machine.{Machine, step, run}
use Rattle.machine.specs.Opening.{machine}
use Rattle.look_laws.specs.Moments.{running_at, takes_step, Always, Sometime, IsWithin, begun}
use Rattle.words_layout.specs.Segments.{seg}
use Rattle.look_laws.specs.Looks.{LooksOn, LookInRun, behind_first, Crosses, steps_through, told_in}
use Rattle.look_laws.proofs.Exact.{fetches_are_exact}
use Rattle.look_laws.proofs.Crossed.{looks_are_crossed}
use Rattle.worked_runs.specs.Cases.{writer_and_reader, events, named}
use Rattle.worked_runs.specs.TwoLooks.{polls, ends, is_words, begins_again, accepts, Found, IsCrossed, IsAccepted}

fresh_is : (x : Doing Outcome) → begun x ≡ false → x ≡ Fresh
fresh_is Fresh h = refl
fresh_is _ h = cc

-- tests that compute
abbrev is_fetch : ℕ → Plan → Bool
is_fetch n (Ask (Fetch known offset count pad)) = count == n
is_fetch n _ = false

abbrev starts : ℕ → Shared → ℕ → Option Running → Bool
starts n s d None = false
starts n s d (Some r) = not (begun r.doing) && is_fetch n (plan s d r.process)

abbrev within : Option Running → Bool
within None = false
within (Some r) = begun r.doing

abbrev all_within : ProcName → Machine → List Event → Bool
all_within name m [] = within (running_at m name)
all_within name m (e ∷ events) = within (running_at m name) && all_within name (step m e) events

not_true : (b : Bool) → not b ≡ true → b ≡ false
not_true true h = cc
not_true false h = refl

from_plan : (n : ℕ) (y : Plan) → is_fetch n y ≡ true → (known : Known) × (offset : ℕ) × (pad : ℕ) × (y ≡ Ask (Fetch known offset n pad))
from_plan n (Ask (Fetch known offset count pad)) h = (known, offset, pad, ap (λ c. Ask (Fetch known offset c pad)) (eqb-true count n h))
from_plan n _ h = cc

within_is : (o : Option Running) → within o ≡ true → IsWithin o
within_is None h = cc
within_is (Some r) h = h

always_is : (name : ProcName) (events : List Event) (m : Machine) → all_within name m events ≡ true → Always (λ z. IsWithin (running_at z name)) m events
always_is name [] m h = within_is (running_at m name) h
always_is name (e ∷ events) m h = let parts = and_parts (within (running_at m name)) (all_within name (step m e) events) h in (within_is (running_at m name) parts.0, always_is name events (step m e) parts.1)

module _ (n : ℕ) (k : Config) (valid : IsConfig k) (past : List Event) (e : Event) (between : List Event) (f : Event) (name : ProcName) where
  abbrev m : Machine
  m = machine k past

  abbrev FetchIn : Type 0
  FetchIn = (known : Known) × (offset : ℕ) × (pad : ℕ) × LooksOn m name (Fetch known offset n pad) known.class (OfSegment known.seg) (fetch_body known.seg offset n pad) e between f

  look_from : (o : Option Running) → running_at m name ≡ o → starts n m.shared name.class o ≡ true → takes_step name m e ≡ true → all_within name (step m e) between ≡ true →
      takes_step name (run (step m e) between) f ≡ true → FetchIn
  look_from None there h first goes_on next = cc
  look_from (Some r) there h first goes_on next =
      let parts = and_parts (not (begun r.doing)) (is_fetch n (plan m.shared name.class r.process)) h in
      let asked = from_plan n (plan m.shared name.class r.process) parts.1 in (
        asked.0,
        asked.1,
        asked.2,
        record {
          begins = record { before = r; there = there; fresh = fresh_is r.doing (not_true (begun r.doing) parts.0); planned = asked.3; done_so = refl };
          first = first;
          goes_on = always_is name between (step m e) goes_on;
          next = next;
        },
      )

abbrev reader : ProcName
reader = named 1 1 0

abbrev its : Event
its = record { processor = 1; class = 1 }

valid_here : IsConfig writer_and_reader
unfolding writer_and_reader
valid_here = record {
  table = refl;
  pools = refl;
  volumes = refl;
  processors = refl;
  cycle = refl;
  rounds = refl;
  console = refl;
  scripts = refl;
  gates = refl;
  processes = refl;
  records = refl;
}

abbrev told_so : (Told Outcome → Bool) → Machine → ℕ → Option Running → Bool
told_so test m d None = false
told_so test m d (Some r) = test (told_in m d r.doing)

-- the look that is crossed, and the one that is accepted
abbrev past_first : List Event
past_first = events 0 0 46 ++ events 1 1 7

abbrev between_first : List Event
between_first = events 1 1 3 ++ events 0 0 8 ++ events 1 1 1

abbrev past_second : List Event
past_second = past_first ++ its ∷ between_first ++ its ∷ []

abbrev Computes : List Event → List Event → (Told Outcome → Bool) → Type 0
Computes past between test = let m : Machine = machine writer_and_reader past in let n : Machine = run (step m its) between in
    (starts 2 m.shared 1 (running_at m reader) ≡ true) × (takes_step reader m its ≡ true) × (all_within reader (step m its) between ≡ true) ×
    (takes_step reader n its ≡ true) × (told_so test n 1 (running_at n reader) ≡ true)

first_computes : Computes past_first between_first begins_again
unfolding writer_and_reader
first_computes = (refl, refl, refl, refl, refl)

second_computes : Computes past_second (events 1 1 4) accepts
unfolding writer_and_reader
second_computes = (refl, refl, refl, refl, refl)

found : (past between : List Event) (test : Told Outcome → Bool) → length past + length between + 2 ≤ 4194304 → Computes past between test → Found test
found past between test few computes = by_last (running_at n reader) refl computes.4
  where
    m : Machine
    m = machine writer_and_reader past

    n : Machine
    n = run (step m its) between

    fetch : FetchIn 2 writer_and_reader valid_here past its between its reader
    fetch = look_from 2 writer_and_reader valid_here past its between its reader (running_at m reader) refl computes.0 computes.1 computes.2 computes.3

    look : LookInRun
    look = record {
      config = writer_and_reader;
      valid = valid_here;
      past = past;
      first = its;
      between = between;
      next = its;
      few = few;
      name = reader;
      request = Fetch fetch.0 fetch.1 2 fetch.2;
      class = fetch.0.class;
      guard = OfSegment fetch.0.seg;
      body = fetch_body fetch.0.seg fetch.1 2 fetch.2;
      looks = fetch.3;
    }

    by_last : (o : Option Running) → running_at n reader ≡ o → told_so test n 1 o ≡ true → Found test
    by_last None there h = cc
    by_last (Some r) there h = record {
      look = look;
      here = refl;
      known = fetch.0;
      offset = fetch.1;
      pad = fetch.2;
      asks = refl;
      doing = r.doing;
      told = told_in n 1 r.doing;
      tells = record { running = r; there = there; so_far = refl; tells = refl };
      passes = h;
    }

crossed : Found begins_again
crossed = found past_first between_first begins_again (omega arith) first_computes

accepted : Found accepts
accepted = found past_second (events 1 1 4) accepts (omega arith) second_computes

-- the laws at these two looks
polls_is : (x : Ending) → polls x ≡ true → x ≡ Polls
polls_is Polls h = refl
polls_is _ h = cc

an_update_crosses_it : Sometime (Crosses crossed.look) (behind_first crossed.look) crossed.look.between
an_update_crosses_it = (looks_are_crossed crossed.look crossed.doing crossed.told crossed.tells (polls_is crossed.told.ending crossed.passes)).2

ends_is : (x : Ending) → ends x ≡ true → x ≡ Ends
ends_is Ends h = refl
ends_is _ h = cc

told_as : (o : Option Outcome) (x : Doing Outcome) (y : Ending) → is_words o ≡ true → x ≡ Fresh → y ≡ Ends →
    (at : ℕ) × (words : List ℕ) × ((let t : Told Outcome = record { takes = o; doing = x; ending = y } in t) ≡ done (Words at words))
told_as (Some (Words at words)) x y h e f = (at, words, λ i. record { takes = Some (Words at words); doing = e i; ending = f i })
told_as _ x y h e f = cc

it_takes_six_steps : steps_through accepted.look ≡ 6
it_takes_six_steps =
    let t : Told Outcome = accepted.told in
    let a = and_parts (is_words t.takes) (not (begun t.doing) && ends t.ending) accepted.passes in
    let b = and_parts (not (begun t.doing)) (ends t.ending) a.1 in
    let w = told_as t.takes t.doing t.ending a.0 (fresh_is t.doing (not_true (begun t.doing) b.0)) (ends_is t.ending b.1) in
    fetches_are_exact accepted.look accepted.known accepted.offset 2 accepted.pad accepted.doing w.0 w.1 accepted.asks
    (record { running = accepted.tells.running; there = accepted.tells.there; so_far = accepted.tells.so_far; tells = accepted.tells.tells ∙ w.2 })

pub is_crossed : IsCrossed
is_crossed = record { found = crossed; crossed = an_update_crosses_it }

pub is_accepted : IsAccepted
is_accepted = record { found = accepted; steps = it_takes_six_steps }
