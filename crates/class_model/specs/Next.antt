-- What the code says of a plan without making the process after it.
use Rattle.std.specs.Prelude.{ℕ, ◌+◌, ◌≡◌, ◌<◌, ◌≤◌, ◌⊎◌, Bool, true, false, Result, Ok, Err, Some, List, None, is_none}
use Rattle.labels.specs.Label.{ClassEntry}
use Rattle.lists.specs.Lists.{part_of}
use Rattle.rings.specs.Brackets.{in_order}
use Rattle.policy.specs.Known.{Known, signals}
use Rattle.policy.specs.Verdict.{first_broken}
use Rattle.policy.specs.Outcome.{Outcome, Refused, Value, Learns, Words, Printed, Looked, Counted}
use Rattle.policy.specs.Private.{brackets_of, read_tests, make_known_tests, create_tests, delete_tests, swap_in_tests, swap_out_tests, fetch_tests, update_tests, advance_tests, ticket_tests}
use Rattle.policy.specs.declared.rule.Rule.{Rule}
use Rattle.script_lang.specs.declared.instr.Instr.{Instr}
use Rattle.script_lang.specs.declared.instr.Instr.TheVariants as I
use Rattle.class_model.specs.Config.{Shared, classes}
use Rattle.class_model.specs.Process.{Process, known_at, free_known, new_process, refused}
use Rattle.class_model.specs.Plan.{Plan, Own, Begin, Ask, Request, MakeKnown, Create, Delete, SwapIn, SwapOut, Fetch, Update, Read, Advance, Ticket, Out}
use Rattle.class_model.specs.declared.request.Request.{Request as Asked}
use Rattle.class_model.specs.declared.request.Request.TheVariants as A
use Rattle.class_model.specs.declared.request.Next.{Next}
use Rattle.class_model.specs.declared.request.Next.TheVariants as N
use Rattle.class_model.specs.declared.request.Shown.{Shown}
use Rattle.class_model.specs.declared.request.Shown.TheVariants as S

-- the request of a process; the words of an update are those of its pad
abbrev pub request_of : Process → Asked → Request
request_of p (A.MakeKnown k entry mode) = MakeKnown k entry mode
request_of p (A.Create k entry class brackets size) = Create k entry class (brackets_of brackets) size
request_of p (A.Delete k entry) = Delete k entry
request_of p (A.SwapIn k) = SwapIn k
request_of p (A.SwapOut k) = SwapOut k
request_of p (A.Fetch k offset count pad) = Fetch k offset count pad
request_of p (A.Update k offset count pad) = Update k offset (part_of p.pad pad count)
request_of p (A.Read k wanted tally) = Read k wanted tally
request_of p (A.Advance k) = Advance k
request_of p (A.Ticket k) = Ticket k
request_of p (A.Out value) = Out value

-- what the state shows
abbrev pub outcome_of : Shown → Outcome
outcome_of (S.Refused rule) = Refused rule
outcome_of (S.Value value) = Value value
outcome_of (S.Learns k) = Learns k
outcome_of (S.Words at words) = Words at words.now
outcome_of (S.Printed place value) = Printed place value
outcome_of (S.Looked tally) = Looked tally
outcome_of (S.Counted sum) = Counted sum

-- the plan takes effect on the process alone
abbrev pub is_own : Plan → Bool
is_own (Own after) = true
is_own _ = false

-- what is next for a process of class d, as its plan says
abbrev pub IsNext : ℕ → Process → Plan → Next → Type 0
IsNext d p plan N.Own = is_own plan ≡ true
IsNext d p plan (N.Begin script start) = plan ≡ Begin (new_process d script p.ring start)
IsNext d p plan (N.Ask request) = plan ≡ Ask (request_of p request)

-- the instruction asks the state, where its private tests pass
abbrev pub asks : Instr → Bool
asks (I.MakeKnown a b c) = true
asks (I.Create a b c x e) = true
asks (I.Delete a b) = true
asks (I.SwapIn a) = true
asks (I.SwapOut a) = true
asks (I.Fetch a b c x) = true
asks (I.Update a b c x) = true
asks (I.Read a) = true
asks (I.Await a b) = true
asks (I.Advance a) = true
asks (I.Ticket a) = true
asks (I.Out a) = true
asks _ = false

-- the plan of such an instruction: what it asks, or a refusal
abbrev pub plan_by : Process → Result Asked Rule → Plan
plan_by p (Ok request) = Ask (request_of p request)
plan_by p (Err rule) = Own (refused p rule)

-- the classes of what it knows are among the first n
abbrev pub KnowsClasses : ℕ → Process → Type 0
KnowsClasses n p = (i : ℕ) (k : Known) → known_at p i ≡ Some k → k.class < n

-- what a step asks of a process of class d: its class and the classes that it knows are in the table
pub record CanStep (s : Shared) (d : ℕ) (p : Process) : Type 0 where
  pub class : d < classes s
  pub known : KnowsClasses (classes s) p

-- the instruction ends the process, or its place is one of a script's 256 at most
abbrev pub EndsOrInside : Instr → ℕ → Type 0
EndsOrInside i place = (i ≡ I.Halt) ⊎ (place < 256)

-- the words are some, within the segment and within the pad
pub record InBounds (k : Known) (offset count pad : ℕ) : Type 0 where
  pub some : 1 ≤ count
  pub segment : offset + count ≤ k.size
  pub in_pad : pad + count ≤ 64

-- the operands of create: an entry, a class of n, brackets in order, and a size from 1 to 64
pub record IsChild (n e class b size : ℕ) : Type 0 where
  pub entry : e < 8
  pub in_table : class < n
  pub brackets : b ≤ 511
  pub ordered : in_order (brackets_of b) ≡ true
  pub some : 1 ≤ size
  pub limit : size ≤ 64

-- what holds of the operands that passed the tests, where there are n classes
abbrev pub InRange : ℕ → Asked → Type 0
InRange n (A.MakeKnown k entry mode) = (entry < 8) × ((mode ≡ 1) ⊎ (mode ≡ 2) ⊎ (mode ≡ 3))
InRange n (A.Create k entry class brackets size) = IsChild n entry class brackets size
InRange n (A.Delete k entry) = entry < 8
InRange n (A.Fetch k offset count pad) = InBounds k offset count pad
InRange n (A.Update k offset count pad) = InBounds k offset count pad
InRange n _ = Unit {0}

-- the class of the known segment of which a request asks is one of n
abbrev pub AsksOf : ℕ → Asked → Type 0
AsksOf n (A.MakeKnown k entry mode) = k.class < n
AsksOf n (A.Create k entry class brackets size) = k.class < n
AsksOf n (A.Delete k entry) = k.class < n
AsksOf n (A.SwapIn k) = k.class < n
AsksOf n (A.SwapOut k) = k.class < n
AsksOf n (A.Fetch k offset count pad) = k.class < n
AsksOf n (A.Update k offset count pad) = k.class < n
AsksOf n (A.Read k wanted tally) = k.class < n
AsksOf n (A.Advance k) = k.class < n
AsksOf n (A.Ticket k) = k.class < n
AsksOf n (A.Out value) = Unit {0}

-- likewise of what is next
abbrev pub NextInRange : ℕ → Next → Type 0
NextInRange n (N.Ask request) = InRange n request × AsksOf n request
NextInRange n _ = Unit {0}

-- more may be done with it than signal
abbrev pub IsUsable : Known → Type 0
IsUsable k = signals k.rights ≡ false

-- a request of a process passed its private tests
abbrev pub Passed : List ClassEntry → Process → Asked → Type 0
Passed table p (A.MakeKnown k entry mode) = IsUsable k × (first_broken (make_known_tests p.ring entry mode (is_none (free_known p)) k) ≡ None)
Passed table p (A.Create k entry class brackets size) = IsUsable k × (first_broken (create_tests table p.ring entry class brackets size k) ≡ None)
Passed table p (A.Delete k entry) = IsUsable k × (first_broken (delete_tests p.ring entry k) ≡ None)
Passed table p (A.SwapIn k) = IsUsable k × (first_broken (swap_in_tests p.ring k) ≡ None)
Passed table p (A.SwapOut k) = IsUsable k × (first_broken (swap_out_tests p.ring k) ≡ None)
Passed table p (A.Fetch k offset count pad) = IsUsable k × (first_broken (fetch_tests p.ring offset count pad k) ≡ None)
Passed table p (A.Update k offset count pad) = IsUsable k × (first_broken (update_tests p.ring offset count pad k) ≡ None)
Passed table p (A.Read k wanted tally) = IsUsable k × (first_broken (read_tests p.ring k) ≡ None)
Passed table p (A.Advance k) = first_broken (advance_tests p.ring k) ≡ None
Passed table p (A.Ticket k) = IsUsable k × (first_broken (ticket_tests p.ring k) ≡ None)
Passed table p (A.Out value) = Unit {0}

-- what is next, if it asks, passed
abbrev pub NextPassed : List ClassEntry → Process → Next → Type 0
NextPassed table p (N.Ask request) = Passed table p request
NextPassed table p _ = Unit {0}

-- what is asked, if it isn't refused, passed
abbrev pub AskPassed : List ClassEntry → Process → Result Asked Rule → Type 0
AskPassed table p (Ok request) = Passed table p request
AskPassed table p (Err rule) = Unit {0}
