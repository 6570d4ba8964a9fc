-- Rules by number, and the verdict of the policy.
use Rattle.std.specs.Prelude.{ℕ, Bool, not, List, [], ◌∷◌, ◌++◌, if◌then◌else◌, Option, Some, None}
use Rattle.labels.specs.Label.{Label, secrecy_at_least, integrity_at_least}
use Rattle.rings.specs.Brackets.{Brackets, may_read, may_write}
use Rattle.policy.specs.Known.{observes, modifies}
use Rattle.policy.specs.declared.rule.Rule.{Rule}
use Rattle.policy.specs.declared.rule.Rule.TheVariants.{UnknownSegno, KstFull, BadEntry, NoEntry, EntryTaken, SecrecyRead, IntegrityRead, SecrecyWrite, IntegrityWrite, RingRead, RingWrite, RingCall, NotModify, Compat, BadClass, BadBrackets, BadSize, Bounds, Gone, NotIn, AlreadyIn, NoFrame, NoPage, SerialsUsed, NotEmpty, ConsoleFull, NoSlot, NoScript, StackFull, StackEmpty, BadMode}

-- the number of a rule, as a reply's code has it
abbrev pub number : Rule → ℕ
number UnknownSegno = 1
number KstFull = 2
number BadEntry = 3
number NoEntry = 4
number EntryTaken = 5
number SecrecyRead = 6
number IntegrityRead = 7
number SecrecyWrite = 8
number IntegrityWrite = 9
number RingRead = 10
number RingWrite = 11
number RingCall = 12
number NotModify = 13
number Compat = 14
number BadClass = 15
number BadBrackets = 16
number BadSize = 17
number Bounds = 18
number Gone = 19
number NotIn = 20
number AlreadyIn = 21
number NoFrame = 22
number NoPage = 23
number SerialsUsed = 24
number NotEmpty = 25
number ConsoleFull = 26
number NoSlot = 27
number NoScript = 28
number StackFull = 29
number StackEmpty = 30
number BadMode = 31

-- A test that refuses: the rule, where the condition holds.
infix 3 ◌⇒◌
abbrev pub ◌⇒◌ : Bool → Rule → Bool × Rule
holds ⇒ rule = (holds, rule)

-- the first rule whose condition holds
abbrev pub first_broken : List (Bool × Rule) → Option Rule
first_broken [] = None
first_broken (test ∷ tests) = if test.0 then Some test.1 else first_broken tests

-- what observing asks: no read up in secrecy, no read down in integrity, and a ring that may read
abbrev pub observe_tests : Label → ℕ → Label → Brackets → List (Bool × Rule)
observe_tests subject ring object brackets =
    (not (secrecy_at_least subject object) ⇒ SecrecyRead) ∷
    (not (integrity_at_least object subject) ⇒ IntegrityRead) ∷
    (not (may_read brackets ring) ⇒ RingRead) ∷ []

-- what modifying asks: no write down in secrecy, no write up in integrity, and a ring that may write
abbrev pub modify_tests : Label → ℕ → Label → Brackets → List (Bool × Rule)
modify_tests subject ring object brackets =
    (not (secrecy_at_least object subject) ⇒ SecrecyWrite) ∷
    (not (integrity_at_least subject object) ⇒ IntegrityWrite) ∷
    (not (may_write brackets ring) ⇒ RingWrite) ∷ []

-- the tests of what is wanted
abbrev pub verdict_tests : Label → ℕ → Label → Brackets → ℕ → List (Bool × Rule)
verdict_tests subject ring object brackets want =
    (if observes want then observe_tests subject ring object brackets else []) ++
    (if modifies want then modify_tests subject ring object brackets else [])

-- the first broken rule, or none
abbrev pub verdict : Label → ℕ → Label → Brackets → ℕ → Option Rule
verdict subject ring object brackets want = first_broken (verdict_tests subject ring object brackets want)
