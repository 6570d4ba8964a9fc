-- The first faulty line of a text, and its least code: what scripts, configurations and release orders share.
-- A code is of any type C, and what the lines so far say, the place, is of any type P.
use Rattle.std.specs.Prelude.{◌≡◌, ℕ, ◌+◌, ◌-◌, ◌<◌, ◌≤◌, zero, suc, List, [], ◌∷◌, length, drop, Bool, true, ◌⊎◌, if◌then◌else◌, Option, Some, None, Result, Ok, Err}

-- tests with their codes
abbrev pub Tests : Type 0 → Type 0
Tests C = List (Bool × C)

-- How a kind of text judges its lines. What a line means may depend on the lines that follow it, as where a jump
-- names a later place, so they are handed on as well.
pub record LineRules (C P : Type 0) : Type 0 where
  -- the number of a code
  pub number : C → ℕ
  -- the tests of a line at a place, with the lines that follow it
  pub tests : P → List ℕ → List (List ℕ) → Tests C
  -- the place after a line that has no code
  pub next : P → List ℕ → List (List ℕ) → P
  -- the tests of the line after the last one
  pub last : P → Tests C

-- ---- faults

-- one of the tests that hold has this code
abbrev pub HasCode : {C : Type 0} → Tests C → C → Type 0
HasCode [] c = ⊥
HasCode (t ∷ ts) c = ((t.0 ≡ true) × (t.1 ≡ c)) ⊎ HasCode ts c

-- none of the tests holds
abbrev pub HasNoCode : {C : Type 0} → Tests C → Type 0
HasNoCode {C} ts = (c : C) → ¬ HasCode ts c

-- One of the tests that hold has this code, and none of them has a lesser one.
pub record IsLeastCode {C : Type 0} (number : C → ℕ) (ts : Tests C) (c : C) : Type 0 where
  pub has : HasCode ts c
  pub least : (d : C) → HasCode ts d → number c ≤ number d

-- None of the first n lines has a code, and they lead from one place to the other.
abbrev pub Leads : {C P : Type 0} → LineRules C P → P → List (List ℕ) → ℕ → P → Type 0
Leads r p ls zero q = p ≡ q
Leads r p [] (suc n) q = ⊥
Leads r p (line ∷ more) (suc n) q = HasNoCode (r.tests p line more) × Leads r (r.next p line more) more n q

-- The next line has this as its least code, or no line is left and the line after the last one has it.
abbrev pub IsFaultAt : {C P : Type 0} → LineRules C P → P → List (List ℕ) → C → Type 0
IsFaultAt r p [] c = IsLeastCode r.number (r.last p) c
IsFaultAt r p (line ∷ more) c = IsLeastCode r.number (r.tests p line more) c

-- the first faulty line, counted from 1, and its least code
pub record IsFirstFault {C P : Type 0} (r : LineRules C P) (start : P) (ls : List (List ℕ)) (line : ℕ) (c : C) : Type 0 where
  pub counted : 0 < line
  pub place : P
  pub before : Leads r start ls (line - 1) place
  pub here : IsFaultAt r place (drop (line - 1) ls) c

-- No line has a code, nor has the line after the last one; the lines lead to this place.
pub record IsFaultless {C P : Type 0} (r : LineRules C P) (start : P) (ls : List (List ℕ)) (place : P) : Type 0 where
  pub leads : Leads r start ls (length ls) place
  pub ends : HasNoCode (r.last place)

-- The codes of the tests rise, from low on.
abbrev pub Rises : {C : Type 0} → (C → ℕ) → ℕ → Tests C → Type 0
Rises number low [] = Unit {0}
Rises number low (t ∷ ts) = (low ≤ number t.1) × Rises number (number t.1) ts

-- The tests of each line stand in the order of their codes.
pub record Rising {C P : Type 0} (r : LineRules C P) : Type 0 where
  pub lines : (p : P) (line : List ℕ) (more : List (List ℕ)) → Rises r.number 0 (r.tests p line more)
  pub last : (p : P) → Rises r.number 0 (r.last p)

-- ---- the same from left to right, which is how code reads a text

-- the code of the first test that holds
abbrev pub first_code : {C : Type 0} → Tests C → Option C
first_code [] = None
first_code (t ∷ ts) = if t.0 then Some t.1 else first_code ts

-- the first code that is there
abbrev pub or_else : {C : Type 0} → Option C → Option C → Option C
or_else None o = o
or_else (Some c) o = Some c

-- that code, or the place
abbrev pub code_or : {C P : Type 0} → Option C → P → Result P C
code_or None p = Ok p
code_or (Some c) p = Err c

-- the first code of the tests, or the place where there is none
abbrev pub judged : {C P : Type 0} → Tests C → P → Result P C
judged ts p = code_or (first_code ts) p

-- what a line answers: its first code, or the place after it
abbrev pub line_answer : {C P : Type 0} → LineRules C P → P → List ℕ → List (List ℕ) → Result P C
line_answer r p line more = judged (r.tests p line more) (r.next p line more)

-- the code at this line, or what the rest makes of the place
abbrev pub and_then : {C P : Type 0} → ℕ → Result P C → (P → Result P (ℕ × C)) → Result P (ℕ × C)
and_then n (Ok p) rest = rest p
and_then n (Err c) rest = Err (n, c)

-- the place after the lines, which are counted from n, or the number of the first line with a code and its first code
abbrev pub lines_answer : {C P : Type 0} → LineRules C P → P → ℕ → List (List ℕ) → Result P (ℕ × C)
lines_answer r p n [] = and_then n (judged (r.last p) p) Ok
lines_answer r p n (line ∷ more) = and_then n (line_answer r p line more) (λ q. lines_answer r q (n + 1) more)
