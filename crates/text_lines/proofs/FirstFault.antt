-- What is answered to lines is their first fault with its least code, or that there is none.
use Rattle.std.proofs.Common.{◌≡◌, ℕ, zero, suc, ◌+◌, ◌-◌, ◌≤◌, true, false, cond, List, [], ◌∷◌, ◌++◌, length, drop, Option, Some, None, Result, Ok, Err, refl, sym, ap, subst, ◌∙◌, arith, inl, inr}
use Rattle.std.specs.Result.{result_err}
use Rattle.std.proofs.lemmas.Option.{some_pair_parts}
use Rattle.text_lines.specs.Faults.{Tests, LineRules, HasCode, HasNoCode, IsLeastCode, Leads, IsFaultAt, IsFirstFault, IsFaultless, Rises, Rising, first_code, or_else, code_or, judged, line_answer, and_then, lines_answer}

-- ---- tests

pub first_code_append : {C : Type 0} (ts us : Tests C) → first_code (ts ++ us) ≡ or_else (first_code ts) (first_code us)
first_code_append [] us = refl
first_code_append (t ∷ ts) us =
    elim t.0 as (λ b. cond b (Some t.1) (first_code (ts ++ us)) ≡ or_else (cond b (Some t.1) (first_code ts)) (first_code us)) [
      | true ↦ refl
      | false ↦ first_code_append ts us
    ]

-- none of the tests holds
abbrev pub NoneHolds : {C : Type 0} → Tests C → Type 0
NoneHolds [] = Unit {0}
NoneHolds (t ∷ ts) = (t.0 ≡ false) × NoneHolds ts

pub none_hold : {C : Type 0} (ts : Tests C) → first_code ts ≡ None → NoneHolds ts
none_hold [] e = tt
none_hold (t ∷ ts) e =
    elim t.0 as (λ b. t.0 ≡ b → cond b (Some t.1) (first_code ts) ≡ None → (t.0 ≡ false) × NoneHolds ts) [
      | true ↦ λ is none. absurd cc
      | false ↦ λ is none. (is, none_hold ts none)
    ] refl e

pub no_code : {C : Type 0} (ts : Tests C) → NoneHolds ts → first_code ts ≡ None
no_code [] none = refl
no_code (t ∷ ts) none = rw none.0 (no_code ts none.1)

pub has_no_code : {C : Type 0} (ts : Tests C) → NoneHolds ts → HasNoCode ts
has_no_code [] none c has = has
has_no_code (t ∷ ts) none c has = elim has [ inl here ↦ absurd cc | inr later ↦ has_no_code ts none.1 c later ]

pub none_holds : {C : Type 0} (ts : Tests C) → first_code ts ≡ None → HasNoCode ts
none_holds ts e = has_no_code ts (none_hold ts e)

pub no_code_none : {C : Type 0} (ts : Tests C) → HasNoCode ts → NoneHolds ts
no_code_none [] none = tt
no_code_none (t ∷ ts) none =
    elim t.0 as (λ b. t.0 ≡ b → (t.0 ≡ false) × NoneHolds ts) [
      | true ↦ λ is. absurd (none t.1 (inl (is, refl)))
      | false ↦ λ is. (is, no_code_none ts (λ c has. none c (inr has)))
    ] refl

rises_from : {C : Type 0} (number : C → ℕ) (low : ℕ) (ts : Tests C) (d : C) → Rises number low ts → HasCode ts d → low ≤ number d
rises_from number low [] d rise has = absurd has
rises_from number low (t ∷ ts) d rise has = elim has [
  | inl here ↦ subst (λ c. low ≤ number c) here.1 rise.0
  | inr later ↦ omega (arith, rise.0, rises_from number (number t.1) ts d rise.1 later)
]

pub first_holds : {C : Type 0} (number : C → ℕ) (low : ℕ) (ts : Tests C) (c : C) → Rises number low ts → first_code ts ≡ Some c → IsLeastCode number ts c
first_holds number low [] c rise e = absurd cc
first_holds number low (t ∷ ts) c rise e =
    elim t.0 as (λ b. t.0 ≡ b → cond b (Some t.1) (first_code ts) ≡ Some c → IsLeastCode number (t ∷ ts) c) [
      | true ↦ λ is some. let same : t.1 ≡ c = cc in record {
        has = inl (is, same);
        least = λ d has. elim has [
          | inl here ↦ subst (λ x. number x ≤ number d) same (subst (λ x. number t.1 ≤ number x) here.1 (omega arith))
          | inr later ↦ subst (λ x. number x ≤ number d) same (rises_from number (number t.1) ts d rise.1 later)
        ];
      }
      | false ↦ λ is some. let rest = first_holds number (number t.1) ts c rise.1 some in record {
        has = inr rest.has;
        least = λ d has. elim has [ inl here ↦ absurd cc | inr later ↦ rest.least d later ];
      }
    ] refl e

-- the code of the first test that holds, where one holds
first_of : {C : Type 0} (ts : Tests C) (c : C) → HasCode ts c → (d : C) × (first_code ts ≡ Some d)
first_of [] c has = absurd has
first_of (t ∷ ts) c has =
    elim t.0 as (λ b. t.0 ≡ b → (d : _) × (cond b (Some t.1) (first_code ts) ≡ Some d)) [
      | true ↦ λ is. (t.1, refl)
      | false ↦ λ is. elim has [ inl here ↦ absurd cc | inr later ↦ first_of ts c later ]
    ] refl

-- Where no two codes have the same number, the least code is the first one.
pub least_first : {C : Type 0} (number : C → ℕ) (low : ℕ) (ts : Tests C) (c : C) → ((a b : C) → number a ≡ number b → a ≡ b) → Rises number low ts → IsLeastCode number ts c → first_code ts ≡ Some c
least_first number low ts c apart rise least =
    let f = first_of ts c least.has in
    let g = first_holds number low ts f.0 rise f.1 in
    f.1 ∙ ap Some (apart f.0 c (omega (arith, g.least c least.has, least.least f.0 g.has)))

-- ---- one line after the other

code_or_ok : {C P : Type 0} (o : Option C) (p q : P) → code_or o p ≡ Ok q → (o ≡ None) × (p ≡ q)
code_or_ok None p q e = (refl, cc)
code_or_ok (Some c) p q e = absurd cc

code_or_err : {C P : Type 0} (o : Option C) (p : P) (c : C) → code_or o p ≡ Err c → o ≡ Some c
code_or_err None p c e = absurd cc
code_or_err (Some d) p c e = cc

-- no test holds, and this is the place
pub judged_ok : {C P : Type 0} (ts : Tests C) (p q : P) → judged ts p ≡ Ok q → NoneHolds ts × (p ≡ q)
judged_ok ts p q e = let parts = code_or_ok (first_code ts) p q e in (none_hold ts parts.0, parts.1)

pub judged_err : {C P : Type 0} (ts : Tests C) (p : P) (c : C) → judged ts p ≡ Err c → first_code ts ≡ Some c
judged_err ts p c e = code_or_err (first_code ts) p c e

-- the next line is taken
pub goes_on : {C P : Type 0} (r : LineRules C P) (p q : P) (n : ℕ) (left more : List (List ℕ)) (line : List ℕ) (total : Result P (ℕ × C)) → left ≡ line ∷ more → line_answer r p line more ≡ Ok q → lines_answer r p n left ≡ total → lines_answer r q (n + 1) more ≡ total
goes_on r p q n left more line total e taken so_far =
    let one : lines_answer r p n (line ∷ more) ≡ lines_answer r q (n + 1) more = rw taken refl in
    sym one ∙ ap (lines_answer r p n) (sym e) ∙ so_far

-- the next line has a code
pub stops : {C P : Type 0} (r : LineRules C P) (p : P) (n : ℕ) (left more : List (List ℕ)) (line : List ℕ) (c : C) (total : Result P (ℕ × C)) → left ≡ line ∷ more → line_answer r p line more ≡ Err c → lines_answer r p n left ≡ total → total ≡ Err (n, c)
stops r p n left more line c total e refused so_far =
    let one : lines_answer r p n (line ∷ more) ≡ Err (n, c) = rw refused refl in
    sym so_far ∙ ap (lines_answer r p n) e ∙ one

-- nothing is left
pub ends : {C P : Type 0} (r : LineRules C P) (p : P) (n : ℕ) (left : List (List ℕ)) (total : Result P (ℕ × C)) → left ≡ [] → first_code (r.last p) ≡ None → lines_answer r p n left ≡ total → total ≡ Ok p
ends r p n left total e ended so_far =
    let one : lines_answer r p n [] ≡ Ok p = rw ended refl in
    sym so_far ∙ ap (lines_answer r p n) e ∙ one

-- the line after the last one has a code
pub ends_short : {C P : Type 0} (r : LineRules C P) (p : P) (n : ℕ) (left : List (List ℕ)) (c : C) (total : Result P (ℕ × C)) → left ≡ [] → first_code (r.last p) ≡ Some c → lines_answer r p n left ≡ total → total ≡ Err (n, c)
ends_short r p n left c total e short so_far =
    let one : lines_answer r p n [] ≡ Err (n, c) = rw short refl in
    sym so_far ∙ ap (lines_answer r p n) e ∙ one

-- ---- the fault that is answered is the first one

abbrev at_line : {C P : Type 0} → ℕ → C → Result P (ℕ × C)
at_line n c = Err (n, c)

same_fault : {C P : Type 0} (n m : ℕ) (c d : C) → at_line {P = P} n c ≡ at_line m d → (n ≡ m) × (c ≡ d)
same_fault n m c d e = some_pair_parts n m c d (ap result_err e)

-- the first fault of these lines, which are counted from n
record FaultIn {C P : Type 0} (r : LineRules C P) (p : P) (n : ℕ) (ls : List (List ℕ)) (m : ℕ) (c : C) : Type 0 where
  count : ℕ
  is : m ≡ n + count
  place : P
  before : Leads r p ls count place
  here : IsFaultAt r place (drop count ls) c

fault_in : {C P : Type 0} (r : LineRules C P) → Rising r → (ls : List (List ℕ)) (p : P) (n m : ℕ) (c : C) → lines_answer r p n ls ≡ Err (m, c) → FaultIn r p n ls m c
fault_in {C} {P} r rising [] p n m c e =
    elim (judged (r.last p) p) as (λ a. judged (r.last p) p ≡ a → and_then n a Ok ≡ at_line m c → FaultIn r p n [] m c) [
      | Ok q ↦ λ taken rest. absurd cc
      | Err d ↦ λ refused rest.
          let same = same_fault {P = P} n m d c rest in
          record { count = 0; is = omega (arith, same.0); place = p; before = refl; here = first_holds r.number 0 (r.last p) c (rising.last p) (judged_err (r.last p) p d refused ∙ ap Some same.1) }
    ] refl e
fault_in {C} {P} r rising (line ∷ more) p n m c e =
    elim (line_answer r p line more) as (λ a. line_answer r p line more ≡ a → and_then n a (λ q. lines_answer r q (n + 1) more) ≡ at_line m c → FaultIn r p n (line ∷ more) m c) [
      | Ok q ↦ λ taken rest.
          let t = judged_ok (r.tests p line more) (r.next p line more) q taken in
          let f = fault_in r rising more q (n + 1) m c rest in
          record { count = suc f.count; is = omega (arith, f.is); place = f.place; before = (has_no_code (r.tests p line more) t.0, subst (λ x. Leads r x more f.count f.place) (sym t.1) f.before); here = f.here }
      | Err d ↦ λ refused rest.
          let same = same_fault {P = P} n m d c rest in
          record { count = 0; is = omega (arith, same.0); place = p; before = refl; here = first_holds r.number 0 (r.tests p line more) c (rising.lines p line more) (judged_err (r.tests p line more) (r.next p line more) d refused ∙ ap Some same.1) }
    ] refl e

pub first_fault : {C P : Type 0} (r : LineRules C P) → Rising r → (start : P) (ls : List (List ℕ)) (m : ℕ) (c : C) → lines_answer r start 1 ls ≡ Err (m, c) → IsFirstFault r start ls m c
first_fault r rising start ls m c e =
    let f = fault_in r rising ls start 1 m c e in
    let i : f.count ≡ m - 1 = omega (arith, f.is) in
    record { counted = omega (arith, f.is); place = f.place; before = subst (λ k. Leads r start ls k f.place) i f.before; here = subst (λ k. IsFaultAt r f.place (drop k ls) c) i f.here }

-- No line has a code, where none is answered.
pub faultless : {C P : Type 0} (r : LineRules C P) (ls : List (List ℕ)) (p : P) (n : ℕ) (q : P) → lines_answer r p n ls ≡ Ok q → IsFaultless r p ls q
faultless r [] p n q e =
    elim (judged (r.last p) p) as (λ a. judged (r.last p) p ≡ a → and_then n a Ok ≡ Ok q → IsFaultless r p [] q) [
      | Ok s ↦ λ taken rest.
          let t = judged_ok (r.last p) p s taken in
          let same : p ≡ q = cc in
          record { leads = same; ends = subst (λ x. HasNoCode (r.last x)) same (has_no_code (r.last p) t.0) }
      | Err d ↦ λ refused rest. absurd cc
    ] refl e
faultless r (line ∷ more) p n q e =
    elim (line_answer r p line more) as (λ a. line_answer r p line more ≡ a → and_then n a (λ s. lines_answer r s (n + 1) more) ≡ Ok q → IsFaultless r p (line ∷ more) q) [
      | Ok s ↦ λ taken rest.
          let t = judged_ok (r.tests p line more) (r.next p line more) s taken in
          let f = faultless r more s (n + 1) q rest in
          record { leads = (has_no_code (r.tests p line more) t.0, subst (λ x. Leads r x more (length more) q) (sym t.1) f.leads); ends = f.ends }
      | Err d ↦ λ refused rest. absurd cc
    ] refl e

-- ---- the other way round

pub faultless_read : {C P : Type 0} (r : LineRules C P) (ls : List (List ℕ)) (p : P) (n : ℕ) (q : P) → IsFaultless r p ls q → lines_answer r p n ls ≡ Ok q
faultless_read r [] p n q f =
    let none : first_code (r.last p) ≡ None = no_code _ (no_code_none (r.last p) (subst (λ x. HasNoCode (r.last x)) (sym f.leads) f.ends)) in
    rw none (ap Ok f.leads)
faultless_read r (line ∷ more) p n q f =
    let none : first_code (r.tests p line more) ≡ None = no_code _ (no_code_none (r.tests p line more) f.leads.0) in
    rw none (faultless_read r more (r.next p line more) (n + 1) q (record { leads = f.leads.1; ends = f.ends }))

fault_read : {C P : Type 0} (r : LineRules C P) → Rising r → ((a b : C) → r.number a ≡ r.number b → a ≡ b) → (ls : List (List ℕ)) (p : P) (n count : ℕ) (q : P) (c : C) → Leads r p ls count q → IsFaultAt r q (drop count ls) c → lines_answer r p n ls ≡ at_line (n + count) c
fault_read r rising apart [] p n zero q c leads at =
    let first : first_code (r.last p) ≡ Some c = least_first r.number 0 (r.last p) c apart (rising.last p) (subst (λ x. IsLeastCode r.number (r.last x) c) (sym leads) at) in
    let same : n ≡ n + 0 = omega arith in
    rw first (ap (λ k. at_line k c) same)
fault_read r rising apart [] p n (suc count) q c leads at = absurd leads
fault_read r rising apart (line ∷ more) p n zero q c leads at =
    let first : first_code (r.tests p line more) ≡ Some c = least_first r.number 0 (r.tests p line more) c apart (rising.lines p line more) (subst (λ x. IsLeastCode r.number (r.tests x line more) c) (sym leads) at) in
    let same : n ≡ n + 0 = omega arith in
    rw first (ap (λ k. at_line k c) same)
fault_read r rising apart (line ∷ more) p n (suc count) q c leads at =
    let none : first_code (r.tests p line more) ≡ None = no_code _ (no_code_none (r.tests p line more) leads.0) in
    let same : (n + 1) + count ≡ n + suc count = omega arith in
    rw none (fault_read r rising apart more (r.next p line more) (n + 1) count q c leads.1 at ∙ ap (λ k. at_line k c) same)

-- Where no two codes have the same number, no other fault is the first one.
pub first_fault_read : {C P : Type 0} (r : LineRules C P) → Rising r → ((a b : C) → r.number a ≡ r.number b → a ≡ b) → (start : P) (ls : List (List ℕ)) (m : ℕ) (c : C) → IsFirstFault r start ls m c → lines_answer r start 1 ls ≡ Err (m, c)
first_fault_read r rising apart start ls m c f =
    let same : 1 + (m - 1) ≡ m = omega (arith, f.counted) in
    fault_read r rising apart ls start 1 (m - 1) f.place c f.before f.here ∙ ap (λ k. at_line k c) same
