-- The first release at fault, and its least code.
use Rattle.std.proofs.Common.{◌≡◌, ℕ, cond, eqb, List, [], ◌∷◌, ◌++◌, Option, Some, None, Err, refl, sym, ap, ◌∙◌, arith}
use Rattle.std.specs.List.{AllByRecursion}
use Rattle.std.proofs.lemmas.Option.{some_pair_parts}
use Rattle.text_lines.specs.Faults.{first_code, Rises}
use Rattle.text_lines.proofs.FirstFault.{none_holds, no_code, no_code_none, first_holds, least_first}
use Rattle.release_guard.specs.declared.order.Release.{Release}
use Rattle.release_guard.specs.declared.order.Order.{Order}
use Rattle.release_guard.specs.declared.fault.Lack.{Lack}
use Rattle.release_guard.specs.declared.fault.Lack.TheVariants as lack
use Rattle.release_guard.specs.declared.fault.ReleaseError.{ReleaseError}
use Rattle.release_guard.specs.declared.fault.ReleaseError.TheVariants as error
use Rattle.release_guard.specs.Codes.{lack_number}
use Rattle.release_guard.specs.Guard.{Volume, release_tests, LacksNothing, CanRelease, IsReleaseFault, AnswersRelease, IsMade, IsRefusedAt}
use Rattle.release_guard.specs.Working.{HasAll, FirstLack, Carries}
use Rattle.release_guard.proofs.Members.{map_all}

numbered : ℕ → Lack
numbered n = cond (eqb n 13) lack.Source (cond (eqb n 14) lack.Words (cond (eqb n 15) lack.Target lack.Size))

its_number : (l : Lack) → numbered (lack_number l) ≡ l
unfolding numbered
its_number lack.Source = refl
its_number lack.Words = refl
its_number lack.Target = refl
its_number lack.Size = refl

apart : (a b : Lack) → lack_number a ≡ lack_number b → a ≡ b
apart a b e = sym (its_number a) ∙ ap numbered e ∙ its_number b

rises : (v : Volume) (x : Release) → Rises lack_number 0 (release_tests v x)
rises v x = (omega arith, (omega arith, (omega arith, (omega arith, tt))))

lacks_nothing : (v : Volume) (x : Release) → HasAll v x → LacksNothing v x
lacks_nothing v x is = none_holds (release_tests v x) is

pub has_all : (v : Volume) (x : Release) → LacksNothing v x → HasAll v x
has_all v x none = no_code (release_tests v x) (no_code_none (release_tests v x) none)

pub can_release : (rs : List Release) (v : Volume) → AllByRecursion (HasAll v) rs → AllByRecursion (LacksNothing v) rs
can_release rs v all = map_all (HasAll v) (LacksNothing v) rs (lacks_nothing v) all

-- the first release that lacks something, and what
abbrev lack_or : Release → Option Lack → Option (Release × Lack) → Option (Release × Lack)
lack_or x None rest = rest
lack_or x (Some l) rest = Some (x, l)

abbrev first_lack : Volume → List Release → Option (Release × Lack)
first_lack v [] = None
first_lack v (x ∷ xs) = lack_or x (first_code (release_tests v x)) (first_lack v xs)

abbrev this : Release → Lack → Option (Release × Lack)
this x l = Some (x, l)

at_first : (v : Volume) (before : List Release) (here : Release) (after : List Release) (l : Lack) → AllByRecursion (HasAll v) before → first_code (release_tests v here) ≡ Some l → first_lack v (before ++ here ∷ after) ≡ this here l
at_first v [] here after l all is = ap (λ o. lack_or here o (first_lack v after)) is
at_first v (x ∷ xs) here after l all is = ap (λ o. lack_or x o (first_lack v (xs ++ here ∷ after))) all.0 ∙ at_first v xs here after l all.1 is

no_first : (v : Volume) (rs : List Release) → AllByRecursion (HasAll v) rs → first_lack v rs ≡ None
no_first v [] all = refl
no_first v (x ∷ xs) all = ap (λ o. lack_or x o (first_lack v xs)) all.0 ∙ no_first v xs all.1

lack_first : (v : Volume) (rs : List Release) (line code : ℕ) → (f : FirstLack rs v line code) → first_lack v rs ≡ this f.here f.lack
lack_first v rs line code f = ap (first_lack v) f.whole ∙ at_first v f.before f.here f.after f.lack f.right f.first

fault_first : (k : Order) (v : Volume) (line code : ℕ) → (f : IsReleaseFault k v line code) → first_lack v k.releases ≡ this f.here f.lack
fault_first k v line code f =
    ap (first_lack v) f.whole ∙
    at_first v f.before f.here f.after f.lack (map_all (LacksNothing v) (HasAll v) f.before (has_all v) f.right) (least_first lack_number 0 (release_tests v f.here) f.lack apart (rises v f.here) f.least)

fault_is : (k : Order) (v : Volume) (line code : ℕ) → FirstLack k.releases v line code → IsReleaseFault k v line code
fault_is k v line code f = record {
  before = f.before;
  here = f.here;
  after = f.after;
  whole = f.whole;
  right = can_release f.before v f.right;
  lack = f.lack;
  least = first_holds lack_number 0 (release_tests v f.here) f.lack (rises v f.here) f.first;
  line_is = f.line_is;
  code_is = f.code_is;
}

none_can : (k : Order) (v : Volume) → CanRelease k v → first_lack v k.releases ≡ None
none_can k v can = no_first v k.releases (map_all (LacksNothing v) (HasAll v) k.releases (has_all v) can)

-- ---- what is answered

pub error_right : (k : Order) (v : Volume) (e : ReleaseError) → Carries k.releases v (Err e) → AnswersRelease k v (Err e)
error_right k v (error.Fault line code) f = fault_is k v line code f
error_right k v error.NoMemory f = tt

pub error_only : (k : Order) (v : Volume) (e : ReleaseError) → Carries k.releases v (Err e) → CanRelease k v → IsMade (Err e)
error_only k v (error.Fault line code) f can = absurd (let both : None ≡ this f.here f.lack = sym (none_can k v can) ∙ lack_first v k.releases line code f in cc)
error_only k v error.NoMemory f can = tt

pub error_refused : (k : Order) (v : Volume) (e : ReleaseError) → Carries k.releases v (Err e) → (line code : ℕ) → IsReleaseFault k v line code → IsRefusedAt line code (Err e)
error_refused k v (error.Fault a m) f line code g =
    let both : this f.here f.lack ≡ this g.here g.lack = sym (lack_first v k.releases a m f) ∙ fault_first k v line code g in
    let parts = some_pair_parts f.here g.here f.lack g.lack both in
    (f.line_is ∙ ap (λ (x : Release). x.line) parts.0 ∙ sym g.line_is, f.code_is ∙ ap lack_number parts.1 ∙ sym g.code_is)
error_refused k v error.NoMemory f line code g = tt

pub value_refused : (k : Order) (v : Volume) → AllByRecursion (HasAll v) k.releases → (line code : ℕ) → IsReleaseFault k v line code → ⊥
value_refused k v all line code g = absurd (let both : None ≡ this g.here g.lack = sym (no_first v k.releases all) ∙ fault_first k v line code g in cc)
