-- The places that names have.
use Rattle.std.proofs.Common.{◌≡◌, ℕ, ◌+◌, ◌<◌, Bool, true, false, cond, eqb, ltb, ◌||◌, List, [], ◌∷◌, ◌++◌, length, Option, Some, None, refl, sym, ap, subst, ◌∙◌, arith, add_assoc}
use Rattle.std.proofs.lemmas.Bool.{and_parts, le-ltb, lt-ltb}
use Rattle.std.proofs.lemmas.Slice.Eq.{bytes_eq-Decides}
use Rattle.text_lines.specs.Name.{is_name}
use Rattle.script_asm.specs.declared.named.Named.{Named}
use Rattle.script_asm.specs.Operand.{Word}
use Rattle.script_asm.specs.Script.{begins_at, names_place, head_of, is_instruction, instructions, is_word, first_named, named, stood_before}
use Rattle.script_asm.specs.Spelling.{IsNamedPlace, is_named, AreNewNames}

or_false : (a b : Bool) → (a || b) ≡ false → (a ≡ false) × (b ≡ false)
or_false true b e = absurd cc
or_false false b e = (refl, e)

abbrev here : ℕ → ℕ → Option Named
here l p = Some (record { line = l; place = p })

abbrev after_line : List (List Word) → List Word → Word → ℕ → ℕ → Option Named
after_line more ws w l p = first_named more w (l + 1) (p + cond (is_instruction ws) 1 0)

-- ---- the line that is found

record Found (all : List (List Word)) (w : Word) (l p : ℕ) (m : Named) : Type 0 where
  before : List (List Word)
  after : List (List Word)
  rest : List Word
  split : all ≡ before ++ (w ∷ rest) ∷ after
  line : m.line ≡ l + length before
  place : m.place ≡ p + instructions before

found_here : (ws : List Word) (more : List (List Word)) (w : Word) (l p : ℕ) (m : Named) → is_word w (head_of ws) ≡ true → here l p ≡ Some m → Found (ws ∷ more) w l p m
found_here [] more w l p m is e = absurd cc
found_here (v ∷ vs) more w l p m is e =
    let same : v ≡ w = (bytes_eq-Decides v w).0 is in
    let record_is : record { line = l; place = p } ≡ m = cc in
    let line : l ≡ m.line = ap (λ x. x.line) record_is in
    let place : p ≡ m.place = ap (λ x. x.place) record_is in
    record { before = []; after = more; rest = vs; split = ap (λ x. (x ∷ vs) ∷ more) same; line = omega (arith, line); place = omega (arith, place) }

found_of : (all : List (List Word)) (w : Word) (l p : ℕ) (m : Named) → first_named all w l p ≡ Some m → Found all w l p m
found_of [] w l p m e = absurd cc
found_of (ws ∷ more) w l p m e =
    elim (is_word w (head_of ws)) as (λ t. is_word w (head_of ws) ≡ t → cond t (here l p) (after_line more ws w l p) ≡ Some m → Found (ws ∷ more) w l p m) [
      | true ↦ λ is s. found_here ws more w l p m is s
      | false ↦ λ other s.
          let f = found_of more w (l + 1) (p + cond (is_instruction ws) 1 0) m s in
          record { before = ws ∷ f.before; after = f.after; rest = f.rest; split = ap (λ t. ws ∷ t) f.split; line = omega (arith, f.line); place = omega (arith, f.place) }
    ] refl e

-- Where no line before has the name, this line is the first.
pub first_at : (before : List (List Word)) (rest : List Word) (after : List (List Word)) (w : Word) (l p : ℕ) → is_named before w ≡ false → first_named (before ++ (w ∷ rest) ∷ after) w l p ≡ here (l + length before) (p + instructions before)
first_at [] rest after w l p new =
    let is : is_word w (Some w) ≡ true = (bytes_eq-Decides w w).1 refl in
    let line : l ≡ l + 0 = omega arith in
    let place : p ≡ p + 0 = omega arith in
    rw is (ap (λ x. here x p) line ∙ ap (λ x. here (l + 0) x) place)
first_at (ws ∷ more) rest after w l p new =
    let parts = or_false (is_word w (head_of ws)) (is_named more w) new in
    let line : (l + 1) + length more ≡ l + length (ws ∷ more) = omega arith in
    let place : (p + cond (is_instruction ws) 1 0) + instructions more ≡ p + instructions (ws ∷ more) = add_assoc p (cond (is_instruction ws) 1 0) (instructions more) in
    rw parts.0 (first_at more rest after w (l + 1) (p + cond (is_instruction ws) 1 0) parts.1 ∙ ap (λ x. here x ((p + cond (is_instruction ws) 1 0) + instructions more)) line ∙ ap (λ x. here (l + length (ws ∷ more)) x) place)

-- Where one of the lines before has the name, the first line that has it is one of these.
first_before : (before more : List (List Word)) (w : Word) (l p : ℕ) → is_named before w ≡ true → (m : Named) × (first_named (before ++ more) w l p ≡ Some m) × (m.line < l + length before)
first_before [] more w l p e = absurd cc
first_before (ws ∷ vss) more w l p e =
    elim (is_word w (head_of ws)) as (λ t. (t || is_named vss w) ≡ true → (m : Named) × (cond t (here l p) (after_line (vss ++ more) ws w l p) ≡ Some m) × (m.line < l + length (ws ∷ vss))) [
      | true ↦ λ s. (record { line = l; place = p }, refl, omega arith)
      | false ↦ λ s. let r = first_before vss more w (l + 1) (p + cond (is_instruction ws) 1 0) s in (r.0, r.1, omega (arith, r.2))
    ] e

-- ---- names

pub named_name : (all : List (List Word)) (w : Word) (m : Named) → named all w ≡ Some m → (names_place w ≡ true) × (first_named all w 0 0 ≡ Some m)
unfolding named
named_name all w m e =
    elim (names_place w) as (λ t. names_place w ≡ t → cond t (first_named all w 0 0) None ≡ Some m → (names_place w ≡ true) × (first_named all w 0 0 ≡ Some m)) [
      | true ↦ λ is s. (is, s)
      | false ↦ λ is s. absurd cc
    ] refl e

name_named : (all : List (List Word)) (w : Word) → names_place w ≡ true → named all w ≡ first_named all w 0 0
unfolding named
name_named all w name = rw name refl

pub name_begins : (w : Word) → names_place w ≡ true → begins_at w ≡ true
name_begins [] e = absurd cc
name_begins (b ∷ bs) e = (and_parts (eqb b 64) (is_name bs) e).0

pub not_stood : (before : List (List Word)) (rest : List Word) (after : List (List Word)) (w : Word) → names_place w ≡ true → is_named before w ≡ false → stood_before (before ++ (w ∷ rest) ∷ after) (length before) w ≡ false
not_stood before rest after w name new =
    let at = name_named (before ++ (w ∷ rest) ∷ after) w name ∙ first_at before rest after w 0 0 new in
    let late : ltb (0 + length before) (length before) ≡ false = le-ltb _ _ (omega arith) in
    rw (at, late) refl

pub is_new : (before more : List (List Word)) (w : Word) → names_place w ≡ true → stood_before (before ++ more) (length before) w ≡ false → is_named before w ≡ false
is_new before more w name e =
    elim (is_named before w) as (λ t. is_named before w ≡ t → t ≡ false) [
      | true ↦ λ old.
          let f = first_before before more w 0 0 old in
          let at = name_named (before ++ more) w name ∙ f.1 in
          let soon : ltb f.0.line (length before) ≡ true = lt-ltb _ _ (omega (arith, f.2)) in
          let stood : stood_before (before ++ more) (length before) w ≡ true = rw (at, soon) refl in
          sym stood ∙ e
      | false ↦ λ new. refl
    ] refl

-- ---- named places

alone_rest : (w v : Word) (rest : List Word) → w ∷ rest ≡ v ∷ [] → rest ≡ []
alone_rest w v rest e = cc

pub named_is : (all : List (List Word)) (w : Word) (m : Named) → AreNewNames all → named all w ≡ Some m → IsNamedPlace all w m.place
named_is all w m names e =
    let n = named_name all w m e in
    let f = found_of all w 0 0 m n.1 in
    let new = names f.before f.after (w ∷ f.rest) f.split (name_begins w n.0) in
    let none : f.rest ≡ [] = alone_rest w new.word f.rest new.alone in
    record { before = f.before; after = f.after; name = n.0; line = subst (λ r. all ≡ f.before ++ (w ∷ r) ∷ f.after) none f.split; place = omega (arith, f.place) }

same_word : (w v : Word) → w ∷ [] ≡ v ∷ [] → v ≡ w
same_word w v e = cc

pub is_named_place : (all : List (List Word)) (w : Word) (n : ℕ) → AreNewNames all → IsNamedPlace all w n → (m : Named) × (named all w ≡ Some m) × (m.place ≡ n)
is_named_place all w n names is =
    let new = names is.before is.after (w ∷ []) is.line (name_begins w is.name) in
    let only : is_named is.before w ≡ false = subst (λ v. is_named is.before v ≡ false) (same_word w new.word new.alone) new.new in
    (record { line = 0 + length is.before; place = 0 + instructions is.before }, name_named all w is.name ∙ ap (λ t. first_named t w 0 0) is.line ∙ first_at is.before [] is.after w 0 0 only, omega (arith, is.place))
