-- What the lines from a place on spell, both ways: lines without a code spell the rest of the order, and lines that spell it
-- have no code.
use Rattle.std.proofs.Common.{◌≡◌, ℕ, zero, suc, ◌+◌, ◌-◌, ◌<◌, ◌≤◌, Bool, true, false, not, cond, eqb, List, [], ◌∷◌, ◌++◌, length, Some, refl, sym, ap, subst, ◌∙◌, append_assoc, arith, inl, inr}
use Rattle.std.specs.Prelude.{codes, map}
use Rattle.std.specs.List.{AllZip, list_all}
use Rattle.std.specs.Str.{bytes_eq}
use Rattle.std.proofs.lemmas.Bool.{and_parts, eqb-true, eqb-false, cases_lt}
use Rattle.std.proofs.lemmas.List.{append-nil, length-append, length_push}
use Rattle.std.proofs.lemmas.Slice.Eq.{bytes_eq-Decides}
use Rattle.text_lines.specs.Name.{is_name}
use Rattle.text_lines.proofs.FirstFault.{NoneHolds}
use Rattle.labels.specs.Label.{Label, ClassEntry, class_at}
use Rattle.labels.specs.Order.{Dominates}
use Rattle.labels.specs.Table.{IsTable, IsSameEntry}
use Rattle.labels.proofs.OrderLaws.{dominates_twin}
use Rattle.config_text.specs.Written.{number_line, end_line}
use Rattle.config_text.specs.Rules.{Text, stood_before, is_low}
use Rattle.config_text.proofs.WordFacts.{is_fixed}
use Rattle.config_text.proofs.TableFacts.{IsSoundTable, entry, sound_push, stood_none}
use Rattle.config_text.proofs.Good.{all_push}
use Rattle.release_guard.specs.declared.order.Release.{Release}
use Rattle.release_guard.specs.declared.order.Order.{Order}
use Rattle.release_guard.specs.declared.order.Stage.{Stage}
use Rattle.release_guard.specs.declared.order.Stage.TheVariants as stage
use Rattle.release_guard.specs.declared.fault.Code.TheVariants as code
use Rattle.release_guard.specs.Valid.{IsOrder, release_ok}
use Rattle.release_guard.specs.Place.{Place, order_in}
use Rattle.release_guard.specs.Rules.{count_in, after_class, with_class, with_release, release_tests, release_next, export_tests, export_next, body_tests, body_next, stage_tests, stage_next}
use Rattle.release_guard.specs.Text.{Said, says, class_line, release_line, last_lines, order_lines, SpellsLine}
use Rattle.release_guard.proofs.Lines.{header_spelled, header_taken, count_spelled, count_taken, IsClassLine, class_spelled, class_taken, release_spelled, release_taken, export_spelled, export_taken, end_spelled, end_taken}

-- a line with words and its number
abbrev pub Numbered : Type 0
Numbered = ℕ × List Text

-- the lines of these classes and all behind them
abbrev pub lines_from_classes : Order → List ClassEntry → List Said
lines_from_classes k cs = map class_line cs ++ (map release_line k.releases ++ last_lines k)

-- class lines are left
pub record ClassesLeft (p : Place) (ls : List Numbered) (k : Order) : Type 0 where
  pub some : 0 < p.due
  pub rest : List ClassEntry
  pub table : k.table ≡ p.table ++ rest
  pub due : length rest ≡ p.due
  pub releases : p.releases ≡ []
  pub spelled : AllZip SpellsLine ls (lines_from_classes k rest)

-- releases and the export are left
pub record ReleasesLeft (p : Place) (ls : List Numbered) (k : Order) : Type 0 where
  pub table : k.table ≡ p.table
  pub rest : List Release
  pub releases : k.releases ≡ p.releases ++ rest
  pub spelled : AllZip SpellsLine ls (map release_line rest ++ last_lines k)

-- no more than these lines are left
pub record EndLeft (p : Place) (ls : List Numbered) (k : Order) (said : List Said) : Type 0 where
  pub order : k ≡ order_in p
  pub spelled : AllZip SpellsLine ls said

-- nothing is said of classes and releases yet
pub record StartLeft (p : Place) (ls : List Numbered) (said : List Said) : Type 0 where
  pub table : p.table ≡ []
  pub releases : p.releases ≡ []
  pub spelled : AllZip SpellsLine ls said

-- the lines with words spell what is left of the order
abbrev pub Left : Stage → Place → List Numbered → Order → Type 0
Left stage.Header p ls k = StartLeft p ls (order_lines k)
Left stage.Count p ls k = StartLeft p ls (says (number_line (codes "classes") (length k.table)) ∷ lines_from_classes k k.table)
Left stage.Classes p ls k = ClassesLeft p ls k
Left stage.Releases p ls k = ReleasesLeft p ls k
Left stage.End p ls k = EndLeft p ls k (says end_line ∷ [])
Left stage.Ended p ls k = EndLeft p ls k []

-- The number of the next line doesn't matter.
pub left_line : (s : Stage) (p : Place) (m : ℕ) (ls : List Numbered) (k : Order) → Left s p ls k → Left s (record p { line = m }) ls k
left_line stage.Header p m ls k l = record { table = l.table; releases = l.releases; spelled = l.spelled }
left_line stage.Count p m ls k l = record { table = l.table; releases = l.releases; spelled = l.spelled }
left_line stage.Classes p m ls k l = record { some = l.some; rest = l.rest; table = l.table; due = l.due; releases = l.releases; spelled = l.spelled }
left_line stage.Releases p m ls k l = record { table = l.table; rest = l.rest; releases = l.releases; spelled = l.spelled }
left_line stage.End p m ls k l = record { order = l.order; spelled = l.spelled }
left_line stage.Ended p m ls k l = record { order = l.order; spelled = l.spelled }

-- ---- places that the lines so far leave

-- the classes so far
pub record IsSoundSoFar (p : Place) : Type 0 where
  pub sound : IsSoundTable p.table
  pub names : (c : ℕ) → c < length p.table → is_name (class_at p.table c).name ≡ true

-- the classes and the releases so far
pub record IsBodyGood (p : Place) : Type 0 where
  pub table : IsTable p.table
  pub names : (c : ℕ) → c < length p.table → is_name (class_at p.table c).name ≡ true
  pub few : length p.releases ≤ 64
  pub releases : list_all (release_ok p.table) p.releases ≡ true

-- class lines are still to come
pub record IsClassesGood (p : Place) : Type 0 where
  pub some : 0 < p.due
  pub few : length p.table + p.due ≤ 16
  pub so_far : IsSoundSoFar p
  pub releases : p.releases ≡ []

-- what holds of a place at a stage
abbrev pub GoodAt : Stage → Place → Type 0
GoodAt stage.Header p = (p.table ≡ []) × (p.releases ≡ [])
GoodAt stage.Count p = (p.table ≡ []) × (p.releases ≡ [])
GoodAt stage.Classes p = IsClassesGood p
GoodAt stage.Releases p = IsBodyGood p
GoodAt stage.End p = IsOrder (order_in p)
GoodAt stage.Ended p = IsOrder (order_in p)

pub good_line : (s : Stage) (p : Place) (m : ℕ) → GoodAt s p → GoodAt s (record p { line = m })
good_line stage.Header p m g = g
good_line stage.Count p m g = g
good_line stage.Classes p m g = record { some = g.some; few = g.few; so_far = record { sound = g.so_far.sound; names = g.so_far.names }; releases = g.releases }
good_line stage.Releases p m g = record { table = g.table; names = g.names; few = g.few; releases = g.releases }
good_line stage.End p m g = g
good_line stage.Ended p m g = g

nothing_sound : IsSoundTable []
nothing_sound = record { sound = λ i lt. absurd (omega (arith, lt)); labels = λ i lt. absurd (omega (arith, lt)) }

-- ---- classes in a list

front_at : (t cs : List ClassEntry) (c : ClassEntry) (j : ℕ) → j < length t → class_at (t ++ c ∷ cs) j ≡ class_at t j
front_at [] cs c j lt = absurd (omega (arith, lt))
front_at (x ∷ xs) cs c zero lt = refl
front_at (x ∷ xs) cs c (suc j) lt = front_at xs cs c j (omega (arith, lt))

here_at : (t cs : List ClassEntry) (c : ClassEntry) → class_at (t ++ c ∷ cs) (length t) ≡ c
here_at [] cs c = refl
here_at (x ∷ xs) cs c = here_at xs cs c

within_at : (t cs : List ClassEntry) (c : ClassEntry) → length t < length (t ++ c ∷ cs)
within_at t cs c = omega (arith, length-append t (c ∷ cs))

class_new : (t cs : List ClassEntry) (c : ClassEntry) → IsTable (t ++ c ∷ cs) → stood_before t c.name c.label ≡ false
class_new t cs c table =
    stood_none t c.name c.label (λ j lt same.
    (table.sound (length t) (within_at t cs c)).0 (j, lt, subst (λ y. IsSameEntry (class_at (t ++ c ∷ cs) j) y) (sym (here_at t cs c)) (subst (λ y. IsSameEntry y c) (sym (front_at t cs c j lt)) same)))

class_high : (t cs : List ClassEntry) (c : ClassEntry) → IsTable (t ++ c ∷ cs) → is_low t c.label ≡ false
class_high [] cs c table = refl
class_high (x ∷ xs) cs c table =
    let above : Dominates c.label x.label = subst (λ y. Dominates y.label x.label) (here_at (x ∷ xs) cs c) (table.sound (length (x ∷ xs)) (within_at (x ∷ xs) cs c)).1 in
    rw ((dominates_twin c.label x.label).1 above) refl

class_named : (t cs : List ClassEntry) (c : ClassEntry) → ((i : ℕ) → i < length (t ++ c ∷ cs) → is_name (class_at (t ++ c ∷ cs) i).name ≡ true) → is_name c.name ≡ true
class_named t cs c names = subst (λ y. is_name y.name ≡ true) (here_at t cs c) (names (length t) (within_at t cs c))

-- a class more so far
so_far_push : (p : Place) (ws : List Text) (l : IsClassLine p.table ws) → IsSoundSoFar p → IsSoundSoFar (with_class p l.name (Some l.label))
so_far_push p ws l s = record {
  sound = sound_push p.table l.name l.label s.sound l.is_label l.new l.high;
  names = λ i lt. elim (cases_lt i (length p.table)) [
    | inl below ↦ subst (λ y. is_name y.name ≡ true) (sym (front_at p.table [] (entry l.name l.label) i below)) (s.names i below)
    | inr past ↦
        let at : i ≡ length p.table = omega (arith, past, lt, length_push p.table (entry l.name l.label)) in
        subst (λ j. is_name (class_at (p.table ++ entry l.name l.label ∷ []) j).name ≡ true) (sym at) (subst (λ y. is_name y.name ≡ true) (sym (here_at p.table [] (entry l.name l.label))) l.named)
  ];
}

-- ---- a class line

-- where the last class has come
last_class_good : (p : Place) (q : Place) → IsSoundSoFar q → 0 < length q.table → length q.table ≤ 16 → q.releases ≡ [] → IsBodyGood q
last_class_good p q s some few none = record {
  table = record { some = some; few = few; sound = s.sound.sound; labels = s.sound.labels };
  names = s.names;
  few = rw none (omega arith);
  releases = rw none refl;
}

class_good : (p : Place) (name : Text) (l : Label) → IsClassesGood p → IsSoundSoFar (with_class p name (Some l)) → GoodAt (after_class (p.due - 1)) (with_class p name (Some l))
class_good p name l g s =
    elim (eqb (p.due - 1) 0) as (λ b. eqb (p.due - 1) 0 ≡ b → GoodAt (cond b stage.Releases stage.Classes) (with_class p name (Some l))) [
      | true ↦ λ is. last_class_good p (with_class p name (Some l)) s (omega (arith, length_push p.table (entry name l))) (omega (arith, length_push p.table (entry name l), g.few, g.some)) g.releases
      | false ↦ λ is. record { some = omega (arith, eqb-false (p.due - 1) 0 is); few = omega (arith, length_push p.table (entry name l), g.few, g.some); so_far = s; releases = g.releases }
    ] refl

-- classes with no more to come are releases to come
no_class_left : (q : Place) (ls : List Numbered) (k : Order) (rest : List ClassEntry) → k.table ≡ q.table ++ rest → length rest ≡ 0 → q.releases ≡ [] → AllZip SpellsLine ls (lines_from_classes k rest) → ReleasesLeft q ls k
no_class_left q ls k [] table due none spelled = record { table = table ∙ append-nil q.table; rest = k.releases; releases = ap (λ (x : List Release). x ++ k.releases) (sym none); spelled = spelled }
no_class_left q ls k (c ∷ cs) table due none spelled = absurd (omega (arith, due))

-- from what is left after a class line to what is left before it
before_class : (p : Place) (n : ℕ) (ws : List Text) (ls : List Numbered) (k : Order) (l : IsClassLine p.table ws) → IsClassesGood p → Left (after_class (p.due - 1)) (with_class p l.name (Some l.label)) ls k → ClassesLeft p ((n, ws) ∷ ls) k
before_class p n ws ls k l g left =
    elim (eqb (p.due - 1) 0) as (λ b. eqb (p.due - 1) 0 ≡ b → Left (cond b stage.Releases stage.Classes) (with_class p l.name (Some l.label)) ls k → ClassesLeft p ((n, ws) ∷ ls) k) [
      | true ↦ λ is r.
          let none : k.releases ≡ r.rest = r.releases ∙ ap (λ (x : List Release). x ++ r.rest) g.releases in
          record {
            some = g.some;
            rest = entry l.name l.label ∷ [];
            table = r.table;
            due = omega (arith, eqb-true (p.due - 1) 0 is, g.some);
            releases = g.releases;
            spelled = (l.spelled, subst (λ (x : List Release). AllZip SpellsLine ls (map release_line x ++ last_lines k)) (sym none) r.spelled);
          }
      | false ↦ λ is r. record {
        some = g.some;
        rest = entry l.name l.label ∷ r.rest;
        table = r.table ∙ append_assoc p.table (entry l.name l.label ∷ []) r.rest;
        due = omega (arith, r.due, g.some);
        releases = g.releases;
        spelled = (l.spelled, r.spelled);
      }
    ] refl left

-- and the other way round
after_class_left : (p : Place) (ls : List Numbered) (k : Order) (c : ClassEntry) (cs : List ClassEntry) → k.table ≡ p.table ++ c ∷ cs → suc (length cs) ≡ p.due → p.releases ≡ [] → AllZip SpellsLine ls (lines_from_classes k cs) → Left (after_class (p.due - 1)) (with_class p c.name (Some c.label)) ls k
after_class_left p ls k c cs table due none spelled =
    let whole : k.table ≡ (p.table ++ c ∷ []) ++ cs = table ∙ sym (append_assoc p.table (c ∷ []) cs) in
    elim (eqb (p.due - 1) 0) as (λ b. eqb (p.due - 1) 0 ≡ b → Left (cond b stage.Releases stage.Classes) (with_class p c.name (Some c.label)) ls k) [
      | true ↦ λ is. no_class_left (with_class p c.name (Some c.label)) ls k cs whole (omega (arith, eqb-true (p.due - 1) 0 is, due)) none spelled
      | false ↦ λ is. record { some = omega (arith, eqb-false (p.due - 1) 0 is); rest = cs; table = whole; due = omega (arith, due); releases = none; spelled = spelled }
    ] refl

-- ---- a line with words that has no code

-- the classes are few
few_classes : (p : Place) → IsBodyGood p → length p.table ≤ 16
few_classes p g = g.table.few

is_word : (w text : Text) → bytes_eq w text ≡ true → w ≡ text
is_word w text e = (bytes_eq-Decides w text).0 e

-- what a body line leaves is good
body_good : (p : Place) (w : Text) (ws : List Text) → p.stage ≡ stage.Releases → IsBodyGood p → NoneHolds (body_tests p (w ∷ ws)) → GoodAt (body_next p (w ∷ ws)).stage (body_next p (w ∷ ws))
body_good p w ws at g none =
    elim (bytes_eq w (codes "release")) as (λ b. NoneHolds (cond b (release_tests p ws) ((not (bytes_eq w (codes "export")), code.Form) ∷ export_tests p ws)) → GoodAt (cond b (release_next p ws) (export_next p ws)).stage (cond b (release_next p ws) (export_next p ws))) [
      | true ↦ λ none.
          let r = release_spelled p ws (few_classes p g) none in
          let x : Release = record { line = p.line; from = r.from; to = r.to } in
          let good : IsBodyGood (with_release p r.from r.to) = record {
            table = g.table;
            names = g.names;
            few = omega (arith, length_push p.releases x, r.room);
            releases = all_push (release_ok p.table) p.releases x g.releases (r.ok p.line);
          } in
          subst (λ (q : Place). GoodAt q.stage q) (sym r.next) (subst (λ (s : Stage). GoodAt s (with_release p r.from r.to)) (sym at) good)
      | false ↦ λ none.
          let e = export_spelled p ws (few_classes p g) none.1 in
          let good : IsOrder (order_in (record p { stage = stage.End; export = e.class })) = record { table = g.table; names = g.names; few_releases = g.few; releases = g.releases; export = e.ok } in
          subst (λ (q : Place). GoodAt q.stage q) (sym e.next) good
    ] none

-- what a line leaves is good
pub good_next : (s : Stage) (p : Place) (w : Text) (ws : List Text) → p.stage ≡ s → GoodAt s p → NoneHolds (stage_tests s p (w ∷ ws)) → GoodAt (stage_next s p (w ∷ ws)).stage (stage_next s p (w ∷ ws))
good_next stage.Header p w ws at g none = g
good_next stage.Count p w ws at g none =
    let c = count_spelled (w ∷ ws) none in
    record {
      some = c.above;
      few = omega (arith, c.below, ap length g.0);
      so_far = record { sound = subst IsSoundTable (sym g.0) nothing_sound; names = λ i lt. absurd (omega (arith, lt, ap length g.0)) };
      releases = g.1;
    }
good_next stage.Classes p w ws at g none =
    let l = class_spelled p.table (w ∷ ws) none in
    subst (λ (q : Place). GoodAt q.stage q) (sym (l.next p)) (class_good p l.name l.label g (so_far_push p (w ∷ ws) l g.so_far))
good_next stage.Releases p w ws at g none = body_good p w ws at g none
good_next stage.End p w ws at g none = g
good_next stage.Ended p w ws at g none = absurd (let f : true ≡ false = none.0 in cc)

-- from what is left after a body line to what is left before it
body_fore : (p : Place) (n : ℕ) (w : Text) (ws : List Text) (ls : List Numbered) (k : Order) → p.stage ≡ stage.Releases → p.line ≡ n → IsBodyGood p → NoneHolds (body_tests p (w ∷ ws)) → Left (body_next p (w ∷ ws)).stage (body_next p (w ∷ ws)) ls k → ReleasesLeft p ((n, w ∷ ws) ∷ ls) k
body_fore p n w ws ls k at number g none left =
    elim (bytes_eq w (codes "release")) as (λ b. bytes_eq w (codes "release") ≡ b → NoneHolds (cond b (release_tests p ws) ((not (bytes_eq w (codes "export")), code.Form) ∷ export_tests p ws)) → Left (cond b (release_next p ws) (export_next p ws)).stage (cond b (release_next p ws) (export_next p ws)) ls k → ReleasesLeft p ((n, w ∷ ws) ∷ ls) k) [
      | true ↦ λ key none left.
          let r = release_spelled p ws (few_classes p g) none in
          let x : Release = record { line = p.line; from = r.from; to = r.to } in
          let l : ReleasesLeft (with_release p r.from r.to) ls k = subst (λ (s : Stage). Left s (with_release p r.from r.to) ls k) at (subst (λ (q : Place). Left q.stage q ls k) r.next left) in
          record {
            table = l.table;
            rest = x ∷ l.rest;
            releases = l.releases ∙ append_assoc p.releases (x ∷ []) l.rest;
            spelled = ((sym number, r.spelled w (is_word w (codes "release") key)), l.spelled);
          }
      | false ↦ λ key none left.
          let e = export_spelled p ws (few_classes p g) none.1 in
          let q : Place = record p { stage = stage.End; export = e.class } in
          let l : EndLeft q ls k (says end_line ∷ []) = subst (λ (q : Place). Left q.stage q ls k) e.next left in
          let export : e.class ≡ k.export = ap (λ (o : Order). o.export) (sym l.order) in
          record {
            table = ap (λ (o : Order). o.table) l.order;
            rest = [];
            releases = ap (λ (o : Order). o.releases) l.order ∙ sym (append-nil p.releases);
            spelled = (subst (λ m. SpellsLine (n, w ∷ ws) (says (number_line (codes "export") m))) export (e.spelled w (is_fixed w (codes "export") none.0)), l.spelled);
          }
    ] refl none left

-- from what is left after a line to what is left before it
pub fore : (s : Stage) (p : Place) (n : ℕ) (w : Text) (ws : List Text) (ls : List Numbered) (k : Order) → p.stage ≡ s → p.line ≡ n → GoodAt s p → NoneHolds (stage_tests s p (w ∷ ws)) → Left (stage_next s p (w ∷ ws)).stage (stage_next s p (w ∷ ws)) ls k → Left s p ((n, w ∷ ws) ∷ ls) k
fore stage.Header p n w ws ls k at number g none left = record { table = g.0; releases = g.1; spelled = (header_spelled (w ∷ ws) none, left.spelled) }
fore stage.Count p n w ws ls k at number g none left =
    let c = count_spelled (w ∷ ws) none in
    let all : k.table ≡ left.rest = left.table ∙ ap (λ (x : List ClassEntry). x ++ left.rest) g.0 in
    let count : count_in (w ∷ ws) ≡ length k.table = sym left.due ∙ ap length (sym all) in
    record {
      table = g.0;
      releases = g.1;
      spelled = (subst (λ m. SpellsLine (n, w ∷ ws) (says (number_line (codes "classes") m))) count c.spelled, subst (λ (cs : List ClassEntry). AllZip SpellsLine ls (lines_from_classes k cs)) (sym all) left.spelled);
    }
fore stage.Classes p n w ws ls k at number g none left =
    let l = class_spelled p.table (w ∷ ws) none in
    before_class p n (w ∷ ws) ls k l g (subst (λ (q : Place). Left q.stage q ls k) (l.next p) left)
fore stage.Releases p n w ws ls k at number g none left = body_fore p n w ws ls k at number g none left
fore stage.End p n w ws ls k at number g none left = record { order = left.order; spelled = (end_spelled (w ∷ ws) none, left.spelled) }
fore stage.Ended p n w ws ls k at number g none left = absurd (let f : true ≡ false = none.0 in cc)

-- ---- a line with words that is spelled

-- The line has no code, and what it leaves spells the rest.
pub record Taken (s : Stage) (p : Place) (ws : List Text) (ls : List Numbered) (k : Order) : Type 0 where
  pub none : NoneHolds (stage_tests s p ws)
  pub left : Left (stage_next s p ws).stage (stage_next s p ws) ls k

class_back : (p : Place) (n : ℕ) (ws : List Text) (ls : List Numbered) (k : Order) (rest : List ClassEntry) → IsOrder k → 0 < p.due → k.table ≡ p.table ++ rest → length rest ≡ p.due → p.releases ≡ [] → AllZip SpellsLine ((n, ws) ∷ ls) (lines_from_classes k rest) → Taken stage.Classes p ws ls k
class_back p n ws ls k [] v some table due none spelled = absurd (omega (arith, some, due))
class_back p n ws ls k (c ∷ cs) v some table due none spelled =
    let whole = subst IsTable table v.table in
    let names = subst (λ (t : List ClassEntry). (i : ℕ) → i < length t → is_name (class_at t i).name ≡ true) table v.names in
    let t = class_taken p.table c ws (class_named p.table cs c names) (class_new p.table cs c whole) (class_high p.table cs c whole) spelled.0 in
    record { none = t.none; left = subst (λ (q : Place). Left q.stage q ls k) (sym (t.next p)) (after_class_left p ls k c cs table due none spelled.1) }

all_here : {X : Type 0} (f : X → Bool) (xs ys : List X) (x : X) → list_all f (xs ++ x ∷ ys) ≡ true → f x ≡ true
all_here f [] ys x all = (and_parts (f x) (list_all f ys) all).0
all_here f (z ∷ xs) ys x all = all_here f xs ys x (and_parts (f z) (list_all f (xs ++ x ∷ ys)) all).1

body_back : (p : Place) (n : ℕ) (w : Text) (ws : List Text) (ls : List Numbered) (k : Order) (rest : List Release) → IsOrder k → p.stage ≡ stage.Releases → p.line ≡ n → k.table ≡ p.table → k.releases ≡ p.releases ++ rest → AllZip SpellsLine ((n, w ∷ ws) ∷ ls) (map release_line rest ++ last_lines k) → Taken stage.Releases p (w ∷ ws) ls k
body_back p n w ws ls k [] v at number table releases spelled =
    let few = subst (λ (t : List ClassEntry). length t ≤ 16) table v.table.few in
    let e = export_taken p k.export w ws few (subst (λ (t : List ClassEntry). k.export < length t) table v.export) spelled.0 in
    let left : EndLeft (record p { stage = stage.End; export = k.export }) ls k (says end_line ∷ []) = record {
      order = ap (λ (t : List ClassEntry). record k { table = t }) table ∙ ap (λ (x : List Release). record { table = p.table; releases = x; export = k.export }) (releases ∙ append-nil p.releases);
      spelled = spelled.1;
    } in
    record {
      none = rw e.other (rw e.key refl, e.none);
      left = rw e.other (subst (λ (q : Place). Left q.stage q ls k) (sym e.next) left);
    }
body_back p n w ws ls k (x ∷ rest) v at number table releases spelled =
    let few = subst (λ (t : List ClassEntry). length t ≤ 16) table v.table.few in
    let room : length (p.releases ++ x ∷ rest) ≤ 64 = subst (λ (r : List Release). length r ≤ 64) releases v.few_releases in
    let all = subst (λ (t : List ClassEntry). list_all (release_ok t) (p.releases ++ x ∷ rest) ≡ true) table (subst (λ (r : List Release). list_all (release_ok k.table) r ≡ true) releases v.releases) in
    let t = release_taken p x w ws few (omega (arith, room, length-append p.releases (x ∷ rest))) (all_here (release_ok p.table) p.releases rest x all) spelled.0.1 in
    let here : p.line ≡ x.line = number ∙ spelled.0.0 in
    let left : ReleasesLeft (with_release p x.from x.to) ls k = record {
      table = table;
      rest = rest;
      releases = releases ∙ sym (append_assoc p.releases (x ∷ []) rest) ∙ ap (λ (m : ℕ). (p.releases ++ record { line = m; from = x.from; to = x.to } ∷ []) ++ rest) (sym here);
      spelled = spelled.1;
    } in
    record {
      none = rw t.key t.none;
      left = rw t.key (subst (λ (q : Place). Left q.stage q ls k) (sym t.next) (subst (λ (s : Stage). Left s (with_release p x.from x.to) ls k) (sym at) left));
    }

pub back : (s : Stage) (p : Place) (n : ℕ) (w : Text) (ws : List Text) (ls : List Numbered) (k : Order) → IsOrder k → p.stage ≡ s → p.line ≡ n → Left s p ((n, w ∷ ws) ∷ ls) k → Taken s p (w ∷ ws) ls k
back stage.Header p n w ws ls k v at number left = record { none = header_taken (w ∷ ws) left.spelled.0; left = record { table = left.table; releases = left.releases; spelled = left.spelled.1 } }
back stage.Count p n w ws ls k v at number left =
    let c = count_taken (length k.table) (w ∷ ws) v.table.some v.table.few left.spelled.0 in
    record {
      none = c.0;
      left = record {
        some = omega (arith, c.1, v.table.some);
        rest = k.table;
        table = ap (λ (t : List ClassEntry). t ++ k.table) (sym left.table);
        due = sym c.1;
        releases = left.releases;
        spelled = left.spelled.1;
      };
    }
back stage.Classes p n w ws ls k v at number left = class_back p n (w ∷ ws) ls k left.rest v left.some left.table left.due left.releases left.spelled
back stage.Releases p n w ws ls k v at number left = body_back p n w ws ls k left.rest v at number left.table left.releases left.spelled
back stage.End p n w ws ls k v at number left = record { none = end_taken (w ∷ ws) left.spelled.0; left = record { order = left.order; spelled = left.spelled.1 } }
back stage.Ended p n w ws ls k v at number left = absurd left.spelled
