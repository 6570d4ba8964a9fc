-- The header spells what is read, and the whole text does.
use Rattle.std.proofs.Common.{◌≡◌, ℕ, zero, suc, ◌+◌, ◌-◌, ◌^◌, ◌<◌, ◌≤◌, Bool, true, false, not, cond, eqb, ltb, leb, ◌&&◌, ◌||◌, List, [], ◌∷◌, ◌++◌, length, min, Option, Some, None, Result, Ok, Err, refl, sym, ap, subst, ◌∙◌, append_assoc, arith}
use Rattle.std.specs.Prelude.{codes, map}
use Rattle.std.specs.List.{AllZip, AllByRecursion, list_all, list_any, sum_by, flat_map}
use Rattle.std.specs.Str.{bytes_eq}
use Rattle.std.proofs.lemmas.Bool.{and_parts, and_from, leb-true, leb-false, ltb-false, lt-ltb, le-leb, eq-eqb, ne_eqb}
use Rattle.std.proofs.lemmas.List.{append-nil, length_push, map-append, length-map}
use Rattle.text_lines.specs.Number.{IsNumber, misspelt, value_of}
use Rattle.text_lines.specs.Lines.{lines, words_of}
use Rattle.text_lines.specs.Name.{is_name}
use Rattle.text_lines.proofs.FirstFault.{NoneHolds}
use Rattle.labels.specs.Label.{Label, ClassEntry, class_at}
use Rattle.labels.specs.Order.{IsLabel}
use Rattle.labels.specs.Table.{IsTable}
use Rattle.labels.specs.Reading.{label_of_text}
use Rattle.config_text.specs.declared.config.Pool.{Pool}
use Rattle.config_text.specs.declared.config.Config.{Config}
use Rattle.config_text.specs.declared.stage.Stage.TheVariants as stage
use Rattle.config_text.specs.Written.{Word, number, header_line, header_lines, number_line, number_lines, front_lines, class_line, class_lines, cycle_line, end_line}
use Rattle.config_text.specs.Valid.{IsValid, pool_ok, processes_of, within}
use Rattle.config_text.specs.Place.{Place, start, config_in}
use Rattle.config_text.specs.Rules.{Text, Line, byte, is_outside, has_past, header_tests, number_tests, number_in, fixed_tests, pool_tests, front_tests, entry_tests, class_tests, class_next, with_class, pool_in, stood_before, is_low, after_class, cycle_tests, numbers_in}
use Rattle.config_text.specs.Reading.{lines_answer_from}
use Rattle.config_text.specs.Text.{SpellsWord, Part, one_line, AreParts, as_lines, body_parts, config_parts, Spells}
use Rattle.config_text.proofs.WordFacts.{not_false, or_false, is_fixed, in_range, is_spelled, label_spelled}
use Rattle.config_text.proofs.Found.{AllAllowed, read_to, Next, next_of}
use Rattle.config_text.proofs.Good.{IsGood}
use Rattle.config_text.proofs.TableFacts.{IsSoundTable, entry, sound_push, read_is_label}
use Rattle.config_text.proofs.Values.{Body, starts, body_read}

-- ---- lines of the header

header_spelled : (ws : List Text) → NoneHolds (header_tests ws) → AllZip SpellsWord ws header_line
header_spelled (k ∷ v ∷ []) none = (is_fixed k (codes "gemkernel") none.0, (is_fixed v (codes "1") none.1.0, tt))
header_spelled ws none = absurd cc

-- a line of a number
record IsNumberLine (keyword : Text) (low high : ℕ) (ws : List Text) : Type 0 where
  spelled : AllZip SpellsWord ws (number_line keyword (number_in ws))
  above : low ≤ number_in ws
  below : number_in ws ≤ high

number_spelled : (keyword : Text) (low high : ℕ) (ws : List Text) → NoneHolds (number_tests keyword low high ws) → IsNumberLine keyword low high ws
number_spelled keyword low high (k ∷ n ∷ []) none =
    let r = in_range low high (value_of n) none.1.1.0 in
    record { spelled = (is_fixed k keyword none.0, (is_spelled n none.1.0, tt)); above = r.0; below = r.1 }
number_spelled keyword low high ws none = absurd cc

numbers_spelled : (n : ℕ) (ws : List Text) → n ≤ 16 → list_any misspelt ws ≡ false → has_past n ws ≡ false → AllZip SpellsWord ws (map number (map (λ w. byte (value_of w)) ws)) × (list_all (λ c. ltb c n) (map (λ w. byte (value_of w)) ws) ≡ true)
numbers_spelled n [] few spelled past = (tt, refl)
numbers_spelled n (w ∷ ws) few spelled past =
    let s = or_false (misspelt w) (list_any misspelt ws) spelled in
    let p = or_false (leb n (value_of w)) (has_past n ws) past in
    let low = leb-false n (value_of w) p.0 in
    let is : byte (value_of w) ≡ value_of w = omega (arith, low, few) in
    let more = numbers_spelled n ws few s.1 p.1 in
    ((subst (IsNumber w) (sym is) (is_spelled w s.0), more.0), and_from _ _ (lt-ltb (byte (value_of w)) n (omega (arith, low, is))) more.1)

-- a line of a cycle, where there are so many classes
record IsCycleLine (n : ℕ) (ws : List Text) : Type 0 where
  spelled : AllZip SpellsWord ws (cycle_line (numbers_in ws))
  ok : (within 1 16 (length (numbers_in ws)) && list_all (λ c. ltb c n) (numbers_in ws)) ≡ true

cycle_spelled : (n : ℕ) (ws : List Text) → n ≤ 16 → NoneHolds (cycle_tests n ws) → IsCycleLine n ws
cycle_spelled n [] few none = absurd cc
cycle_spelled n (k ∷ ws) few none =
    let r = in_range 1 16 (length ws) none.1.0 in
    let m = numbers_spelled n ws few none.1.1.0 none.1.1.1.0 in
    let same = length-map ws (λ w. byte (value_of w)) in
    record {
      spelled = (is_fixed k (codes "cycle") none.0, m.0);
      ok = and_from _ _ (and_from _ _ (le-leb 1 (length (map (λ w. byte (value_of w)) ws)) (omega (arith, r.0, same))) (le-leb (length (map (λ w. byte (value_of w)) ws)) 16 (omega (arith, r.1, same)))) m.1;
    }

-- ---- classes

-- the line of a class that is taken
record IsClassLine (p : Place) (ws : List Text) : Type 0 where
  name : Text
  label : Label
  pool : Pool
  spelled : AllZip SpellsWord ws (class_line (entry name label) pool)
  next : class_next p ws ≡ with_class p name (Some label) pool
  named : is_name name ≡ true
  is : IsLabel label
  ok : pool_ok pool ≡ true
  new : stood_before p.table name label ≡ false
  high : is_low p.table label ≡ false

class_found : (p : Place) (k name label f frames g pages v volume : Text) (o : Option Label) → label_of_text label ≡ o → NoneHolds (fixed_tests k f g v) → NoneHolds (pool_tests frames pages volume) → NoneHolds (entry_tests p.table name o) →
    IsClassLine p (k ∷ name ∷ label ∷ f ∷ frames ∷ g ∷ pages ∷ v ∷ volume ∷ [])
unfolding fixed_tests pool_tests entry_tests
class_found p k name label f frames g pages v volume None is fixed pool entry = absurd cc
class_found p k name label f frames g pages v volume (Some l) is fixed pool entry =
    let m = or_false (misspelt frames) (misspelt pages || (misspelt volume || false)) pool.0 in
    let o = or_false (misspelt pages) (misspelt volume || false) m.1 in
    let q = or_false (misspelt volume) false o.1 in
    let r = or_false (ltb 16 (value_of frames) || ltb 32 (value_of pages)) (ltb 4 (value_of volume)) pool.1.0 in
    let s = or_false (ltb 16 (value_of frames)) (ltb 32 (value_of pages)) r.0 in
    record {
      name = name;
      label = l;
      pool = pool_in frames pages volume;
      spelled = (
        is_fixed k (codes "class") fixed.0,
        (
          refl,
          (
            label_spelled label l is,
            (
              is_fixed f (codes "frames") fixed.1.0,
              (
                is_spelled frames m.0,
                (is_fixed g (codes "pages") fixed.1.1.0, (is_spelled pages o.0, (is_fixed v (codes "volume") fixed.1.1.1.0, (is_spelled volume q.0, tt)))),
              ),
            ),
          ),
        ),
      );
      next = rw is refl;
      named = not_false (is_name name) entry.0;
      is = read_is_label label l is;
      ok = and_from _ _ (and_from _ _ (le-leb (value_of frames) 16 (ltb-false _ _ s.0)) (le-leb (value_of pages) 32 (ltb-false _ _ s.1))) (le-leb (value_of volume) 4 (ltb-false _ _ r.1));
      new = entry.1.0;
      high = entry.1.1.0;
    }

class_spelled : (p : Place) (ws : List Text) → NoneHolds (class_tests p.table ws) → IsClassLine p ws
unfolding front_tests fixed_tests pool_tests
class_spelled p (k ∷ name ∷ label ∷ f ∷ frames ∷ g ∷ pages ∷ v ∷ volume ∷ []) none =
    class_found p k name label f frames g pages v volume (label_of_text label) refl (none.0, (none.1.0, (none.1.1.0, (none.1.1.1.0, tt)))) (none.1.1.1.1.0, (none.1.1.1.1.1.0, tt)) none.1.1.1.1.1.1
class_spelled p ws none = absurd cc

abbrev pub at_class : List ClassEntry → List Pool → ℕ → Place
at_class t ps due = record start { stage = stage.Classes; due = due; table = t; pools = ps }

abbrev pub at_processors : List ClassEntry → List Pool → Place
at_processors t ps = record start { stage = stage.Processors; table = t; pools = ps }

pub class_more : (t : List ClassEntry) (ps : List Pool) (d : ℕ) (name : Text) (l : Label) (o : Pool) → with_class (at_class t ps (suc (suc d))) name (Some l) o ≡ at_class (t ++ entry name l ∷ []) (ps ++ o ∷ []) (suc d)
class_more t ps d name l o =
    let left : suc (suc d) - 1 ≡ suc d = omega arith in
    let full : eqb (suc d) 0 ≡ false = ne_eqb (suc d) 0 (λ e. omega (arith, e)) in
    rw (left, full) refl

pub class_last : (t : List ClassEntry) (ps : List Pool) (name : Text) (l : Label) (o : Pool) → with_class (at_class t ps 1) name (Some l) o ≡ at_processors (t ++ entry name l ∷ []) (ps ++ o ∷ [])
class_last t ps name l o = refl

-- the classes that are read
record Classes (t : List ClassEntry) (ps : List Pool) (q : Place) (ls : List Line) (count : ℕ) : Type 0 where
  table : List ClassEntry
  pools : List Pool
  count_is : length table ≡ count
  same : length pools ≡ length table
  after : List Line
  number : ℕ
  fewer : length after < length ls
  bytes : AllAllowed after → AllAllowed ls
  parts : (more : List Part) → AreParts after more → AreParts ls (as_lines (class_lines table pools) ++ more)
  sound : IsSoundTable (t ++ table)
  names : AllByRecursion (λ (c : ClassEntry). is_name c.name ≡ true) table
  ok : list_all pool_ok pools ≡ true
  rest : lines_answer_from (at_processors (t ++ table) (ps ++ pools)) number after ≡ read_to q

classes_read : (d : ℕ) (ls : List Line) (t : List ClassEntry) (ps : List Pool) (q : Place) (n : ℕ) → IsSoundTable t → lines_answer_from (at_class t ps (suc d)) n ls ≡ read_to q → Classes t ps q ls (suc d)
classes_read zero ls t ps q n sound e =
    let N = next_of ls (at_class t ps 1) q n refl refl e in
    let c = class_spelled (at_class t ps 1) (words_of N.line) N.none in
    let rest = subst (λ x. lines_answer_from x N.number N.after ≡ read_to q) (c.next ∙ class_last t ps c.name c.label c.pool) N.rest in
    record {
      table = entry c.name c.label ∷ [];
      pools = c.pool ∷ [];
      count_is = refl;
      same = refl;
      after = N.after;
      number = N.number;
      fewer = N.fewer;
      bytes = N.bytes;
      parts = λ more are. (N.after, starts (at_class t ps 1) ls q N (class_line (entry c.name c.label) c.pool) c.spelled, are);
      sound = sound_push t c.name c.label sound c.is c.new c.high;
      names = (c.named, tt);
      ok = and_from _ _ c.ok refl;
      rest = rest;
    }
classes_read (suc d) ls t ps q n sound e =
    let N = next_of ls (at_class t ps (suc (suc d))) q n refl refl e in
    let c = class_spelled (at_class t ps (suc (suc d))) (words_of N.line) N.none in
    let x = entry c.name c.label in
    let rest = subst (λ y. lines_answer_from y N.number N.after ≡ read_to q) (c.next ∙ class_more t ps d c.name c.label c.pool) N.rest in
    let r = classes_read d N.after (t ++ x ∷ []) (ps ++ c.pool ∷ []) q N.number (sound_push t c.name c.label sound c.is c.new c.high) rest in
    record {
      table = x ∷ r.table;
      pools = c.pool ∷ r.pools;
      count_is = omega (arith, r.count_is);
      same = omega (arith, r.same);
      after = r.after;
      number = r.number;
      fewer = omega (arith, N.fewer, r.fewer);
      bytes = λ b. N.bytes (r.bytes b);
      parts = λ more are. (N.after, starts (at_class t ps (suc (suc d))) ls q N (class_line x c.pool) c.spelled, r.parts more are);
      sound = subst IsSoundTable (append_assoc t (x ∷ []) r.table) r.sound;
      names = (c.named, r.names);
      ok = and_from _ _ c.ok r.ok;
      rest = subst (λ y. lines_answer_from y r.number r.after ≡ read_to q) (ap (λ (y : List ClassEntry). at_processors y ((ps ++ c.pool ∷ []) ++ r.pools)) (append_assoc t (x ∷ []) r.table) ∙ ap (λ (y : List Pool). at_processors (t ++ x ∷ r.table) y) (append_assoc ps (c.pool ∷ []) r.pools)) r.rest;
    }

-- ---- small facts

names_at : (t : List ClassEntry) → AllByRecursion (λ (c : ClassEntry). is_name c.name ≡ true) t → (c : ℕ) → c < length t → is_name (class_at t c).name ≡ true
names_at [] all c lt = absurd (omega (arith, lt))
names_at (x ∷ xs) all zero lt = all.0
names_at (x ∷ xs) all (suc c) lt = names_at xs all.1 c (omega (arith, lt))

some_of : (n m : ℕ) → n ≡ suc m → 0 < n
some_of n m e = omega (arith, e)

suc_of : (n : ℕ) → 1 ≤ n → n ≡ suc (n - 1)
suc_of n some = omega (arith, some)

one_less : (n : ℕ) → n < suc n
one_less n = omega arith

none_few : 0 ≤ 32
none_few = omega arith

none_used : 0 ≤ 4194304
none_used = omega arith

no_processes : (k : Config) (a c : ℕ) → k.processes ≡ [] → processes_of k a c ≤ 4
no_processes k a c none = rw none (omega arith)

-- the place behind the header
abbrev pub behind_header : List ClassEntry → List Pool → ℕ → List ℕ → ℕ → ℕ → ℕ → Place
behind_header t ps processors cycle rounds quantum console =
    record start { stage = stage.Scripts; table = t; pools = ps; processors = processors; cycle = cycle; rounds = rounds; quantum = quantum; console = console }

-- The lines, read to q, spell these lines first, and reading goes on at the place m.
record Behind (ls : List Line) (q m : Place) (first : List (List Word)) : Type 0 where
  after : List Line
  number : ℕ
  bytes : AllAllowed after → AllAllowed ls
  parts : (more : List Part) → AreParts after more → AreParts ls (as_lines first ++ more)
  rest : lines_answer_from m number after ≡ read_to q

one_first : (p m q : Place) (ls : List Line) (N : Next p ls q) (items : List Word) → AllZip SpellsWord (words_of N.line) items → lines_answer_from m N.number N.after ≡ read_to q → Behind ls q m (items ∷ [])
one_first p m q ls N items spelled rest = record { after = N.after; number = N.number; bytes = N.bytes; parts = λ more are. (N.after, starts p ls q N items spelled, are); rest = rest }

two_first : (ls : List Line) (q m s : Place) (xs ys : List (List Word)) (b : Behind ls q m xs) → Behind b.after q s ys → Behind ls q s (xs ++ ys)
two_first ls q m s xs ys b c = record {
  after = c.after;
  number = c.number;
  bytes = λ all. b.bytes (c.bytes all);
  parts = λ more are. subst (AreParts ls) (sym (append_assoc (as_lines xs) (as_lines ys) more) ∙ ap (λ (x : List Part). x ++ more) (sym (map-append one_line xs ys))) (b.parts (as_lines ys ++ more) (c.parts more are));
  rest = c.rest;
}

-- a line of a number that is another one, and what follows it
count_and : (ls : List Line) (q m : Place) (n l : ℕ) → n ≡ l → (ys : List (List Word)) (b : Behind ls q (at_class [] [] n) (number_line (codes "classes") n ∷ [])) → Behind b.after q m ys → Behind ls q m (number_line (codes "classes") l ∷ ys)
count_and ls q m n l same ys b c = subst (λ (x : ℕ). Behind ls q m (number_line (codes "classes") x ∷ ys)) same (two_first ls q (at_class [] [] n) m (number_line (codes "classes") n ∷ []) ys b c)

-- a line of a number, and the place behind it
record Numbered (p : Place) (next : ℕ → Place) (keyword : Text) (low high : ℕ) (ls : List Line) (q : Place) : Type 0 where
  n : ℕ
  above : low ≤ n
  below : n ≤ high
  behind : Behind ls q (next n) (number_line keyword n ∷ [])

numbered : (p q : Place) (next : ℕ → Place) (keyword : Text) (low high : ℕ) (ls : List Line) (N : Next p ls q) → IsNumberLine keyword low high (words_of N.line) → lines_answer_from (next (number_in (words_of N.line))) N.number N.after ≡ read_to q → Numbered p next keyword low high ls q
numbered p q next keyword low high ls N is rest = record { n = number_in (words_of N.line); above = is.above; below = is.below; behind = one_first p (next (number_in (words_of N.line))) q ls N (number_line keyword (number_in (words_of N.line))) is.spelled rest }

abbrev p4 : List ClassEntry → List Pool → ℕ → Place
p4 t ps a = record start { stage = stage.Cycle; table = t; pools = ps; processors = a }

abbrev p5 : List ClassEntry → List Pool → ℕ → List ℕ → Place
p5 t ps a b = record start { stage = stage.Rounds; table = t; pools = ps; processors = a; cycle = b }

abbrev p6 : List ClassEntry → List Pool → ℕ → List ℕ → ℕ → Place
p6 t ps a b r = record start { stage = stage.Quantum; table = t; pools = ps; processors = a; cycle = b; rounds = r }

abbrev p7 : List ClassEntry → List Pool → ℕ → List ℕ → ℕ → ℕ → Place
p7 t ps a b r u = record start { stage = stage.Console; table = t; pools = ps; processors = a; cycle = b; rounds = r; quantum = u }

read_processors : (t : List ClassEntry) (ps : List Pool) (ls : List Line) (q : Place) (n : ℕ) → lines_answer_from (at_processors t ps) n ls ≡ read_to q → Numbered (at_processors t ps) (λ a. p4 t ps a) (codes "processors") 1 4 ls q
read_processors t ps ls q n e =
    let N = next_of ls (at_processors t ps) q n refl refl e in
    numbered (at_processors t ps) q (λ a. p4 t ps a) (codes "processors") 1 4 ls N (number_spelled (codes "processors") 1 4 (words_of N.line) N.none) N.rest

read_rounds : (t : List ClassEntry) (ps : List Pool) (a : ℕ) (b : List ℕ) (ls : List Line) (q : Place) (n : ℕ) → lines_answer_from (p5 t ps a b) n ls ≡ read_to q → Numbered (p5 t ps a b) (λ r. p6 t ps a b r) (codes "rounds") 1 4096 ls q
read_rounds t ps a b ls q n e =
    let N = next_of ls (p5 t ps a b) q n refl refl e in
    numbered (p5 t ps a b) q (λ r. p6 t ps a b r) (codes "rounds") 1 4096 ls N (number_spelled (codes "rounds") 1 4096 (words_of N.line) N.none) N.rest

read_quantum : (t : List ClassEntry) (ps : List Pool) (a : ℕ) (b : List ℕ) (r : ℕ) (ls : List Line) (q : Place) (n : ℕ) → lines_answer_from (p6 t ps a b r) n ls ≡ read_to q → Numbered (p6 t ps a b r) (λ u. p7 t ps a b r u) (codes "quantum") 1 256 ls q
read_quantum t ps a b r ls q n e =
    let N = next_of ls (p6 t ps a b r) q n refl refl e in
    numbered (p6 t ps a b r) q (λ u. p7 t ps a b r u) (codes "quantum") 1 256 ls N (number_spelled (codes "quantum") 1 256 (words_of N.line) N.none) N.rest

read_console : (t : List ClassEntry) (ps : List Pool) (a : ℕ) (b : List ℕ) (r u : ℕ) (ls : List Line) (q : Place) (n : ℕ) → lines_answer_from (p7 t ps a b r u) n ls ≡ read_to q → Numbered (p7 t ps a b r u) (λ o. behind_header t ps a b r u o) (codes "console") 0 4096 ls q
read_console t ps a b r u ls q n e =
    let N = next_of ls (p7 t ps a b r u) q n refl refl e in
    numbered (p7 t ps a b r u) q (λ o. behind_header t ps a b r u o) (codes "console") 0 4096 ls N (number_spelled (codes "console") 0 4096 (words_of N.line) N.none) N.rest

-- the lines from the number of rounds on
record Late (t : List ClassEntry) (ps : List Pool) (a : ℕ) (b : List ℕ) (ls : List Line) (q : Place) : Type 0 where
  r : ℕ
  u : ℕ
  o : ℕ
  rounds : (1 ≤ r) × (r ≤ 4096)
  quantum : (1 ≤ u) × (u ≤ 256)
  console : o ≤ 4096
  behind : Behind ls q (behind_header t ps a b r u o) (number_line (codes "rounds") r ∷ number_line (codes "quantum") u ∷ number_line (codes "console") o ∷ [])

late_with : (t : List ClassEntry) (ps : List Pool) (a : ℕ) (b : List ℕ) (ls : List Line) (q : Place) (R : Numbered (p5 t ps a b) (λ r. p6 t ps a b r) (codes "rounds") 1 4096 ls q) (U : Numbered (p6 t ps a b R.n) (λ u. p7 t ps a b R.n u) (codes "quantum") 1 256 R.behind.after q)
    → Numbered (p7 t ps a b R.n U.n) (λ o. behind_header t ps a b R.n U.n o) (codes "console") 0 4096 U.behind.after q → Late t ps a b ls q
late_with t ps a b ls q R U O = record {
  r = R.n;
  u = U.n;
  o = O.n;
  rounds = (R.above, R.below);
  quantum = (U.above, U.below);
  console = O.below;
  behind =
      let r = number_line (codes "rounds") R.n in
      let u = number_line (codes "quantum") U.n in
      let o = number_line (codes "console") O.n in
      two_first ls q (p6 t ps a b R.n) (behind_header t ps a b R.n U.n O.n) (r ∷ []) (u ∷ o ∷ []) R.behind
      (two_first R.behind.after q (p7 t ps a b R.n U.n) (behind_header t ps a b R.n U.n O.n) (u ∷ []) (o ∷ []) U.behind O.behind);
}

late_from : (t : List ClassEntry) (ps : List Pool) (a : ℕ) (b : List ℕ) (ls : List Line) (q : Place) (R : Numbered (p5 t ps a b) (λ r. p6 t ps a b r) (codes "rounds") 1 4096 ls q) → Numbered (p6 t ps a b R.n) (λ u. p7 t ps a b R.n u) (codes "quantum") 1 256 R.behind.after q → Late t ps a b ls q
late_from t ps a b ls q R U = late_with t ps a b ls q R U (read_console t ps a b R.n U.n U.behind.after q U.behind.number U.behind.rest)

read_late : (t : List ClassEntry) (ps : List Pool) (a : ℕ) (b : List ℕ) (ls : List Line) (q : Place) (n : ℕ) → lines_answer_from (p5 t ps a b) n ls ≡ read_to q → Late t ps a b ls q
read_late t ps a b ls q n e =
    let R = read_rounds t ps a b ls q n e in
    late_from t ps a b ls q R (read_quantum t ps a b R.n R.behind.after q R.behind.number R.behind.rest)

-- the lines from the number of processors on
record Middle (t : List ClassEntry) (ps : List Pool) (ls : List Line) (q : Place) : Type 0 where
  a : ℕ
  b : List ℕ
  r : ℕ
  u : ℕ
  o : ℕ
  processors : (1 ≤ a) × (a ≤ 4)
  cycle : (within 1 16 (length b) && list_all (λ c. ltb c (length t)) b) ≡ true
  rounds : (1 ≤ r) × (r ≤ 4096)
  quantum : (1 ≤ u) × (u ≤ 256)
  console : o ≤ 4096
  behind : Behind ls q (behind_header t ps a b r u o) (number_lines (config_in (behind_header t ps a b r u o)))

-- a line of the cycle
record Cycled (t : List ClassEntry) (ps : List Pool) (a : ℕ) (ls : List Line) (q : Place) : Type 0 where
  b : List ℕ
  ok : (within 1 16 (length b) && list_all (λ c. ltb c (length t)) b) ≡ true
  behind : Behind ls q (p5 t ps a b) (cycle_line b ∷ [])

read_cycle : (t : List ClassEntry) (ps : List Pool) (a : ℕ) (ls : List Line) (q : Place) (n : ℕ) → length t ≤ 16 → lines_answer_from (p4 t ps a) n ls ≡ read_to q → Cycled t ps a ls q
read_cycle t ps a ls q n few e =
    let N = next_of ls (p4 t ps a) q n refl refl e in
    let c = cycle_spelled (length t) (words_of N.line) few N.none in
    record { b = numbers_in (words_of N.line); ok = c.ok; behind = one_first (p4 t ps a) (p5 t ps a (numbers_in (words_of N.line))) q ls N (cycle_line (numbers_in (words_of N.line))) c.spelled N.rest }

middle_with : (t : List ClassEntry) (ps : List Pool) (ls : List Line) (q : Place) (A : Numbered (at_processors t ps) (λ a. p4 t ps a) (codes "processors") 1 4 ls q) (B : Cycled t ps A.n A.behind.after q) → Late t ps A.n B.b B.behind.after q → Middle t ps ls q
middle_with t ps ls q A B L = record {
  a = A.n;
  b = B.b;
  r = L.r;
  u = L.u;
  o = L.o;
  processors = (A.above, A.below);
  cycle = B.ok;
  rounds = L.rounds;
  quantum = L.quantum;
  console = L.console;
  behind =
      let late = number_line (codes "rounds") L.r ∷ number_line (codes "quantum") L.u ∷ number_line (codes "console") L.o ∷ [] in
      two_first ls q (p4 t ps A.n) (behind_header t ps A.n B.b L.r L.u L.o) (number_line (codes "processors") A.n ∷ []) (cycle_line B.b ∷ late) A.behind
      (two_first A.behind.after q (p5 t ps A.n B.b) (behind_header t ps A.n B.b L.r L.u L.o) (cycle_line B.b ∷ []) late B.behind L.behind);
}

middle_from : (t : List ClassEntry) (ps : List Pool) (ls : List Line) (q : Place) (A : Numbered (at_processors t ps) (λ a. p4 t ps a) (codes "processors") 1 4 ls q) → Cycled t ps A.n A.behind.after q → Middle t ps ls q
middle_from t ps ls q A B = middle_with t ps ls q A B (read_late t ps A.n B.b B.behind.after q B.behind.number B.behind.rest)

read_middle : (t : List ClassEntry) (ps : List Pool) (ls : List Line) (q : Place) (n : ℕ) → length t ≤ 16 → lines_answer_from (at_processors t ps) n ls ≡ read_to q → Middle t ps ls q
read_middle t ps ls q n few e =
    let A = read_processors t ps ls q n e in
    middle_from t ps ls q A (read_cycle t ps A.n A.behind.after q A.behind.number few A.behind.rest)

-- ---- the header's validity

header_good : (t : List ClassEntry) (ps : List Pool) (a : ℕ) (b : List ℕ) (r u o : ℕ) → IsTable t → AllByRecursion (λ (c : ClassEntry). is_name c.name ≡ true) t → length ps ≡ length t → list_all pool_ok ps ≡ true → (1 ≤ a) × (a ≤ 4) → (within 1 16 (length b) && list_all (λ c. ltb c (length t)) b) ≡ true →
    (1 ≤ r) × (r ≤ 4096) → (1 ≤ u) × (u ≤ 256) → o ≤ 4096 → IsGood (behind_header t ps a b r u o) []
header_good t ps a b r u o table names same pools processors cycle rounds quantum console =
    let k = config_in (behind_header t ps a b r u o) in
    let valid : IsValid k = record {
      table = table;
      names = names_at t names;
      pools = and_from _ _ (eq-eqb (length ps) (length t) same) pools;
      header = and_from _ _ (and_from _ _ (and_from _ _ (and_from _ _ (le-leb 1 a processors.0) (le-leb a 4 processors.1)) (and_from _ _ (le-leb 1 r rounds.0) (le-leb r 4096 rounds.1))) (and_from _ _ (le-leb 1 u quantum.0) (le-leb u 256 quantum.1))) (le-leb o 4096 console);
      cycle = cycle;
      few_scripts = none_few;
      scripts = refl;
      few_gates = none_few;
      gates = refl;
      processes = refl;
      few_processes = λ x y lx ly. no_processes k x y refl;
      items = refl;
      few_events = none_used;
    } in
    record { inside = refl; valid = valid; used = refl; schedule = refl; groups = tt; empty = (refl, refl, refl) }

-- ---- the whole

-- the header is read
record Header (ls : List Line) (q : Place) : Type 0 where
  t : List ClassEntry
  ps : List Pool
  a : ℕ
  b : List ℕ
  r : ℕ
  u : ℕ
  o : ℕ
  good : IsGood (behind_header t ps a b r u o) []
  behind : Behind ls q (behind_header t ps a b r u o) (front_lines (config_in (behind_header t ps a b r u o)))

header_with : (ls : List Line) (q : Place) (F : Behind ls q (record start { stage = stage.Count }) (header_line ∷ [])) (C : Numbered (record start { stage = stage.Count }) (λ n. at_class [] [] n) (codes "classes") 1 16 F.after q) (T : Classes [] [] q C.behind.after (suc (C.n - 1))) → Middle T.table T.pools T.after q → Header ls q
header_with ls q F C T M =
    let due : C.n ≡ suc (C.n - 1) = suc_of C.n C.above in
    let few : length T.table ≤ 16 = subst (λ (x : ℕ). x ≤ 16) (due ∙ sym T.count_is) C.below in
    let table : IsTable T.table = record { some = some_of (length T.table) (C.n - 1) T.count_is; few = few; sound = T.sound.sound; labels = T.sound.labels } in
    let m : Place = behind_header T.table T.pools M.a M.b M.r M.u M.o in
    let k = config_in m in
    let classes : Behind C.behind.after q (at_processors T.table T.pools) (class_lines T.table T.pools) = record { after = T.after; number = T.number; bytes = T.bytes; parts = T.parts; rest = T.rest } in
    record {
      t = T.table;
      ps = T.pools;
      a = M.a;
      b = M.b;
      r = M.r;
      u = M.u;
      o = M.o;
      good = header_good T.table T.pools M.a M.b M.r M.u M.o table T.names T.same T.ok M.processors M.cycle M.rounds M.quantum M.console;
      behind =
          two_first ls q (record start { stage = stage.Count }) m (header_line ∷ []) (number_line (codes "classes") (length T.table) ∷ (class_lines T.table T.pools ++ number_lines k)) F
          (count_and F.after q m (C.n) (length T.table) (due ∙ sym T.count_is) (class_lines T.table T.pools ++ number_lines k) C.behind
          (two_first C.behind.after q (at_processors T.table T.pools) m (class_lines T.table T.pools) (number_lines k) classes M.behind));
    }

header_from : (ls : List Line) (q : Place) (F : Behind ls q (record start { stage = stage.Count }) (header_line ∷ [])) (C : Numbered (record start { stage = stage.Count }) (λ n. at_class [] [] n) (codes "classes") 1 16 F.after q) → Classes [] [] q C.behind.after (suc (C.n - 1)) → Header ls q
header_from ls q F C T =
    let due : C.n ≡ suc (C.n - 1) = suc_of C.n C.above in
    let few : length T.table ≤ 16 = subst (λ (x : ℕ). x ≤ 16) (due ∙ sym T.count_is) C.below in
    header_with ls q F C T (read_middle T.table T.pools T.after q T.number few T.rest)

header_count : (ls : List Line) (q : Place) (F : Behind ls q (record start { stage = stage.Count }) (header_line ∷ [])) → Numbered (record start { stage = stage.Count }) (λ n. at_class [] [] n) (codes "classes") 1 16 F.after q → Header ls q
header_count ls q F C =
    let nothing : IsSoundTable [] = record { sound = λ i lt. absurd (omega (arith, lt)); labels = λ i lt. absurd (omega (arith, lt)) } in
    header_from ls q F C (classes_read (C.n - 1) C.behind.after [] [] q C.behind.number nothing (subst (λ d. lines_answer_from (at_class [] [] d) C.behind.number C.behind.after ≡ read_to q) (suc_of C.n C.above) C.behind.rest))

read_count : (ls : List Line) (q : Place) (n : ℕ) → lines_answer_from (record start { stage = stage.Count }) n ls ≡ read_to q → Numbered (record start { stage = stage.Count }) (λ n. at_class [] [] n) (codes "classes") 1 16 ls q
read_count ls q n e =
    let p1 : Place = record start { stage = stage.Count } in
    let N = next_of ls p1 q n refl refl e in
    numbered p1 q (λ n. at_class [] [] n) (codes "classes") 1 16 ls N (number_spelled (codes "classes") 1 16 (words_of N.line) N.none) N.rest

header_first : (ls : List Line) (q : Place) → Behind ls q (record start { stage = stage.Count }) (header_line ∷ []) → Header ls q
header_first ls q F = header_count ls q F (read_count F.after q F.number F.rest)

read_header : (ls : List Line) (q : Place) (n : ℕ) → lines_answer_from start n ls ≡ read_to q → Header ls q
read_header ls q n e =
    let N1 = next_of ls start q n refl refl e in
    let F = one_first start (record start { stage = stage.Count }) q ls N1 header_line (header_spelled (words_of N1.line) N1.none) N1.rest in
    header_first ls q F

spelled_with : (text : List ℕ) (q : Place) (H : Header (lines text) q) → Body (behind_header H.t H.ps H.a H.b H.r H.u H.o) [] q H.behind.after → Spells text (config_in q)
spelled_with text q H B =
    let ends : List Part = B.parts ++ one_line end_line ∷ [] in
    let joined : as_lines (front_lines (config_in (behind_header H.t H.ps H.a H.b H.r H.u H.o))) ++ ends ≡ config_parts (config_in q) B.groups =
    ap (λ (x : List (List Word)). as_lines x ++ ends) (sym B.front)
    ∙ ap (λ (x : List Part). as_lines (front_lines (config_in q)) ++ (x ++ one_line end_line ∷ [])) (sym B.grown) in
    record {
      bytes = H.behind.bytes B.bytes;
      groups = B.groups;
      are_groups = B.good.groups;
      schedule = B.good.schedule;
      parts = subst (AreParts (lines text)) joined (H.behind.parts ends B.spelled);
      valid = B.good.valid;
    }

pub value_is : (text : List ℕ) (q : Place) → lines_answer_from start 1 (lines text) ≡ read_to q → Spells text (config_in q)
value_is text q e =
    let H = read_header (lines text) q 1 e in
    spelled_with text q H (body_read (suc (length H.behind.after)) H.behind.after (behind_header H.t H.ps H.a H.b H.r H.u H.o) q [] H.behind.number (one_less (length H.behind.after)) H.good tt H.behind.rest)
