-- A line behind the header without a code spells one part more.
use Rattle.std.proofs.Common.{◌≡◌, ℕ, suc, ◌+◌, ◌*◌, ◌^◌, ◌<◌, ◌≤◌, Bool, true, false, not, cond, eqb, ltb, leb, ◌&&◌, ◌||◌, List, [], ◌∷◌, ◌++◌, length, min, Option, Some, None, refl, sym, ap, subst, ◌∙◌, arith}
use Rattle.std.specs.Prelude.{codes, map, count_by}
use Rattle.std.specs.List.{AllZip, AllByRecursion, list_all, list_any, sum_by, flat_map}
use Rattle.std.specs.Option.{is_none, option_map_or}
use Rattle.std.specs.Str.{bytes_eq}
use Rattle.std.proofs.lemmas.Bool.{and_parts, and_from, leb-true, leb-false, ltb-false, lt-ltb, le-leb}
use Rattle.std.proofs.lemmas.List.{append-nil, length_push}
use Rattle.std.proofs.lemmas.List.Sums.{sum_by-append, sum_by-cons}
use Rattle.std.proofs.lemmas.Grind.{flat_map-append}
use Rattle.text_lines.specs.Number.{IsNumber, misspelt, value_of}
use Rattle.text_lines.proofs.FirstFault.{NoneHolds}
use Rattle.rings.specs.Brackets.{in_order}
use Rattle.config_text.specs.declared.config.GateLine.{GateLine}
use Rattle.config_text.specs.declared.config.ProcessLine.{ProcessLine}
use Rattle.config_text.specs.declared.config.Item.{Item}
use Rattle.config_text.specs.declared.config.Item.TheVariants as item
use Rattle.config_text.specs.declared.config.Config.{Config}
use Rattle.config_text.specs.declared.stage.Stage.{Stage}
use Rattle.config_text.specs.declared.stage.Stage.TheVariants as stage
use Rattle.config_text.specs.declared.stage.Kind.TheVariants as kind
use Rattle.config_text.specs.Written.{Word, gate_line, process_line}
use Rattle.words_layout.specs.Sizes.{max_events}
use Rattle.config_text.specs.Valid.{IsValid, gate_ok, process_ok, item_ok, is_class, uses_script, events_of, processes_of, within}
use Rattle.config_text.specs.Place.{Place, config_in}
use Rattle.config_text.specs.Rules.{Text, byte, brackets_in, gate_in, gate_past, gate_line_tests, gate_tests, gate_next, with_gate, process_in, process_past, process_line_tests, process_tests, process_next, with_process, with_items, is_past, is_outside, event_parts, EventParts, is_no_event, is_misspelt_event, is_outside_event, event_count, event_item, events_tests, events_next, mix_tests, mix_next, sweep_tests, sweep_next, sweep_events, may_stand}
use Rattle.config_text.specs.Text.{SpellsWord, Part, one_line, IsEvent, IsGroup, event_word, group_line, script_parts, as_lines, body_parts}
use Rattle.config_text.proofs.WordFacts.{not_false, or_false, is_fixed, in_range, is_spelled, value_low, event_whole}
use Rattle.config_text.proofs.Good.{IsEmptyBehind, IsGood, Adds, all_push, all_append, sum_one, groups_push, lines_push, last_gates, last_processes, last_items, count_push}

any_five : (a b c d e : Bool) → (a || (b || (c || (d || (e || false))))) ≡ false → (a ≡ false) × (b ≡ false) × (c ≡ false) × (d ≡ false) × (e ≡ false)
any_five true b c d e f = absurd cc
any_five false true c d e f = absurd cc
any_five false false true d e f = absurd cc
any_five false false false true e f = absurd cc
any_five false false false false true f = absurd cc
any_five false false false false false f = (refl, refl, refl, refl, refl)

any_four : (a b c d : Bool) → (a || (b || (c || (d || false)))) ≡ false → (a ≡ false) × (b ≡ false) × (c ≡ false) × (d ≡ false)
any_four true b c d f = absurd cc
any_four false true c d f = absurd cc
any_four false false true d f = absurd cc
any_four false false false true f = absurd cc
any_four false false false false f = (refl, refl, refl, refl)

-- ---- gates

empty_gates : (s : Stage) (p : Place) (gs : List (List Item)) → may_stand s kind.Gate ≡ true → IsEmptyBehind s p gs → (p.processes ≡ []) × (gs ≡ [])
empty_gates stage.Scripts p gs stands empty = (empty.1, empty.2)
empty_gates stage.Gates p gs stands empty = empty
empty_gates s p gs stands empty = absurd cc

gate_valid : (p : Place) (g : GateLine) → IsValid (config_in p) → gate_ok (config_in p) g ≡ true → leb 32 (length p.gates) ≡ false → IsValid (config_in (with_gate p g))
gate_valid p g v ok few = record {
  table = v.table;
  names = v.names;
  pools = v.pools;
  header = v.header;
  cycle = v.cycle;
  few_scripts = v.few_scripts;
  scripts = v.scripts;
  few_gates = omega (arith, length_push p.gates g, leb-false 32 (length p.gates) few);
  gates = all_push (gate_ok (config_in p)) p.gates g v.gates ok;
  processes = v.processes;
  few_processes = v.few_processes;
  items = v.items;
  few_events = v.few_events;
}

gate_is : (p : Place) (g : GateLine) (gs : List (List Item)) (ws : List Text) → IsGood p gs → may_stand p.stage kind.Gate ≡ true → gate_ok (config_in p) g ≡ true → leb 32 (length p.gates) ≡ false → AllZip SpellsWord ws (gate_line g) → Adds p gs (with_gate p g) ws
gate_is p g gs ws good stands ok few spelled =
    let none = empty_gates p.stage p gs stands good.empty in
    record {
      groups = gs;
      items = gate_line g;
      spelled = spelled;
      grown = rw (none.0, none.1, lines_push gate_line p.gates g) (last_gates (flat_map script_parts p.scripts) (as_lines (map gate_line p.gates)) (one_line (gate_line g)));
      good = record { inside = good.inside; valid = gate_valid p g good.valid ok few; used = good.used; schedule = good.schedule; groups = good.groups; empty = none };
      front = refl;
      stays = tt;
    }

pub adds_gate : (p : Place) (gs : List (List Item)) (k : Text) (ws : List Text) → IsGood p gs → length p.table ≤ 16 → k ≡ codes "gate" → may_stand p.stage kind.Gate ≡ true → NoneHolds (gate_tests p ws) → Adds p gs (gate_next p ws) (k ∷ ws)
unfolding gate_line_tests
adds_gate p gs k (c ∷ s ∷ a ∷ b ∷ d ∷ []) good few key stands none =
    let n = any_five (misspelt c) (misspelt s) (misspelt a) (misspelt b) (misspelt d) none.0 in
    let r = or_false (leb (length p.table) (value_of c) || leb (length p.scripts) (value_of s)) (not (in_order (brackets_in a b d))) none.1.0 in
    let q = or_false (leb (length p.table) (value_of c)) (leb (length p.scripts) (value_of s)) r.0 in
    let class_low = leb-false (length p.table) (value_of c) q.0 in
    let script_low = leb-false (length p.scripts) (value_of s) q.1 in
    let class_is : byte (value_of c) ≡ value_of c = omega (arith, class_low, few) in
    let script_is : byte (value_of s) ≡ value_of s = omega (arith, script_low, good.valid.few_scripts) in
    let there : is_class (config_in p) (byte (value_of c)) ≡ true = lt-ltb (byte (value_of c)) (length p.table) (omega (arith, class_low, class_is)) in
    let used = not_false (uses_script (config_in p) (byte (value_of c)) (byte (value_of s))) none.1.1.0 in
    gate_is p (gate_in c s a b d) gs (k ∷ c ∷ s ∷ a ∷ b ∷ d ∷ []) good stands (and_from _ _ (and_from _ _ there used) (not_false (in_order (brackets_in a b d)) r.1)) none.1.1.1.0
    (key, (subst (IsNumber c) (sym class_is) (is_spelled c n.0), (subst (IsNumber s) (sym script_is) (is_spelled s n.1), (is_spelled a n.2, (is_spelled b n.3, (is_spelled d n.4, tt))))))
adds_gate p gs k ws good few key stands none = absurd cc

-- ---- processes

empty_processes : (s : Stage) (p : Place) (gs : List (List Item)) → may_stand s kind.Process ≡ true → IsEmptyBehind s p gs → gs ≡ []
empty_processes stage.Scripts p gs stands empty = empty.2
empty_processes stage.Gates p gs stands empty = empty.1
empty_processes stage.Processes p gs stands empty = empty
empty_processes s p gs stands empty = absurd cc

few_more : (p : Place) (x : ProcessLine) → leb 4 (processes_of (config_in p) x.processor x.class) ≡ false → ((a c : ℕ) → a < p.processors → c < length p.table → processes_of (config_in p) a c ≤ 4) →
    (a c : ℕ) → a < p.processors → c < length p.table → processes_of (config_in (with_process p x)) a c ≤ 4
few_more p x few all a c la lc =
    let f : ProcessLine → Bool = λ (y : ProcessLine). eqb y.processor a && eqb y.class c in
    let more = count_push f p.processes x in
    elim (f x) as (λ b. f x ≡ b → processes_of (config_in (with_process p x)) a c ≤ 4) [
      | true ↦ λ is.
          let both = and_parts (eqb x.processor a) (eqb x.class c) is in
          let pa : x.processor ≡ a = Rattle.std.proofs.lemmas.Bool.eqb-true _ _ both.0 in
          let pc : x.class ≡ c = Rattle.std.proofs.lemmas.Bool.eqb-true _ _ both.1 in
          let old : leb 4 (processes_of (config_in p) a c) ≡ false = rw (← pa, ← pc) few in
          let one : 0 + cond (f x) 1 0 ≡ 1 = rw is refl in
          omega (arith, more, one, leb-false 4 (processes_of (config_in p) a c) old)
      | false ↦ λ is.
          let none : 0 + cond (f x) 1 0 ≡ 0 = rw is refl in
          omega (arith, more, none, all a c la lc)
    ] refl

process_valid : (p : Place) (x : ProcessLine) → IsValid (config_in p) → process_ok (config_in p) x ≡ true → leb 4 (processes_of (config_in p) x.processor x.class) ≡ false → IsValid (config_in (with_process p x))
process_valid p x v ok few = record {
  table = v.table;
  names = v.names;
  pools = v.pools;
  header = v.header;
  cycle = v.cycle;
  few_scripts = v.few_scripts;
  scripts = v.scripts;
  few_gates = v.few_gates;
  gates = v.gates;
  processes = all_push (process_ok (config_in p)) p.processes x v.processes ok;
  few_processes = few_more p x few v.few_processes;
  items = v.items;
  few_events = v.few_events;
}

process_is : (p : Place) (x : ProcessLine) (gs : List (List Item)) (ws : List Text) → IsGood p gs → may_stand p.stage kind.Process ≡ true → process_ok (config_in p) x ≡ true → leb 4 (processes_of (config_in p) x.processor x.class) ≡ false →
    AllZip SpellsWord ws (process_line x) → Adds p gs (with_process p x) ws
process_is p x gs ws good stands ok few spelled =
    let none = empty_processes p.stage p gs stands good.empty in
    record {
      groups = gs;
      items = process_line x;
      spelled = spelled;
      grown = rw (none, lines_push process_line p.processes x) (last_processes (flat_map script_parts p.scripts) (as_lines (map gate_line p.gates)) (as_lines (map process_line p.processes)) (one_line (process_line x)));
      good = record { inside = good.inside; valid = process_valid p x good.valid ok few; used = good.used; schedule = good.schedule; groups = good.groups; empty = none };
      front = refl;
      stays = tt;
    }

pub adds_process : (p : Place) (gs : List (List Item)) (k : Text) (ws : List Text) → IsGood p gs → length p.table ≤ 16 → p.processors ≤ 4 → k ≡ codes "process" → may_stand p.stage kind.Process ≡ true → NoneHolds (process_tests p ws) → Adds p gs (process_next p ws) (k ∷ ws)
unfolding process_line_tests
adds_process p gs k (a ∷ c ∷ s ∷ r ∷ []) good few four key stands none =
    let n = any_four (misspelt a) (misspelt c) (misspelt s) (misspelt r) none.0 in
    let x = or_false (leb p.processors (value_of a) || leb (length p.table) (value_of c) || leb (length p.scripts) (value_of s)) (ltb 7 (value_of r)) none.1.0 in
    let y = or_false (leb p.processors (value_of a) || leb (length p.table) (value_of c)) (leb (length p.scripts) (value_of s)) x.0 in
    let z = or_false (leb p.processors (value_of a)) (leb (length p.table) (value_of c)) y.0 in
    let processor_low = leb-false p.processors (value_of a) z.0 in
    let class_low = leb-false (length p.table) (value_of c) z.1 in
    let script_low = leb-false (length p.scripts) (value_of s) y.1 in
    let ring_low = ltb-false 7 (value_of r) x.1 in
    let processor_is : byte (value_of a) ≡ value_of a = omega (arith, processor_low, four) in
    let class_is : byte (value_of c) ≡ value_of c = omega (arith, class_low, few) in
    let script_is : byte (value_of s) ≡ value_of s = omega (arith, script_low, good.valid.few_scripts) in
    let ring_is : min (value_of r) 7 ≡ value_of r = omega (arith, ring_low) in
    let used = not_false (uses_script (config_in p) (byte (value_of c)) (byte (value_of s))) none.1.1.0 in
    process_is p (process_in a c s r) gs (k ∷ a ∷ c ∷ s ∷ r ∷ []) good stands
    (and_from _ _ (and_from _ _ (and_from _ _ (lt-ltb (byte (value_of a)) p.processors (omega (arith, processor_low, processor_is))) (lt-ltb (byte (value_of c)) (length p.table) (omega (arith, class_low, class_is)))) (le-leb (min (value_of r) 7) 7 (omega (arith, ring_low, ring_is)))) used)
    none.1.1.1.0
    (key, (subst (IsNumber a) (sym processor_is) (is_spelled a n.0), (subst (IsNumber c) (sym class_is) (is_spelled c n.1), (subst (IsNumber s) (sym script_is) (is_spelled s n.2), (subst (IsNumber r) (sym ring_is) (is_spelled r n.3), tt)))))
adds_process p gs k ws good few four key stands none = absurd cc

-- ---- items

items_valid : (p : Place) (is : List Item) (count : ℕ) → IsValid (config_in p) → list_all (item_ok (config_in p)) is ≡ true → sum_by (events_of (config_in p)) is ≡ count → p.used ≡ sum_by (events_of (config_in p)) p.schedule → is_past p.used count ≡ false → IsValid (config_in (with_items p is count))
items_valid p is count v ok sum used few = record {
  table = v.table;
  names = v.names;
  pools = v.pools;
  header = v.header;
  cycle = v.cycle;
  few_scripts = v.few_scripts;
  scripts = v.scripts;
  few_gates = v.few_gates;
  gates = v.gates;
  processes = v.processes;
  few_processes = v.few_processes;
  items = all_append (item_ok (config_in p)) p.schedule is v.items ok;
  few_events = omega (arith, sum_by-append (events_of (config_in p)) p.schedule is, sum, used, ltb-false 4194304 (p.used + count) few);
}

pub items_are : (p : Place) (is : List Item) (count : ℕ) (gs : List (List Item)) (ws : List Text) → IsGood p gs → IsGroup is → list_all (item_ok (config_in p)) is ≡ true → sum_by (events_of (config_in p)) is ≡ count → is_past p.used count ≡ false → AllZip SpellsWord ws (group_line is) →
    Adds p gs (with_items p is count) ws
items_are p is count gs ws good group ok sum few spelled =
    record {
      groups = gs ++ is ∷ [];
      items = group_line is;
      spelled = spelled;
      grown = rw (lines_push group_line gs is) (last_items (flat_map script_parts p.scripts) (as_lines (map gate_line p.gates)) (as_lines (map process_line p.processes)) (as_lines (map group_line gs)) (one_line (group_line is)));
      good = record {
        inside = good.inside;
        valid = items_valid p is count good.valid ok sum good.used few;
        used = omega (arith, good.used, sum, sum_by-append (events_of (config_in p)) p.schedule is);
        schedule = flat_map-append (λ (g : List Item). g) gs (is ∷ []) ∙ rw (good.schedule, append-nil is) refl;
        groups = groups_push gs is good.groups group;
        empty = tt;
      };
      front = refl;
      stays = tt;
    }

in_events : (n : ℕ) → is_outside 1 max_events n ≡ false → (within 1 max_events (min n max_events) ≡ true) × (min n max_events ≡ n)
in_events n e =
    let r = in_range 1 4194304 n e in
    let same : min n 4194304 ≡ n = omega (arith, r.1) in
    (and_from _ _ (le-leb 1 (min n 4194304) (omega (arith, same, r.0))) (le-leb (min n 4194304) 4194304 (omega (arith, same, r.1))), same)

sum_single : (k : Config) (i : Item) (n : ℕ) → events_of k i ≡ n → sum_by (events_of k) (i ∷ []) ≡ n
sum_single k i n e =
    let none : sum_by (events_of k) [] ≡ 0 = refl in
    omega (arith, sum_by-cons (events_of k) i [], e, none)

pub adds_mix : (p : Place) (gs : List (List Item)) (k : Text) (ws : List Text) → IsGood p gs → k ≡ codes "mix" → NoneHolds (mix_tests p ws) → Adds p gs (mix_next p ws) (k ∷ ws)
adds_mix p gs k (x ∷ n ∷ []) good key none =
    let m = or_false (misspelt x) (misspelt n || false) none.0 in
    let l = or_false (misspelt n) false m.1 in
    let r = in_events (value_of n) none.1.0 in
    items_are p (item.Mix (value_of x) (min (value_of n) max_events) ∷ []) (value_of n) gs (k ∷ x ∷ n ∷ []) good tt
    (and_from _ _ (and_from _ _ (lt-ltb _ _ (value_low x m.0)) r.0) refl) (sum_single (config_in p) (item.Mix (value_of x) (min (value_of n) max_events)) (value_of n) r.1) none.1.1.0
    (key, (is_spelled x m.0, (subst (IsNumber n) (sym r.1) (is_spelled n l.0), tt)))
adds_mix p gs k ws good key none = absurd cc

pub adds_sweep : (p : Place) (gs : List (List Item)) (k : Text) (ws : List Text) → IsGood p gs → k ≡ codes "sweep" → NoneHolds (sweep_tests p ws) → Adds p gs (sweep_next p ws) (k ∷ ws)
adds_sweep p gs k (n ∷ []) good key none =
    let r = in_events (value_of n) none.1.0 in
    items_are p (item.Sweep (min (value_of n) max_events) ∷ []) (sweep_events p (value_of n)) gs (k ∷ n ∷ []) good tt
    (and_from _ _ r.0 refl) (sum_single (config_in p) (item.Sweep (min (value_of n) max_events)) (sweep_events p (value_of n)) (ap (λ m. m * p.quantum * p.processors) r.1)) none.1.1.0
    (key, (subst (IsNumber n) (sym r.1) (is_spelled n none.0), tt))
adds_sweep p gs k ws good key none = absurd cc

-- ---- event items

-- the word of an event item within its ranges
record IsEventWord (k : Config) (w : Text) : Type 0 where
  processor : ℕ
  class : ℕ
  count : ℕ
  item_is : event_item w ≡ item.Events processor class count
  count_is : event_count w ≡ count
  spelled : SpellsWord w (Rattle.config_text.specs.Written.events processor class count)
  ok : item_ok k (item.Events processor class count) ≡ true

event_from : (p : Place) (w : Text) (o : Option EventParts) → event_parts w ≡ o → length p.table ≤ 16 → p.processors ≤ 4 → is_none o ≡ false → option_map_or (λ e. misspelt e.processor || misspelt e.class || misspelt e.count) o false ≡ false →
    option_map_or (λ e. leb p.processors (value_of e.processor) || leb (length p.table) (value_of e.class) || is_outside 1 max_events (value_of e.count)) o false ≡ false → IsEventWord (config_in p) w
event_from p w None is few four form spelled range = absurd cc
event_from p w (Some e) is few four form spelled range =
    let m = or_false (misspelt e.processor || misspelt e.class) (misspelt e.count) spelled in
    let l = or_false (misspelt e.processor) (misspelt e.class) m.0 in
    let r = or_false (leb p.processors (value_of e.processor) || leb (length p.table) (value_of e.class)) (is_outside 1 max_events (value_of e.count)) range in
    let q = or_false (leb p.processors (value_of e.processor)) (leb (length p.table) (value_of e.class)) r.0 in
    let processor_low = leb-false p.processors (value_of e.processor) q.0 in
    let class_low = leb-false (length p.table) (value_of e.class) q.1 in
    let processor_is : byte (value_of e.processor) ≡ value_of e.processor = omega (arith, processor_low, four) in
    let class_is : byte (value_of e.class) ≡ value_of e.class = omega (arith, class_low, few) in
    let c = in_events (value_of e.count) r.1 in
    record {
      processor = byte (value_of e.processor);
      class = byte (value_of e.class);
      count = min (value_of e.count) max_events;
      item_is = rw is refl;
      count_is = rw is (sym c.1);
      spelled = (e.processor, e.class, e.count, event_whole w e is, subst (IsNumber e.processor) (sym processor_is) (is_spelled e.processor l.0), subst (IsNumber e.class) (sym class_is) (is_spelled e.class l.1), subst (IsNumber e.count) (sym c.1) (is_spelled e.count m.1));
      ok = and_from _ _ (and_from _ _ (lt-ltb (byte (value_of e.processor)) p.processors (omega (arith, processor_low, processor_is))) (lt-ltb (byte (value_of e.class)) (length p.table) (omega (arith, class_low, class_is)))) c.0;
    }

-- such words
record AreEventWords (k : Config) (ws : List Text) : Type 0 where
  spelled : AllZip SpellsWord ws (map event_word (map event_item ws))
  events : AllByRecursion IsEvent (map event_item ws)
  ok : list_all (item_ok k) (map event_item ws) ≡ true
  sum : sum_by (events_of k) (map event_item ws) ≡ sum_by event_count ws

one_more : (k : Config) (w : Text) (ws : List Text) → IsEventWord k w → AreEventWords k ws → AreEventWords k (w ∷ ws)
one_more k w ws e all = record {
  spelled = (subst (λ x. SpellsWord w (event_word x)) (sym e.item_is) e.spelled, all.spelled);
  events = (subst IsEvent (sym e.item_is) tt, all.events);
  ok = and_from _ _ (subst (λ x. item_ok k x ≡ true) (sym e.item_is) e.ok) all.ok;
  sum =
      let here : events_of k (event_item w) ≡ event_count w = subst (λ x. events_of k x ≡ event_count w) (sym e.item_is) (sym e.count_is) in
      omega (arith, sum_by-cons (events_of k) (event_item w) (map event_item ws), sum_by-cons event_count w ws, here, all.sum);
}

event_words : (p : Place) (ws : List Text) → length p.table ≤ 16 → p.processors ≤ 4 → list_any is_no_event ws ≡ false → list_any is_misspelt_event ws ≡ false → list_any (is_outside_event p.processors (length p.table)) ws ≡ false → AreEventWords (config_in p) ws
event_words p [] few four form spelled range = record { spelled = tt; events = tt; ok = refl; sum = refl }
event_words p (w ∷ ws) few four form spelled range =
    let f = or_false (is_no_event w) (list_any is_no_event ws) form in
    let s = or_false (is_misspelt_event w) (list_any is_misspelt_event ws) spelled in
    let r = or_false (is_outside_event p.processors (length p.table) w) (list_any (is_outside_event p.processors (length p.table)) ws) range in
    one_more (config_in p) w ws (event_from p w (event_parts w) refl few four f.0 s.0 r.0) (event_words p ws few four f.1 s.1 r.1)

first_event : (k : Text) (w : Text) (ws : List Text) (i : Item) (a b c : ℕ) → i ≡ item.Events a b c → k ≡ codes "events" → AllZip SpellsWord (w ∷ ws) (map event_word (i ∷ map event_item ws)) → AllByRecursion IsEvent (map event_item ws) →
    IsGroup (i ∷ map event_item ws) × AllZip SpellsWord (k ∷ w ∷ ws) (group_line (i ∷ map event_item ws))
first_event k w ws i a b c is key spelled events = rw is (events, (key, subst (λ x. AllZip SpellsWord (w ∷ ws) (map event_word (x ∷ map event_item ws))) is spelled))

pub adds_events : (p : Place) (gs : List (List Item)) (k : Text) (ws : List Text) → IsGood p gs → length p.table ≤ 16 → p.processors ≤ 4 → k ≡ codes "events" → NoneHolds (events_tests p ws) → Adds p gs (events_next p ws) (k ∷ ws)
adds_events p gs k [] good few four key none = absurd cc
adds_events p gs k (w ∷ ws) good few four key none =
    let f = or_false (is_no_event w) (list_any is_no_event ws) none.0 in
    let s = or_false (is_misspelt_event w) (list_any is_misspelt_event ws) none.1.0 in
    let r = or_false (is_outside_event p.processors (length p.table) w) (list_any (is_outside_event p.processors (length p.table)) ws) none.1.1.0 in
    let e = event_from p w (event_parts w) refl few four f.0 s.0 r.0 in
    let all = event_words p (w ∷ ws) few four none.0 none.1.0 none.1.1.0 in
    let first = first_event k w ws (event_item w) e.processor e.class e.count e.item_is key all.spelled all.events.1 in
    items_are p (map event_item (w ∷ ws)) (sum_by event_count (w ∷ ws)) gs (k ∷ w ∷ ws) good first.0 all.ok all.sum none.1.1.1.0 first.1
