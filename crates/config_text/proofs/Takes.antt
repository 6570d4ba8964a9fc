-- A line that is spelled is taken.
use Rattle.std.proofs.Common.{◌≡◌, ℕ, zero, suc, ◌+◌, ◌-◌, ◌*◌, ◌^◌, ◌<◌, ◌≤◌, Bool, true, false, not, cond, eqb, ltb, leb, ◌&&◌, ◌||◌, List, [], ◌∷◌, ◌++◌, length, min, Option, Some, None, Result, Ok, Err, refl, sym, ap, subst, ◌∙◌, arith}
use Rattle.std.specs.Prelude.{codes, map}
use Rattle.std.specs.List.{AllZip, AllByRecursion, list_all, list_any, sum_by}
use Rattle.std.specs.Str.{bytes_eq}
use Rattle.std.proofs.lemmas.Bool.{and_parts, and_from, leb-true, ltb-true, lt-ltb, le-leb, le-ltb, lt-leb}
use Rattle.std.proofs.lemmas.List.{length-map}
use Rattle.std.proofs.lemmas.List.Sums.{sum_by-cons}
use Rattle.text_lines.specs.Number.{IsNumber, misspelt, value_of}
use Rattle.text_lines.specs.Name.{is_name}
use Rattle.text_lines.specs.Faults.{judged}
use Rattle.labels.specs.Label.{Label, ClassEntry}
use Rattle.labels.specs.Reading.{label_of_text}
use Rattle.rings.specs.Brackets.{Brackets, in_order}
use Rattle.config_text.specs.declared.config.Pool.{Pool}
use Rattle.config_text.specs.declared.config.GateLine.{GateLine}
use Rattle.config_text.specs.declared.config.ProcessLine.{ProcessLine}
use Rattle.config_text.specs.declared.config.Item.{Item}
use Rattle.config_text.specs.declared.config.Item.TheVariants as item
use Rattle.config_text.specs.declared.config.Config.{Config}
use Rattle.config_text.specs.declared.fault.Code.{Code}
use Rattle.config_text.specs.declared.stage.Kind.{Kind}
use Rattle.config_text.specs.declared.stage.Kind.TheVariants as kind
use Rattle.config_text.specs.declared.stage.Stage.TheVariants as stage
use Rattle.config_text.specs.Written.{Word, number, header_line, number_line, class_line, cycle_line, gate_line, process_line, end_line}
use Rattle.words_layout.specs.Sizes.{max_events}
use Rattle.config_text.specs.Valid.{pool_ok, within, gate_ok, process_ok, item_ok, is_class, uses_script, processes_of, events_of}
use Rattle.config_text.specs.Place.{Place, config_in}
use Rattle.config_text.specs.Rules.{Text, Line, byte, is_outside, has_past, header_tests, number_tests, number_in, fixed_tests, pool_tests, front_tests, entry_tests, class_tests, class_next, with_class, pool_in, stood_before, is_low, cycle_tests, numbers_in, script_tests, script_next_place, begun, gate_tests, gate_next, gate_line_tests, with_gate, process_tests, process_next, process_line_tests, with_process, events_tests, events_next, with_items, is_past, is_no_event, is_misspelt_event, is_outside_event, event_count, event_item, mix_tests, mix_next, sweep_tests, sweep_next, sweep_events, end_tests, kind_of, may_stand, kind_tests, kind_next, body_tests, body_next}
use Rattle.config_text.specs.Text.{SpellsWord, IsEvent, IsGroup, event_word, group_line}
use Rattle.config_text.proofs.WordFacts.{same_text, range_in, IsValueOf, value_is, label_read, event_joined}
use Rattle.config_text.proofs.TableFacts.{entry}

abbrev pub place_is : Place → Result Place Code
place_is p = Ok p

-- ---- the header

pub takes_header : (p : Place) (ws : List Text) → AllZip SpellsWord ws header_line → judged (header_tests ws) p ≡ place_is p
takes_header p [] all = absurd all
takes_header p (k ∷ []) all = absurd all.1
takes_header p (k ∷ v ∷ []) all = rw (same_text k (codes "gemkernel") all.0, same_text v (codes "1") all.1.0) refl
takes_header p (k ∷ v ∷ w ∷ ws) all = absurd all.1.1

pub takes_number : (keyword : Text) (low high n : ℕ) (ws : List Text) (p : Place) → low ≤ n → n ≤ high → high ≤ 4096 → AllZip SpellsWord ws (number_line keyword n) → (judged (number_tests keyword low high ws) p ≡ place_is p) × (number_in ws ≡ n)
takes_number keyword low high n [] p above below few all = absurd all
takes_number keyword low high n (k ∷ []) p above below few all = absurd all.1
takes_number keyword low high n (k ∷ w ∷ []) p above below few all =
    let v = value_is w n all.1.0 (omega arith) in
    let range : is_outside low high (value_of w) ≡ false = range_in low high (value_of w) (omega (arith, v.value)) (omega (arith, v.value)) in
    (rw (same_text k keyword all.0, v.spelled, range) refl, v.value)
takes_number keyword low high n (k ∷ v ∷ w ∷ ws) p above below few all = absurd all.1.1

pub takes_class : (p : Place) (c : ClassEntry) (o : Pool) (ws : List Text) → pool_ok o ≡ true → is_name c.name ≡ true → stood_before p.table c.name c.label ≡ false → is_low p.table c.label ≡ false → AllZip SpellsWord ws (class_line c o) →
    judged (class_tests p.table ws) (class_next p ws) ≡ place_is (with_class p c.name (Some c.label) o)
unfolding front_tests fixed_tests pool_tests entry_tests
takes_class p c o (k ∷ name ∷ label ∷ f ∷ frames ∷ g ∷ pages ∷ v ∷ volume ∷ []) ok named new high all =
    let x = and_parts (leb o.frames 16 && leb o.pages 32) (leb o.volume 4) ok in
    let y = and_parts (leb o.frames 16) (leb o.pages 32) x.0 in
    let lf = leb-true _ _ y.0 in
    let lg = leb-true _ _ y.1 in
    let lv = leb-true _ _ x.1 in
    let a = value_is frames o.frames all.1.1.1.1.0 (omega (arith, lf)) in
    let b = value_is pages o.pages all.1.1.1.1.1.1.0 (omega (arith, lg)) in
    let d = value_is volume o.volume all.1.1.1.1.1.1.1.1.0 (omega (arith, lv)) in
    let read = label_read label c.label all.1.1.0 in
    rw (
      same_text k (codes "class") all.0,
      same_text f (codes "frames") all.1.1.1.0,
      same_text g (codes "pages") all.1.1.1.1.1.0,
      same_text v (codes "volume") all.1.1.1.1.1.1.1.0,
      a.spelled,
      b.spelled,
      d.spelled,
      a.value,
      b.value,
      d.value,
      le-ltb 16 o.frames lf,
      le-ltb 32 o.pages lg,
      le-ltb 4 o.volume lv,
      read,
      all.1.0,
      named,
      new,
      high,
    ) refl
takes_class p c o [] ok named new high all = absurd all
takes_class p c o (a ∷ []) ok named new high all = absurd all.1
takes_class p c o (a ∷ b ∷ []) ok named new high all = absurd all.1.1
takes_class p c o (a ∷ b ∷ d ∷ []) ok named new high all = absurd all.1.1.1
takes_class p c o (a ∷ b ∷ d ∷ e ∷ []) ok named new high all = absurd all.1.1.1.1
takes_class p c o (a ∷ b ∷ d ∷ e ∷ f ∷ []) ok named new high all = absurd all.1.1.1.1.1
takes_class p c o (a ∷ b ∷ d ∷ e ∷ f ∷ g ∷ []) ok named new high all = absurd all.1.1.1.1.1.1
takes_class p c o (a ∷ b ∷ d ∷ e ∷ f ∷ g ∷ h ∷ []) ok named new high all = absurd all.1.1.1.1.1.1.1
takes_class p c o (a ∷ b ∷ d ∷ e ∷ f ∷ g ∷ h ∷ i ∷ []) ok named new high all = absurd all.1.1.1.1.1.1.1.1
takes_class p c o (a ∷ b ∷ d ∷ e ∷ f ∷ g ∷ h ∷ i ∷ j ∷ l ∷ ws) ok named new high all = absurd all.1.1.1.1.1.1.1.1.1

numbers_taken : (n : ℕ) (ns : List ℕ) (ws : List Text) → n ≤ 16 → list_all (λ c. ltb c n) ns ≡ true → AllZip SpellsWord ws (map number ns) → (list_any misspelt ws ≡ false) × (has_past n ws ≡ false) × (map (λ w. byte (value_of w)) ws ≡ ns)
numbers_taken n [] [] few ok all = (refl, refl, refl)
numbers_taken n [] (w ∷ ws) few ok all = absurd all
numbers_taken n (m ∷ ms) [] few ok all = absurd all
numbers_taken n (m ∷ ms) (w ∷ ws) few ok all =
    let both = and_parts (ltb m n) (list_all (λ c. ltb c n) ms) ok in
    let low = ltb-true m n both.0 in
    let v = value_is w m all.0 (omega (arith, low, few)) in
    let same : byte (value_of w) ≡ m = omega (arith, v.value, low, few) in
    let r = numbers_taken n ms ws few both.1 all.1 in
    (rw (v.spelled, r.0) refl, rw (v.value, lt-leb n m low, r.1) refl, rw (same, r.2) refl)

length_zip : (ws : List Text) (xs : List Word) → AllZip SpellsWord ws xs → length ws ≡ length xs
length_zip [] [] all = refl
length_zip [] (x ∷ xs) all = absurd all
length_zip (w ∷ ws) [] all = absurd all
length_zip (w ∷ ws) (x ∷ xs) all = omega (arith, length_zip ws xs all.1)

pub takes_cycle : (n : ℕ) (cycle : List ℕ) (ws : List Text) (p : Place) → n ≤ 16 → (within 1 16 (length cycle) && list_all (λ c. ltb c n) cycle) ≡ true → AllZip SpellsWord ws (cycle_line cycle) → (judged (cycle_tests n ws) p ≡ place_is p) × (numbers_in ws ≡ cycle)
takes_cycle n cycle [] p few ok all = absurd all
takes_cycle n cycle (k ∷ ws) p few ok all =
    let both = and_parts (within 1 16 (length cycle)) (list_all (λ c. ltb c n) cycle) ok in
    let range = and_parts (leb 1 (length cycle)) (leb (length cycle) 16) both.0 in
    let r = numbers_taken n cycle ws few both.1 all.1 in
    let long = length_zip ws (map number cycle) all.1 in
    let out : is_outside 1 16 (length ws) ≡ false = range_in 1 16 (length ws) (omega (arith, leb-true 1 (length cycle) range.0, long, length-map cycle number)) (omega (arith, leb-true (length cycle) 16 range.1, long, length-map cycle number)) in
    (rw (same_text k (codes "cycle") all.0, out, r.0, r.1) refl, r.2)

-- ---- behind the header

-- the kind of a keyword
of_script : kind_of (codes "script") ≡ Some kind.Script
unfolding kind_of
of_script = refl

of_gate : kind_of (codes "gate") ≡ Some kind.Gate
unfolding kind_of
of_gate = refl

of_process : kind_of (codes "process") ≡ Some kind.Process
unfolding kind_of
of_process = refl

of_events : kind_of (codes "events") ≡ Some kind.Events
unfolding kind_of
of_events = refl

of_mix : kind_of (codes "mix") ≡ Some kind.Mix
unfolding kind_of
of_mix = refl

of_sweep : kind_of (codes "sweep") ≡ Some kind.Sweep
unfolding kind_of
of_sweep = refl

of_end : kind_of (codes "end") ≡ Some kind.End
unfolding kind_of
of_end = refl

-- a line of a kind that may stand
takes_kind : (kd : Kind) (w k : Text) (p q : Place) (ws : List Text) (more : List Line) → kind_of w ≡ Some kd → k ≡ w → may_stand p.stage kd ≡ true → judged (kind_tests kd p ws) (kind_next kd p ws more) ≡ place_is q → judged (body_tests p (k ∷ ws)) (body_next p (k ∷ ws) more) ≡ place_is q
takes_kind kd w k p q ws more of same stands taken =
    let is : kind_of k ≡ Some kd = ap kind_of same ∙ of in
    rw (is, stands) taken

pub takes_end : (p : Place) (ws : List Text) (more : List Line) → may_stand p.stage kind.End ≡ true → AllZip SpellsWord ws end_line → judged (body_tests p ws) (body_next p ws more) ≡ place_is (record p { stage = stage.Ended })
takes_end p [] more stands all = absurd all
takes_end p (k ∷ []) more stands all = takes_kind kind.End (codes "end") k p (record p { stage = stage.Ended }) [] more of_end all.0 stands refl
takes_end p (k ∷ w ∷ ws) more stands all = absurd all.1

pub takes_script : (p : Place) (c : ℕ) (ws : List Text) (more : List Line) → may_stand p.stage kind.Script ≡ true → c < length p.table → length p.table ≤ 16 → length p.scripts < 32 → AllZip SpellsWord ws (number_line (codes "script") c) →
    judged (body_tests p ws) (body_next p ws more) ≡ place_is (begun p c more)
takes_script p c [] more stands low few room all = absurd all
takes_script p c (k ∷ []) more stands low few room all = absurd all.1
takes_script p c (k ∷ w ∷ []) more stands low few room all =
    let v = value_is w c all.1.0 (omega (arith, low, few)) in
    let same : byte c ≡ c = omega (arith, low, few) in
    takes_kind kind.Script (codes "script") k p (begun p c more) (w ∷ []) more of_script all.0 stands (rw (v.spelled, v.value, lt-leb (length p.table) c low, lt-leb 32 (length p.scripts) room, same) refl)
takes_script p c (k ∷ v ∷ w ∷ ws) more stands low few room all = absurd all.1.1

pub takes_gate : (p : Place) (g : GateLine) (ws : List Text) (more : List Line) → may_stand p.stage kind.Gate ≡ true → length p.table ≤ 16 → length p.scripts ≤ 32 → g.script < length p.scripts → gate_ok (config_in p) g ≡ true → length p.gates < 32 → AllZip SpellsWord ws (gate_line g) →
    judged (body_tests p ws) (body_next p ws more) ≡ place_is (with_gate p g)
unfolding gate_line_tests
takes_gate p g (k ∷ c ∷ s ∷ a ∷ b ∷ d ∷ []) more stands few many there ok room all =
    let x = and_parts (is_class (config_in p) g.class && uses_script (config_in p) g.class g.script) (in_order g.brackets) ok in
    let y = and_parts (is_class (config_in p) g.class) (uses_script (config_in p) g.class g.script) x.0 in
    let z = and_parts (leb g.brackets.r1 g.brackets.r2 && leb g.brackets.r2 g.brackets.r3) (leb g.brackets.r3 7) x.1 in
    let u = and_parts (leb g.brackets.r1 g.brackets.r2) (leb g.brackets.r2 g.brackets.r3) z.0 in
    let top = leb-true _ _ z.1 in
    let mid = leb-true _ _ u.1 in
    let bot = leb-true _ _ u.0 in
    let low = ltb-true g.class (length p.table) y.0 in
    let vc = value_is c g.class all.1.0 (omega (arith, low, few)) in
    let vs = value_is s g.script all.1.1.0 (omega (arith, there, many)) in
    let va = value_is a g.brackets.r1 all.1.1.1.0 (omega (arith, top, mid, bot)) in
    let vb = value_is b g.brackets.r2 all.1.1.1.1.0 (omega (arith, top, mid)) in
    let vd = value_is d g.brackets.r3 all.1.1.1.1.1.0 (omega (arith, top)) in
    let class_is : byte g.class ≡ g.class = omega (arith, low, few) in
    let script_is : byte g.script ≡ g.script = omega (arith, there, many) in
    takes_kind kind.Gate (codes "gate") k p (with_gate p g) (c ∷ s ∷ a ∷ b ∷ d ∷ []) more of_gate all.0 stands
    (rw (vc.spelled, vs.spelled, va.spelled, vb.spelled, vd.spelled, vc.value, vs.value, va.value, vb.value, vd.value, class_is, script_is, lt-leb (length p.table) g.class low, lt-leb (length p.scripts) g.script there, x.1, y.1, lt-leb 32 (length p.gates) room) refl)
takes_gate p g [] more stands few many there ok room all = absurd all
takes_gate p g (k ∷ []) more stands few many there ok room all = absurd all.1
takes_gate p g (k ∷ c ∷ []) more stands few many there ok room all = absurd all.1.1
takes_gate p g (k ∷ c ∷ s ∷ []) more stands few many there ok room all = absurd all.1.1.1
takes_gate p g (k ∷ c ∷ s ∷ a ∷ []) more stands few many there ok room all = absurd all.1.1.1.1
takes_gate p g (k ∷ c ∷ s ∷ a ∷ b ∷ []) more stands few many there ok room all = absurd all.1.1.1.1.1
takes_gate p g (k ∷ c ∷ s ∷ a ∷ b ∷ d ∷ e ∷ ws) more stands few many there ok room all = absurd all.1.1.1.1.1.1

pub takes_process : (p : Place) (x : ProcessLine) (ws : List Text) (more : List Line) → may_stand p.stage kind.Process ≡ true → length p.table ≤ 16 → length p.scripts ≤ 32 → p.processors ≤ 4 → x.script < length p.scripts → process_ok (config_in p) x ≡ true → processes_of (config_in p) x.processor x.class < 4 → AllZip SpellsWord ws (process_line x) →
    judged (body_tests p ws) (body_next p ws more) ≡ place_is (with_process p x)
unfolding process_line_tests
takes_process p x (k ∷ a ∷ c ∷ s ∷ r ∷ []) more stands few many four there ok room all =
    let u = and_parts (ltb x.processor p.processors && is_class (config_in p) x.class && leb x.ring 7) (uses_script (config_in p) x.class x.script) ok in
    let v = and_parts (ltb x.processor p.processors && is_class (config_in p) x.class) (leb x.ring 7) u.0 in
    let w = and_parts (ltb x.processor p.processors) (is_class (config_in p) x.class) v.0 in
    let la = ltb-true x.processor p.processors w.0 in
    let lc = ltb-true x.class (length p.table) w.1 in
    let lr = leb-true x.ring 7 v.1 in
    let va = value_is a x.processor all.1.0 (omega (arith, la, four)) in
    let vc = value_is c x.class all.1.1.0 (omega (arith, lc, few)) in
    let vs = value_is s x.script all.1.1.1.0 (omega (arith, there, many)) in
    let vr = value_is r x.ring all.1.1.1.1.0 (omega (arith, lr)) in
    let processor_is : byte x.processor ≡ x.processor = omega (arith, la, four) in
    let class_is : byte x.class ≡ x.class = omega (arith, lc, few) in
    let script_is : byte x.script ≡ x.script = omega (arith, there, many) in
    let ring_is : min x.ring 7 ≡ x.ring = omega (arith, lr) in
    takes_kind kind.Process (codes "process") k p (with_process p x) (a ∷ c ∷ s ∷ r ∷ []) more of_process all.0 stands
    (rw (va.spelled, vc.spelled, vs.spelled, vr.spelled, va.value, vc.value, vs.value, vr.value, processor_is, class_is, script_is, ring_is, lt-leb p.processors x.processor la, lt-leb (length p.table) x.class lc, lt-leb (length p.scripts) x.script there, le-ltb 7 x.ring lr, u.1, lt-leb 4 (processes_of (config_in p) x.processor x.class) room) refl)
takes_process p x [] more stands few many four there ok room all = absurd all
takes_process p x (k ∷ []) more stands few many four there ok room all = absurd all.1
takes_process p x (k ∷ a ∷ []) more stands few many four there ok room all = absurd all.1.1
takes_process p x (k ∷ a ∷ c ∷ []) more stands few many four there ok room all = absurd all.1.1.1
takes_process p x (k ∷ a ∷ c ∷ s ∷ []) more stands few many four there ok room all = absurd all.1.1.1.1
takes_process p x (k ∷ a ∷ c ∷ s ∷ r ∷ t ∷ ws) more stands few many four there ok room all = absurd all.1.1.1.1.1

-- ---- items

in_events : (n : ℕ) → within 1 max_events n ≡ true → (is_outside 1 max_events n ≡ false) × (min n max_events ≡ n) × (n < 2 ^ 64)
in_events n e =
    let both = and_parts (leb 1 n) (leb n 4194304) e in
    let low = leb-true 1 n both.0 in
    let high = leb-true n 4194304 both.1 in
    (range_in 1 4194304 n low high, omega (arith, high), omega (arith, high))

-- the events of the items are few enough
abbrev pub HasRoom : Place → List Item → Type 0
HasRoom p is = p.used + sum_by (events_of (config_in p)) is ≤ max_events

not_past : (used count : ℕ) → used + count ≤ max_events → is_past used count ≡ false
not_past used count le = le-ltb 4194304 (used + count) le

single : (k : Config) (i : Item) (n : ℕ) → events_of k i ≡ n → sum_by (events_of k) (i ∷ []) ≡ n
single k i n e =
    let none : sum_by (events_of k) [] ≡ 0 = refl in
    omega (arith, sum_by-cons (events_of k) i [], e, none)

-- an event word is in the form, is spelled and in its ranges
record IsTakenEvent (p : Place) (w : Text) (i : Item) : Type 0 where
  form : is_no_event w ≡ false
  spelled : is_misspelt_event w ≡ false
  range : is_outside_event p.processors (length p.table) w ≡ false
  item_is : event_item w ≡ i
  count_is : event_count w ≡ events_of (config_in p) i

event_taken : (p : Place) (w : Text) (i : Item) → length p.table ≤ 16 → p.processors ≤ 4 → IsEvent i → item_ok (config_in p) i ≡ true → SpellsWord w (event_word i) → IsTakenEvent p w i
event_taken p w (item.Mix x n) few four is ok s = absurd is
event_taken p w (item.Sweep n) few four is ok s = absurd is
event_taken p w (item.Events a c n) few four is ok s =
    let x = and_parts (ltb a p.processors && is_class (config_in p) c) (within 1 max_events n) ok in
    let y = and_parts (ltb a p.processors) (is_class (config_in p) c) x.0 in
    let la = ltb-true a p.processors y.0 in
    let lc = ltb-true c (length p.table) y.1 in
    let ln = in_events n x.1 in
    let va = value_is s.0 a s.4 (omega (arith, la, four)) in
    let vc = value_is s.1 c s.5 (omega (arith, lc, few)) in
    let vn = value_is s.2 n s.6 ln.2 in
    let parts = ap Rattle.config_text.specs.Rules.event_parts s.3 ∙ event_joined s.0 s.1 s.2 a c n s.4 s.5 s.6 in
    let processor_is : byte a ≡ a = omega (arith, la, four) in
    let class_is : byte c ≡ c = omega (arith, lc, few) in
    record {
      form = rw parts refl;
      spelled = rw (parts, va.spelled, vc.spelled, vn.spelled) refl;
      range = rw (parts, va.value, vc.value, vn.value, lt-leb p.processors a la, lt-leb (length p.table) c lc, ln.0) refl;
      item_is = rw (parts, va.value, vc.value, vn.value, processor_is, class_is, ln.1) refl;
      count_is = rw (parts, vn.value) refl;
    }

record AreTakenEvents (p : Place) (ws : List Text) (is : List Item) : Type 0 where
  form : list_any is_no_event ws ≡ false
  spelled : list_any is_misspelt_event ws ≡ false
  range : list_any (is_outside_event p.processors (length p.table)) ws ≡ false
  items_are : map event_item ws ≡ is
  count_is : sum_by event_count ws ≡ sum_by (events_of (config_in p)) is

events_taken : (p : Place) (ws : List Text) (is : List Item) → length p.table ≤ 16 → p.processors ≤ 4 → AllByRecursion IsEvent is → list_all (item_ok (config_in p)) is ≡ true → AllZip SpellsWord ws (map event_word is) → AreTakenEvents p ws is
events_taken p [] [] few four are ok all = record { form = refl; spelled = refl; range = refl; items_are = refl; count_is = refl }
events_taken p [] (i ∷ is) few four are ok all = absurd all
events_taken p (w ∷ ws) [] few four are ok all = absurd all
events_taken p (w ∷ ws) (i ∷ is) few four are ok all =
    let both = and_parts (item_ok (config_in p) i) (list_all (item_ok (config_in p)) is) ok in
    let e = event_taken p w i few four are.0 both.0 all.0 in
    let r = events_taken p ws is few four are.1 both.1 all.1 in
    record {
      form = rw (e.form, r.form) refl;
      spelled = rw (e.spelled, r.spelled) refl;
      range = rw (e.range, r.range) refl;
      items_are = rw (e.item_is, r.items_are) refl;
      count_is = omega (arith, sum_by-cons event_count w ws, sum_by-cons (events_of (config_in p)) i is, e.count_is, r.count_is);
    }

events_line : (p : Place) (ws : List Text) (is : List Item) (more : List Line) → 0 < length ws → AreTakenEvents p ws is → HasRoom p is → judged (events_tests p ws) (events_next p ws) ≡ place_is (with_items p is (sum_by (events_of (config_in p)) is))
events_line p [] is more some t room = absurd (omega (arith, some))
events_line p (w ∷ ws) is more some t room = rw (t.form, t.spelled, t.range, t.count_is, not_past p.used (sum_by (events_of (config_in p)) is) room, t.items_are) refl

pub takes_group : (p : Place) (g : List Item) (ws : List Text) (more : List Line) → may_stand p.stage kind.Events ≡ true → length p.table ≤ 16 → p.processors ≤ 4 → IsGroup g → list_all (item_ok (config_in p)) g ≡ true → HasRoom p g → AllZip SpellsWord ws (group_line g) →
    judged (body_tests p ws) (body_next p ws more) ≡ place_is (with_items p g (sum_by (events_of (config_in p)) g))
takes_group p [] ws more stands few four is ok room all = absurd is
takes_group p (item.Events a c n ∷ is) [] more stands few four are ok room all = absurd all
takes_group p (item.Events a c n ∷ is) (k ∷ []) more stands few four are ok room all = absurd all.1
takes_group p (item.Events a c n ∷ is) (k ∷ w ∷ ws) more stands few four are ok room all =
    takes_kind kind.Events (codes "events") k p (with_items p (item.Events a c n ∷ is) (sum_by (events_of (config_in p)) (item.Events a c n ∷ is))) (w ∷ ws) more of_events all.0 stands
    (events_line p (w ∷ ws) (item.Events a c n ∷ is) more (omega arith) (events_taken p (w ∷ ws) (item.Events a c n ∷ is) few four (tt, are) ok all.1) room)
takes_group p (item.Mix x n ∷ i ∷ is) ws more stands few four are ok room all = absurd are
takes_group p (item.Sweep n ∷ i ∷ is) ws more stands few four are ok room all = absurd are
takes_group p (item.Mix x n ∷ []) (k ∷ a ∷ b ∷ []) more stands few four are ok room all =
    let y = and_parts (ltb x 18446744073709551616 && within 1 max_events n) true ok in
    let z = and_parts (ltb x 18446744073709551616) (within 1 max_events n) y.0 in
    let ln = in_events n z.1 in
    let va = value_is a x all.1.0 (omega (arith, ltb-true x 18446744073709551616 z.0)) in
    let vb = value_is b n all.1.1.0 ln.2 in
    let sum = single (config_in p) (item.Mix x n) n refl in
    takes_kind kind.Mix (codes "mix") k p (with_items p (item.Mix x n ∷ []) (sum_by (events_of (config_in p)) (item.Mix x n ∷ []))) (a ∷ b ∷ []) more of_mix all.0 stands
    (rw (va.spelled, vb.spelled, va.value, vb.value, ln.0, ln.1, sum, not_past p.used n (omega (arith, room, sum))) refl)
takes_group p (item.Mix x n ∷ []) [] more stands few four are ok room all = absurd all
takes_group p (item.Mix x n ∷ []) (k ∷ []) more stands few four are ok room all = absurd all.1
takes_group p (item.Mix x n ∷ []) (k ∷ a ∷ []) more stands few four are ok room all = absurd all.1.1
takes_group p (item.Mix x n ∷ []) (k ∷ a ∷ b ∷ d ∷ ws) more stands few four are ok room all = absurd all.1.1.1
takes_group p (item.Sweep n ∷ []) (k ∷ a ∷ []) more stands few four are ok room all =
    let y = and_parts (within 1 max_events n) true ok in
    let ln = in_events n y.0 in
    let va = value_is a n all.1.0 ln.2 in
    let sum = single (config_in p) (item.Sweep n) (sweep_events p n) refl in
    takes_kind kind.Sweep (codes "sweep") k p (with_items p (item.Sweep n ∷ []) (sum_by (events_of (config_in p)) (item.Sweep n ∷ []))) (a ∷ []) more of_sweep all.0 stands
    (rw (va.spelled, va.value, ln.0, ln.1, sum, not_past p.used (sweep_events p n) (subst (λ (x : ℕ). p.used + x ≤ max_events) sum room)) refl)
takes_group p (item.Sweep n ∷ []) [] more stands few four are ok room all = absurd all
takes_group p (item.Sweep n ∷ []) (k ∷ []) more stands few four are ok room all = absurd all.1
takes_group p (item.Sweep n ∷ []) (k ∷ a ∷ b ∷ ws) more stands few four are ok room all = absurd all.1.1
