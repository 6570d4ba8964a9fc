-- Each step leaves words of 64 bits, and so does the opening.
use Rattle.std.proofs.Common.{ℕ, zero, suc, ◌+◌, ◌%◌, ◌^◌, ◌++◌, ◌≤◌, ◌<◌, Bool, true, false, ◌&&◌, List, [], ◌∷◌, ◌≡◌, inl, inr, refl, sym, ap, subst, ◌∙◌, Option, Some, None, arith, length}
use Rattle.std.specs.Prelude.{◌==◌, if◌then◌else◌, nat_lt, nat_le, slice_index_or, slice_set, replicate, unwrap_or, is_none, count_by, IfSome}
use Rattle.std.specs.List.{AllByRecursion, position, list_all}
use Rattle.std.specs.Option.{option_map, option_and_then}
use Rattle.std.proofs.Math.ListN.{get_or-map}
use Rattle.std.proofs.lemmas.Bool.{and_parts, leb-true}
use Rattle.std.proofs.lemmas.List.{length-set}
use Rattle.std.proofs.lemmas.List.Quantifiers.{position-Some}
use Rattle.labels.specs.Label.{label_of}
use Rattle.lists.specs.Lists.{put, overwrite, part_of}
use Rattle.rings.specs.Brackets.{Brackets, in_order}
use Rattle.words_layout.specs.Segments.{seg}
use Rattle.words_layout.specs.declared.segment.SegId.{SegId}
use Rattle.words_layout.specs.declared.coding.Alias.{Alias}
use Rattle.policy.specs.Known.{Known, new_alias, alias_brackets, known_by, rights_of}
use Rattle.policy.specs.Outcome.{Outcome, Refused, Value, Looked, Counted, Printed, Tally, tallied, shown, judged}
use Rattle.policy.specs.Verdict.{verdict}
use Rattle.policy.specs.declared.rule.Rule.{Rule}
use Rattle.policy.specs.declared.rule.Rule.TheVariants.{ConsoleFull, NoSlot}
use Rattle.class_model.specs.Config.{Config, SegRecord, Script, Gate, shared_of, instr_at, program_of}
use Rattle.class_model.specs.Process.{Process, ProcName, refused, answered, settled, new_process}
use Rattle.class_model.specs.Plan.{Plan, Own, Begin, Ask, Request, MakeKnown, Create, Delete, SwapIn, SwapOut, Fetch, Update, Read, Advance, Ticket, Out, plan}
use Rattle.class_model.specs.Run.{steps, run, opening, record_of, kept_of, opening_home, opening_slots}
use Rattle.class_model.specs.State.{State, Part, Cell, CellHome, Never, Stored, In, Deleted, with_cell, with_part, with_process, process_at, cell_at, cell_of, entry_at, live_of, live_words}
use Rattle.class_model.specs.Step.{Effect, chosen, effect, delete_effect, deleted, emptied, with_entry, deed_of, deed_by, done, step, begun}
use Rattle.class_model.specs.Valid.{IsConfig, gate_ok, at_place, uses_script}
use Rattle.script_lang.specs.declared.instr.Instr.TheVariants.{Halt}
use Rattle.machine.specs.Machine.{slot_at}
use Rattle.machine.specs.Opening.{opening_vp}
use Rattle.process.specs.Running.{Running}
use Rattle.flow_laws.proofs.OpeningFits.{FromLine, from_line}
use Rattle.flow_laws.proofs.Sound.{all_or}
use Rattle.effect_laws.proofs.Good.{Good, at_rest}
use Rattle.effect_laws.proofs.GateData.{put-seg-both}
use Rattle.effect_laws.proofs.GoodStep.{good_step}
use Rattle.effect_laws.proofs.Growing.{set-read, by_put}
use Rattle.effect_laws.proofs.OpeningGood.{opening_good}
use Rattle.volume_laws.specs.Sound.{InstrSmall, HasWords}
use Rattle.volume_laws.proofs.Members.{Has, find_some}
use Rattle.volume_laws.proofs.Words.{AreSmall, small_overwrite, small_zeros, small_part, part_short, ProcessSmall, RequestSmall, PlanSmall, OutcomeSmall, SharedSmall, refused_small, answered_small, settled_small, new_small, plan_small}

-- the live and the stored words of a cell
pub record CellSmall (cell : Cell) : Type 0 where
  pub live : (words : List ℕ) → cell.home ≡ In words → AreSmall words
  pub stored : (words : List ℕ) → cell.stored ≡ Some words → AreSmall words

pub record Small (a : State) : Type 0 where
  pub shared : SharedSmall a.shared
  pub cells : (c : ℕ) (u : SegId) → CellSmall (cell_at a c u)
  pub processes : (name : ProcName) (p : Process) → process_at a name ≡ Some p → ProcessSmall p
  pub slots : (c p : ℕ) → length ((a.part c).slots p) ≤ 4

-- ---- effects

pub record EffectSmall (a : State) (d : ℕ) (e : Effect) : Type 0 where
  pub cells : (u : SegId) → CellSmall (e.part.cell u)
  pub slots : e.part.slots ≡ (a.part d).slots
  pub outcome : OutcomeSmall e.outcome

live_small : (h : CellHome) → ((words : List ℕ) → h ≡ In words → AreSmall words) → AreSmall (live_of h)
live_small (In words) h = h words refl
live_small Never h = tt
live_small Stored h = tt
live_small Deleted h = tt

live_short : (h : CellHome) → ((words : List ℕ) → h ≡ In words → length words ≤ 64) → length (live_of h) ≤ 64
live_short (In words) h = h words refl
live_short Never h = omega arith
live_short Stored h = omega arith
live_short Deleted h = omega arith

cell_with : (part : Part) → ((u : SegId) → CellSmall (part.cell u)) → (u : SegId) (cell : Cell) → CellSmall cell → (v : SegId) → CellSmall ((with_cell part u cell).cell v)
cell_with part all u cell h v = put-seg-both (λ v (c : Cell). CellSmall c) part.cell u v cell (λ e. h) (λ e. all v)

module _ (n : ℕ) (few : n + 1 < 2 ^ 64) (a : State) (good : Good n a) (small : Small a) (d : ℕ) (ring : ℕ) where
  here : (u : SegId) → CellSmall ((a.part d).cell u)
  here u = small.cells d u

  tested : (r : Option Rule) (e : Effect) → EffectSmall a d e → EffectSmall a d (chosen (a.part d) r e)
  tested None e h = h
  tested (Some rule) e h = record { cells = here; slots = refl; outcome = tt }

  with_one : (u : SegId) (cell : Cell) (o : Outcome) → CellSmall cell → OutcomeSmall o → EffectSmall a d (record { part = with_cell (a.part d) u cell; outcome = o })
  with_one u cell o h l = record { cells = cell_with (a.part d) here u cell h; slots = refl; outcome = l }

  create_small : (u : SegId) (e class : ℕ) (b : Brackets) (size : ℕ) → EffectSmall a d (Rattle.class_model.specs.Step.create_effect (a.part d) u e class b size)
  create_small u e class b size = tested _ _ made
    where
      serial : (a.part d).next_serial < 2 ^ 64
      serial = let s = good.serials d in omega (arith, s)

      made : EffectSmall a d (record {
        part = record (with_cell (a.part d) u (with_entry ((a.part d).cell u) e (Some (new_alias class b size (a.part d).next_serial)))) { next_serial = (a.part d).next_serial + 1 };
        outcome = Value (a.part d).next_serial;
      })
      made = record {
        cells = cell_with (a.part d) here u (with_entry ((a.part d).cell u) e (Some (new_alias class b size (a.part d).next_serial))) (record { live = (here u).live; stored = (here u).stored });
        slots = refl;
        outcome = serial;
      }

  emptied_small : (part : Part) → ((v : SegId) → CellSmall (part.cell v)) → (u : SegId) (e : ℕ) (v : SegId) → CellSmall ((emptied part u e).cell v)
  emptied_small part all u e = cell_with part all u (with_entry (part.cell u) e None) (record { live = (all u).live; stored = (all u).stored })

  delete_small : (u : SegId) (e : ℕ) (o : Option Alias) → EffectSmall a d (delete_effect d (a.part d) u e o)
  delete_small u e None = record { cells = here; slots = refl; outcome = tt }
  delete_small u e (Some x) = tested _ _ (by_class (seg d x.serial) (x.class == d))
    where
      by_class : (child : SegId) (b : Bool) → EffectSmall a d (record { part = emptied (if b then deleted (a.part d) child else a.part d) u e; outcome = Value 0 })
      by_class child true = record {
        cells = emptied_small (deleted (a.part d) child) (cell_with (a.part d) here child (record ((a.part d).cell child) { home = Deleted; stored = None }) (record { live = λ words h. absurd (cc); stored = λ words h. absurd (cc) })) u e;
        slots = refl;
        outcome = omega arith;
      }
      by_class child false = record { cells = emptied_small (a.part d) here u e; slots = refl; outcome = omega arith }

  in_small : (cell : Cell) (words : List ℕ) (writes : ℕ) → CellSmall cell → AreSmall words → CellSmall (record cell { home = In words; writes = writes })
  in_small cell words writes h w = record { live = λ x e. (let same : words ≡ x = cc in subst AreSmall same w); stored = h.stored }

  brought : (o : Option (List ℕ)) (size : ℕ) → ((words : List ℕ) → o ≡ Some words → AreSmall words) → AreSmall (unwrap_or o (replicate size 0))
  brought None size h = small_zeros size
  brought (Some words) size h = h words refl

  out_small : (cell : Cell) → CellSmall cell → CellSmall (record cell { home = Stored; stored = Some (live_words cell) })
  out_small cell h = record { live = λ x e. absurd (cc); stored = λ x e. (let same : live_words cell ≡ x = cc in subst AreSmall same (live_small cell.home h.live)) }

  tallied_small : (m wanted : ℕ) (x : Tally) (value : ℕ) → OutcomeSmall (tallied m wanted x value)
  tallied_small m wanted x value = first (nat_lt (x.seen + 1) m) (nat_lt ((x.sum + value) % 2 ^ 64) wanted)
    where
      first : (b c : Bool) → OutcomeSmall (if b then Looked (Some (record { seen = x.seen + 1; sum = (x.sum + value) % 2 ^ 64 })) else (if c then Looked None else Counted ((x.sum + value) % 2 ^ 64)))
      first true c = tt
      first false true = tt
      first false false = omega arith

  shown_small : (m mode : ℕ) (o : Option Alias) → OutcomeSmall (shown a.shared.table d ring m mode o)
  shown_small m mode None = tt
  shown_small m mode (Some x) = by_rule (verdict (label_of a.shared.table d) ring (label_of a.shared.table x.class) (alias_brackets x) mode)
    where
      by_rule : (v : Option Rule) → OutcomeSmall (judged v (known_by m x (rights_of mode)))
      by_rule None = tt
      by_rule (Some rule) = tt

  fetched : (k : Known) (offset count : ℕ) → AreSmall (part_of (live_words (cell_of a k)) offset count) × (length (part_of (live_words (cell_of a k)) offset count) < 2 ^ 64)
  fetched k offset count =
      let all = live_small (cell_of a k).home (small.cells k.class k.seg).live in
      let few = live_short (cell_of a k).home (λ words e. ((good.cells k.class k.seg).live words e).in_range.1) in
      let short = part_short (live_words (cell_of a k)) offset count in
      (small_part (live_words (cell_of a k)) offset count all, omega (arith, few, short))

  pub effect_small : (q : Request) → RequestSmall q → EffectSmall a d (effect a d ring q)
  effect_small (MakeKnown k e mode) h = record { cells = here; slots = refl; outcome = shown_small k.class mode (entry_at (cell_of a k) e) }
  effect_small (Create k e class b size) h = create_small k.seg e class b size
  effect_small (Delete k e) h = delete_small k.seg e (entry_at ((a.part d).cell k.seg) e)
  effect_small (SwapIn k) h = tested _ _ (with_one k.seg (record ((a.part d).cell k.seg) { home = In (unwrap_or ((a.part d).cell k.seg).stored (replicate k.size 0)) }) (Value 0)
      (in_small ((a.part d).cell k.seg) (unwrap_or ((a.part d).cell k.seg).stored (replicate k.size 0)) ((a.part d).cell k.seg).writes (here k.seg) (brought ((a.part d).cell k.seg).stored k.size (here k.seg).stored)) (omega arith))
  effect_small (SwapOut k) h = tested _ _ (with_one k.seg (record ((a.part d).cell k.seg) { home = Stored; stored = Some (live_words ((a.part d).cell k.seg)) }) (Value 0) (out_small ((a.part d).cell k.seg) (here k.seg)) (omega arith))
  effect_small (Fetch k offset count pad) h = tested _ _ (record { cells = here; slots = refl; outcome = fetched k offset count })
  effect_small (Update k offset words) h = tested _ _ (with_one k.seg (record ((a.part d).cell k.seg) { home = In (overwrite (live_words ((a.part d).cell k.seg)) offset words); writes = ((a.part d).cell k.seg).writes + 1 })
      (Value (((a.part d).cell k.seg).writes + 1))
      (in_small ((a.part d).cell k.seg) (overwrite (live_words ((a.part d).cell k.seg)) offset words) (((a.part d).cell k.seg).writes + 1) (here k.seg)
      (small_overwrite (live_words ((a.part d).cell k.seg)) offset words (live_small ((a.part d).cell k.seg).home (here k.seg).live) h))
      (let w = (good.cells d k.seg).writes in omega (arith, w, few)))
  effect_small (Read k wanted t) h = record { cells = here; slots = refl; outcome = tallied_small _ wanted t _ }
  effect_small (Advance k) h = record { cells = here; slots = refl; outcome = (let c = good.components d k.class k.seg in omega (arith, c, few)) }
  effect_small (Ticket k) h = with_one k.seg (record ((a.part d).cell k.seg) { sequencer = ((a.part d).cell k.seg).sequencer + 1 }) (Value ((a.part d).cell k.seg).sequencer)
      (record { live = (here k.seg).live; stored = (here k.seg).stored }) (let c = (good.cells d k.seg).sequencer in omega (arith, c, few))
  effect_small (Out value) h = by_room (nat_lt (a.part d).used a.shared.console)
    where
      by_room : (b : Bool) → EffectSmall a d
          (if b then record { part = record (a.part d) { lines = (a.part d).lines ++ value ∷ []; used = (a.part d).used + 1 }; outcome = Printed (a.part d).used value }
          else record { part = record (a.part d) { used = (a.part d).used + 1 }; outcome = Refused ConsoleFull })
      by_room true = record { cells = here; slots = refl; outcome = (let c = good.used d in omega (arith, c, few)) }
      by_room false = record { cells = here; slots = refl; outcome = tt }

-- ---- a step

-- slots of small processes, of which there are four at most
pub record SlotsSmall (slots : ℕ → List (Option Process)) : Type 0 where
  pub processes : (x j : ℕ) (r : Process) → slice_index_or (slots x) j None ≡ Some r → ProcessSmall r
  pub few : (x : ℕ) → length (slots x) ≤ 4

slot_small : (slots : ℕ → List (Option Process)) (p i : ℕ) (q : Process) → ProcessSmall q → SlotsSmall slots → SlotsSmall (put slots p (slice_set (slots p) i (Some q)))
slot_small slots p i q small all = record {
  processes = λ x j r. by_put (λ x (z : List (Option Process)). slice_index_or z j None ≡ Some r → ProcessSmall r) slots p (slice_set (slots p) i (Some q)) x
      (λ h. elim (set-read (slots p) i j (Some q) r h) [
        | inl e ↦ (let same : q ≡ r = cc in subst ProcessSmall same small)
        | inr e ↦ all.processes p j r e
      ])
      (λ e. all.processes x j r);
  few = λ x. by_put (λ x (z : List (Option Process)). length z ≤ 4) slots p (slice_set (slots p) i (Some q)) x
      (let l = length-set (slots p) i (Some q) in let m = all.few p in omega (arith, l, m)) (λ e. all.few x);
}

small_with : (a : State) → Small a → (d : ℕ) (X : Part) → ((u : SegId) → CellSmall (X.cell u)) → SlotsSmall X.slots → Small (with_part a d X)
small_with a small d X cells slots = record {
  shared = small.shared;
  cells = λ c u. by_put (λ c (z : Part). CellSmall (z.cell u)) a.part d X c (cells u) (λ e. small.cells c u);
  processes = λ name p. by_put (λ c (z : Part). slice_index_or (z.slots name.processor) name.slot None ≡ Some p → ProcessSmall p) a.part d X name.class
      (slots.processes name.processor name.slot p) (λ e h. small.processes name p h);
  slots = λ c p. by_put (λ c (z : Part). length (z.slots p) ≤ 4) a.part d X c (slots.few p) (λ e. small.slots c p);
}

module _ (n : ℕ) (few : n + 1 < 2 ^ 64) (a : State) (good : Good n a) (small : Small a) (name : ProcName) (p : Process) (there : process_at a name ≡ Some p) where
  own : ProcessSmall p
  own = small.processes name p there

  slots_here : SlotsSmall (a.part name.class).slots
  slots_here = record { processes = λ x j r h. small.processes (record { processor = x; class = name.class; slot = j }) r h; few = small.slots name.class }

  cells_here : (u : SegId) → CellSmall ((a.part name.class).cell u)
  cells_here u = small.cells name.class u

  begun_small : (child : Process) → ProcessSmall child → (o : Option ℕ) → position (λ (q : Option Process). is_none q) ((a.part name.class).slots name.processor) ≡ o →
      Small (with_part a name.class (begun (a.part name.class) name p child o))
  begun_small child new None e = small_with a small name.class _ cells_here (slot_small (a.part name.class).slots name.processor name.slot (refused p NoSlot) (refused_small p own NoSlot) slots_here)
  begun_small child new (Some slot) e = small_with a small name.class _ cells_here
      (slot_small (with_process (a.part name.class) name.processor name.slot (answered p slot)).slots name.processor slot child new
      (slot_small (a.part name.class).slots name.processor name.slot (answered p slot) (answered_small p own slot place) slots_here))
    where
      place : slot < 2 ^ 64
      place =
          let lt = (position-Some (λ (q : Option Process). is_none q) ((a.part name.class).slots name.processor) slot None e).0 in
          let m = small.slots name.class name.processor in omega (arith, lt, m)

  asked_small : (q : Request) → RequestSmall q →
      Small (with_part a name.class (with_process (effect a name.class p.ring q).part name.processor name.slot (settled p (effect a name.class p.ring q).outcome)))
  asked_small q h = small_with a small name.class (with_process (effect a name.class p.ring q).part name.processor name.slot (settled p (effect a name.class p.ring q).outcome)) ok.cells
      (slot_small (effect a name.class p.ring q).part.slots name.processor name.slot (settled p (effect a name.class p.ring q).outcome) (settled_small p own (effect a name.class p.ring q).outcome ok.outcome)
      (subst SlotsSmall (sym ok.slots) slots_here))
    where
      ok : EffectSmall a name.class (effect a name.class p.ring q)
      ok = effect_small n few a good small name.class p.ring q h

  by_plan : (y : Plan) → PlanSmall y → Small (with_part a name.class (deed_of a name p y).part)
  by_plan (Own after) h = small_with a small name.class _ cells_here (slot_small (a.part name.class).slots name.processor name.slot after h slots_here)
  by_plan (Begin child) h = begun_small child h (position (λ q. is_none q) ((a.part name.class).slots name.processor)) refl
  by_plan (Ask q) h = asked_small q h

  by_live : (b : Bool) → Small (done a name.class (if b then Some (deed_of a name p (plan a.shared name.class p)) else None))
  by_live true = by_plan (plan a.shared name.class p) (plan_small a.shared name.class p own small.shared)
  by_live false = small

small_step : (n : ℕ) → n + 1 < 2 ^ 64 → (a : State) (name : ProcName) → Good n a → Small a → Small (step a name)
small_step n few a name good small = by_process (process_at a name) refl
  where
    by_process : (o : Option Process) → process_at a name ≡ o → Small (done a name.class (deed_by a name o))
    by_process None e = small
    by_process (Some p) e = by_live n few a good small name p e p.live

-- ---- the opening

of_all : {X : Type 0} (P : X → Type 0) (xs : List X) (x : X) → AllByRecursion P xs → Has x xs → P x
of_all P [] x h m = absurd m
of_all P (y ∷ xs) x h (inl e) = subst P e h.0
of_all P (y ∷ xs) x h (inr m) = of_all P xs x h.1 m

at_all : {X : Type 0} (P : X → Type 0) (xs : List X) (i : ℕ) (d : X) → AllByRecursion P xs → P d → P (slice_index_or xs i d)
at_all P [] i d h e = e
at_all P (x ∷ xs) zero d h e = h.0
at_all P (x ∷ xs) (suc i) d h e = at_all P xs i d h.1 e

module _ (k : Config) (valid : IsConfig k) (words : HasWords k) where
  kept_small : (c : ℕ) (u : SegId) (ws : List ℕ) → kept_of k c u ≡ Some ws → AreSmall ws
  kept_small c u ws h = by_record (record_of k c u) refl h
    where
      by_record : (o : Option SegRecord) → record_of k c u ≡ o → option_and_then (λ (r : SegRecord). r.kept) o ≡ Some ws → AreSmall ws
      by_record None e g = cc
      by_record (Some r) e g = subst (λ (o : Option (List ℕ)). IfSome o AreSmall) g (of_all (λ (r : SegRecord). IfSome r.kept AreSmall) k.records r words.kept (find_some _ k.records r e).0)

  opening_cells : (c : ℕ) (u : SegId) → CellSmall (cell_at (opening k) c u)
  opening_cells c u = record { live = λ ws h. not_in (kept_of k c u) ws h; stored = kept_small c u }
    where
      not_in : (o : Option (List ℕ)) (ws : List ℕ) → opening_home o ≡ In ws → AreSmall ws
      not_in None ws h = cc
      not_in (Some x) ws h = cc

  opening_processes : (name : ProcName) (p : Process) → process_at (opening k) name ≡ Some p → ProcessSmall p
  opening_processes name p h = subst ProcessSmall is_new (new_small name.class line.line.script line.line.ring 0 ring_small (omega arith))
    where
      slot : slot_at (opening_vp k name.class name.processor) name.slot ≡ Some (at_rest p)
      slot = get_or-map (option_map at_rest) (opening_slots k name.class name.processor) name.slot None ∙ ap (option_map at_rest) h

      line : FromLine k name.class name.processor (at_rest p)
      line = from_line k valid name.class name.processor name.slot (at_rest p) slot

      is_new : new_process name.class line.line.script line.line.ring 0 ≡ p
      is_new = ap (λ (r : Running). r.process) line.is

      ring_small : line.line.ring < 2 ^ 64
      ring_small =
          let a1 = and_parts _ (nat_le (count_by (λ (y : Rattle.class_model.specs.Config.ProcessLine). y.processor == line.line.processor && y.class == line.line.class) k.processes) 4) line.ok in
          let a2 = and_parts _ (uses_script k line.line.class line.line.script) a1.0 in
          let a3 = and_parts _ (nat_le line.line.ring 7) a2.0 in
          let le : line.line.ring ≤ 7 = leb-true line.line.ring 7 a3.1 in omega (arith, le)

  opening_scripts : (script place : ℕ) → InstrSmall (instr_at (shared_of k) script place)
  opening_scripts script place = at_all InstrSmall (program_of (slice_index_or k.scripts script None)) place Halt (program_small (slice_index_or k.scripts script None)
      (at_all (λ o. IfSome o (λ (x : Script). AllByRecursion InstrSmall x.program)) k.scripts script None words.constants tt)) tt
    where
      program_small : (o : Option Script) → IfSome o (λ (x : Script). AllByRecursion InstrSmall x.program) → AllByRecursion InstrSmall (program_of o)
      program_small None h = tt
      program_small (Some x) h = h

  opening_gates : (n : ℕ) (g : Gate) → slice_index_or k.gates n None ≡ Some g → g.brackets.r2 < 2 ^ 64
  opening_gates n g e =
      let all = and_parts (nat_le (length k.gates) 32) (list_all (at_place (gate_ok k)) k.gates) valid.gates in
      let ok : at_place (gate_ok k) (Some g) ≡ true = rw e at (all_or (at_place (gate_ok k)) k.gates n None all.1 refl) in
      let order = (and_parts _ (in_order g.brackets) ok).1 in
      let a1 = and_parts (nat_le g.brackets.r1 g.brackets.r2 && nat_le g.brackets.r2 g.brackets.r3) (nat_le g.brackets.r3 7) order in
      let a2 = and_parts (nat_le g.brackets.r1 g.brackets.r2) (nat_le g.brackets.r2 g.brackets.r3) a1.0 in
      let low : g.brackets.r2 ≤ g.brackets.r3 = leb-true _ _ a2.1 in
      let high : g.brackets.r3 ≤ 7 = leb-true _ 7 a1.1 in
      omega (arith, low, high)

  pub opening_small : Small (opening k)
  opening_small = record {
    shared = record { scripts = opening_scripts; gates = opening_gates };
    cells = opening_cells;
    processes = opening_processes;
    slots = λ c p. omega arith;
  }

-- ---- a run

small_steps : (names : List ProcName) (n : ℕ) → n + length names < 2 ^ 64 → (a : State) → Good n a → Small a → Small (steps a names)
small_steps [] n few a good small = small
small_steps (x ∷ names) n few a good small =
    let l : length (x ∷ names) ≡ length names + 1 = omega arith in
    small_steps names (n + 1) (omega (arith, few, l)) (step a x) (good_step n a x good) (small_step n (omega (arith, few, l)) a x good small)

pub small_run : (k : Config) → IsConfig k → HasWords k → (names : List ProcName) → length names < 2 ^ 64 → Small (run k names)
small_run k valid words names few = small_steps names 0 (omega (arith, few)) (opening k) (opening_good k valid) (opening_small k valid words)
