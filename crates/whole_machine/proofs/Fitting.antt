-- What a step does keeps the entries and known places fit.
use Rattle.std.proofs.Common.{ℕ, zero, suc, ◌≡◌, ◌<◌, ◌+◌, ◌⊎◌, inl, inr, Bool, true, false, List, [], ◌∷◌, ◌++◌, refl, sym, ◌∙◌, ap, subst, Option, Some, None, length, length-set}
use Rattle.std.specs.Prelude.{if◌then◌else◌, ◌==◌, slice_index_or, slice_set, replicate, nat_lt, ◌%◌, ◌^◌}
use Rattle.std.proofs.lemmas.Bool.{eqb-true}
use Rattle.lists.specs.Lists.{put}
use Rattle.labels.specs.Label.{ClassEntry, label_of}
use Rattle.rings.specs.Brackets.{Brackets, in_order}
use Rattle.words_layout.specs.Segments.{same_seg}
use Rattle.words_layout.specs.declared.segment.SegId.{SegId}
use Rattle.words_layout.specs.declared.coding.Alias.{Alias}
use Rattle.policy.specs.Known.{Known, new_alias, known_by, rights_of, alias_brackets}
use Rattle.policy.specs.Outcome.{Outcome, Refused, Value, Learns, Words, Printed, Looked, Counted, Tally, judged, shown, tallied}
use Rattle.policy.specs.Private.{brackets_of}
use Rattle.policy.specs.Verdict.{verdict}
use Rattle.policy.specs.declared.rule.Rule.{Rule}
use Rattle.policy.specs.declared.rule.Rule.TheVariants.{ConsoleFull}
use Rattle.class_model.specs.Config.{Shared}
use Rattle.class_model.specs.Process.{Process, ProcName, known_at, free_known, learned, settled, new_process, root_known, reply, answered}
use Rattle.class_model.specs.Next.{InRange, request_of}
use Rattle.class_model.specs.declared.request.Request.{Request as Asked}
use Rattle.class_model.specs.declared.request.Request.TheVariants as A
use Rattle.class_model.specs.State.{State, Part, Cell, entry_at, cell_of, with_cell, with_process}
use Rattle.class_model.specs.Step.{Effect, chosen, with_entry, deleted, effect, begun, delete_effect, create_effect, out_effect}
use Rattle.whole_machine.specs.Fits.{IsEntry, ProcessFits, PartFits}

-- what is read of a list with one place changed
set_read : {X : Type 0} (l : List (Option X)) (i j : ℕ) (x : Option X) (r : X) → slice_index_or (slice_set l i x) j None ≡ Some r → (x ≡ Some r) ⊎ (slice_index_or l j None ≡ Some r)
set_read [] i j x r h = inr h
set_read (y ∷ ys) zero zero x r h = inl h
set_read (y ∷ ys) zero (suc j) x r h = inr h
set_read (y ∷ ys) (suc i) zero x r h = inr h
set_read (y ∷ ys) (suc i) (suc j) x r h = set_read ys i j x r h

-- what holds of what is put and of what was there holds after it
pub by_put : {X : Type 0} (P : ℕ → X → Type 0) (f : ℕ → X) (d : ℕ) (x : X) (c : ℕ) → P d x → P c (f c) → P c (put f d x c)
by_put P f d x c here there = elim (c == d) as (λ b. (c == d) ≡ b → P c (if b then x else f c)) [
  | true ↦ λ e. subst (λ z. P z x) (sym (eqb-true c d e)) here
  | false ↦ λ e. there
] refl

-- a new process knows the root alone
pub new_knows : (d n ring start j : ℕ) (k : Known) → known_at (new_process d n ring start) j ≡ Some k → root_known d ≡ k
new_knows d n ring start zero k h = cc
new_knows d n ring start (suc j) k h = absurd (nothing 15 j h)
  where
    nothing : (m i : ℕ) → slice_index_or (replicate m (let o : Option Known = None in o)) i None ≡ Some k → ⊥
    nothing zero i h = cc
    nothing (suc m) zero h = cc
    nothing (suc m) (suc i) h = nothing m i h

-- the class of what is learnt is one of n
abbrev pub LearnsBelow : ℕ → Outcome → Type 0
LearnsBelow n (Learns k) = k.class < n
LearnsBelow n _ = Unit {0}

module _ (n : ℕ) where
  -- a new process knows a class of the table
  pub new_fits : (d script ring start : ℕ) → 0 < n → ProcessFits n (new_process d script ring start)
  new_fits d script ring start some = record {
    knows = λ i k h. (let e : root_known d ≡ k = new_knows d script ring start i k h in subst (λ (x : Known). x.class < n) e some);
    regs = refl;
  }

  reply_regs : (p : Process) (code value : ℕ) → length p.regs ≡ 16 → length (reply p code value).regs ≡ 16
  reply_regs p code value h = length-set (slice_set p.regs 0 code) 1 value ∙ length-set p.regs 0 code ∙ h

  learned_fits : (p : Process) (k : Known) → ProcessFits n p → k.class < n → (o : Option ℕ) → ProcessFits n (learned p k o)
  learned_fits p k h lt None = record { knows = h.knows; regs = reply_regs p _ 0 h.regs }
  learned_fits p k h lt (Some place) = record {
    knows = λ j x e. elim (set_read p.known place j (Some k) x e) [
      | inl z ↦ (let same : k ≡ x = cc in subst (λ (y : Known). y.class < n) same lt)
      | inr z ↦ h.knows j x z
    ];
    regs = reply_regs p 0 place h.regs;
  }

  pub settled_fits : (p : Process) (o : Outcome) → ProcessFits n p → LearnsBelow n o → ProcessFits n (settled p o)
  settled_fits p (Learns k) h lt = learned_fits p k h lt (free_known p)
  settled_fits p (Refused rule) h lt = record { knows = h.knows; regs = reply_regs p _ 0 h.regs }
  settled_fits p (Value v) h lt = record { knows = h.knows; regs = reply_regs p 0 v h.regs }
  settled_fits p (Words at ws) h lt = record { knows = h.knows; regs = reply_regs p 0 _ h.regs }
  settled_fits p (Printed place v) h lt = record { knows = h.knows; regs = reply_regs p 0 place h.regs }
  settled_fits p (Looked tally) h lt = record { knows = h.knows; regs = h.regs }
  settled_fits p (Counted sum) h lt = record { knows = h.knows; regs = reply_regs p 0 sum h.regs }

  pub fits_process : (part : Part) (pr sl : ℕ) (q : Process) → PartFits n part → ProcessFits n q → PartFits n (with_process part pr sl q)
  fits_process part pr sl q f k = record {
    entries = f.entries;
    processes = λ x j r. by_put (λ x (z : List (Option Process)). slice_index_or z j None ≡ Some r → ProcessFits n r) part.slots pr (slice_set (part.slots pr) sl (Some q)) x
        (λ h. elim (set_read (part.slots pr) sl j (Some q) r h) [
          | inl e ↦ (let same : q ≡ r = cc in subst (ProcessFits n) same k)
          | inr e ↦ f.processes pr j r e
        ])
        (f.processes x j r);
  }

  pub fits_begun : (part : Part) (name : ProcName) (p child : Process) (o : Option ℕ) → PartFits n part → ProcessFits n p → ProcessFits n child → PartFits n (begun part name p child o)
  fits_begun part name p child None f k c = fits_process part name.processor name.slot _ f (record { knows = k.knows; regs = reply_regs p _ 0 k.regs })
  fits_begun part name p child (Some slot) f k c =
      fits_process _ name.processor slot child (fits_process part name.processor name.slot (answered p slot) f (record { knows = k.knows; regs = reply_regs p 0 slot k.regs })) c

  CellFits : Cell → Type 0
  CellFits cell = (e : ℕ) (a : Alias) → entry_at cell e ≡ Some a → IsEntry n a

  pub fits_cell : (part : Part) (u : SegId) (cell : Cell) → PartFits n part → ((e : ℕ) (a : Alias) → entry_at cell e ≡ Some a → IsEntry n a) → PartFits n (with_cell part u cell)
  fits_cell part u cell f k = record {
    entries = λ v e a. elim (same_seg v u) as (λ t. entry_at (if t then cell else part.cell v) e ≡ Some a → IsEntry n a) [ true ↦ k e a | false ↦ f.entries v e a ];
    processes = f.processes;
  }

  pub fits_entry : (part : Part) (u : SegId) (e : ℕ) (o : Option Alias) → PartFits n part → ((a : Alias) → o ≡ Some a → IsEntry n a) → PartFits n (with_cell part u (with_entry (part.cell u) e o))
  fits_entry part u e o f k = fits_cell part u (with_entry (part.cell u) e o) f (λ j a h. elim (set_read (part.cell u).entries e j o a h) [
    | inl z ↦ k a z
    | inr z ↦ f.entries u j a z
  ])

  -- what is true of the part after an effect, and of what it shows
  pub record EffectFits (part : Part) (e : Effect) : Type 0 where
    pub fits : PartFits n e.part
    pub learns : LearnsBelow n e.outcome
    pub slots : e.part.slots ≡ part.slots

  chosen_fits : (part : Part) (o : Option Rule) (e : Effect) → PartFits n part → EffectFits part e → EffectFits part (chosen part o e)
  chosen_fits part None e f g = g
  chosen_fits part (Some rule) e f g = record { fits = f; learns = tt; slots = refl }

  either_fits : (part : Part) (t : Bool) (x y : Effect) → EffectFits part x → EffectFits part y → EffectFits part (if t then x else y)
  either_fits part true x y f g = f
  either_fits part false x y f g = g

  deleted_fits : (own : Bool) (part : Part) (child : SegId) → PartFits n part → PartFits n (if own then deleted part child else part)
  deleted_fits true part child f = fits_cell part child _ f (λ j a h. f.entries child j a h)
  deleted_fits false part child f = f

  deleted_slots : (own : Bool) (part : Part) (child : SegId) → (if own then deleted part child else part).slots ≡ part.slots
  deleted_slots true part child = refl
  deleted_slots false part child = refl

  delete_fits : (d : ℕ) (part : Part) (u : SegId) (e : ℕ) (o : Option Alias) → PartFits n part → EffectFits part (delete_effect d part u e o)
  delete_fits d part u e None f = record { fits = f; learns = tt; slots = refl }
  delete_fits d part u e (Some a) f = chosen_fits part _ _ f (record {
    fits = fits_entry _ u e None (deleted_fits (a.class == d) part _ f) (λ a h. absurd (cc));
    learns = tt;
    slots = deleted_slots (a.class == d) part _;
  })

  judged_learns : (o : Option Rule) (k : Known) → k.class < n → LearnsBelow n (judged o k)
  judged_learns None k lt = lt
  judged_learns (Some rule) k lt = tt

  shown_learns : (table : List ClassEntry) (d ring m mode : ℕ) (o : Option Alias) → ((a : Alias) → o ≡ Some a → IsEntry n a) → LearnsBelow n (shown table d ring m mode o)
  shown_learns table d ring m mode None h = tt
  shown_learns table d ring m mode (Some a) h = judged_learns (verdict (label_of table d) ring (label_of table a.class) (alias_brackets a) mode) (known_by m a (rights_of mode)) (h a refl).class

  tallied_by : (x y : Bool) (t : Tally) (sum : ℕ) → LearnsBelow n (if x then Looked (Some (record { seen = t.seen + 1; sum = sum })) else (if y then Looked None else Counted sum))
  tallied_by true y t sum = tt
  tallied_by false true t sum = tt
  tallied_by false false t sum = tt

  tallied_learns : (m wanted : ℕ) (t : Tally) (value : ℕ) → LearnsBelow n (tallied m wanted t value)
  tallied_learns m wanted t value = tallied_by (nat_lt (t.seen + 1) m) (nat_lt ((t.sum + value) % 2 ^ 64) wanted) t ((t.sum + value) % 2 ^ 64)

  same_cell : (part : Part) (u : SegId) (cell : Cell) → PartFits n part → cell.entries ≡ (part.cell u).entries → PartFits n (with_cell part u cell)
  same_cell part u cell f e = fits_cell part u cell f (λ j a h. f.entries u j a (ap (λ (es : List (Option Alias)). slice_index_or es j None) (sym e) ∙ h))

  create_made : (part : Part) (u : SegId) (e class : ℕ) (b : Brackets) (size : ℕ) → PartFits n part → class < n → in_order b ≡ true →
      EffectFits part (record {
        part = record (with_cell part u (with_entry (part.cell u) e (Some (new_alias class b size part.next_serial)))) { next_serial = part.next_serial + 1 };
        outcome = Value part.next_serial;
      })
  create_made part u e class b size f lt ordered = record { fits = record { entries = made.entries; processes = made.processes }; learns = tt; slots = refl }
    where
      made : PartFits n (with_cell part u (with_entry (part.cell u) e (Some (new_alias class b size part.next_serial))))
      made = fits_entry part u e (Some (new_alias class b size part.next_serial)) f
          (λ x z. (let same : new_alias class b size part.next_serial ≡ x = cc in subst (IsEntry n) same (record { class = lt; ordered = ordered })))

  create_fits : (part : Part) (u : SegId) (e class : ℕ) (b : Brackets) (size : ℕ) → PartFits n part → class < n → in_order b ≡ true → EffectFits part (create_effect part u e class b size)
  create_fits part u e class b size f lt ordered = chosen_fits part _ _ f (create_made part u e class b size f lt ordered)

  out_fits : (s : Shared) (part : Part) (value : ℕ) → PartFits n part → EffectFits part (out_effect s part value)
  out_fits s part value f = either_fits part (nat_lt part.used s.console)
      (record { part = record part { lines = part.lines ++ value ∷ []; used = part.used + 1 }; outcome = Printed part.used value })
      (record { part = record part { used = part.used + 1 }; outcome = Refused ConsoleFull })
      (record { fits = record { entries = f.entries; processes = f.processes }; learns = tt; slots = refl })
      (record { fits = record { entries = f.entries; processes = f.processes }; learns = tt; slots = refl })

  module _ (a : State) (all : (c : ℕ) → PartFits n (a.part c)) (d ring : ℕ) (p : Process) where
    pub effect_fits : (r : Asked) → InRange n r → EffectFits (a.part d) (effect a d ring (request_of p r))
    effect_fits (A.MakeKnown k e mode) h = record {
      fits = all d;
      learns = shown_learns a.shared.table d ring k.class mode (entry_at (cell_of a k) e) (λ x z. (all k.class).entries k.seg e x z);
      slots = refl;
    }
    effect_fits (A.Create k e class b size) h = create_fits (a.part d) k.seg e class (brackets_of b) size (all d) h.in_table h.ordered
    effect_fits (A.Delete k e) h = delete_fits d (a.part d) k.seg e (entry_at ((a.part d).cell k.seg) e) (all d)
    effect_fits (A.SwapIn k) h = chosen_fits (a.part d) _ _ (all d) (record { fits = same_cell (a.part d) k.seg _ (all d) refl; learns = tt; slots = refl })
    effect_fits (A.SwapOut k) h = chosen_fits (a.part d) _ _ (all d) (record { fits = same_cell (a.part d) k.seg _ (all d) refl; learns = tt; slots = refl })
    effect_fits (A.Fetch k offset count pad) h = chosen_fits (a.part d) _ _ (all d) (record { fits = all d; learns = tt; slots = refl })
    effect_fits (A.Update k offset count pad) h = chosen_fits (a.part d) _ _ (all d) (record { fits = same_cell (a.part d) k.seg _ (all d) refl; learns = tt; slots = refl })
    effect_fits (A.Read k wanted t) h = record {
      fits = all d;
      learns = tallied_learns _ wanted t _;
      slots = refl;
    }
    effect_fits (A.Advance k) h = record { fits = record { entries = (all d).entries; processes = (all d).processes }; learns = tt; slots = refl }
    effect_fits (A.Ticket k) h = record { fits = same_cell (a.part d) k.seg _ (all d) refl; learns = tt; slots = refl }
    effect_fits (A.Out value) h = out_fits a.shared (a.part d) value (all d)
