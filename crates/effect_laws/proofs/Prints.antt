-- The console lines of both machines go on together.
use Rattle.std.proofs.Common.{ℕ, ◌+◌, ◌%◌, ◌^◌, ◌≤◌, ◌<◌, Bool, true, false, List, [], ◌∷◌, ◌++◌, ◌≡◌, refl, sym, ap, subst, ◌∙◌, Option, Some, None, arith, length, ◌⊎◌, inl, inr}
use Rattle.std.specs.Prelude.{◌==◌, if◌then◌else◌, nat_lt, replicate, unwrap_or}
use Rattle.std.proofs.lemmas.Bool.{eqb-true, lt-ltb, ltb-true, ltb-false}
use Rattle.lists.specs.Lists.{put, overwrite, part_of}
use Rattle.words_layout.specs.Segments.{seg}
use Rattle.words_layout.specs.declared.coding.Alias.{Alias}
use Rattle.policy.specs.Known.{Known, new_alias}
use Rattle.policy.specs.Outcome.{Refused, Value, Words, Printed, Looked, Counted, Tally, shown, judged, tallied}
use Rattle.policy.specs.declared.rule.Rule.{Rule}
use Rattle.policy.specs.declared.rule.Rule.TheVariants.{ConsoleFull}
use Rattle.class_model.specs.Config.{Shared}
use Rattle.class_model.specs.Plan.{Request, MakeKnown, Create, Delete, SwapIn, SwapOut, Fetch, Update, Read, Advance, Ticket, Out}
use Rattle.class_model.specs.State.{State, Part, In, Stored, cell_of, entry_at, with_cell, live_words}
use Rattle.class_model.specs.Step.{Effect, chosen, effect, with_entry, delete_effect, deleted, emptied, out_effect}
use Rattle.process.specs.Running.{Made, Line, Child, made_of}
use Rattle.machine.specs.Machine.{VirtualProcessor, lines_after}
use Rattle.report_laws.proofs.Printing.{IsPrinted, full_printed, line_printed}

-- no line is made: a place may be used up where the console is full
abbrev Silent : Shared → Part → Part → Type 0
Silent s old new = (new.lines ≡ old.lines) × ((new.used ≡ old.used) ⊎ ((s.console ≤ old.used) × (new.used ≡ old.used + 1)))

-- what a step that gives this beside does to the lines and places of a class
abbrev pub Prints : Shared → Part → Part → Made → Type 0
Prints s old new (Line place value) = (place ≡ old.used) × (old.used < s.console) × (new.used ≡ old.used + 1) × (new.lines ≡ old.lines ++ value ∷ [])
Prints s old new Made.Nothing = Silent s old new
Prints s old new (Child slot child) = Silent s old new

module _ (s : Shared) (vp : ℕ → VirtualProcessor) (p : ℕ) (low : p < 4) (v : VirtualProcessor) (old new : Part)
    (h : IsPrinted s.console (λ q. (vp q).lines) old.used old.lines) where
  silent : v.lines ≡ (vp p).lines → Silent s old new → IsPrinted s.console (λ q. (put vp p v q).lines) new.used new.lines
  silent e k = subst (λ (b : ℕ → List (ℕ × ℕ)). IsPrinted s.console b new.used new.lines) (sym (λ i q. (same q) i))
      (subst (IsPrinted s.console (λ q. (vp q).lines) new.used) (sym k.0) (by_used k.1))
    where
      same : (q : ℕ) → (put vp p v q).lines ≡ (vp q).lines
      same q = by_place (q == p) refl
        where
          by_place : (b : Bool) → (q == p) ≡ b → (if b then v else vp q).lines ≡ (vp q).lines
          by_place true g = e ∙ ap (λ z. (vp z).lines) (sym (eqb-true q p g))
          by_place false g = refl

      by_used : (new.used ≡ old.used) ⊎ ((s.console ≤ old.used) × (new.used ≡ old.used + 1)) → IsPrinted s.console (λ q. (vp q).lines) new.used old.lines
      by_used (inl e) = rw e h
      by_used (inr e) = rw e.1 (full_printed s.console (λ q. (vp q).lines) old.used old.lines e.0 h)

  lined : (place value : ℕ) → v.lines ≡ lines_after s (vp p).lines (Line place value) → Prints s old new (Line place value) → IsPrinted s.console (λ q. (put vp p v q).lines) new.used new.lines
  lined place value e k = subst (λ (b : ℕ → List (ℕ × ℕ)). IsPrinted s.console b new.used new.lines) (sym (λ i q. (buffers q) i))
      (rw (k.2, k.3) (line_printed s.console (λ q. (vp q).lines) old.used old.lines p value low k.1 h))
    where
      there : v.lines ≡ (vp p).lines ++ (old.used, value) ∷ []
      there =
          let short = h.short p in let room = k.1 in
          let t : nat_lt (length (vp p).lines) s.console ≡ true = lt-ltb (length (vp p).lines) s.console (omega (arith, short, room)) in
          e ∙ ap (λ (b : Bool). if b then (vp p).lines ++ (place, value) ∷ [] else (vp p).lines) t ∙ ap (λ z. (vp p).lines ++ (z, value) ∷ []) k.0

      buffers : (q : ℕ) → (put vp p v q).lines ≡ put (λ q. (vp q).lines) p ((vp p).lines ++ (old.used, value) ∷ []) q
      buffers q = by_place (q == p)
        where
          by_place : (b : Bool) → (if b then v else vp q).lines ≡ (if b then (vp p).lines ++ (old.used, value) ∷ [] else (vp q).lines)
          by_place true = there
          by_place false = refl

  -- the lines of a class after a step of its virtual processor on p
  pub printing_step : (made : Made) → v.lines ≡ lines_after s (vp p).lines made → Prints s old new made → IsPrinted s.console (λ q. (put vp p v q).lines) new.used new.lines
  printing_step Made.Nothing e k = silent e k
  printing_step (Child slot child) e k = silent e k
  printing_step (Line place value) e k = lined place value e k

-- nothing is printed
pub nothing_printed : (s : Shared) (part : Part) → Silent s part part
nothing_printed s part = (refl, inl refl)

module _ (a : State) (d ring : ℕ) where
  -- what an effect prints
  record EffectPrints (e : Effect) : Type 0 where
    prints : Prints a.shared (a.part d) e.part (made_of (Some e.outcome))

  by_rule : (r : Option Rule) (e : Effect) → EffectPrints e → EffectPrints (chosen (a.part d) r e)
  by_rule None e h = h
  by_rule (Some rule) e h = record { prints = nothing_printed a.shared (a.part d) }

  judged_prints : (v : Option Rule) (k : Known) → Prints a.shared (a.part d) (a.part d) (made_of (Some (judged v k)))
  judged_prints None k = nothing_printed a.shared (a.part d)
  judged_prints (Some rule) k = nothing_printed a.shared (a.part d)

  shown_prints : (k : Known) (mode : ℕ) (o : Option Alias) → Prints a.shared (a.part d) (a.part d) (made_of (Some (shown a.shared.table d ring k.class mode o)))
  shown_prints k mode None = nothing_printed a.shared (a.part d)
  shown_prints k mode (Some x) = judged_prints _ _

  delete_prints : (k : Known) (e : ℕ) (o : Option Alias) → EffectPrints (delete_effect d (a.part d) k.seg e o)
  delete_prints k e None = record { prints = nothing_printed a.shared (a.part d) }
  delete_prints k e (Some x) = by_rule _ _ (by_class (x.class == d))
    where
      by_class : (b : Bool) → EffectPrints (record { part = emptied (if b then deleted (a.part d) (seg d x.serial) else a.part d) k.seg e; outcome = Value 0 })
      by_class true = record { prints = (refl, inl refl) }
      by_class false = record { prints = (refl, inl refl) }

  read_prints : (n wanted : ℕ) (t : Tally) (value : ℕ) → Prints a.shared (a.part d) (a.part d) (made_of (Some (tallied n wanted t value)))
  read_prints n wanted t value = first (nat_lt (t.seen + 1) n) (nat_lt ((t.sum + value) % 2 ^ 64) wanted)
    where
      first : (b c : Bool) → Prints a.shared (a.part d) (a.part d) (made_of (Some (if b then Looked (Some (record { seen = t.seen + 1; sum = (t.sum + value) % 2 ^ 64 })) else (if c then Looked None else Counted ((t.sum + value) % 2 ^ 64)))))
      first true c = nothing_printed a.shared (a.part d)
      first false true = nothing_printed a.shared (a.part d)
      first false false = nothing_printed a.shared (a.part d)

  out_prints : (value : ℕ) → EffectPrints (out_effect a.shared (a.part d) value)
  out_prints value = by_room (nat_lt (a.part d).used a.shared.console) refl
    where
      by_room : (b : Bool) → nat_lt (a.part d).used a.shared.console ≡ b → EffectPrints
          (if b then record { part = record (a.part d) { lines = (a.part d).lines ++ value ∷ []; used = (a.part d).used + 1 }; outcome = Printed (a.part d).used value }
          else record { part = record (a.part d) { used = (a.part d).used + 1 }; outcome = Refused ConsoleFull })
      by_room true e = record { prints = (refl, ltb-true (a.part d).used a.shared.console e, refl, refl) }
      by_room false e = record { prints = (refl, inr (ltb-false (a.part d).used a.shared.console e, refl)) }

  -- what changes no line and no place, and shows a value or words
  value_prints : (part : Part) (v : ℕ) → part.lines ≡ (a.part d).lines → part.used ≡ (a.part d).used → EffectPrints (record { part = part; outcome = Value v })
  value_prints part v lines used = record { prints = (lines, inl used) }

  words_print : (pad : ℕ) (words : List ℕ) → EffectPrints (record { part = a.part d; outcome = Words pad words })
  words_print pad words = record { prints = (refl, inl refl) }

  by_request : (q : Request) → EffectPrints (effect a d ring q)
  by_request (MakeKnown k e mode) = record { prints = shown_prints k mode (entry_at (cell_of a k) e) }
  by_request (Create k e class b size) = by_rule _ _ (value_prints (record (with_cell (a.part d) k.seg (with_entry ((a.part d).cell k.seg) e (Some (new_alias class b size (a.part d).next_serial)))) { next_serial = (a.part d).next_serial + 1 }) (a.part d).next_serial refl refl)
  by_request (Delete k e) = delete_prints k e (entry_at ((a.part d).cell k.seg) e)
  by_request (SwapIn k) = by_rule _ _ (value_prints (with_cell (a.part d) k.seg (record ((a.part d).cell k.seg) { home = In (unwrap_or ((a.part d).cell k.seg).stored (replicate k.size 0)) })) 0 refl refl)
  by_request (SwapOut k) = by_rule _ _ (value_prints (with_cell (a.part d) k.seg (record ((a.part d).cell k.seg) { home = Stored; stored = Some (live_words ((a.part d).cell k.seg)) })) 0 refl refl)
  by_request (Fetch k offset count pad) = by_rule _ _ (words_print pad (part_of (live_words (cell_of a k)) offset count))
  by_request (Update k offset words) = by_rule _ _ (value_prints (with_cell (a.part d) k.seg (record ((a.part d).cell k.seg) { home = In (overwrite (live_words ((a.part d).cell k.seg)) offset words); writes = ((a.part d).cell k.seg).writes + 1 })) (((a.part d).cell k.seg).writes + 1) refl refl)
  by_request (Read k wanted t) = record { prints = read_prints _ wanted t _ }
  by_request (Advance k) = record { prints = (refl, inl refl) }
  by_request (Ticket k) = record { prints = (refl, inl refl) }
  by_request (Out value) = out_prints value

  -- what a request prints
  pub effect_prints : (q : Request) → Prints a.shared (a.part d) (effect a d ring q).part (made_of (Some (effect a d ring q).outcome))
  effect_prints q = (by_request q).prints
