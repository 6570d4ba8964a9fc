-- At the opening the two machines are together: no process is inside a turn, and all words are committed.
use Rattle.std.proofs.Common.{ℕ, ◌≤◌, ◌<◌, ◌&&◌, List, [], ◌∷◌, ◌≡◌, refl, sym, ap, subst, Option, Some, None, arith, length, map}
use Rattle.std.specs.Prelude.{◌==◌, nat_le, nat_lt, slice_index_or}
use Rattle.std.specs.List.{sum_by, count_by}
use Rattle.std.specs.Option.{option_map}
use Rattle.std.proofs.Math.ListN.{get_or-map}
use Rattle.std.proofs.lemmas.Bool.{and_parts, ltb-true, leb-true}
use Rattle.std.proofs.lemmas.List.Sums.{sum_by-cons}
use Rattle.words_layout.specs.Words.{Guard, GuardedWords}
use Rattle.class_model.specs.Config.{Config, ProcessLine, shared_of}
use Rattle.class_model.specs.Process.{Process}
use Rattle.class_model.specs.Run.{opening_slots}
use Rattle.class_model.specs.Run.{opening as whole_opening}
use Rattle.class_model.specs.Valid.{IsConfig, uses_script}
use Rattle.turns.specs.Stage.{Stage, Outside}
use Rattle.process.specs.Running.{Running}
use Rattle.machine.specs.Machine.{ClassPart}
use Rattle.machine.specs.Opening.{opening, opening_guarded, at_rest}
use Rattle.flow_laws.proofs.OpeningFits.{FromLine, from_line}
use Rattle.report_laws.proofs.OpeningHolds.{opening_holds}
use Rattle.report_laws.proofs.Recorded.{valid_records}
use Rattle.effect_laws.specs.Turns.{stage_of, over_slots, one_holding}
use Rattle.effect_laws.proofs.Turns.{at_slot, TicketOk, SlotHeld}
use Rattle.effect_laws.proofs.Slots.{heft}
use Rattle.effect_laws.proofs.TurnStep.{TurnsUpTo}
use Rattle.effect_laws.proofs.Committed.{SlotDoing}
use Rattle.effect_laws.proofs.WholeRun.{Together}

processes_rest : (xs : List (Option Process)) → map (option_map (λ (r : Running). r.process)) (map (option_map at_rest) xs) ≡ xs
processes_rest [] = refl
processes_rest (None ∷ xs) = ap (λ ys. None ∷ ys) (processes_rest xs)
processes_rest (Some p ∷ xs) = ap (λ ys. Some p ∷ ys) (processes_rest xs)

-- a process at rest, or none
abbrev resting : List (Option Process) → ℕ → Option Running
resting slots i = slice_index_or (map (option_map at_rest) slots) i None

resting_is : (slots : List (Option Process)) (i : ℕ) → resting slots i ≡ option_map at_rest (slice_index_or slots i None)
resting_is slots i = get_or-map (option_map at_rest) slots i None

-- at rest a process weighs nothing, by any weight of a stage by which who is outside a turn weighs nothing
module _ (f : Stage → ℕ) (outside : f Outside ≡ 0) (g : Guard) where
  abbrev weighs : Option Running → ℕ
  weighs o = f (stage_of g o)

  no_weight : (slots : List (Option Process)) → sum_by weighs (map (option_map at_rest) slots) ≡ 0
  no_weight [] = refl
  no_weight (None ∷ slots) = let e = sum_by-cons weighs None (map (option_map at_rest) slots) in let t = no_weight slots in omega (arith, e, t, outside)
  no_weight (Some p ∷ slots) = let e = sum_by-cons weighs (Some (at_rest p)) (map (option_map at_rest) slots) in let t = no_weight slots in omega (arith, e, t, outside)

module _ (g : Guard) where
  rest_ticket : (o : Option Process) → TicketOk 0 0 (stage_of g (option_map at_rest o))
  rest_ticket None = tt
  rest_ticket (Some p) = tt

  rest_held : (o : Option Process) (t : ℕ) → SlotHeld g (option_map at_rest o) t → ⊥
  rest_held None t h = h
  rest_held (Some p) t h = h

module _ (k : Config) (valid : IsConfig k) where
  abbrev m : ℕ → ClassPart
  m = (opening k).part

  abbrev committed : ℕ → GuardedWords
  committed d = opening_guarded k d

  abbrev slots_of : ℕ → ℕ → List (Option Process)
  slots_of d p = opening_slots k d p

  none_counts : (d : ℕ) (f : Stage → ℕ) → f Outside ≡ 0 → (g : Guard) → over_slots (λ o. f (stage_of g o)) (m d) ≡ 0
  none_counts d f outside g =
      let a = no_weight f outside g (slots_of d 0) in let b = no_weight f outside g (slots_of d 1) in
      let c = no_weight f outside g (slots_of d 2) in let e = no_weight f outside g (slots_of d 3) in omega (arith, a, b, c, e)

  turns : (d : ℕ) (g : Guard) → TurnsUpTo 0 g (m d)
  turns d g = record {
    turns = record {
      starts = let e = none_counts d heft refl g in omega (arith, e);
      drawn = let e = none_counts d one_holding refl g in omega (arith, e);
      order = omega arith;
      slots = λ p i. subst (λ o. TicketOk 0 0 (stage_of g o)) (sym (resting_is (slots_of d p) i)) (rest_ticket g (slice_index_or (slots_of d p) i None));
      distinct = λ p i q j t h l. absurd (rest_held g (slice_index_or (slots_of d p) i None) t (subst (λ o. SlotHeld g o t) (resting_is (slots_of d p) i) h));
    };
    started = omega arith;
    tickets = omega arith;
  }

  -- no process is on a fifth processor
  four : (d p i : ℕ) → 4 ≤ p → at_slot (m d) p i ≡ None
  four d p i h = by_slot (at_slot (m d) p i) refl
    where
      by_slot : (o : Option Running) → at_slot (m d) p i ≡ o → o ≡ None
      by_slot None e = refl
      by_slot (Some r) e =
          let f : FromLine k d p r = from_line k valid d p i r e in
          let l : ProcessLine = f.line in
          let a = and_parts _ (nat_le (count_by (λ (y : ProcessLine). y.processor == l.processor && y.class == l.class) k.processes) 4) f.ok in
          let b = and_parts _ (uses_script k l.class l.script) a.0 in
          let c = and_parts _ (nat_le l.ring 7) b.0 in
          let x = and_parts (nat_lt l.processor k.processors) (nat_lt l.class (length k.table)) c.0 in
          let low : l.processor < k.processors = ltb-true l.processor k.processors x.0 in
          let few : k.processors ≤ 4 = leb-true k.processors 4 (and_parts (nat_le 1 k.processors) (nat_le k.processors 4) valid.processors).1 in
          let same = f.processor in absurd (omega (arith, h, low, few, same))

  rest_doing : (d : ℕ) (o : Option Process) → SlotDoing (shared_of k) d m committed (option_map at_rest o)
  rest_doing d None = tt
  rest_doing d (Some p) = tt

  pub opening_together : Together (shared_of k) 0 m (whole_opening k)
  opening_together = record {
    committed = committed;
    keeps = record {
      turns = turns;
      four = four;
      idle = λ d g free w covered. refl;
      slots = λ d p i. subst (SlotDoing (shared_of k) d m committed) (sym (resting_is (slots_of d p) i)) (rest_doing d (slice_index_or (slots_of d p) i None));
    };
    agrees = record {
      shared = refl;
      processes = λ d p. processes_rest (opening_slots k d p);
      holds = λ d. opening_holds k (valid_records k valid) d;
      counters = λ d. record { places = refl; components = λ x u. refl; sequencers = λ u. refl };
      printing = λ d. record { short = λ p. omega arith; each = λ h. refl; within = omega arith; count = refl; at = λ q. refl };
    };
  }
