-- The virtual processors that are loaded fit what is seen.
use Rattle.std.proofs.Common.{ℕ, zero, suc, ◌<◌, ◌≤◌, Bool, true, false, List, [], ◌∷◌, ◌≡◌, refl, sym, ap, subst, ◌∙◌, Option, Some, None, length, map}
use Rattle.std.proofs.lemmas.Bool.{and_parts, eqb-true, leb-true}
use Rattle.std.specs.Prelude.{◌==◌, ◌&&◌, if◌then◌else◌, nat_le, slice_get, slice_index_or, count_by}
use Rattle.std.specs.List.{filter}
use Rattle.std.specs.Option.{option_map}
use Rattle.config_text.specs.declared.config.Config.{Config as ConfigText}
use Rattle.config_text.specs.Valid.{IsValid}
use Rattle.class_model.specs.Config.{Config, ProcessLine, Shared, shared_of}
use Rattle.class_model.specs.Valid.{IsConfig, process_ok, uses_script}
use Rattle.process.specs.Standing.{Standing, StandingFits}
use Rattle.machine.specs.Banks.{no_processing, bank_at, vp_in}
use Rattle.machine.specs.Processing.{Processing}
use Rattle.machine.specs.Steps.{SlotFits, ProcessingFits, IsBank, IsMachine}
use Rattle.machine.proofs.Fitting.{new_process_fits}
use Rattle.flow_laws.proofs.Lists.{filtered_at, filter_filter}
use Rattle.flow_laws.proofs.Sound.{sound_config, script_used}
use Rattle.loader.specs.Configuration.{configuration, process_of_text}
use Rattle.loader.specs.Loading.{is_own, standing_of, slots_for, lines_seen, vp_with, loaded_vp, loaded_bank, loaded_banks}
use Rattle.loader.specs.Seen.{sees}
use Rattle.loader.proofs.Lists.{made_length, made_at}
use Rattle.loader.proofs.Validity.{is_config, header_tests}
use Rattle.loader.proofs.Seen.{part_by, seen_valid}

-- ---- slots

-- each slot is empty, or holds the process of one of the lines
slots_at : (P : Option Standing → Type 0) (c : ℕ) (ls : List ProcessLine) → P None → ((j : ℕ) (o : Option ProcessLine) → slice_get ls j ≡ o → P (option_map (standing_of c) o)) → (i : ℕ) →
    P (slice_index_or (slots_for c ls) i None)
slots_at P c ls none each zero = each 0 (slice_get ls 0) refl
slots_at P c ls none each (suc zero) = each 1 (slice_get ls 1) refl
slots_at P c ls none each (suc (suc zero)) = each 2 (slice_get ls 2) refl
slots_at P c ls none each (suc (suc (suc zero))) = each 3 (slice_get ls 3) refl
slots_at P c ls none each (suc (suc (suc (suc i)))) = none

-- ---- which lines are seen

-- the lines of class c on processor p among those of classes that are seen
lines_filtered : (low : ℕ → Bool) (p c : ℕ) (ls : List ProcessLine) → filter (is_own p c) (filter (λ (l : ProcessLine). low l.class) ls) ≡ (if low c then filter (is_own p c) ls else [])
lines_filtered low p c ls = by_class (low c) refl
  where
    same_class : (l : ProcessLine) → is_own p c l ≡ true → low l.class ≡ low c
    same_class l h = ap low (eqb-true l.class c (and_parts (l.processor == p) (l.class == c) h).1)

    by_class : (b : Bool) → low c ≡ b → filter (is_own p c) (filter (λ (l : ProcessLine). low l.class) ls) ≡ (if b then filter (is_own p c) ls else [])
    by_class true e = filter_filter (is_own p c) (λ (l : ProcessLine). low l.class) (λ l h. same_class l h ∙ e) ls
    by_class false e = none_left ls
      where
        none_left : (xs : List ProcessLine) → filter (is_own p c) (filter (λ (l : ProcessLine). low l.class) xs) ≡ []
        none_left [] = refl
        none_left (x ∷ xs) = by_tests (low x.class) (is_own p c x) refl refl (none_left xs)
          where
            by_tests : (l t : Bool) → low x.class ≡ l → is_own p c x ≡ t → filter (is_own p c) (filter (λ (y : ProcessLine). low y.class) xs) ≡ [] →
                filter (is_own p c) (if l then x ∷ filter (λ (y : ProcessLine). low y.class) xs else filter (λ (y : ProcessLine). low y.class) xs) ≡ []
            by_tests true true f g r = absurd (let h : true ≡ false = sym f ∙ (same_class x g ∙ e) in cc)
            by_tests true false f g r = rw g r
            by_tests false t f g r = r

module _ (k : ConfigText) (valid : IsValid k) (view : Option ℕ) where
  abbrev here : Config
  here = part_by (sees k.table view) (configuration k [])

  here_valid : IsConfig here
  here_valid = seen_valid (configuration k []) view (is_config k valid)

  abbrev shared : Shared
  shared = shared_of here

  -- the lines of class c on processor p
  abbrev own_seen : ℕ → ℕ → List ProcessLine
  own_seen p c = filter (is_own p c) here.processes

  pub lines_are : (p c : ℕ) → own_seen p c ≡ lines_seen k view p c
  lines_are p c = lines_filtered (sees k.table view) p c (map process_of_text k.processes)

  line_fits : (p c : ℕ) → c < length k.table → (j : ℕ) (l : ProcessLine) → slice_get (own_seen p c) j ≡ Some l → StandingFits shared (standing_of c l)
  line_fits p c known j l e =
      let passes = filtered_at (process_ok here) (is_own p c) here.processes j l here_valid.processes e in
      let own = and_parts (l.processor == p) (l.class == c) passes.1 in
      let same : l.class ≡ c = eqb-true l.class c own.1 in
      let tests = and_parts _ (nat_le (count_by (λ (y : ProcessLine). y.processor == l.processor && y.class == l.class) here.processes) 4) passes.0 in
      let uses = and_parts _ (uses_script here l.class l.script) tests.0 in
      new_process_fits shared c l.script l.ring 0 (sound_config here here_valid) known
      (script_used here here_valid c l.script (subst (λ d. uses_script here d l.script ≡ true) same uses.1))

  slot_fits : (p c : ℕ) → c < length k.table → (j : ℕ) (o : Option ProcessLine) → slice_get (own_seen p c) j ≡ o → SlotFits shared c (option_map (standing_of c) o)
  slot_fits p c known j None e = tt
  slot_fits p c known j (Some l) e = (refl, line_fits p c known j l e)

  vp_fits : (p c : ℕ) → c < length k.table → ProcessingFits shared (loaded_vp k view p c)
  vp_fits p c known = subst (λ (ls : List ProcessLine). ProcessingFits shared (vp_with k c ls)) (lines_are p c) (record {
    class = known;
    four = refl;
    room = refl;
    slots = slots_at (SlotFits shared c) c (own_seen p c) tt (slot_fits p c known);
  })

  pub vp_is : (p c : ℕ) → c < length k.table → vp_in (loaded_bank k view p) c ≡ loaded_vp k view p c
  vp_is p c known = made_at (loaded_vp k view p) (length k.table) c no_processing known

  bank_fits : (p : ℕ) → IsBank shared (loaded_bank k view p)
  bank_fits p = record {
    width = made_length (loaded_vp k view p) (length k.table);
    order = λ c known. ap (λ (v : Processing). v.class) (vp_is p c known);
    fits = λ c known. subst (ProcessingFits shared) (sym (vp_is p c known)) (vp_fits p c known);
  }

  pub bank_is : (p : ℕ) → p < k.processors → bank_at (loaded_banks k view) p ≡ loaded_bank k view p
  bank_is p there = made_at (loaded_bank k view) k.processors p [] there

  pub banks_length : length (loaded_banks k view) ≡ k.processors
  banks_length = made_length (loaded_bank k view) k.processors

  pub machine_fits : (layout : ℕ) → layout ≡ length k.table → IsMachine layout (loaded_banks k view) shared
  machine_fits layout same =
      let tests = and_parts (nat_le 1 k.processors) (nat_le k.processors 4) (header_tests k valid).0.0 in
      record {
        some = subst (λ n. 1 ≤ n) (sym banks_length) (leb-true 1 k.processors tests.0);
        most = subst (λ n. n ≤ 4) (sym banks_length) (leb-true k.processors 4 tests.1);
        layout_is = same;
        each = λ p lt. subst (IsBank shared) (sym (bank_is p (subst (λ n. p < n) banks_length lt))) (bank_fits p);
      }
