-- The machine that is loaded is that of the opening.
use Rattle.std.proofs.Common.{ℕ, ◌<◌, ◌≤◌, Bool, true, false, List, [], ◌∷◌, ◌≡◌, ◌⊎◌, inl, inr, refl, sym, ap, subst, ◌∙◌, Option, Some, None, arith, length, map}
use Rattle.std.proofs.lemmas.Bool.{and_parts, eqb-true, ltb-true, false_from_ne_true, cases_lt}
use Rattle.std.proofs.lemmas.List.{get_or_past}
use Rattle.std.specs.Prelude.{◌==◌, ◌&&◌, nat_le, nat_lt, slice_get, count_by}
use Rattle.std.specs.List.{filter, list_all}
use Rattle.std.specs.Option.{option_map}
use Rattle.lists.specs.Lists.{below}
use Rattle.config_text.specs.declared.config.Config.{Config as ConfigText}
use Rattle.config_text.specs.Valid.{IsValid}
use Rattle.words_layout.specs.Named.{words_in}
use Rattle.class_model.specs.Config.{Config, ProcessLine, SegRecord, Shared, shared_of}
use Rattle.class_model.specs.Process.{new_process}
use Rattle.class_model.specs.Valid.{process_ok, uses_script}
use Rattle.process.specs.Standing.{running_of}
use Rattle.machine.specs.Processing.{Processing, vp_of}
use Rattle.machine.specs.Banks.{no_processing, vp_in, vp_at, State, machine_of}
use Rattle.machine.specs.Steps.{IsMachine}
use Rattle.machine.specs.Machine.{VirtualProcessor}
use Rattle.machine.specs.Opening.{at_rest, opening, opening_vp, opening_words}
use Rattle.loader.specs.Configuration.{configuration}
use Rattle.loader.specs.Seen.{seen, sees}
use Rattle.loader.specs.Loading.{is_own, standing_of, lines_seen, vp_with, loaded_vp, loaded_bank, loaded_banks}
use Rattle.loader.proofs.Validity.{is_config}
use Rattle.loader.proofs.Seen.{part_by, seen_is, seen_valid}
use Rattle.loader.proofs.Lists.{made_length}
use Rattle.loader.proofs.Banks.{lines_are, vp_is, bank_is, banks_length, machine_fits}

-- none passes where each has another property and what has it doesn't pass
filter_none : {X : Type 0} (all test : X → Bool) → ((x : X) → all x ≡ true → test x ≡ false) → (xs : List X) → list_all all xs ≡ true → filter test xs ≡ []
filter_none all test none [] h = refl
filter_none all test none (x ∷ xs) h =
    let a : (all x ≡ true) × (list_all all xs ≡ true) = and_parts _ _ h in
    rw (none x a.0) (filter_none all test none xs a.1)

module _ (k : ConfigText) (valid : IsValid k) (view : Option ℕ) where
  -- what is seen, whatever its records
  abbrev pub part_with : List SegRecord → Config
  part_with rs = part_by (sees k.table view) (configuration k rs)

  abbrev here : Config
  here = part_with []

  -- the processor and class of a line are there
  line_there : (l : ProcessLine) → process_ok here l ≡ true → (l.processor < k.processors) × (l.class < length k.table)
  line_there l h =
      let a = and_parts _ (nat_le (count_by (λ (y : ProcessLine). y.processor == l.processor && y.class == l.class) here.processes) 4) h in
      let b = and_parts _ (uses_script here l.class l.script) a.0 in
      let c = and_parts _ (nat_le l.ring 7) b.0 in
      let d = and_parts (nat_lt l.processor k.processors) (nat_lt l.class (length k.table)) c.0 in
      (ltb-true l.processor k.processors d.0, ltb-true l.class (length k.table) d.1)

  -- no line has a processor or a class that isn't there
  none_past : (p c : ℕ) → (k.processors ≤ p) ⊎ (length k.table ≤ c) → filter (is_own p c) here.processes ≡ []
  none_past p c past = filter_none (process_ok here) (is_own p c) other here.processes (seen_valid (configuration k []) view (is_config k valid)).processes
    where
      other : (l : ProcessLine) → process_ok here l ≡ true → is_own p c l ≡ false
      other l h = false_from_ne_true (is_own p c l) (λ own.
          (let same = and_parts (l.processor == p) (l.class == c) own in
          let processor : l.processor ≡ p = eqb-true l.processor p same.0 in
          let class : l.class ≡ c = eqb-true l.class c same.1 in
          let there = line_there l h in
          elim past as (λ _. ⊥) [ inl a ↦ absurd (omega (arith, a, processor, there.0)) | inr b ↦ absurd (omega (arith, b, class, there.1)) ]))

  -- the process of a slot, before its first step
  slot_is : (s : Shared) (c : ℕ) (o : Option ProcessLine) → option_map (running_of s) (option_map (standing_of c) o) ≡ option_map at_rest (option_map (λ (l : ProcessLine). new_process c l.script l.ring 0) o)
  slot_is s c None = refl
  slot_is s c (Some l) = refl

  -- the virtual processor of the opening with these lines
  abbrev opening_with : ℕ → List ProcessLine → VirtualProcessor
  opening_with c ls = record {
    slots = map (option_map at_rest) (map (λ i. option_map (λ (l : ProcessLine). new_process c l.script l.ring 0) (slice_get ls i)) (below 4));
    current = 0;
    lines = [];
  }

  loaded_with : (s : Shared) (c : ℕ) (ls : List ProcessLine) → vp_of s (vp_with k c ls) ≡ opening_with c ls
  loaded_with s c ls = λ j. record {
    slots = (slot_is s c (slice_get ls 0)) j ∷ (slot_is s c (slice_get ls 1)) j ∷ (slot_is s c (slice_get ls 2)) j ∷ (slot_is s c (slice_get ls 3)) j ∷ [];
    current = 0;
    lines = [];
  }

  loaded_is : (s : Shared) (p c : ℕ) → vp_of s (loaded_vp k view p c) ≡ opening_vp here c p
  loaded_is s p c = loaded_with s c (lines_seen k view p c) ∙ ap (opening_with c) (sym (lines_are k valid view p c))

  -- what stands for a virtual processor that there isn't
  none_is : (s : Shared) (p c : ℕ) → (k.processors ≤ p) ⊎ (length k.table ≤ c) → vp_of s no_processing ≡ opening_vp here c p
  none_is s p c past = ap (opening_with c) (sym (none_past p c past))

  vp_at_is : (s : Shared) (p c : ℕ) → vp_of s (vp_at (loaded_banks k view) p c) ≡ opening_vp here c p
  vp_at_is s p c = by_processor (cases_lt p k.processors)
    where
      by_class : (c < length k.table) ⊎ (length k.table ≤ c) → vp_of s (vp_in (loaded_bank k view p) c) ≡ opening_vp here c p
      by_class (inl known) = ap (vp_of s) (vp_is k valid view p c known) ∙ loaded_is s p c
      by_class (inr past) = ap (vp_of s) (get_or_past (loaded_bank k view p) c no_processing (subst (λ n. n ≤ c) (sym (made_length (loaded_vp k view p) (length k.table))) past)) ∙ none_is s p c (inr past)

      by_processor : (p < k.processors) ⊎ (k.processors ≤ p) → vp_of s (vp_at (loaded_banks k view) p c) ≡ opening_vp here c p
      by_processor (inl there) = ap (λ (bank : List Processing). vp_of s (vp_in bank c)) (bank_is k valid view p there) ∙ by_class (cases_lt c (length k.table))
      by_processor (inr past) = ap (λ (bank : List Processing). vp_of s (vp_in bank c)) (get_or_past (loaded_banks k view) p [] (subst (λ n. n ≤ p) (sym (banks_length k valid view)) past)) ∙ none_is s p c (inl past)

  -- the machine of what is loaded
  whole : (rs : List SegRecord) (ws : List ℕ) → ((c : ℕ) → words_in ws c ≡ opening_words (part_with rs) c) → machine_of (record { words = ws; banks = loaded_banks k view; shared = shared_of here }) ≡ opening (part_with rs)
  whole rs ws words = λ j. record {
    shared = shared_of here;
    part = λ c. record { words = (words c) j; vp = λ p. (vp_at_is (shared_of here) p c) j };
  }

  pub machine_is : (m : State (List ℕ)) → m.banks ≡ loaded_banks k view → m.shared ≡ shared_of (seen (configuration k []) view) → (rs : List SegRecord) →
      ((c : ℕ) → words_in m.words c ≡ opening_words (seen (configuration k rs) view) c) → machine_of m ≡ opening (seen (configuration k rs) view)
  machine_is m banks shared rs words =
      let is : seen (configuration k rs) view ≡ part_with rs = seen_is (configuration k rs) view in
      let here_is : seen (configuration k []) view ≡ here = seen_is (configuration k []) view in
      ap machine_of (λ j. record { words = m.words; banks = banks j; shared = (shared ∙ ap shared_of here_is) j })
      ∙ whole rs m.words (λ c. words c ∙ ap (λ (x : Config). opening_words x c) is)
      ∙ ap opening (sym is)

  -- the parts that are loaded make a machine
  pub parts_fit : (layout : ℕ) (banks : List (List Processing)) (shared : Shared) → layout ≡ length k.table → banks ≡ loaded_banks k view → shared ≡ shared_of (seen (configuration k []) view) → IsMachine layout banks shared
  parts_fit layout banks shared a b c =
      let same : shared ≡ shared_of here = c ∙ ap shared_of (seen_is (configuration k []) view) in
      subst (λ s. IsMachine layout banks s) (sym same) (subst (λ x. IsMachine layout x (shared_of here)) (sym b) (machine_fits k valid view layout a))
