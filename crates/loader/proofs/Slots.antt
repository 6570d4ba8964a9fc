-- How the slots of a virtual processor are filled, line by line.
use Rattle.std.proofs.Common.{ℕ, zero, suc, ◌+◌, ◌<◌, ◌≤◌, Bool, true, false, List, [], ◌∷◌, ◌++◌, ◌≡◌, refl, sym, ap, subst, ◌∙◌, Some, None, cond, arith, length, map, take, get_or}
use Rattle.std.proofs.lemmas.Bool.{and_from, and_left, and_right, eq-eqb, ne_eqb}
use Rattle.std.proofs.lemmas.List.{map_more, append-nil, length_push}
use Rattle.std.proofs.lemmas.List.Elements.{filter-append}
use Rattle.std.proofs.lemmas.List.Sums.{length-filter}
use Rattle.std.specs.Prelude.{◌==◌, ◌&&◌, slice_index_or, slice_set}
use Rattle.std.specs.List.{filter}
use Rattle.config_text.specs.declared.config.Config.{Config as ConfigText}
use Rattle.config_text.specs.declared.config.ProcessLine.{ProcessLine as ProcessText}
use Rattle.config_text.specs.Valid.{IsValid, processes_of}
use Rattle.class_model.specs.Config.{ProcessLine}
use Rattle.process.specs.Standing.{Standing, new_standing}
use Rattle.machine.specs.Processing.{Processing}
use Rattle.loader.specs.Configuration.{process_of_text}
use Rattle.loader.specs.Loading.{is_own, standing_of, slots_for, vp_with}
use Rattle.loader.proofs.Validity.{count_of_map}

-- one line more fills the next slot
slots_push : (c : ℕ) (ls : List ProcessLine) (l : ProcessLine) → length ls < 4 → slots_for c (ls ++ l ∷ []) ≡ slice_set (slots_for c ls) (length ls) (Some (standing_of c l))
slots_push c [] l h = refl
slots_push c (a ∷ []) l h = refl
slots_push c (a ∷ b ∷ []) l h = refl
slots_push c (a ∷ b ∷ d ∷ []) l h = refl
slots_push c (a ∷ b ∷ d ∷ e ∷ ls) l h = absurd (omega arith)

-- which was empty
slot_empty : (c : ℕ) (ls : List ProcessLine) → length ls < 4 → slice_index_or (slots_for c ls) (length ls) None ≡ None
slot_empty c [] h = refl
slot_empty c (a ∷ []) h = refl
slot_empty c (a ∷ b ∷ []) h = refl
slot_empty c (a ∷ b ∷ d ∷ []) h = refl
slot_empty c (a ∷ b ∷ d ∷ e ∷ ls) h = absurd (omega arith)

-- a front of a list has no more items that pass
filter_front : {X : Type 0} (test : X → Bool) (xs : List X) (n : ℕ) → length (filter test (take n xs)) ≤ length (filter test xs)
filter_front test xs zero = omega arith
filter_front test [] (suc n) = omega arith
filter_front test (x ∷ xs) (suc n) = by_test (test x) (filter_front test xs n)
  where
    by_test : (b : Bool) → length (filter test (take n xs)) ≤ length (filter test xs) → length (cond b (x ∷ filter test (take n xs)) (filter test (take n xs))) ≤ length (cond b (x ∷ filter test xs) (filter test xs))
    by_test true r = omega (arith, r)
    by_test false r = r

-- the lines of class c on processor p among the first n
abbrev pub first_lines : ConfigText → ℕ → ℕ → ℕ → List ProcessLine
first_lines k p c n = filter (is_own p c) (map process_of_text (take n k.processes))

-- the first n lines are in the slots
pub record Filling (k : ConfigText) (p c n slot : ℕ) (v : Processing) : Type 0 where
  pub slot_is : slot ≡ length (first_lines k p c n)
  pub vp_is : v ≡ vp_with k c (first_lines k p c n)

-- line n is read
pub record Reads (k : ConfigText) (n : ℕ) (x : ProcessText) : Type 0 where
  pub there : n < length k.processes
  pub line_is : x ≡ get_or k.processes n x

pub reads : (k : ConfigText) (lines : List ProcessText) (n : ℕ) (x : ProcessText) → lines ≡ k.processes → n < length lines → x ≡ get_or lines n x → Reads k n x
reads k lines n x same lt e = record { there = subst (λ (ys : List ProcessText). n < length ys) same lt; line_is = subst (λ (ys : List ProcessText). x ≡ get_or ys n x) same e }

-- the line is of that processor and class, or not
own_line : (p c : ℕ) (x : ProcessText) → x.processor ≡ p → x.class ≡ c → is_own p c (process_of_text x) ≡ true
own_line p c x a b = and_from (x.processor == p) (x.class == c) (eq-eqb x.processor p a) (eq-eqb x.class c b)

other_processor : (p c : ℕ) (x : ProcessText) → (x.processor ≡ p → ⊥) → is_own p c (process_of_text x) ≡ false
other_processor p c x h = and_left (x.processor == p) (x.class == c) (ne_eqb x.processor p h)

other_class : (p c : ℕ) (x : ProcessText) → (x.class ≡ c → ⊥) → is_own p c (process_of_text x) ≡ false
other_class p c x h = and_right (x.processor == p) (x.class == c) (ne_eqb x.class c h)

module _ (k : ConfigText) (p c : ℕ) where
  lines_more : (n : ℕ) (x : ProcessText) → Reads k n x → first_lines k p c (n + 1) ≡ first_lines k p c n ++ filter (is_own p c) (process_of_text x ∷ [])
  lines_more n x r =
      ap (filter (is_own p c)) (map_more process_of_text k.processes n x r.there ∙ ap (λ (y : ProcessText). map process_of_text (take n k.processes) ++ process_of_text y ∷ []) (sym r.line_is))
      ∙ filter-append (is_own p c) (map process_of_text (take n k.processes)) (process_of_text x ∷ [])

  more_own : (n : ℕ) (x : ProcessText) → Reads k n x → is_own p c (process_of_text x) ≡ true → first_lines k p c (n + 1) ≡ first_lines k p c n ++ process_of_text x ∷ []
  more_own n x r own = lines_more n x r ∙ ap (λ b. first_lines k p c n ++ cond b (process_of_text x ∷ []) []) own

  more_other : (n : ℕ) (x : ProcessText) → Reads k n x → is_own p c (process_of_text x) ≡ false → first_lines k p c (n + 1) ≡ first_lines k p c n
  more_other n x r own = lines_more n x r ∙ (ap (λ b. first_lines k p c n ++ cond b (process_of_text x ∷ []) []) own ∙ append-nil (first_lines k p c n))

  -- no more lines than the configuration has of the class on the processor
  few_lines : (n : ℕ) → length (first_lines k p c n) ≤ processes_of k p c
  few_lines n =
      let front = filter_front (λ (x : ProcessText). x.processor == p && x.class == c) k.processes n in
      let all = length-filter (λ (x : ProcessText). x.processor == p && x.class == c) k.processes in
      let some : length (first_lines k p c n) ≡ length (filter (λ (x : ProcessText). x.processor == p && x.class == c) (take n k.processes)) =
      length-filter (is_own p c) (map process_of_text (take n k.processes)) ∙ count_of_map (is_own p c) (take n k.processes) ∙
      sym (length-filter (λ (x : ProcessText). x.processor == p && x.class == c) (take n k.processes)) in
      subst (λ m. length (first_lines k p c n) ≤ m) all (subst (λ m. m ≤ length (filter (λ (x : ProcessText). x.processor == p && x.class == c) k.processes)) (sym some) front)

  -- the next slot is there and empty
  module _ (valid : IsValid k) (there : p < k.processors) (known : c < length k.table) (n slot : ℕ) (v : Processing) (x : ProcessText) (r : Reads k n x) (processor_is : x.processor ≡ p) (class_is : x.class ≡ c) (f : Filling k p c n slot v) where
    own : is_own p c (process_of_text x) ≡ true
    own = own_line p c x processor_is class_is

    few : length (first_lines k p c n) < 4
    few =
        let most = few_lines (n + 1) in
        let limit = valid.few_processes p c there known in
        let long : length (first_lines k p c (n + 1)) ≡ length (first_lines k p c n) + 1 = ap length (more_own n x r own) ∙ length_push (first_lines k p c n) (process_of_text x) in
        omega (arith, most, limit, long)

    pub slot_there : slot < 4
    slot_there = subst (λ m. m < 4) (sym f.slot_is) few

    pub empty_there : slice_index_or v.slots slot None ≡ None
    empty_there =
        ap (λ (w : Processing). slice_index_or w.slots slot None) f.vp_is
        ∙ ap (λ m. slice_index_or (slots_for c (first_lines k p c n)) m None) f.slot_is
        ∙ slot_empty c (first_lines k p c n) few

    pub one_more : (w : Processing) (q : Standing) → q ≡ new_standing c x.script x.ring 0 → w ≡ record v { slots = slice_set v.slots slot (Some q) } → Filling k p c (n + 1) (slot + 1) w
    one_more w q new put = record {
      slot_is = ap (λ m. m + 1) f.slot_is ∙ sym (ap length (more_own n x r own) ∙ length_push (first_lines k p c n) (process_of_text x));
      vp_is = put
          ∙ ap (λ (y : Standing). record v { slots = slice_set v.slots slot (Some y) }) new
          ∙ ap (λ (u : Processing). record u { slots = slice_set u.slots slot (Some (standing_of c (process_of_text x))) }) f.vp_is
          ∙ ap (λ m. record (vp_with k c (first_lines k p c n)) { slots = slice_set (slots_for c (first_lines k p c n)) m (Some (standing_of c (process_of_text x))) }) f.slot_is
          ∙ ap (λ s. record (vp_with k c (first_lines k p c n)) { slots = s }) (sym (slots_push c (first_lines k p c n) (process_of_text x) few))
          ∙ ap (vp_with k c) (sym (more_own n x r own));
    }

  passed_by : (n slot : ℕ) (v : Processing) (x : ProcessText) → Reads k n x → is_own p c (process_of_text x) ≡ false → Filling k p c n slot v → Filling k p c (n + 1) slot v
  passed_by n slot v x r other f = record {
    slot_is = f.slot_is ∙ ap length (sym (more_other n x r other));
    vp_is = f.vp_is ∙ ap (vp_with k c) (sym (more_other n x r other));
  }

  pub passed_processor : (n slot : ℕ) (v : Processing) (x : ProcessText) → Reads k n x → (x.processor ≡ p → ⊥) → Filling k p c n slot v → Filling k p c (n + 1) slot v
  passed_processor n slot v x r h f = passed_by n slot v x r (other_processor p c x h) f

  pub passed_class : (n slot : ℕ) (v : Processing) (x : ProcessText) → Reads k n x → (x.class ≡ c → ⊥) → Filling k p c n slot v → Filling k p c (n + 1) slot v
  passed_class n slot v x r h f = passed_by n slot v x r (other_class p c x h) f

-- the same slot and virtual processor
pub filled_as : (k : ConfigText) (p c n slot slot' : ℕ) (v w : Processing) → slot' ≡ slot → w ≡ v → Filling k p c n slot v → Filling k p c n slot' w
filled_as k p c n slot slot' v w a b f = record { slot_is = a ∙ f.slot_is; vp_is = b ∙ f.vp_is }
