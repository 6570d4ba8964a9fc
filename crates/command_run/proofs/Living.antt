-- Whether a process of a class is live, in a machine in memory and in the step machine that it stands for.
use Rattle.std.proofs.Common.{ℕ, zero, suc, ◌+◌, ◌<◌, ◌≤◌, Bool, true, false, List, [], ◌∷◌, length, map, get_or, ◌≡◌, ◌⊎◌, inl, inr, refl, sym, ap, ◌∙◌, Option, Some, None, arith}
use Rattle.std.proofs.lemmas.Bool.{cases_lt}
use Rattle.std.proofs.lemmas.List.{get_or_past}
use Rattle.std.specs.Prelude.{◌||◌}
use Rattle.std.specs.List.{list_any}
use Rattle.std.specs.Option.{option_map}
use Rattle.lists.specs.Lists.{below, numbers_from}
use Rattle.class_model.specs.Config.{Shared}
use Rattle.process.specs.Standing.{Standing, running_of}
use Rattle.machine.specs.Machine.{is_live}
use Rattle.machine.specs.Processing.{Processing, holds_live}
use Rattle.machine.specs.Banks.{vp_in, vp_at, State, machine_of}
use Rattle.machine.specs.Steps.{HasEnded}
use Rattle.command_run.specs.Headline.{class_live}

-- ---- some number below n passes

pub none_from : (f : ℕ → Bool) (s n : ℕ) → ((c : ℕ) → s ≤ c → c < s + n → f c ≡ false) → list_any f (numbers_from s n) ≡ false
none_from f s zero h = refl
none_from f s (suc n) h = both (f s) (list_any f (numbers_from (s + 1) n)) (h s (omega arith) (omega arith)) (none_from f (s + 1) n (λ c l u. h c (omega arith) (omega arith)))
  where
    both : (a b : Bool) → a ≡ false → b ≡ false → (a || b) ≡ false
    both false false p q = refl
    both true b p q = absurd (cc)
    both false true p q = absurd (cc)

pub none_below : (f : ℕ → Bool) (n : ℕ) → ((c : ℕ) → c < n → f c ≡ false) → list_any f (below n) ≡ false
none_below f n h = none_from f 0 n (λ c l u. h c (omega arith))

-- one number more that doesn't pass
pub one_more : (f : ℕ → Bool) (n : ℕ) → ((c : ℕ) → c < n → f c ≡ false) → f n ≡ false → (c : ℕ) → c < n + 1 → f c ≡ false
one_more f n h e c l = by (cases_lt c n)
  where
    by : (c < n) ⊎ (n ≤ c) → f c ≡ false
    by (inl lt) = h c lt
    by (inr ge) = let same : c ≡ n = omega arith in ap f same ∙ e

or_true : (a b : Bool) → b ≡ true → (a || b) ≡ true
or_true true b h = refl
or_true false b h = h

true_or : (a b : Bool) → a ≡ true → (a || b) ≡ true
true_or true b h = refl
true_or false b h = absurd (cc)

first_or : (f : ℕ → Bool) (s c : ℕ) (rest : Bool) → (s < c) ⊎ (c ≤ s) → s ≤ c → f c ≡ true → (s < c → rest ≡ true) → (f s || rest) ≡ true
first_or f s c rest (inl lt) l h more = or_true (f s) rest (more lt)
first_or f s c rest (inr ge) l h more = let e : s ≡ c = omega arith in true_or (f s) rest (ap f e ∙ h)

some_from : (f : ℕ → Bool) (s n c : ℕ) → s ≤ c → c < s + n → f c ≡ true → list_any f (numbers_from s n) ≡ true
some_from f s zero c l u h = absurd (omega arith)
some_from f s (suc n) c l u h = first_or f s c (list_any f (numbers_from (s + 1) n)) (cases_lt s c) l h (λ lt. some_from f (s + 1) n c (omega arith) (omega arith) h)

pub some_below : (f : ℕ → Bool) (n c : ℕ) → c < n → f c ≡ true → list_any f (below n) ≡ true
some_below f n c l h = some_from f 0 n c (omega arith) (omega arith) h

-- ---- the slots

slot_live : (s : Shared) (o : Option Standing) → is_live (option_map (running_of s) o) ≡ holds_live o
slot_live s None = refl
slot_live s (Some p) = refl

slots_live : (s : Shared) (slots : List (Option Standing)) → list_any is_live (map (option_map (running_of s)) slots) ≡ list_any holds_live slots
slots_live s [] = refl
slots_live s (x ∷ xs) = ap (λ b. b || list_any is_live (map (option_map (running_of s)) xs)) (slot_live s x) ∙ ap (λ b. holds_live x || b) (slots_live s xs)

none_of : (slots : List (Option Standing)) → ((i : ℕ) → holds_live (get_or slots i None) ≡ false) → list_any holds_live slots ≡ false
none_of [] h = refl
none_of (x ∷ xs) h = ap (λ b. b || list_any holds_live xs) (h 0) ∙ none_of xs (λ i. h (suc i))

left_false : (a b : Bool) → (a || b) ≡ false → a ≡ false
left_false true b h = absurd (cc)
left_false false b h = refl

right_false : (a b : Bool) → (a || b) ≡ false → b ≡ false
right_false true b h = absurd (cc)
right_false false b h = h

each_of : (slots : List (Option Standing)) → list_any holds_live slots ≡ false → (i : ℕ) → holds_live (get_or slots i None) ≡ false
each_of [] h i = refl
each_of (x ∷ xs) h zero = left_false (holds_live x) (list_any holds_live xs) h
each_of (x ∷ xs) h (suc i) = each_of xs (right_false (holds_live x) (list_any holds_live xs) h) i

-- ---- the virtual processors of a class

module _ (m : State (List ℕ)) (c : ℕ) where
  abbrev of_processor : ℕ → Bool
  of_processor p = list_any is_live (map (option_map (running_of m.shared)) (vp_at m.banks p c).slots)

  pub ended_not_live : HasEnded m c → class_live (machine_of m) c ≡ false
  ended_not_live h = none_below of_processor 4 (λ p l. slots_live m.shared (vp_at m.banks p c).slots ∙ none_of (vp_at m.banks p c).slots (h p))

  one : (a b x y : Bool) → (a || (b || (x || (y || false)))) ≡ false → (a ≡ false) × (b ≡ false) × (x ≡ false) × (y ≡ false)
  one false false false false h = (refl, refl, refl, refl)
  one true b x y h = absurd (cc)
  one false true x y h = absurd (cc)
  one false false true y h = absurd (cc)
  one false false false true h = absurd (cc)

  here : class_live (machine_of m) c ≡ false → (p : ℕ) → p < 4 → of_processor p ≡ false
  here h zero l = (one (of_processor 0) (of_processor 1) (of_processor 2) (of_processor 3) h).0
  here h (suc zero) l = (one (of_processor 0) (of_processor 1) (of_processor 2) (of_processor 3) h).1
  here h (suc (suc zero)) l = (one (of_processor 0) (of_processor 1) (of_processor 2) (of_processor 3) h).2
  here h (suc (suc (suc zero))) l = (one (of_processor 0) (of_processor 1) (of_processor 2) (of_processor 3) h).3
  here h (suc (suc (suc (suc p)))) l = absurd (omega arith)

  pub not_live_ended : length m.banks ≤ 4 → class_live (machine_of m) c ≡ false → HasEnded m c
  not_live_ended most h p slot = by (cases_lt p 4)
    where
      by : (p < 4) ⊎ (4 ≤ p) → holds_live (get_or (vp_at m.banks p c).slots slot None) ≡ false
      by (inl l) = each_of (vp_at m.banks p c).slots (sym (slots_live m.shared (vp_at m.banks p c).slots) ∙ here h p l) slot
      by (inr l) = ap (λ (bank : List Processing). holds_live (get_or (vp_in bank c).slots slot None)) (get_or_past m.banks p [] (omega arith)) ∙ nothing slot
        where
          nothing : (slot : ℕ) → holds_live (get_or (vp_in [] c).slots slot None) ≡ false
          nothing zero = refl
          nothing (suc zero) = refl
          nothing (suc (suc zero)) = refl
          nothing (suc (suc (suc zero))) = refl
          nothing (suc (suc (suc (suc n)))) = refl

  -- a class that hasn't ended has a live process
  pub lives_on : length m.banks ≤ 4 → (HasEnded m c → ⊥) → class_live (machine_of m) c ≡ true
  lives_on most h = by (class_live (machine_of m) c) refl
    where
      by : (b : Bool) → class_live (machine_of m) c ≡ b → class_live (machine_of m) c ≡ true
      by true e = e
      by false e = absurd (h (not_live_ended most e))
