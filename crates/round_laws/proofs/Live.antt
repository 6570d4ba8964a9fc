-- A process is live in memory where one is live in the step machine.
use Rattle.std.proofs.Common.{◌≡◌, ℕ, zero, suc, ◌+◌, ◌<◌, ◌≤◌, Bool, true, false, cond, ◌||◌, List, [], ◌∷◌, get_or, Option, Some, None, refl, sym, ap, ◌∙◌, subst, nat_lt, arith}
use Rattle.std.specs.Option.{option_map}
use Rattle.std.specs.List.{list_any}
use Rattle.std.proofs.lemmas.Bool.{ltb-true, ltb-false}
use Rattle.std.proofs.lemmas.List.Recursion.{is_count_by}
use lib.ListN.{get_or-map}
use Rattle.class_model.specs.Config.{Shared}
use Rattle.process.specs.Standing.{Standing, running_of}
use Rattle.machine.specs.Machine.{slot_at, is_live}
use Rattle.machine.specs.Processing.{Processing, vp_of, holds_live, live_count}
use Rattle.machine.specs.Banks.{no_processing, bank_at, vp_at, State, machine_of}
use Rattle.round_laws.specs.Live.{SomeLive, NoneLive, vp_live, bank_live, any_live}

tally : List (Option Standing) → ℕ
tally [] = 0
tally (x ∷ xs) = cond (holds_live x) (1 + tally xs) (tally xs)

tally_is : (xs : List (Option Standing)) → tally xs ≡ live_count xs
unfolding tally
tally_is xs = is_count_by tally holds_live refl (λ x xs. refl) xs

head_dead : (b : Bool) (n : ℕ) → cond b (1 + n) n ≡ 0 → (b ≡ false) × (n ≡ 0)
head_dead true n e = absurd (omega arith)
head_dead false n e = (refl, e)

none_at : (xs : List (Option Standing)) → tally xs ≡ 0 → (i : ℕ) → holds_live (get_or xs i None) ≡ false
unfolding tally
none_at [] e i = refl
none_at (x ∷ xs) e zero = (head_dead (holds_live x) (tally xs) e).0
none_at (x ∷ xs) e (suc i) = none_at xs (head_dead (holds_live x) (tally xs) e).1 i

some_of : (x : Option Standing) (xs : List (Option Standing)) (b : Bool) → holds_live x ≡ b → 0 < cond b (1 + tally xs) (tally xs) → (0 < tally xs → (i : ℕ) × (holds_live (get_or xs i None) ≡ true)) → (i : ℕ) × (holds_live (get_or (x ∷ xs) i None) ≡ true)
some_of x xs true is h rest = (0, is)
some_of x xs false is h rest = let r = rest h in (suc r.0, r.1)

some_at : (xs : List (Option Standing)) → 0 < tally xs → (i : ℕ) × (holds_live (get_or xs i None) ≡ true)
unfolding tally
some_at [] h = absurd (omega arith)
some_at (x ∷ xs) h = some_of x xs (holds_live x) refl h (λ k. some_at xs k)

positive : (n : ℕ) → nat_lt 0 n ≡ true → 0 < n
positive n e = ltb-true 0 n e

nothing : (n : ℕ) → nat_lt 0 n ≡ false → n ≡ 0
nothing n e = let h : n ≤ 0 = ltb-false 0 n e in omega arith

or_parts : (a b : Bool) → (a || b) ≡ false → (a ≡ false) × (b ≡ false)
or_parts true b e = absurd (cc)
or_parts false b e = (refl, e)

-- no item passes, and neither does the default
any_not : {X : Type 0} (p : X → Bool) (xs : List X) (d : X) → p d ≡ false → list_any p xs ≡ false → (i : ℕ) → p (get_or xs i d) ≡ false
any_not p [] d h e i = h
any_not p (x ∷ xs) d h e zero = (or_parts (p x) (list_any p xs) e).0
any_not p (x ∷ xs) d h e (suc i) = any_not p xs d h (or_parts (p x) (list_any p xs) e).1 i

any_of : {X : Type 0} (p : X → Bool) (x : X) (xs : List X) (d : X) (b : Bool) → p x ≡ b → (b || list_any p xs) ≡ true → (list_any p xs ≡ true → (i : ℕ) × (p (get_or xs i d) ≡ true)) → (i : ℕ) × (p (get_or (x ∷ xs) i d) ≡ true)
any_of p x xs d true is e rest = (0, is)
any_of p x xs d false is e rest = let r = rest e in (suc r.0, r.1)

any_is : {X : Type 0} (p : X → Bool) (xs : List X) (d : X) → list_any p xs ≡ true → (i : ℕ) × (p (get_or xs i d) ≡ true)
any_is p [] d e = absurd (cc)
any_is p (x ∷ xs) d e = any_of p x xs d (p x) refl e (any_is p xs d)

live_either : (s : Shared) (o : Option Standing) → is_live (option_map (running_of s) o) ≡ holds_live o
live_either s None = refl
live_either s (Some p) = refl

slot_live : (s : Shared) (v : Processing) (i : ℕ) → is_live (slot_at (vp_of s v) i) ≡ holds_live (get_or v.slots i None)
slot_live s v i = ap is_live (get_or-map (option_map (running_of s)) v.slots i None) ∙ live_either s (get_or v.slots i None)

module _ (m : State (List ℕ)) where
  pub some_live : any_live m.banks ≡ true → SomeLive (machine_of m)
  some_live h =
      let p = any_is bank_live m.banks [] h in
      let c = any_is vp_live (bank_at m.banks p.0) no_processing p.1 in
      let v : Processing = vp_at m.banks p.0 c.0 in
      let i = some_at v.slots (subst (λ (n : ℕ). 0 < n) (sym (tally_is v.slots)) (positive (live_count v.slots) c.1)) in
      (p.0, c.0, i.0, slot_live m.shared v i.0 ∙ i.1)

  pub none_live : any_live m.banks ≡ false → NoneLive (machine_of m)
  none_live h p c slot =
      let v : Processing = vp_at m.banks p c in
      let bank = any_not bank_live m.banks [] refl h p in
      let vp : vp_live v ≡ false = any_not vp_live (bank_at m.banks p) no_processing refl bank c in
      slot_live m.shared v slot ∙ none_at v.slots (tally_is v.slots ∙ nothing (live_count v.slots) vp) slot
