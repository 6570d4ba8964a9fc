-- The invariant on turns, in the words of the law.
use Rattle.std.proofs.Common.{ℕ, ◌+◌, ◌-◌, ◌^◌, ◌<◌, ◌≤◌, ◌≡◌, refl, sym, ap, subst, ◌∙◌, List, [], ◌∷◌, Option, Some, None, arith, length}
use Rattle.std.specs.List.{sum_by}
use Rattle.std.proofs.lemmas.List.Sums.{sum_by-cons}
use Rattle.words_layout.specs.Words.{Guard}
use Rattle.words_layout.specs.declared.op.Event.{Event}
use Rattle.class_model.specs.Config.{Config}
use Rattle.class_model.specs.Valid.{IsConfig}
use Rattle.turns.specs.Stage.{Stage, Outside, Begun, Waits, Has, stage}
use Rattle.process.specs.Running.{Running}
use Rattle.machine.specs.Machine.{ClassPart, VirtualProcessor, slot_at}
use Rattle.machine.specs.Opening.{machine}
use Rattle.effect_laws.specs.Turns.{stage_of, one_between, one_holding, Held, between, holding}
use Rattle.effect_laws.proofs.Slots.{heft, weight, count_inside}
use Rattle.effect_laws.proofs.StandsAfter.{together_after}
use Rattle.effect_laws.proofs.Turns.{TicketOk, Turns}
use Rattle.turn_laws.specs.Turns.{AreCounted, TurnsAreCounted}

-- who is inside a turn is between or holds a ticket
heft_is : (x : Stage) → heft x ≡ one_between x + one_holding x
heft_is Outside = refl
heft_is Begun = refl
heft_is (Waits t) = refl
heft_is (Has t) = refl

module _ (g : Guard) where
  weight_is : (o : Option Running) → weight g o ≡ one_between (stage_of g o) + one_holding (stage_of g o)
  weight_is None = refl
  weight_is (Some r) = heft_is (stage g r.doing)

  slots_are : (slots : List (Option Running)) → sum_by (weight g) slots ≡ sum_by (λ o. one_between (stage_of g o)) slots + sum_by (λ o. one_holding (stage_of g o)) slots
  slots_are [] = refl
  slots_are (o ∷ slots) =
      let one = weight_is o in let rest = slots_are slots in
      let all = sum_by-cons (weight g) o slots in
      let begun = sum_by-cons (λ (o : Option Running). one_between (stage_of g o)) o slots in
      let held = sum_by-cons (λ (o : Option Running). one_holding (stage_of g o)) o slots in
      omega (arith, one, rest, all, begun, held)

  inside_is : (part : ClassPart) → count_inside g part ≡ between g part + holding g part
  inside_is part =
      let a = slots_are (part.vp 0).slots in let b = slots_are (part.vp 1).slots in let c = slots_are (part.vp 2).slots in let d = slots_are (part.vp 3).slots in
      omega (arith, a, b, c, d)

  in_range : (c n : ℕ) (x : Stage) (t : ℕ) → TicketOk c n x → Held x t → (c ≤ t) × (t < n)
  in_range c n (Waits u) t ok h = subst (λ y. (c ≤ y) × (y < n)) h ok
  in_range c n (Has u) t ok h = let e = ok.0 in let lt = ok.1 in (omega (arith, e, h), omega (arith, lt, h))
  in_range c n Outside t ok h = absurd h
  in_range c n Begun t ok h = absurd h

  is_next : (c n : ℕ) (x : Stage) (t : ℕ) → TicketOk c n x → x ≡ Has t → t ≡ c
  is_next c n x t ok e = (subst (TicketOk c n) e ok).0

  counted : (part : ClassPart) → Turns g (count_inside g) (holding g) part → AreCounted g part
  counted part z = record {
    started = let e = z.starts in let f = inside_is part in omega (arith, e, f);
    drawn = z.drawn;
    range = λ p i t h. in_range (part.words.finished g) (part.words.tickets g) (stage_of g (slot_at (part.vp p) i)) t (z.slots p i) h;
    distinct = λ p i q j t h f. z.distinct p i q j t h f;
    inside = λ p i t e. is_next (part.words.finished g) (part.words.tickets g) (stage_of g (slot_at (part.vp p) i)) t (z.slots p i) e;
  }

pub turns_are_counted : TurnsAreCounted
turns_are_counted k events d g valid few = let small : length events < 2 ^ 64 - 1 = omega (arith, few) in counted g ((machine k events).part d) ((together_after k valid events small).keeps.turns d g).turns
