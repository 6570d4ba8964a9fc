-- What a process does by itself leaves it its number of registers.
use Rattle.std.proofs.Common.{ℕ, ◌+◌, Bool, true, false, List, [], ◌∷◌, ◌≡◌, refl, sym, ap, ◌∙◌, Option, Some, None, length, length-set}
use Rattle.std.specs.Prelude.{if◌then◌else◌, nat_le, slice_index_or, slice_set}
use Rattle.rings.specs.Brackets.{call_ring}
use Rattle.policy.specs.Known.{Known}
use Rattle.policy.specs.Verdict.{first_broken}
use Rattle.policy.specs.declared.rule.Rule.{Rule}
use Rattle.policy.specs.declared.rule.Rule.TheVariants.{NoScript, StackFull, UnknownSegno}
use Rattle.script_lang.specs.declared.instr.Instr.{Instr}
use Rattle.script_lang.specs.declared.instr.Instr.TheVariants as I
use Rattle.class_model.specs.Config.{Shared, Script, Gate, flows}
use Rattle.class_model.specs.Process.{Process, Return, reg, known_at, usable_at, new_process, refused, answered, reply}
use Rattle.class_model.specs.Plan.{Own, Begin, Ask, Request, plan_of, of_known, tried, called, call, returned, spawned, forgotten}

own_is : (x y : Process) → Own x ≡ Own y → x ≡ y
own_is x y e = cc

module _ (s : Shared) (d : ℕ) (p : Process) where
  abbrev Same : Process → Type 0
  Same after = length after.regs ≡ length p.regs

  as_is : (x after : Process) → length x.regs ≡ length p.regs → Own x ≡ Own after → Same after
  as_is x after e h = ap (λ (y : Process). length y.regs) (sym (own_is x after h)) ∙ e

  replied : (code value : ℕ) → length (reply p code value).regs ≡ length p.regs
  replied code value = length-set (slice_set p.regs 0 code) 1 value ∙ length-set p.regs 0 code

  tried_own : (r : Option Rule) (request : Request) (after : Process) → tried p r (Ask request) ≡ Own after → Same after
  tried_own None request after h = absurd (cc)
  tried_own (Some rule) request after h = as_is (refused p rule) after (replied _ 0) h

  known_own : (o : Option Known) (tests : Known → List (Bool × Rule)) (request : Known → Request) (after : Process) → of_known p o tests request ≡ Own after → Same after
  known_own None tests request after h = as_is (refused p UnknownSegno) after (replied _ 0) h
  known_own (Some k) tests request after h = tried_own (first_broken (tests k)) (request k) after h

  called_own : (g : Gate) (o : Option ℕ) (after : Process) → Own (called p g o) ≡ Own after → Same after
  called_own g None after h = as_is (called p g None) after (replied _ 0) h
  called_own g (Some ring) after h = by_test (nat_le 8 (length p.stack)) h
    where
      inside : Process
      inside = record (answered p ring) { script = g.script; place = 0; ring = ring; stack = record { script = p.script; place = p.place + 1; ring = p.ring } ∷ p.stack }

      by_test : (b : Bool) → Own (if b then refused p StackFull else inside) ≡ Own after → Same after
      by_test true h = as_is (refused p StackFull) after (replied _ 0) h
      by_test false h = as_is inside after (replied 0 ring) h

  call_own : (o : Option Gate) (after : Process) → Own (call s d p o) ≡ Own after → Same after
  call_own None after h = as_is (refused p NoScript) after (replied _ 0) h
  call_own (Some g) after h = by_test (flows s g.class d) h
    where
      by_test : (b : Bool) → Own (if b then called p g (call_ring g.brackets p.ring) else refused p NoScript) ≡ Own after → Same after
      by_test true h = called_own g (call_ring g.brackets p.ring) after h
      by_test false h = as_is (refused p NoScript) after (replied _ 0) h

  returned_own : (stack : List Return) (after : Process) → Own (returned p stack) ≡ Own after → Same after
  returned_own [] after h = as_is (returned p []) after (replied _ 0) h
  returned_own (b ∷ stack) after h = as_is (returned p (b ∷ stack)) after refl h

  spawned_own : (n start : ℕ) (o : Option Script) (after : Process) → spawned s d p n start o ≡ Own after → Same after
  spawned_own n start None after h = as_is (refused p NoScript) after (replied _ 0) h
  spawned_own n start (Some x) after h = by_test (flows s x.class d) h
    where
      by_test : (b : Bool) → (if b then Begin (new_process d n p.ring start) else Own (refused p NoScript)) ≡ Own after → Same after
      by_test true h = absurd (cc)
      by_test false h = as_is (refused p NoScript) after (replied _ 0) h

  forgotten_own : (segno : ℕ) (o : Option Known) (after : Process) → Own (forgotten p segno o) ≡ Own after → Same after
  forgotten_own segno None after h = as_is (forgotten p segno None) after (replied _ 0) h
  forgotten_own segno (Some k) after h = as_is (forgotten p segno (Some k)) after (replied 0 0) h

  pub own_regs : (i : Instr) (after : Process) → plan_of s d p i ≡ Own after → length after.regs ≡ length p.regs
  own_regs I.Halt after h = as_is _ after refl h
  own_regs (I.Set a n) after h = as_is _ after (length-set p.regs a _) h
  own_regs (I.Copy a b) after h = as_is _ after (length-set p.regs a _) h
  own_regs (I.Add a b) after h = as_is _ after (length-set p.regs a _) h
  own_regs (I.Sub a b) after h = as_is _ after (length-set p.regs a _) h
  own_regs (I.Jump to) after h = as_is _ after refl h
  own_regs (I.JumpZ a to) after h = as_is _ after refl h
  own_regs (I.JumpL a b to) after h = as_is _ after refl h
  own_regs (I.Get a b) after h = as_is _ after (length-set p.regs a _) h
  own_regs (I.Put a b) after h = as_is _ after refl h
  own_regs (I.Call g) after h = call_own (slice_index_or s.gates g None) after h
  own_regs I.Ret after h = returned_own p.stack after h
  own_regs (I.Spawn n b) after h = spawned_own n (reg p b) (slice_index_or s.scripts n None) after h
  own_regs (I.Terminate a) after h = forgotten_own (reg p a) (known_at p (reg p a)) after h
  own_regs (I.MakeKnown a b c) after h = known_own (usable_at p (reg p a)) _ _ after h
  own_regs (I.Create a b c x e) after h = known_own (usable_at p (reg p a)) _ _ after h
  own_regs (I.Delete a b) after h = known_own (usable_at p (reg p a)) _ _ after h
  own_regs (I.SwapIn a) after h = known_own (usable_at p (reg p a)) _ _ after h
  own_regs (I.SwapOut a) after h = known_own (usable_at p (reg p a)) _ _ after h
  own_regs (I.Fetch a b c x) after h = known_own (usable_at p (reg p a)) _ _ after h
  own_regs (I.Update a b c x) after h = known_own (usable_at p (reg p a)) _ _ after h
  own_regs (I.Read a) after h = known_own (usable_at p (reg p a)) _ _ after h
  own_regs (I.Await a b) after h = known_own (usable_at p (reg p a)) _ _ after h
  own_regs (I.Advance a) after h = known_own (known_at p (reg p a)) _ _ after h
  own_regs (I.Ticket a) after h = known_own (usable_at p (reg p a)) _ _ after h
  own_regs (I.Out a) after h = absurd (cc)
