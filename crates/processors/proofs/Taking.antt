-- One step more.
use Rattle.std.proofs.Common.{◌≡◌, ℕ, zero, suc, ◌+◌, List, [], ◌∷◌, ◌++◌, refl, sym, ap, ◌∙◌, subst, add-one, arith}
use Rattle.std.specs.Prelude.{Option}
use Rattle.words_layout.specs.declared.op.Op.{Op}
use Rattle.class_model.specs.Config.{Shared}
use Rattle.machine.specs.Processing.{Processing}
use Rattle.machine.specs.Steps.{BankSteps}
use Rattle.round_laws.specs.Turns.{class_at, classes_from, TurnBy, TurnsBy}
use Rattle.processors.specs.Turns.{ProcessorState, Takes}

classes_more : (cycle : List ℕ) (k n : ℕ) → classes_from cycle k (suc n) ≡ classes_from cycle k n ++ class_at cycle (k + n) ∷ []
classes_more cycle k zero = ap (λ (i : ℕ). class_at cycle i ∷ []) (omega arith)
classes_more cycle k (suc n) =
    ap (λ (cs : List ℕ). class_at cycle k ∷ cs) (classes_more cycle (k + 1) n ∙ ap (λ (i : ℕ). classes_from cycle (k + 1) n ++ class_at cycle i ∷ []) (omega arith))

module _ {W : Type 0} (related : W → Op → ℕ → W → Type 0) (s : Shared) where
  turns_more : (cs : List ℕ) (c : ℕ) (b m b' : List Processing) (w u w' : W) → TurnsBy related s cs b w m u → TurnsBy related s (c ∷ []) m u b' w' → TurnsBy related s (cs ++ c ∷ []) b w b' w'
  turns_more [] c b m b' w u w' t l =
      subst (λ (x : List Processing). TurnsBy related s (c ∷ []) x w b' w') t.0 (subst (λ (x : W). TurnsBy related s (c ∷ []) m x b' w') t.1 l)
  turns_more (x ∷ cs) c b m b' w u w' t l = (t.0, t.1, t.2, turns_more cs c t.0 m b' t.1 u w' t.3 l)

  pub takes_none : (p : ProcessorState) (w : W) → Takes related s 0 p w p w
  takes_none p w = record { turns = (refl, refl); taken = omega arith; number = refl; cycle = refl; quantum = refl }

  -- a step of the virtual processor whose class stands at the place of the cycle
  pub takes_one : (p : ProcessorState) (bank' : List Processing) (w w' : W) (effect : Option ℕ) (c : ℕ) → c ≡ class_at p.cycle p.taken → BankSteps related s c p.bank w bank' w' effect
      → Takes related s 1 p w record { number = p.number; bank = bank'; cycle = p.cycle; quantum = p.quantum; taken = p.taken + 1 } w'
  takes_one p bank' w w' effect c is h =
      let turn : TurnBy related s c p.bank w bank' w' = record { after = h.after; effect = effect; step = h.step; bank_is = h.bank_is } in
      record {
        turns = (bank', w', subst (λ (i : ℕ). TurnBy related s i p.bank w bank' w') is turn, (refl, refl));
        taken = refl;
        number = refl;
        cycle = refl;
        quantum = refl;
      }

  pub takes_more : (n : ℕ) (p m p' : ProcessorState) (w u w' : W) → Takes related s n p w m u → Takes related s 1 m u p' w' → Takes related s (n + 1) p w p' w'
  takes_more n p m p' w u w' t l = record {
    turns = subst (λ (cs : List ℕ). TurnsBy related s cs p.bank w p'.bank w') (sym (ap (classes_from p.cycle p.taken) (add-one n) ∙ classes_more p.cycle p.taken n)) (turns_more (classes_from p.cycle p.taken n) (class_at p.cycle (p.taken + n)) p.bank m.bank p'.bank w u w' t.turns last);
    taken = let a = t.taken in let b = l.taken in omega arith;
    number = l.number ∙ t.number;
    cycle = l.cycle ∙ t.cycle;
    quantum = l.quantum ∙ t.quantum;
  }
    where
      last : TurnsBy related s (class_at p.cycle (p.taken + n) ∷ []) m.bank u p'.bank w'
      last = subst (λ (k : ℕ). TurnsBy related s (class_at p.cycle k ∷ []) m.bank u p'.bank w') t.taken
          (subst (λ (cycle : List ℕ). TurnsBy related s (class_at cycle m.taken ∷ []) m.bank u p'.bank w') t.cycle l.turns)
