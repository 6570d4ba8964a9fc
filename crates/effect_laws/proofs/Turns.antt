-- Turns of one guard: the numbers of turns started, of tickets and of turns finished, and the tickets that are held.
use Rattle.std.proofs.Common.{ℕ, ◌+◌, ◌≤◌, ◌<◌, ◌≢◌, ◌≡◌, sym, ◌∙◌, Option, Some, None, arith, ◌⊎◌, inl, inr}
use Rattle.words_layout.specs.Words.{Guard}
use Rattle.turns.specs.Doing.{Fresh}
use Rattle.turns.specs.Stage.{Stage, Outside, Begun, Waits, Has, stage}
use Rattle.class_model.specs.Process.{Process}
use Rattle.process.specs.Running.{Running}
use Rattle.machine.specs.Machine.{ClassPart, slot_at}
use Rattle.effect_laws.specs.Turns.{stage_of, Held}

-- the running process of a slot of a class
abbrev pub at_slot : ClassPart → ℕ → ℕ → Option Running
at_slot part p i = slot_at (part.vp p) i

-- a ticket that is held, where so many turns are finished and so many tickets were given: one that waits is at least the
-- first number, one past the third part is that number
abbrev pub TicketOk : (finished tickets : ℕ) → Stage → Type 0
TicketOk c t (Waits u) = (c ≤ u) × (u < t)
TicketOk c t (Has u) = (u ≡ c) × (u < t)
TicketOk c t _ = Unit {0}

abbrev pub SlotHeld : Guard → Option Running → ℕ → Type 0
SlotHeld g o t = Held (stage_of g o) t

-- so many processes are inside a turn, and so many hold a ticket
pub record Turns (g : Guard) (inside holding : ClassPart → ℕ) (part : ClassPart) : Type 0 where
  pub starts : part.words.started g ≡ part.words.finished g + inside part
  pub drawn : part.words.tickets g ≡ part.words.finished g + holding part
  pub order : part.words.finished g ≤ part.words.tickets g
  pub slots : (p i : ℕ) → TicketOk (part.words.finished g) (part.words.tickets g) (stage_of g (at_slot part p i))
  pub distinct : (p i q j t : ℕ) → SlotHeld g (at_slot part p i) t → SlotHeld g (at_slot part q j) t → (p ≡ q) × (i ≡ j)

-- what a slot is after a step of slot i of processor p: the process of the step, a new process, or what it was
pub data SlotIs (old : ℕ → ℕ → Option Running) (p i : ℕ) (new : Running) (q j : ℕ) : Option Running → Type 0 where
  mine : q ≡ p → j ≡ i → SlotIs old p i new q j (Some new)
  born : old q j ≡ None → (child : Process) → SlotIs old p i new q j (Some (record { process = child; doing = Fresh }))
  kept : (q ≡ p → j ≡ i → ⊥) → SlotIs old p i new q j (old q j)

-- a ticket that is held was given
pub given : (c n : ℕ) (x : Stage) (t : ℕ) → TicketOk c n x → Held x t → t < n
given c n (Waits u) t ok h = rw h at ok.1
given c n (Has u) t ok h = rw h at ok.1
given c n Outside t ok h = absurd h
given c n Begun t ok h = absurd h

-- the step keeps the turns: C stays or passes the ticket that the process held, and a new ticket is none that was given
module _ (g : Guard) (inside holding : ClassPart → ℕ) (here after : ClassPart) (p i : ℕ) (r new : Running)
    (was : at_slot here p i ≡ Some r)
    (slots_after : (q j : ℕ) → SlotIs (at_slot here) p i new q j (at_slot after q j))
    (turns : Turns g inside holding here)
    (c_step : (after.words.finished g ≡ here.words.finished g) ⊎ ((after.words.finished g ≡ here.words.finished g + 1) × Held (stage g r.doing) (here.words.finished g)))
    (t_step : here.words.tickets g ≤ after.words.tickets g)
    (starts : after.words.started g ≡ after.words.finished g + inside after)
    (drawn : after.words.tickets g ≡ after.words.finished g + holding after)
    (order : after.words.finished g ≤ after.words.tickets g)
    (new_ok : TicketOk (after.words.finished g) (after.words.tickets g) (stage g new.doing))
    (new_held : (t : ℕ) → Held (stage g new.doing) t → Held (stage g r.doing) t ⊎ (here.words.tickets g ≤ t)) where
  abbrev c : ℕ
  c = here.words.finished g

  abbrev c' : ℕ
  c' = after.words.finished g

  mine_held : (t : ℕ) → Held (stage g r.doing) t → SlotHeld g (at_slot here p i) t
  mine_held t h = rw was h

  other_ok : (q j : ℕ) → (q ≡ p → j ≡ i → ⊥) → (x : Stage) → TicketOk c (here.words.tickets g) x →
      ((t : ℕ) → Held x t → SlotHeld g (at_slot here q j) t) → TicketOk c' (after.words.tickets g) x
  other_ok q j differs x ok held = by_stage x ok held
    where
      not_mine : Held (stage g r.doing) c → SlotHeld g (at_slot here q j) c → ⊥
      not_mine a b = let e : (p ≡ q) × (i ≡ j) = turns.distinct p i q j c (mine_held c a) b in differs (sym e.0) (sym e.1)

      by_stage : (y : Stage) → TicketOk c (here.words.tickets g) y → ((t : ℕ) → Held y t → SlotHeld g (at_slot here q j) t) → TicketOk c' (after.words.tickets g) y
      by_stage (Waits u) ok held = (third c_step, omega (arith, ok.1, t_step))
        where
          apart : Held (stage g r.doing) c → u ≢ c
          apart a e = not_mine a (held c e)

          third : ((c' ≡ c) ⊎ ((c' ≡ c + 1) × Held (stage g r.doing) c)) → c' ≤ u
          third (inl e) = omega (arith, e, ok.0)
          third (inr e) = let n : u ≢ c = apart e.1 in omega (arith, n, e.0, ok.0)
      by_stage (Has u) ok held = (body c_step, omega (arith, ok.1, t_step))
        where
          body : ((c' ≡ c) ⊎ ((c' ≡ c + 1) × Held (stage g r.doing) c)) → u ≡ c'
          body (inl e) = ok.0 ∙ sym e
          body (inr e) = absurd (not_mine e.1 (held c ok.0))
      by_stage Outside ok held = tt
      by_stage Begun ok held = tt

  slot_ok : (q j : ℕ) (o : Option Running) → SlotIs (at_slot here) p i new q j o → TicketOk c' (after.words.tickets g) (stage_of g o)
  slot_ok q j _ (mine a b) = new_ok
  slot_ok q j _ (born none child) = tt
  slot_ok q j _ (kept differs) = other_ok q j differs (stage_of g (at_slot here q j)) (turns.slots q j) (λ t h. h)

  -- where the holder of a ticket after the step stood before it, or that the ticket is new
  from_before : (q j t : ℕ) (o : Option Running) → SlotIs (at_slot here) p i new q j o → SlotHeld g o t →
      SlotHeld g (at_slot here q j) t ⊎ ((here.words.tickets g ≤ t) × (q ≡ p) × (j ≡ i))
  from_before q j t _ (mine a b) h = by_held (new_held t h)
    where
      by_held : Held (stage g r.doing) t ⊎ (here.words.tickets g ≤ t) → SlotHeld g (at_slot here q j) t ⊎ ((here.words.tickets g ≤ t) × (q ≡ p) × (j ≡ i))
      by_held (inl x) = inl (rw (a, b) (mine_held t x))
      by_held (inr x) = inr (x, a, b)
  from_before q j t _ (born none child) h = absurd h
  from_before q j t _ (kept differs) h = inl h

  distinct_after : (q j q' j' t : ℕ) → SlotHeld g (at_slot after q j) t → SlotHeld g (at_slot after q' j') t → (q ≡ q') × (j ≡ j')
  distinct_after q j q' j' t h h' =
      both (from_before q j t _ (slots_after q j) h) (from_before q' j' t _ (slots_after q' j') h')
    where
      both : SlotHeld g (at_slot here q j) t ⊎ ((here.words.tickets g ≤ t) × (q ≡ p) × (j ≡ i)) →
          SlotHeld g (at_slot here q' j') t ⊎ ((here.words.tickets g ≤ t) × (q' ≡ p) × (j' ≡ i)) → (q ≡ q') × (j ≡ j')
      both (inl a) (inl b) = turns.distinct q j q' j' t a b
      both (inl a) (inr b) = let n : t < here.words.tickets g = given c (here.words.tickets g) (stage_of g (at_slot here q j)) t (turns.slots q j) a in absurd (omega (arith, n, b.0))
      both (inr a) (inl b) = let n : t < here.words.tickets g = given c (here.words.tickets g) (stage_of g (at_slot here q' j')) t (turns.slots q' j') b in absurd (omega (arith, n, a.0))
      both (inr a) (inr b) = (a.1 ∙ sym b.1, a.2 ∙ sym b.2)

  pub turns_after : Turns g inside holding after
  turns_after = record {
    starts = starts;
    drawn = drawn;
    order = order;
    slots = λ q j. slot_ok q j (at_slot after q j) (slots_after q j);
    distinct = distinct_after;
  }
