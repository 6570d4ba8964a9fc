-- The laws of read, advance, ticket and out.
use Rattle.std.proofs.Common.{ℕ, ◌+◌, ◌-◌, ◌%◌, ◌^◌, ◌≤◌, ◌<◌, Bool, true, false, ◌≡◌, refl, sym, ap, subst, ◌∙◌, arith}
use Rattle.std.specs.Prelude.{◌==◌, if◌then◌else◌, nat_lt, slice_index}
use Rattle.words_layout.specs.Segments.{same_seg}
use Rattle.words_layout.specs.declared.segment.SegId.{SegId}
use Rattle.words_layout.specs.Words.{GuardedWords, Words, words_after}
use Rattle.policy.specs.Known.{Known}
use Rattle.policy.specs.Outcome.{Tally, Value, components}
use Rattle.evc_gates.specs.Count.{read_shows, advance_op, ticket_op, out_op, out_shows}
use Rattle.class_model.specs.Config.{Shared, pool_of}
use Rattle.class_model.specs.Plan.{Read, Advance, Ticket, Out}
use Rattle.class_model.specs.State.{State, Part, Cell, with_cell, with_component}
use Rattle.class_model.specs.Step.{out_effect}
use Rattle.effect_laws.proofs.Good.{Good}
use Rattle.machine.specs.Machine.{ClassPart}
use Rattle.machine.specs.Stands.{Holds, ClassHolds, SegmentHolds}
use Rattle.effect_laws.proofs.GateData.{put-seg-both}
use Rattle.effect_laws.proofs.Refinement.{Counters, Standing, OnceLaw, once_of}

-- a part that differs in no word that a turn guards
part_holds : (pool : Rattle.class_model.specs.Config.Pool) (g : GuardedWords) (part part' : Part) → part'.next_serial ≡ part.next_serial →
    ((u : SegId) → (part'.cell u).entries ≡ (part.cell u).entries) → ((u : SegId) → (part'.cell u).stored ≡ (part.cell u).stored) →
    ((u : SegId) → (part'.cell u).home ≡ (part.cell u).home) → ((u : SegId) → (part'.cell u).writes ≡ (part.cell u).writes) → Holds pool g part → Holds pool g part'
part_holds pool g part part' serial entries stored home writes h = record {
  of_class = Rattle.effect_laws.proofs.Same.class_same g g (λ w k. refl) pool part part' serial entries stored h.of_class;
  of_segments = λ u. record {
    home = subst (Rattle.machine.specs.Stands.HomeHolds g (Rattle.words_layout.specs.Coding.home_of (g (Rattle.words_layout.specs.Words.HomeOf u)))) (sym (home u)) (h.of_segments u).home;
    writes = (h.of_segments u).writes ∙ sym (writes u);
  };
}

module _ (n : ℕ) (m : ℕ → ClassPart) (committed : ℕ → GuardedWords) (a : State) (n_small : n < 2 ^ 64 - 1) (good : Good n a) (agrees : Standing m committed a) (d ring : ℕ) where
  counts : Counters (m d).words (a.part d)
  counts = agrees.counters d

  pub read_law : (k : Known) (wanted : ℕ) (t : Tally) → OnceLaw a.shared m (committed d) a d ring (Read k wanted t) (once_of a.shared (Read k wanted t))
  read_law k wanted t = record {
    outcome = ap (read_shows (components a.shared.table k.class) wanted t) ((agrees.counters (slice_index (components a.shared.table k.class) t.seen)).components k.class k.seg);
    holds = agrees.holds d;
    counters = counts;
    slots = refl;
  }

  -- a count below the bound goes up by one without wrapping
  up : (v w : ℕ) → v ≡ w → w ≤ n → (v + 1) % 2 ^ 64 ≡ w + 1
  up v w e l = omega (arith, e, l, n_small)

  pub advance_law : (k : Known) → OnceLaw a.shared m (committed d) a d ring (Advance k) (once_of a.shared (Advance k))
  advance_law k = record {
    outcome = ap Value one;
    holds = part_holds (pool_of a.shared d) (committed d) (a.part d) (with_component (a.part d) k.class k.seg ((a.part d).component k.class k.seg + 1)) refl (λ u. refl) (λ u. refl) (λ u. refl) (λ u. refl) (agrees.holds d);
    counters = record { places = counts.places; components = after; sequencers = counts.sequencers };
    slots = refl;
  }
    where
      one : ((m d).words.component k.class k.seg + 1) % 2 ^ 64 ≡ (a.part d).component k.class k.seg + 1
      one = up ((m d).words.component k.class k.seg) ((a.part d).component k.class k.seg) (counts.components k.class k.seg) (good.components d k.class k.seg)

      after : (x : ℕ) (u : SegId) → (words_after (m d).words (advance_op k)).component x u ≡ (with_component (a.part d) k.class k.seg ((a.part d).component k.class k.seg + 1)).component x u
      after x u = elim (x == k.class) as
          (λ b. (if b then (λ v. if same_seg v k.seg then ((m d).words.component k.class k.seg + 1) % 2 ^ 64 else (m d).words.component k.class v) else (m d).words.component x) u
          ≡ (if b then (λ v. if same_seg v k.seg then (a.part d).component k.class k.seg + 1 else (a.part d).component k.class v) else (a.part d).component x) u) [
            | true ↦ (elim (same_seg u k.seg) as (λ b. (if b then ((m d).words.component k.class k.seg + 1) % 2 ^ 64 else (m d).words.component k.class u) ≡ (if b then (a.part d).component k.class k.seg + 1 else (a.part d).component k.class u)) [
              | true ↦ one
              | false ↦ counts.components k.class u
            ])
            | false ↦ counts.components x u
          ]

  pub ticket_law : (k : Known) → OnceLaw a.shared m (committed d) a d ring (Ticket k) (once_of a.shared (Ticket k))
  ticket_law k = record {
    outcome = ap Value (counts.sequencers k.seg);
    holds = part_holds (pool_of a.shared d) (committed d) (a.part d) (with_cell (a.part d) k.seg after_cell) refl
        (λ u. put-seg-both (λ v (c : Cell). c.entries ≡ ((a.part d).cell v).entries) (a.part d).cell k.seg u after_cell (λ e. rw e refl) (λ e. refl))
        (λ u. put-seg-both (λ v (c : Cell). c.stored ≡ ((a.part d).cell v).stored) (a.part d).cell k.seg u after_cell (λ e. rw e refl) (λ e. refl))
        (λ u. put-seg-both (λ v (c : Cell). c.home ≡ ((a.part d).cell v).home) (a.part d).cell k.seg u after_cell (λ e. rw e refl) (λ e. refl))
        (λ u. put-seg-both (λ v (c : Cell). c.writes ≡ ((a.part d).cell v).writes) (a.part d).cell k.seg u after_cell (λ e. rw e refl) (λ e. refl)) (agrees.holds d);
    counters = record { places = counts.places; components = counts.components; sequencers = after };
    slots = refl;
  }
    where
      after_cell : Cell
      after_cell = record ((a.part d).cell k.seg) { sequencer = ((a.part d).cell k.seg).sequencer + 1 }

      after : (u : SegId) → (words_after (m d).words (ticket_op k)).sequencer u ≡ ((with_cell (a.part d) k.seg after_cell).cell u).sequencer
      after u = elim (same_seg u k.seg) as (λ b. (if b then ((m d).words.sequencer k.seg + 1) % 2 ^ 64 else (m d).words.sequencer u) ≡ (if b then after_cell else (a.part d).cell u).sequencer) [
        | true ↦ up ((m d).words.sequencer k.seg) ((a.part d).cell k.seg).sequencer (counts.sequencers k.seg) (good.cells d k.seg).sequencer
        | false ↦ counts.sequencers u
      ]

  pub out_law : (value : ℕ) → OnceLaw a.shared m (committed d) a d ring (Out value) (once_of a.shared (Out value))
  out_law value = record {
    outcome = ap (out_shows a.shared.console value) counts.places ∙ shown (nat_lt (a.part d).used a.shared.console) refl;
    holds = held (nat_lt (a.part d).used a.shared.console) refl;
    counters = counted (nat_lt (a.part d).used a.shared.console) refl;
    slots = slotted (nat_lt (a.part d).used a.shared.console) refl;
  }
    where
      shown : (b : Bool) → nat_lt (a.part d).used a.shared.console ≡ b → out_shows a.shared.console value (a.part d).used ≡ (out_effect a.shared (a.part d) value).outcome
      shown true e = rw e refl
      shown false e = rw e refl

      held : (b : Bool) → nat_lt (a.part d).used a.shared.console ≡ b → Holds (pool_of a.shared d) (committed d) (out_effect a.shared (a.part d) value).part
      held true e = rw e (part_holds (pool_of a.shared d) (committed d) (a.part d) _ refl (λ u. refl) (λ u. refl) (λ u. refl) (λ u. refl) (agrees.holds d))
      held false e = rw e (part_holds (pool_of a.shared d) (committed d) (a.part d) _ refl (λ u. refl) (λ u. refl) (λ u. refl) (λ u. refl) (agrees.holds d))

      counted : (b : Bool) → nat_lt (a.part d).used a.shared.console ≡ b → Counters (words_after (m d).words out_op) (out_effect a.shared (a.part d) value).part
      counted true e = rw e (record { places = up (m d).words.places (a.part d).used counts.places (good.used d); components = counts.components; sequencers = counts.sequencers })
      counted false e = rw e (record { places = up (m d).words.places (a.part d).used counts.places (good.used d); components = counts.components; sequencers = counts.sequencers })

      slotted : (b : Bool) → nat_lt (a.part d).used a.shared.console ≡ b → (out_effect a.shared (a.part d) value).part.slots ≡ (a.part d).slots
      slotted true e = rw e refl
      slotted false e = rw e refl
