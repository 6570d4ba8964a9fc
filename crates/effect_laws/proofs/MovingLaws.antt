-- The laws of swapin, swapout and delete, from what is true of the other machine's state.
use Rattle.std.proofs.Common.{ℕ, ◌-◌, ◌^◌, ◌≤◌, ◌<◌, Bool, true, false, not, List, [], ◌∷◌, ◌≡◌, refl, sym, ap, ◌∙◌, Option, Some, None, arith}
use Rattle.std.specs.Prelude.{◌==◌, if◌then◌else◌, replicate, unwrap_or}
use Rattle.std.proofs.lemmas.Bool.{eqb-false, ltb-false}
use Rattle.words_layout.specs.declared.segment.SegId.{SegId}
use Rattle.words_layout.specs.declared.coding.Alias.{Alias}
use Rattle.words_layout.specs.Segments.{seg}
use Rattle.words_layout.specs.Words.{GuardedWords, Words}
use Rattle.rings.specs.Brackets.{may_write}
use Rattle.policy.specs.Known.{Known, modifies}
use Rattle.policy.specs.Outcome.{Outcome}
use Rattle.policy.specs.Private.{entry_test}
use Rattle.policy.specs.Verdict.{◌⇒◌}
use Rattle.policy.specs.declared.rule.Rule.{Rule}
use Rattle.policy.specs.declared.rule.Rule.TheVariants.{NotModify, RingWrite, BadSize}
use Rattle.turns.specs.AtOnce.{run_outer, Ran}
use Rattle.tree_gates.specs.Tree.{delete_body}
use Rattle.swap_gates.specs.Swap.{swap_in_body, swap_out_body}
use Rattle.class_model.specs.Config.{pool_of, classes}
use Rattle.class_model.specs.Process.{Process, known_at}
use Rattle.class_model.specs.Plan.{Delete, SwapIn, SwapOut}
use Rattle.class_model.specs.State.{State, Part, Cell, In, Stored, Deleted, with_cell, live_words, entry_at}
use Rattle.class_model.specs.Step.{delete_effect, deleted, emptied, with_entry}
use Rattle.machine.specs.Machine.{ClassPart}
use Rattle.effect_laws.proofs.Good.{Good, InUse, KnownGood, ProcessGood}
use Rattle.effect_laws.proofs.Planned.{Planned, Passed}
use Rattle.effect_laws.proofs.GateData.{put-seg-both}
use Rattle.effect_laws.proofs.Pools.{IsIdentity, frame_owner, page_owner}
use Rattle.effect_laws.proofs.GateSwapIn.{Movable, swap_in-atomic}
use Rattle.effect_laws.proofs.GateSwapOut.{swap_out-atomic}
use Rattle.effect_laws.proofs.GateDelete.{delete-atomic}
use Rattle.effect_laws.proofs.CreateTests.{passed_head, not_false}
use Rattle.effect_laws.proofs.GateLaws.{usable_known, unless_part}
use Rattle.effect_laws.proofs.Refinement.{Counters, Standing, IsEffect}

-- a cell that changes, but for its sequencer
pub counts_with_cell : (w : Words) (part : Part) (u : SegId) (cell : Cell) → cell.sequencer ≡ (part.cell u).sequencer → Counters w part → Counters w (with_cell part u cell)
counts_with_cell w part u cell same counts = record {
  places = counts.places;
  components = counts.components;
  sequencers = λ v. put-seg-both (λ v (c : Cell). w.sequencer v ≡ c.sequencer) part.cell u v cell (λ e. rw e (counts.sequencers u ∙ sym same)) (λ e. counts.sequencers v);
}

module _ (n : ℕ) (m : ℕ → ClassPart) (committed : ℕ → GuardedWords) (a : State) (n_small : n < 2 ^ 64 - 1) (good : Good n a) (agrees : Standing m committed a)
    (d : ℕ) (p : Process) (pg : ProcessGood good.given a d p) where
  counts : Counters (m d).words (a.part d)
  counts = agrees.counters d

  identity : (u : SegId) → InUse a u → IsIdentity (classes a.shared) u
  identity u h = let serial = h.serial in let limit = good.serials u.mentor in (h.mentor, omega (arith, serial, limit))

  live : (u : SegId) (words : List ℕ) → ((a.part d).cell u).home ≡ In words → IsIdentity (classes a.shared) u
  live u words e = identity u ((good.cells d u).live words e).in_use

  kept : (u : SegId) (words : List ℕ) → ((a.part d).cell u).stored ≡ Some words → IsIdentity (classes a.shared) u
  kept u words e = identity u ((good.cells d u).stored words e).in_use

  known_of : (k : Known) (i : ℕ) → Rattle.class_model.specs.Process.usable_at p i ≡ Some k → KnownGood good.given a d k
  known_of k i e = pg.known i k (usable_known (known_at p i) k e)

  -- a segment that may be modified is of the own class
  own_size : (k : Known) (i : ℕ) → Rattle.class_model.specs.Process.usable_at p i ≡ Some k → (more : List (Bool × Rule)) →
      Passed ((not (modifies k.rights) ⇒ NotModify) ∷ more) → k.size ≡ good.given.size d k.seg
  own_size k i e more tests =
      let known = known_of k i e in
      let own : k.class ≡ d = known.fits.modified (not_false (modifies k.rights) (passed_head (not (modifies k.rights) ⇒ NotModify) more tests).0) in
      known.size ∙ ap (λ c. good.given.size c k.seg) own

  movable : (k : Known) → k.size ≡ good.given.size d k.seg → k.size ≤ 64 → Movable a.shared d (a.part d) k.seg k.size
  movable k size small = record {
    frames_few = good.sound.shared.frames d;
    pages_few = good.sound.shared.pages d;
    live = live;
    kept = kept;
    live_size = λ words e. ((good.cells d k.seg).live words e).size ∙ sym size;
    kept_size = λ words e. ((good.cells d k.seg).stored words e).size ∙ sym size;
    live_low = λ words e. (let w = (good.cells d k.seg).live words e in let low = w.in_range.0 in let same = w.size in omega (arith, low, same, size));
    size_high = small;
  }

  pub swap_in_law : (k : Known) → Planned a.shared p (SwapIn k) →
      (let ran : Ran Outcome = run_outer (swap_in_body (pool_of a.shared d).frames k) (committed d) in IsEffect a.shared (m d).words ran.words a d p.ring (SwapIn k) ran.shown)
  swap_in_law k planned =
      let size = own_size k planned.0 planned.1 ((not (may_write k.brackets p.ring) ⇒ RingWrite) ∷ (k.size == 0 ⇒ BadSize) ∷ []) planned.2 in
      let small = (known_of k planned.0 planned.1).fits.size in
      let law = swap_in-atomic a.shared d (committed d) (a.part d) k (agrees.holds d) (movable k size small) low in
      record {
        outcome = law.outcome;
        holds = law.held;
        counters = unless_part (λ (z : Part). Counters (m d).words z) (a.part d) _ _ counts
            (counts_with_cell (m d).words (a.part d) k.seg (record ((a.part d).cell k.seg) { home = In (unwrap_or ((a.part d).cell k.seg).stored (replicate k.size 0)) }) refl counts);
        slots = unless_part (λ (z : Part). z.slots ≡ (a.part d).slots) (a.part d) _ _ refl refl;
      }
    where
      t1 : Passed ((not (may_write k.brackets p.ring) ⇒ RingWrite) ∷ (k.size == 0 ⇒ BadSize) ∷ [])
      t1 = (passed_head (not (modifies k.rights) ⇒ NotModify) ((not (may_write k.brackets p.ring) ⇒ RingWrite) ∷ (k.size == 0 ⇒ BadSize) ∷ []) planned.2).1

      t2 : Passed ((k.size == 0 ⇒ BadSize) ∷ [])
      t2 = (passed_head (not (may_write k.brackets p.ring) ⇒ RingWrite) ((k.size == 0 ⇒ BadSize) ∷ []) t1).1

      low : 1 ≤ k.size
      low = let some : k.size ≡ 0 → ⊥ = eqb-false k.size 0 (passed_head (k.size == 0 ⇒ BadSize) [] t2).0 in omega (arith, some)

  pub swap_out_law : (k : Known) → Planned a.shared p (SwapOut k) →
      (let ran : Ran Outcome = run_outer (swap_out_body (pool_of a.shared d).pages k) (committed d) in IsEffect a.shared (m d).words ran.words a d p.ring (SwapOut k) ran.shown)
  swap_out_law k planned =
      let size = own_size k planned.0 planned.1 ((not (may_write k.brackets p.ring) ⇒ RingWrite) ∷ []) planned.2 in
      let small = (known_of k planned.0 planned.1).fits.size in
      let law = swap_out-atomic a.shared d (committed d) (a.part d) k (agrees.holds d) (movable k size small) in
      record {
        outcome = law.outcome;
        holds = law.held;
        counters = unless_part (λ (z : Part). Counters (m d).words z) (a.part d) _ _ counts
            (counts_with_cell (m d).words (a.part d) k.seg (record ((a.part d).cell k.seg) { home = Stored; stored = Some (live_words ((a.part d).cell k.seg)) }) refl counts);
        slots = unless_part (λ (z : Part). z.slots ≡ (a.part d).slots) (a.part d) _ _ refl refl;
      }

  -- what delete leaves of the counts and of the slots
  counts_deleted : (u : SegId) (e : ℕ) (o : Option Alias) → Counters (m d).words (delete_effect d (a.part d) u e o).part × ((delete_effect d (a.part d) u e o).part.slots ≡ (a.part d).slots)
  counts_deleted u e None = (counts, refl)
  counts_deleted u e (Some x) = (
    unless_part (λ (z : Part). Counters (m d).words z) (a.part d) _ _ counts (after (x.class == d)),
    unless_part (λ (z : Part). z.slots ≡ (a.part d).slots) (a.part d) _ _ refl (same (x.class == d)),
  )
    where
      child : SegId
      child = seg d x.serial

      gone : Counters (m d).words (deleted (a.part d) child)
      gone = counts_with_cell (m d).words (a.part d) child (record ((a.part d).cell child) { home = Deleted; stored = None }) refl counts

      after : (b : Bool) → Counters (m d).words (emptied (if b then deleted (a.part d) child else a.part d) u e)
      after true = counts_with_cell (m d).words (deleted (a.part d) child) u (with_entry ((deleted (a.part d) child).cell u) e None) refl gone
      after false = counts_with_cell (m d).words (a.part d) u (with_entry ((a.part d).cell u) e None) refl counts

      same : (b : Bool) → (emptied (if b then deleted (a.part d) child else a.part d) u e).slots ≡ (a.part d).slots
      same true = refl
      same false = refl

  pub delete_law : (k : Known) (e : ℕ) → Planned a.shared p (Delete k e) →
      (let ran : Ran Outcome = run_outer (delete_body d k.seg e) (committed d) in IsEffect a.shared (m d).words ran.words a d p.ring (Delete k e) ran.shown)
  delete_law k e planned =
      let law = delete-atomic (pool_of a.shared d) d (committed d) (a.part d) k.seg e (agrees.holds d) (λ v. (good.cells d v).eight) small
      (λ v f h. (frame_owner a.shared (pool_of a.shared d) (committed d) (a.part d) (agrees.holds d) live v f h).1)
      (λ v f h. (page_owner a.shared (pool_of a.shared d) (committed d) (a.part d) (agrees.holds d) kept v f h).1) in
      let counted = counts_deleted k.seg e (entry_at ((a.part d).cell k.seg) e) in
      record { outcome = law.outcome; holds = law.held; counters = counted.0; slots = counted.1 }
    where
      t1 : Passed ((not (may_write k.brackets p.ring) ⇒ RingWrite) ∷ entry_test e ∷ [])
      t1 = (passed_head (not (modifies k.rights) ⇒ NotModify) ((not (may_write k.brackets p.ring) ⇒ RingWrite) ∷ entry_test e ∷ []) planned.2).1

      t2 : Passed (entry_test e ∷ [])
      t2 = (passed_head (not (may_write k.brackets p.ring) ⇒ RingWrite) (entry_test e ∷ []) t1).1

      small : e < 8
      small = let f : e ≤ 7 = ltb-false 7 e (passed_head (entry_test e) [] t2).0 in omega (arith, f)
