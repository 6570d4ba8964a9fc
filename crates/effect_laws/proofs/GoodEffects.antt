-- The effect of each request but create leaves a good state, and shows what is good.
use Rattle.std.proofs.Common.{ℕ, zero, suc, ◌+◌, ◌%◌, ◌^◌, ◌++◌, ◌≤◌, Bool, true, false, not, ◌&&◌, List, [], ◌∷◌, ◌≡◌, refl, ap, ◌∙◌, Option, Some, None, arith, length}
use Rattle.std.specs.Prelude.{◌==◌, if◌then◌else◌, nat_lt, replicate, is_none, slice_index, unwrap_or}
use Rattle.std.proofs.lemmas.Bool.{eqb-false, ltb-true}
use Rattle.std.proofs.Math.Nat.{le_trans}
use Rattle.lists.specs.Lists.{put, overwrite}
use Rattle.words_layout.specs.Segments.{seg, put_seg}
use Rattle.words_layout.specs.declared.segment.SegId.{SegId}
use Rattle.words_layout.specs.declared.coding.Alias.{Alias}
use Rattle.policy.specs.Known.{Known, modifies}
use Rattle.policy.specs.Outcome.{Outcome, Refused, Value, Looked, Counted, Printed, Words, Tally, tallied, shown}
use Rattle.policy.specs.Verdict.{◌⇒◌}
use Rattle.policy.specs.declared.rule.Rule.{Rule}
use Rattle.policy.specs.declared.rule.Rule.TheVariants.{BadSize, Gone, NotIn, AlreadyIn, NoFrame, NoPage, NotModify, RingWrite, ConsoleFull}
use Rattle.class_model.specs.Config.{pool_of}
use Rattle.class_model.specs.Process.{Process, known_at, usable_at, free_known}
use Rattle.class_model.specs.Plan.{MakeKnown, Delete, SwapIn, SwapOut, Fetch, Update, Read, Advance, Ticket, Out}
use Rattle.class_model.specs.State.{State, Part, CellHome, Never, Stored, In, Deleted, with_cell, with_component, with_part, cell_of, entry_at, is_deleted, is_in, is_in_home, live_words, pages_in_use}
use Rattle.class_model.specs.Step.{Effect, chosen, effect, delete_effect, deleted, emptied, with_entry}
use Rattle.process.specs.Fits.{OutcomeFits}
use Rattle.effect_laws.proofs.Good.{Given, WordsGood, KnownGood, ProcessGood, Good}
use Rattle.effect_laws.proofs.Planned.{Planned, Passed}
use Rattle.effect_laws.proofs.GateData.{put-seg-both}
use Rattle.effect_laws.proofs.GateLaws.{usable_known}
use Rattle.effect_laws.proofs.CreateTests.{passed_head, changes}
use Rattle.effect_laws.proofs.Growing.{keeps_all, grow_known, by_put}
use Rattle.effect_laws.proofs.GoodSettled.{LearnsGood}
use Rattle.effect_laws.proofs.GoodCells.{PartGood, part_more, part_cell, cell_emptied, cell_deleted, cell_in, brought_words, cell_out, cell_ticket, cell_updated, good_part, part_of_good}
use Rattle.effect_laws.proofs.GoodKnown.{mode_good, shown_good}

-- the effect leaves a good state, and shows what is good in it
pub record EffectGood (n : ℕ) (a : State) (d : ℕ) (e : Effect) : Type 0 where
  pub good : Good (n + 1) (with_part a d e.part)
  pub slots : e.part.slots ≡ (a.part d).slots
  pub fits : OutcomeFits a.shared d e.outcome
  pub learns : LearnsGood good.given (with_part a d e.part) d e.outcome

-- an outcome by which nothing is learned
pub record IsPlain (a : State) (d : ℕ) (o : Outcome) : Type 0 where
  pub fits : OutcomeFits a.shared d o
  pub learns : (t : Given) (b : State) → LearnsGood t b d o

in_words : (h : CellHome) → not (is_in_home h) ≡ false → (words : List ℕ) × (h ≡ In words)
in_words (In words) e = (words, refl)
in_words Never e = cc
in_words Stored e = cc
in_words Deleted e = cc

module _ (n : ℕ) (a : State) (good : Good n a) (d : ℕ) (p : Process) (pg : ProcessGood good.given a d p) where
  abbrev t : Given
  t = good.given

  here : PartGood n good.given a d (a.part d)
  here = part_of_good n a good d

  plain : (e : Effect) → e.part.next_serial ≡ (a.part d).next_serial → e.part.slots ≡ (a.part d).slots → PartGood (n + 1) good.given a d e.part → IsPlain a d e.outcome → EffectGood n a d e
  plain e serial slots h o = record { good = good_part n a good d e.part serial slots h; slots = slots; fits = o.fits; learns = o.learns _ (with_part a d e.part) }

  refused_good : (rule : Rule) → EffectGood n a d (record { part = a.part d; outcome = Refused rule })
  refused_good rule = plain _ refl refl (part_more n good.given a d (a.part d) here) (record { fits = tt; learns = λ t b. tt })

  -- by its tests
  pub tested_good : (r : Option Rule) (e : Effect) → (r ≡ None → EffectGood n a d e) → EffectGood n a d (chosen (a.part d) r e)
  tested_good None e h = h refl
  tested_good (Some rule) e h = refused_good rule

  pub known_of : (k : Known) (i : ℕ) → usable_at p i ≡ Some k → KnownGood good.given a d k
  known_of k i e = pg.known i k (usable_known (known_at p i) k e)

  value_plain : (v : ℕ) → IsPlain a d (Value v)
  value_plain v = record { fits = tt; learns = λ t b. tt }

  pub make_known_effect_good : (k : Known) (e mode : ℕ) → Planned a.shared p (MakeKnown k e mode) → EffectGood n a d (effect a d p.ring (MakeKnown k e mode))
  make_known_effect_good k e mode pl =
      record { good = g; slots = refl; fits = seen.0; learns = learned (shown a.shared.table d p.ring k.class mode (entry_at (cell_of a k) e)) seen.1 }
    where
      seen : OutcomeFits a.shared d (shown a.shared.table d p.ring k.class mode (entry_at (cell_of a k) e)) × LearnsGood good.given a d (shown a.shared.table d p.ring k.class mode (entry_at (cell_of a k) e))
      seen = shown_good good.given a good.sound good.serials d pg.fits.class p.ring k.class mode (mode_good p.ring e mode (is_none (free_known p)) k pl.2)
          (entry_at (cell_of a k) e) (λ x h. (good.cells k.class k.seg).entries e x h)

      g : Good (n + 1) (with_part a d (a.part d))
      g = good_part n a good d (a.part d) refl refl (part_more n good.given a d (a.part d) here)

      learned : (o : Outcome) → LearnsGood good.given a d o → LearnsGood g.given (with_part a d (a.part d)) d o
      learned (Outcome.Learns x) h = grow_known good.given good.given a (put a.part d (a.part d)) (keeps_all good.given a d (a.part d) (omega arith)) d x h
      learned (Refused r) h = tt
      learned (Value v) h = tt
      learned (Words at ws) h = tt
      learned (Printed at v) h = tt
      learned (Looked x) h = tt
      learned (Counted x) h = tt

  pub delete_effect_good : (k : Known) (e : ℕ) → EffectGood n a d (effect a d p.ring (Delete k e))
  delete_effect_good k e = by_entry (entry_at ((a.part d).cell k.seg) e)
    where
      emptied_good : (part : Part) → PartGood n good.given a d part → PartGood (n + 1) good.given a d (emptied part k.seg e)
      emptied_good part h = part_more n good.given a d (emptied part k.seg e)
          (part_cell n good.given a d part k.seg (with_entry (part.cell k.seg) e None) h (cell_emptied n good.given a d k.seg (part.cell k.seg) (h.cells k.seg) e))

      by_class : (child : SegId) (b : Bool) → EffectGood n a d (record { part = emptied (if b then deleted (a.part d) child else a.part d) k.seg e; outcome = Value 0 })
      by_class child true = plain _ refl refl (emptied_good (deleted (a.part d) child)
          (part_cell n good.given a d (a.part d) child (record ((a.part d).cell child) { home = Deleted; stored = None }) here
          (cell_deleted n good.given a d child ((a.part d).cell child) (here.cells child)))) (value_plain 0)
      by_class child false = plain _ refl refl (emptied_good (a.part d) here) (value_plain 0)

      by_entry : (o : Option Alias) → EffectGood n a d (delete_effect d (a.part d) k.seg e o)
      by_entry None = refused_good Rattle.policy.specs.declared.rule.Rule.TheVariants.NoEntry
      by_entry (Some x) = tested_good _ _ (λ z. by_class (seg d x.serial) (x.class == d))

  -- the size of a segment that may be modified
  own_size : (k : Known) → KnownGood good.given a d k → modifies k.rights ≡ true → k.size ≡ good.given.size d k.seg
  own_size k h m = h.size ∙ ap (λ c. good.given.size c k.seg) (h.fits.modified m)

  pub swap_in_effect_good : (k : Known) → Planned a.shared p (SwapIn k) → EffectGood n a d (effect a d p.ring (SwapIn k))
  swap_in_effect_good k pl = tested_good _ _ (λ z. plain _ refl refl
      (part_more n good.given a d (with_cell (a.part d) k.seg (record ((a.part d).cell k.seg) { home = In (unwrap_or ((a.part d).cell k.seg).stored (replicate k.size 0)) }))
      (part_cell n good.given a d (a.part d) k.seg (record ((a.part d).cell k.seg) { home = In (unwrap_or ((a.part d).cell k.seg).stored (replicate k.size 0)) }) here
      (cell_in n good.given a d k.seg ((a.part d).cell k.seg) (here.cells k.seg) (unwrap_or ((a.part d).cell k.seg).stored (replicate k.size 0))
      (brought_words n good.given a d k.seg ((a.part d).cell k.seg) (here.cells k.seg) k.size zeros)))) (value_plain 0))
    where
      known : KnownGood good.given a d k
      known = known_of k pl.0 pl.1

      tests : (modifies k.rights ≡ true) × Passed ((k.size == 0 ⇒ BadSize) ∷ [])
      tests = changes p.ring k ((k.size == 0 ⇒ BadSize) ∷ []) pl.2

      length-replicate : (m : ℕ) → length {A = ℕ} (replicate m 0) ≡ m
      length-replicate zero = refl
      length-replicate (suc m) = ap suc (length-replicate m)

      zeros : WordsGood good.given a d k.seg (replicate k.size 0)
      zeros = record {
        size = length-replicate k.size ∙ own_size k known tests.0;
        in_use = known.in_use;
        in_range = (let l = length-replicate k.size in let some : k.size ≡ 0 → ⊥ = eqb-false k.size 0 (passed_head (k.size == 0 ⇒ BadSize) [] tests.1).0 in
            let most = known.fits.size in (omega (arith, l, some), omega (arith, l, most)));
      }

  pub swap_out_effect_good : (k : Known) → EffectGood n a d (effect a d p.ring (SwapOut k))
  swap_out_effect_good k = tested_good _ _ (λ z.
      (let gone : Bool × Rule = is_deleted ((a.part d).cell k.seg) ⇒ Gone in
      let out : Bool × Rule = not (is_in ((a.part d).cell k.seg)) ⇒ NotIn in
      let full : Bool × Rule = is_none ((a.part d).cell k.seg).stored && Rattle.std.specs.Prelude.nat_le (pool_of a.shared d).pages (pages_in_use a.shared (a.part d)) ⇒ NoPage in
      let words = in_words ((a.part d).cell k.seg).home (passed_head out (full ∷ []) (passed_head gone (out ∷ full ∷ []) z).1).0 in
      plain _ refl refl
      (part_more n good.given a d (with_cell (a.part d) k.seg (record ((a.part d).cell k.seg) { home = Stored; stored = Some (live_words ((a.part d).cell k.seg)) }))
      (part_cell n good.given a d (a.part d) k.seg (record ((a.part d).cell k.seg) { home = Stored; stored = Some (live_words ((a.part d).cell k.seg)) }) here
      (cell_out n good.given a d k.seg ((a.part d).cell k.seg) (here.cells k.seg) words.0 words.1))) (value_plain 0)))

  pub fetch_effect_good : (k : Known) (offset count pad : ℕ) → EffectGood n a d (effect a d p.ring (Fetch k offset count pad))
  fetch_effect_good k offset count pad = tested_good _ _ (λ z. plain _ refl refl (part_more n good.given a d (a.part d) here) (record { fits = tt; learns = λ t b. tt }))

  pub update_effect_good : (k : Known) (offset : ℕ) (words : List ℕ) → EffectGood n a d (effect a d p.ring (Update k offset words))
  update_effect_good k offset new = tested_good _ _ (λ z.
      (let gone : Bool × Rule = is_deleted ((a.part d).cell k.seg) ⇒ Gone in
      let out : Bool × Rule = not (is_in ((a.part d).cell k.seg)) ⇒ NotIn in
      let words = in_words ((a.part d).cell k.seg).home (passed_head out [] (passed_head gone (out ∷ []) z).1).0 in
      plain _ refl refl
      (part_cell (n + 1) good.given a d (a.part d) k.seg (record ((a.part d).cell k.seg) { home = In (overwrite (live_words ((a.part d).cell k.seg)) offset new); writes = ((a.part d).cell k.seg).writes + 1 })
      (part_more n good.given a d (a.part d) here)
      (cell_updated n good.given a d k.seg ((a.part d).cell k.seg) (here.cells k.seg) words.0 words.1 offset new)) (value_plain (((a.part d).cell k.seg).writes + 1))))

  tallied_plain : (m wanted : ℕ) (x : Tally) (value : ℕ) → IsPlain a d (tallied m wanted x value)
  tallied_plain m wanted x value = first (nat_lt (x.seen + 1) m) (nat_lt ((x.sum + value) % 2 ^ 64) wanted)
    where
      first : (b c : Bool) → IsPlain a d (if b then Looked (Some (record { seen = x.seen + 1; sum = (x.sum + value) % 2 ^ 64 })) else (if c then Looked None else Counted ((x.sum + value) % 2 ^ 64)))
      first true c = record { fits = tt; learns = λ t b. tt }
      first false true = record { fits = tt; learns = λ t b. tt }
      first false false = record { fits = tt; learns = λ t b. tt }

  pub read_effect_good : (k : Known) (wanted : ℕ) (x : Tally) → EffectGood n a d (effect a d p.ring (Read k wanted x))
  read_effect_good k wanted x = plain _ refl refl (part_more n good.given a d (a.part d) here) (tallied_plain _ wanted x _)

  pub advance_effect_good : (k : Known) → EffectGood n a d (effect a d p.ring (Advance k))
  advance_effect_good k = plain _ refl refl
      (record { serial = here.serial; cells = (part_more n good.given a d (a.part d) here).cells; used = le_trans here.used (omega arith); components = risen }) (value_plain _)
    where
      risen : (x : ℕ) (u : SegId) → (with_component (a.part d) k.class k.seg ((a.part d).component k.class k.seg + 1)).component x u ≤ n + 1
      risen x u = by_put (λ x (f : SegId → ℕ). f u ≤ n + 1) (a.part d).component k.class (put_seg ((a.part d).component k.class) k.seg ((a.part d).component k.class k.seg + 1)) x
          (put-seg-both (λ v (c : ℕ). c ≤ n + 1) ((a.part d).component k.class) k.seg u ((a.part d).component k.class k.seg + 1)
          (λ e. (let h = here.components k.class k.seg in omega (arith, h))) (λ e. (let h = here.components k.class u in omega (arith, h))))
          (λ e. (let h = here.components x u in omega (arith, h)))

  pub ticket_effect_good : (k : Known) → EffectGood n a d (effect a d p.ring (Ticket k))
  ticket_effect_good k = plain _ refl refl
      (part_cell (n + 1) good.given a d (a.part d) k.seg (record ((a.part d).cell k.seg) { sequencer = ((a.part d).cell k.seg).sequencer + 1 }) (part_more n good.given a d (a.part d) here)
      (cell_ticket n good.given a d k.seg ((a.part d).cell k.seg) (here.cells k.seg))) (value_plain _)

  pub out_effect_good : (value : ℕ) → EffectGood n a d (effect a d p.ring (Out value))
  out_effect_good value = by_room (nat_lt (a.part d).used a.shared.console) refl
    where
      more : PartGood (n + 1) good.given a d (a.part d)
      more = part_more n good.given a d (a.part d) here

      up : (a.part d).used + 1 ≤ n + 1
      up = let u = here.used in omega (arith, u)

      by_room : (b : Bool) → nat_lt (a.part d).used a.shared.console ≡ b → EffectGood n a d
          (if b then record { part = record (a.part d) { lines = (a.part d).lines ++ value ∷ []; used = (a.part d).used + 1 }; outcome = Printed (a.part d).used value }
          else record { part = record (a.part d) { used = (a.part d).used + 1 }; outcome = Refused ConsoleFull })
      by_room true e = plain _ refl refl (record { serial = more.serial; cells = more.cells; used = up; components = more.components }) (record { fits = ltb-true (a.part d).used a.shared.console e; learns = λ t b. tt })
      by_room false e = plain _ refl refl (record { serial = more.serial; cells = more.cells; used = up; components = more.components }) (record { fits = tt; learns = λ t b. tt })
