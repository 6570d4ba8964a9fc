-- The effect of create leaves a good state: the new segment is given its size and brackets.
use Rattle.std.proofs.Common.{ℕ, ◌+◌, ◌<◌, Bool, true, false, ◌&&◌, [], ◌∷◌, ◌≡◌, refl, sym, ap, subst, ◌∙◌, Some, inl, inr, arith}
use Rattle.std.specs.Prelude.{◌==◌, if◌then◌else◌, nat_le, is_some}
use Rattle.std.proofs.lemmas.Bool.{eq-eqb, leb-false, false_from_ne_true}
use Rattle.std.proofs.lemmas.List.{length-set}
use Rattle.std.proofs.Math.Nat.{le_trans}
use Rattle.lists.specs.Lists.{put}
use Rattle.labels.specs.Label.{at_or_below}
use Rattle.rings.specs.Brackets.{Brackets}
use Rattle.words_layout.specs.Segments.{seg, same_seg}
use Rattle.words_layout.specs.declared.segment.SegId.{SegId}
use Rattle.words_layout.specs.declared.coding.Alias.{Alias}
use Rattle.words_layout.proofs.Names.{same_seg-true, same_seg-refl}
use Rattle.policy.specs.Known.{Known, new_alias}
use Rattle.policy.specs.Outcome.{Value}
use Rattle.policy.specs.Private.{brackets_of, create_tests}
use Rattle.policy.specs.Verdict.{◌⇒◌}
use Rattle.policy.specs.declared.rule.Rule.{Rule}
use Rattle.policy.specs.declared.rule.Rule.TheVariants.{Gone, EntryTaken, SerialsUsed}
use Rattle.class_model.specs.Process.{Process}
use Rattle.class_model.specs.Plan.{Create}
use Rattle.class_model.specs.State.{State, Part, Cell, with_cell, with_part, entry_at, is_deleted}
use Rattle.class_model.specs.Step.{effect, with_entry}
use Rattle.effect_laws.proofs.Good.{Given, InUse, EntryGood, CellGood, KnownGood, ProcessGood, Good}
use Rattle.effect_laws.proofs.Planned.{Planned, Passed}
use Rattle.effect_laws.proofs.GateData.{put-seg-both}
use Rattle.effect_laws.proofs.CreateTests.{passed_head}
use Rattle.effect_laws.proofs.CreateTests as T
use Rattle.effect_laws.proofs.Committed.{put-here}
use Rattle.effect_laws.proofs.Growing.{Grows, keep_use, grow_entry, grow_cell, grow_process, good_with, set-read}
use Rattle.effect_laws.proofs.GoodEffects.{EffectGood, tested_good, known_of}

-- a table with what one identity of a class is given
abbrev pub gives : Given → ℕ → SegId → ℕ → Brackets → Given
gives t class u size b = record {
  size = λ c v. if (c == class && same_seg v u) then size else t.size c v;
  brackets = λ c v. if (c == class && same_seg v u) then b else t.brackets c v;
}

and_false : (x y : Bool) → y ≡ false → (x && y) ≡ false
and_false true y e = e
and_false false y e = refl

module _ (n : ℕ) (a : State) (good : Good n a) (d : ℕ) (p : Process) (pg : ProcessGood good.given a d p)
    (k : Known) (e class x size : ℕ) (known : KnownGood good.given a d k) (tests : Passed (create_tests a.shared.table p.ring e class x size k))
    (room : nat_le 64 (a.part d).next_serial ≡ false) where
  abbrev b : Brackets
  b = brackets_of x

  abbrev u : SegId
  u = seg d (a.part d).next_serial

  abbrev made : Alias
  made = new_alias class (brackets_of x) size (a.part d).next_serial

  abbrev cell : Cell
  cell = with_entry ((a.part d).cell k.seg) e (Some made)

  abbrev X : Part
  X = record (with_cell (a.part d) k.seg cell) { next_serial = (a.part d).next_serial + 1 }

  abbrev t' : Given
  t' = gives good.given class u size b

  small : (a.part d).next_serial < 64
  small = leb-false 64 (a.part d).next_serial room

  -- the new identity is none of those in use
  fresh : (v : SegId) → InUse a v → same_seg v u ≡ false
  fresh v h = false_from_ne_true (same_seg v u) (λ s. (let same : v ≡ u = same_seg-true v u s in
      let serial : u.serial < (a.part u.mentor).next_serial = subst (λ z. z.serial < (a.part z.mentor).next_serial) same h.serial in absurd (omega (arith, serial))))

  grows : Grows good.given t' a (put a.part d X)
  grows = record {
    in_use = keep_use a d X (omega arith);
    size = λ c v h. ap (λ (z : Bool). if z then size else good.given.size c v) (and_false (c == class) (same_seg v u) (fresh v h));
    brackets = λ c v h. ap (λ (z : Bool). if z then b else good.given.brackets c v) (and_false (c == class) (same_seg v u) (fresh v h));
  }

  here_given : (class == class && same_seg u u) ≡ true
  here_given = rw (eq-eqb class class refl, same_seg-refl u) refl

  own : k.class ≡ d
  own = known.fits.modified (T.may_create a.shared.table p.ring e class size x k tests).0

  made_good : EntryGood t' (with_part a d X) d made
  made_good = record {
    in_use = record { mentor = pg.fits.class; serial = (let h : put a.part d X d ≡ X = put-here a.part d X in let s : (put a.part d X d).next_serial ≡ (a.part d).next_serial + 1 = ap (λ (z : Part). z.next_serial) h in omega (arith, s)) };
    class = T.class_there a.shared.table p.ring e class size x k tests;
    above = subst (λ c. at_or_below a.shared.table c class ≡ true) own (T.compatible a.shared.table p.ring e class size x k tests);
    size = sym (ap (λ (z : Bool). if z then size else good.given.size class u) here_given);
    in_range = (T.size_low a.shared.table p.ring e class size x k tests, T.size_high a.shared.table p.ring e class size x k tests);
    brackets = sym (ap (λ (z : Bool). if z then b else good.given.brackets class u) here_given);
    in_order = T.ordered a.shared.table p.ring e class size x k tests;
  }

  kept_cell : (v : SegId) → CellGood (n + 1) t' (with_part a d X) d v ((a.part d).cell v)
  kept_cell v = grow_cell good.given t' a (put a.part d X) grows n (n + 1) (omega arith) d v ((a.part d).cell v) (good.cells d v)

  entry_good : (f : ℕ) (y : Alias) → entry_at cell f ≡ Some y → EntryGood t' (with_part a d X) d y
  entry_good f y h = elim (set-read ((a.part d).cell k.seg).entries e f (Some made) y h) [
    | inl q ↦ (let same : made ≡ y = cc in subst (EntryGood t' (with_part a d X) d) same made_good)
    | inr q ↦ grow_entry good.given t' a (put a.part d X) grows d y ((good.cells d k.seg).entries f y q)
  ]

  new_cell : CellGood (n + 1) t' (with_part a d X) d k.seg cell
  new_cell = let was = kept_cell k.seg in record {
    eight = length-set ((a.part d).cell k.seg).entries e (Some made) ∙ was.eight;
    entries = entry_good;
    live = was.live;
    stored = was.stored;
    writes = was.writes;
    sequencer = was.sequencer;
  }

  cells_good : (v : SegId) → CellGood (n + 1) t' (with_part a d X) d v (X.cell v)
  cells_good v = put-seg-both (λ v (c : Cell). CellGood (n + 1) t' (with_part a d X) d v c) (a.part d).cell k.seg v cell
      (λ q. subst (λ z. CellGood (n + 1) t' (with_part a d X) d z cell) (sym q) new_cell) (λ q. kept_cell v)

  create_state : Good (n + 1) (with_part a d X)
  create_state = good_with n (n + 1) (omega arith) a good d X t' grows (omega (arith, small)) cells_good
      (λ q i r h. grow_process good.given t' a (put a.part d X) grows d r (good.processes (record { processor = q; class = d; slot = i }) r h))
      (le_trans (good.used d) (omega arith)) (λ y v. le_trans (good.components d y v) (omega arith))

  created : EffectGood n a d (record { part = X; outcome = Value (a.part d).next_serial })
  created = record { good = create_state; slots = refl; fits = tt; learns = tt }

module _ (n : ℕ) (a : State) (good : Good n a) (d : ℕ) (p : Process) (pg : ProcessGood good.given a d p) where
  pub create_effect_good : (k : Known) (e class : ℕ) (b : Brackets) (size : ℕ) → Planned a.shared p (Create k e class b size) → EffectGood n a d (effect a d p.ring (Create k e class b size))
  create_effect_good k e class b size pl = subst (λ z. EffectGood n a d (effect a d p.ring (Create k e class z size))) (sym pl.3)
      (tested_good n a good d p pg _ _ (λ z.
      (let gone : Bool × Rule = is_deleted ((a.part d).cell k.seg) ⇒ Gone in
      let taken : Bool × Rule = is_some (entry_at ((a.part d).cell k.seg) e) ⇒ EntryTaken in
      let used : Bool × Rule = nat_le 64 (a.part d).next_serial ⇒ SerialsUsed in
      created n a good d p pg k e class pl.1 size (known_of n a good d p pg k pl.0 pl.2) pl.4
      (passed_head used [] (passed_head taken (used ∷ []) (passed_head gone (taken ∷ used ∷ []) z).1).1).0)))
