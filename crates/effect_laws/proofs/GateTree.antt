-- Makeknown and create at one go, on words that hold the part of their class.
use Rattle.std.proofs.Common.{ℕ, ◌+◌, ◌%◌, ◌^◌, ◌<◌, Bool, true, false, ◌&&◌, List, [], ◌∷◌, ◌≡◌, refl, sym, ap, subst, ◌∙◌, Option, Some, None, arith, length}
use Rattle.std.specs.Prelude.{◌==◌, if◌then◌else◌, nat_le, is_some}
use Rattle.std.proofs.lemmas.Bool.{eqb-true, eqb-false, leb-false}
use Rattle.std.proofs.lemmas.List.{get_or-set_same, get_or-set_other}
use Rattle.labels.specs.Label.{ClassEntry}
use Rattle.rings.specs.Brackets.{Brackets}
use Rattle.words_layout.specs.Segments.{same_seg}
use Rattle.words_layout.specs.Words.{GuardedWords, set_guarded, NextSerial, HomeOf, EntryOf, plus_one}
use Rattle.words_layout.specs.Coding.{home_of, entry_of, pack_entry, alias_in_range}
use Rattle.words_layout.proofs.CodingLaws.{entry_of-pack_entry}
use Rattle.words_layout.specs.declared.segment.SegId.{SegId}
use Rattle.words_layout.specs.declared.coding.Home.{Home}
use Rattle.words_layout.specs.declared.coding.Home.TheVariants as H
use Rattle.words_layout.specs.declared.coding.Alias.{Alias}
use Rattle.policy.specs.Known.{Known, new_alias, in_table}
use Rattle.policy.specs.Outcome.{Value, Refused, shown}
use Rattle.policy.specs.Verdict.{◌⇒◌}
use Rattle.policy.specs.declared.rule.Rule.TheVariants.{Gone, EntryTaken, SerialsUsed}
use Rattle.turns.specs.AtOnce.{run_loads, run_outer}
use Rattle.tree_gates.specs.Tree.{make_known_body, create_body, create_home, create_entry}
use Rattle.class_model.specs.Config.{Pool}
use Rattle.class_model.specs.State.{Part, Cell, with_cell, entry_at, is_deleted}
use Rattle.class_model.specs.Step.{Effect, create_effect, unless, with_entry}
use Rattle.machine.specs.Stands.{Holds, ClassHolds, SegmentHolds, HomeHolds, StoredHolds}
use Rattle.effect_laws.proofs.GateData.{GateLaw, put-seg-both}
use Rattle.effect_laws.proofs.Same.{segment_same}

-- makeknown, where the entry is one of the table
pub make_known-atomic : (pool : Pool) (g : GuardedWords) (part : Part) (table : List ClassEntry) (d ring : ℕ) (k : Known) (e mode : ℕ) →
    ClassHolds pool g part → in_table table (entry_at (part.cell k.seg) e) ≡ entry_at (part.cell k.seg) e →
    run_loads (make_known_body table d ring k e mode) g ≡ shown table d ring k.class mode (entry_at (part.cell k.seg) e)
make_known-atomic pool g part table d ring k e mode holds known =
    ap (λ o. shown table d ring k.class mode (in_table table o)) (holds.entries k.seg e) ∙ ap (shown table d ring k.class mode) known

module _ (pool : Pool) (g : GuardedWords) (part : Part) (u : SegId) (e class : ℕ) (b : Brackets) (size : ℕ)
    (holds : Holds pool g part) (eight : e < length (part.cell u).entries)
    (range : part.next_serial < 64 → alias_in_range (new_alias class b size part.next_serial) ≡ true) where
  abbrev made : Alias
  made = new_alias class b size part.next_serial

  abbrev after_cell : Cell
  after_cell = with_entry (part.cell u) e (Some made)

  abbrev after_part : Part
  after_part = record (with_cell part u after_cell) { next_serial = part.next_serial + 1 }

  -- the words after it, where the next serial was n
  abbrev after_words : ℕ → GuardedWords
  after_words n = set_guarded (set_guarded g NextSerial (plus_one n)) (EntryOf u e) (pack_entry (new_alias class b size n))

  abbrev by_tests : Bool → Bool → Bool → Effect
  by_tests dead taken full = unless part ((dead ⇒ Gone) ∷ (taken ⇒ EntryTaken) ∷ (full ⇒ SerialsUsed) ∷ []) (record { part = after_part; outcome = Value part.next_serial })

  effect_is : (x y z : Bool) → is_deleted (part.cell u) ≡ x → is_some (entry_at (part.cell u) e) ≡ y → nat_le 64 part.next_serial ≡ z →
      create_effect part u e class b size ≡ by_tests x y z
  effect_is x y z p q r = ap (λ x. by_tests x (is_some (entry_at (part.cell u) e)) (nat_le 64 part.next_serial)) p ∙ ap (λ y. by_tests x y (nat_le 64 part.next_serial)) q ∙ ap (by_tests x y) r

  entries_after : (n : ℕ) → n ≡ part.next_serial → n < 64 → (v : SegId) (f : ℕ) → entry_of (after_words n (EntryOf v f)) ≡ entry_at (after_part.cell v) f
  entries_after n same small v f = elim (same_seg v u) as
      (λ t. same_seg v u ≡ t → entry_of (if (t && f == e) then pack_entry (new_alias class b size n) else g (EntryOf v f)) ≡ entry_at (if t then after_cell else part.cell v) f) [
        | true ↦ λ k. (elim (f == e) as (λ t. (f == e) ≡ t → entry_of (if t then pack_entry (new_alias class b size n) else g (EntryOf v f)) ≡ entry_at after_cell f) [
          | true ↦ λ i. rw (eqb-true f e i) (ap (λ x. entry_of (pack_entry (new_alias class b size x))) same ∙ entry_of-pack_entry made (range (omega (arith, same, small)))
              ∙ sym (get_or-set_same (part.cell u).entries e (Some made) None eight))
          | false ↦ λ i. rw (Rattle.words_layout.proofs.Names.same_seg-true v u k) (holds.of_class.entries u f ∙ sym (get_or-set_other (part.cell u).entries e f (Some made) None (eqb-false f e i)))
        ] refl)
        | false ↦ λ k. holds.of_class.entries v f
      ] refl

  holds_after : (n : ℕ) → n ≡ part.next_serial → n < 64 → Holds pool (after_words n) after_part
  holds_after n same small = record {
    of_class = record {
      next_serial = (let s : (n + 1) % 2 ^ 64 ≡ part.next_serial + 1 = omega (arith, same, small) in s);
      entries = entries_after n same small;
      stored = λ v. put-seg-both (λ v (c : Cell). StoredHolds g (home_of (g (HomeOf v))) c.stored) part.cell u v after_cell (λ k. rw k (holds.of_class.stored u)) (λ k. holds.of_class.stored v);
      frames_below = holds.of_class.frames_below;
      pages_below = holds.of_class.pages_below;
      frames = holds.of_class.frames;
      pages = holds.of_class.pages;
    };
    of_segments = λ v. put-seg-both (λ v (c : Cell). SegmentHolds (after_words n) v c) part.cell u v after_cell
        (λ k. rw k (segment_same g (after_words n) u after_cell refl refl (λ h i k. refl) (record { home = (holds.of_segments u).home; writes = (holds.of_segments u).writes })))
        (λ k. segment_same g (after_words n) v (part.cell v) refl refl (λ h i k. refl) (holds.of_segments v));
  }

  by_serial : (z : Bool) → nat_le 64 (g NextSerial) ≡ z →
      GateLaw pool (run_outer (if z then Rattle.turns.specs.Bodies.Outer.Shows (Refused SerialsUsed) else Rattle.turns.specs.Bodies.Outer.Store NextSerial (plus_one (g NextSerial)) (Rattle.turns.specs.Bodies.Outer.Store (EntryOf u e) (pack_entry (new_alias class b size (g NextSerial))) (Rattle.turns.specs.Bodies.Outer.Shows (Value (g NextSerial))))) g) (by_tests false false z)
  by_serial true k = record { outcome = refl; held = holds }
  by_serial false k = let small : g NextSerial < 64 = omega (arith, leb-false 64 (g NextSerial) k) in
      record { outcome = ap Value holds.of_class.next_serial; held = holds_after (g NextSerial) holds.of_class.next_serial small }

  by_entry : (o : Option Alias) → entry_of (g (EntryOf u e)) ≡ o → is_deleted (part.cell u) ≡ false → GateLaw pool (run_outer (create_entry u e class b size o) g) (create_effect part u e class b size)
  by_entry (Some a) k alive = subst (GateLaw pool (run_outer (create_entry u e class b size (Some a)) g))
      (sym (ap (λ x. by_tests x (is_some (entry_at (part.cell u) e)) (nat_le 64 part.next_serial)) alive
      ∙ ap (λ (o : Option Alias). by_tests false (is_some o) (nat_le 64 part.next_serial)) (sym (holds.of_class.entries u e) ∙ k))) (record { outcome = refl; held = holds })
  by_entry None k alive = subst (GateLaw pool (run_outer (create_entry u e class b size None) g))
      (sym (effect_is false false (nat_le 64 (g NextSerial)) alive (ap (λ (o : Option Alias). is_some o) (sym (holds.of_class.entries u e) ∙ k)) (ap (nat_le 64) (sym holds.of_class.next_serial))))
      (by_serial (nat_le 64 (g NextSerial)) refl)

  pub create-atomic : GateLaw pool (run_outer (create_body u e class b size) g) (create_effect part u e class b size)
  create-atomic = by_home (home_of (g (HomeOf u))) (holds.of_segments u).home
    where
      by_home : (h : Home) → HomeHolds g h (part.cell u).home → GateLaw pool (run_outer (create_home u e class b size h) g) (create_effect part u e class b size)
      by_home H.Never k = by_entry (entry_of (g (EntryOf u e))) refl (ap Rattle.class_model.specs.State.is_deleted_home k)
      by_home (H.Stored p z) k = by_entry (entry_of (g (EntryOf u e))) refl (ap Rattle.class_model.specs.State.is_deleted_home k)
      by_home (H.Resident f page z) k = by_entry (entry_of (g (EntryOf u e))) refl (ap Rattle.class_model.specs.State.is_deleted_home k)
      by_home H.Deleted k = subst (GateLaw pool (run_outer (create_home u e class b size H.Deleted) g))
          (sym (ap (λ x. by_tests x (is_some (entry_at (part.cell u) e)) (nat_le 64 part.next_serial)) (ap Rattle.class_model.specs.State.is_deleted_home k))) (record { outcome = refl; held = holds })
