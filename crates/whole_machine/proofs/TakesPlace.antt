-- When an effect under tests shows a refusal, and when it takes place.
use Rattle.std.proofs.Common.{ℕ, ◌≡◌, ◌∙◌, ap, Bool, true, false, List, [], ◌∷◌, ◌<◌, refl, Some, None}
use Rattle.std.specs.Prelude.{if◌then◌else◌, not, nat_le}
use Rattle.std.proofs.lemmas.Bool.{leb-false}
use Rattle.words_layout.specs.Segments.{put_seg}
use Rattle.words_layout.specs.declared.segment.SegId.{SegId}
use Rattle.policy.specs.Verdict.{first_broken, ◌⇒◌}
use Rattle.policy.specs.declared.rule.Rule.{Rule}
use Rattle.policy.specs.declared.rule.Rule.TheVariants.{Gone, EntryTaken, SerialsUsed, NotIn}
use Rattle.class_model.specs.State.{Part, Cell}
use Rattle.class_model.specs.Step.{Effect, chosen, unless, with_entry, deleted, emptied}
use Rattle.class_model.specs.declared.request.Shown.{Shown}
use Rattle.class_model.specs.declared.request.Shown.TheVariants as S
use Rattle.class_model.specs.Next.{outcome_of}
use Rattle.whole_machine.specs.Parts.{Listed, ListedPart, is_cell, cell_in, part_in}
use Rattle.whole_machine.specs.Shows.{Shows, lost, SameCells, ChangesCell, ListsAt}

-- a refusal changes nothing
pub refuses : (tests : List (Bool × Rule)) (e : Effect) (p : ListedPart) (rule : Rule) → Some rule ≡ first_broken tests →
    Shows (unless (part_in p) tests e) p (S.Refused rule)
refuses tests e p rule h = record {
  part = ap (λ o. (chosen (part_in p) o e).part) h;
  outcome = ap (λ o. (chosen (part_in p) o e).outcome) h;
}

-- where no test refuses, the effect takes place
pub takes_place : (tests : List (Bool × Rule)) (e : Effect) (part : Part) (after : ListedPart) (shown : Shown) → None ≡ first_broken tests →
    part_in after ≡ e.part → outcome_of shown ≡ e.outcome → Shows (unless part tests e) after shown
takes_place tests e part after shown h a o = record {
  part = a ∙ ap (λ t. (chosen part t e).part) h;
  outcome = o ∙ ap (λ t. (chosen part t e).outcome) h;
}

-- a cell was listed where it wasn't, and changed there
pub listed_and_changed : (cells listed after : List Listed) (u : SegId) (at : ℕ) (f : Cell → Cell) → SameCells cells listed →
    ListsAt (is_cell u) listed at → ChangesCell listed after at f → cell_in after ≡ put_seg (cell_in cells) u (f (cell_in cells u))
listed_and_changed cells listed after u at f same l changed =
    changed u l ∙ ap (λ (g : SegId → Cell). put_seg g u (f (g u))) (λ k v. (same v) k)

-- a part with an entry emptied, and before it a child deleted or not
pub emptied_is : (own : Bool) (part : Part) (child u : SegId) (e : ℕ) →
    emptied (if own then deleted part child else part) u e ≡ record part { cell = put_seg (lost own part.cell child) u (with_entry (lost own part.cell child u) e None) }
emptied_is true part child u e = refl
emptied_is false part child u e = refl

-- where the third test of create passes, a serial is left
pub serials_left : (a b : Bool) (n : ℕ) → None ≡ first_broken ((a ⇒ Gone) ∷ (b ⇒ EntryTaken) ∷ (nat_le 64 n ⇒ SerialsUsed) ∷ []) → n < 64
serials_left true b n e = cc
serials_left false true n e = cc
serials_left false false n e = leb-false 64 n (by_test (nat_le 64 n) e)
  where
    by_test : (t : Bool) → None ≡ (if t then Some SerialsUsed else None) → t ≡ false
    by_test true e = cc
    by_test false e = refl

-- where the tests of update pass, the words are live
pub words_are_in : (a b : Bool) → None ≡ first_broken ((a ⇒ Gone) ∷ (not b ⇒ NotIn) ∷ []) → b ≡ true
words_are_in true b e = cc
words_are_in false true e = refl
words_are_in false false e = cc
