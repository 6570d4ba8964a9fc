-- The segments of a class, one identity after the other, and the entries of each.
use Rattle.std.proofs.Common.{◌≡◌, ℕ, zero, suc, ◌+◌, Bool, true, false, List, [], ◌∷◌, ◌++◌, map, refl, sym, ap, ◌∙◌, Option, Some, None}
use Rattle.std.specs.Prelude.{if◌then◌else◌}
use Rattle.std.specs.List.{flat_map, filter, filter_map, cons_option, enumerate_from}
use Rattle.std.specs.Option.{option_map}
use Rattle.lists.specs.Lists.{below, numbers_from}
use Rattle.words_layout.specs.Segments.{seg}
use Rattle.words_layout.specs.Named.{words_in}
use Rattle.words_layout.specs.declared.segment.SegId.{SegId}
use Rattle.words_layout.specs.declared.coding.Alias.{Alias}
use Rattle.class_model.specs.Config.{classes}
use Rattle.class_model.specs.State.{identities}
use Rattle.class_model.specs.Report.{entry_text, segment_text}
use Rattle.class_model.specs.Section.{seen_entries}
use Rattle.machine.specs.Machine.{Machine}
use Rattle.machine.specs.Banks.{State}
use Rattle.report.specs.Reported.{entries_of, is_touched, word_segment}
use Rattle.report.specs.Found.{entry_in}
use Rattle.report.specs.Parts.{alias_text, entries_text, touched_text, mentor_text, segments_text}
use Rattle.report.proofs.Numbers.{flat_flat, flat_mapped, flat_same}

entry_step : (e : ℕ) (o : Option Alias) (rest : List (ℕ × Alias)) → flat_map entry_text (cons_option (option_map (λ (a : Alias). (e, a)) o) rest) ≡ alias_text e o ++ flat_map entry_text rest
entry_step e None rest = refl
entry_step e (Some a) rest = refl

entries_from : (give : ℕ → Option Alias) (a n : ℕ) →
    flat_map entry_text (filter_map (λ (item : ℕ × Option Alias). option_map (λ (x : Alias). (item.0, x)) item.1) (enumerate_from a (map give (numbers_from a n))))
    ≡ flat_map (λ e. alias_text e (give e)) (numbers_from a n)
entries_from give a zero = refl
entries_from give a (suc n) =
    entry_step a (give a) (filter_map (λ (item : ℕ × Option Alias). option_map (λ (x : Alias). (item.0, x)) item.1) (enumerate_from (a + 1) (map give (numbers_from (a + 1) n))))
    ∙ ap (λ (t : List ℕ). alias_text a (give a) ++ t) (entries_from give (a + 1) n)

-- the lines of the entries are those of the entries that are seen
pub entries_are : (m : State (List ℕ)) (class : ℕ) (u : SegId) → entries_text m class u ≡ flat_map entry_text (seen_entries (entries_of m.shared (words_in m.words class).guarded u))
entries_are m class u = sym (entries_from (entry_in m class u) 0 8)

flat_filter : {X : Type 0} (f : X → List ℕ) (test : X → Bool) (xs : List X) → flat_map f (filter test xs) ≡ flat_map (λ x. if test x then f x else []) xs
flat_filter f test [] = refl
flat_filter f test (x ∷ xs) = by_test (flat_filter f test xs) (test x)
  where
    by_test : flat_map f (filter test xs) ≡ flat_map (λ y. if test y then f y else []) xs → (b : Bool) →
        flat_map f (if b then x ∷ filter test xs else filter test xs) ≡ (if b then f x else []) ++ flat_map (λ y. if test y then f y else []) xs
    by_test rest true = ap (λ (t : List ℕ). f x ++ t) rest
    by_test rest false = rest

-- the lines of the segments are those of the touched ones
pub segments_are : (m : Machine) (class : ℕ) → segments_text m class ≡ flat_map segment_text (map (word_segment m class) (filter (is_touched m class) (identities (classes m.shared))))
segments_are m class =
    sym (flat_mapped segment_text (word_segment m class) (filter (is_touched m class) (identities (classes m.shared)))
    ∙ (flat_filter (λ u. segment_text (word_segment m class u)) (is_touched m class) (identities (classes m.shared))
    ∙ (flat_flat (touched_text m class) (λ x. map (λ s. seg x s) (below 64)) (below (classes m.shared))
    ∙ flat_same (λ x. flat_map (touched_text m class) (map (λ s. seg x s) (below 64))) (mentor_text m class) (λ x. flat_mapped (touched_text m class) (λ s. seg x s) (below 64)) (below (classes m.shared)))))

-- a segment that hasn't been touched
pub untouched : (m : Machine) (class : ℕ) (u : SegId) → is_touched m class u ≡ false → touched_text m class u ≡ []
untouched m class u h = ap (λ (b : Bool). if b then segment_text (word_segment m class u) else []) h
