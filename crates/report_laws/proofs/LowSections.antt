-- The section of a class, read off the machine of words, depends only on what is at or below the class.
use Rattle.std.proofs.Common.{ℕ, ◌%◌, ◌^◌, Bool, true, false, not, ◌||◌, List, [], ◌∷◌, ◌≡◌, refl, ap, ◌∙◌, map}
use Rattle.std.specs.Prelude.{if◌then◌else◌, nat_lt, sum, is_some}
use Rattle.std.specs.List.{filter, list_any}
use Rattle.lists.specs.Lists.{below}
use Rattle.labels.specs.Label.{at_or_below, class_at}
use Rattle.labels.proofs.Tables.{class_reflexive}
use Rattle.words_layout.specs.Coding.{home_of}
use Rattle.words_layout.specs.Words.{Words, HomeOf, WritesOf}
use Rattle.words_layout.specs.declared.segment.SegId.{SegId}
use Rattle.policy.specs.Outcome.{components}
use Rattle.class_model.specs.Config.{Shared, classes, low_shared}
use Rattle.class_model.specs.Report.{Seen, SeenSegment, section_text}
use Rattle.class_model.specs.Section.{seen_processes, seen_entries}
use Rattle.class_model.specs.State.{identities}
use Rattle.machine.specs.Low.{low_part}
use Rattle.machine.specs.Machine.{Machine, ClassPart, words_of}
use Rattle.machine.specs.Reading.{processes_of, printed}
use Rattle.report.specs.Reported.{section, seen, word_count, entries_of, home_text, home_words, is_never}
use Rattle.flow_laws.proofs.Unwinding.{SameLow, same_low_part}

-- what is seen of a class by its part and by the counts of its segments
abbrev touched_by : Shared → Words → (SegId → ℕ) → SegId → Bool
touched_by s w count u =
    not (is_never (home_of (w.guarded (HomeOf u)))) || nat_lt 0 (w.guarded (WritesOf u)) || nat_lt 0 (count u) || nat_lt 0 (w.sequencer u) ||
    list_any (λ e. is_some e) (entries_of s w.guarded u)

abbrev segment_by : Shared → Words → (SegId → ℕ) → SegId → SeenSegment
segment_by s w count u = record {
  seg = u;
  home = home_text (home_of (w.guarded (HomeOf u)));
  writes = w.guarded (WritesOf u);
  count = count u;
  tickets = w.sequencer u;
  words = home_words w.guarded (home_of (w.guarded (HomeOf u)));
  entries = seen_entries (entries_of s w.guarded u);
}

abbrev seen_by : ℕ → Shared → ClassPart → (SegId → ℕ) → Seen
seen_by c s part count = record {
  class = c;
  name = (class_at s.table c).name;
  lines = printed s part;
  processes = seen_processes (λ p. processes_of (part.vp p));
  segments = map (segment_by s part.words count) (filter (touched_by s part.words count) (identities (classes s)));
}

-- what is made of the items that pass depends only on what is made of those
map_passed : (test : ℕ → Bool) (f g : ℕ → ℕ) → ((x : ℕ) → test x ≡ true → f x ≡ g x) → (xs : List ℕ) → map f (filter test xs) ≡ map g (filter test xs)
map_passed test f g same [] = refl
map_passed test f g same (x ∷ xs) = elim (test x) as (λ b. test x ≡ b → map f (if b then x ∷ filter test xs else filter test xs) ≡ map g (if b then x ∷ filter test xs else filter test xs)) [
  | true ↦ λ e. ap (λ y. y ∷ map f (filter test xs)) (same x e) ∙ ap (λ ys. g x ∷ ys) (map_passed test f g same xs)
  | false ↦ λ e. map_passed test f g same xs
] refl

module _ (c : ℕ) (m n : Machine) (same : SameLow c m n) where
  part_same : m.part c ≡ n.part c
  part_same = same.parts c (class_reflexive m.shared.table c)

  count_same : (u : SegId) → word_count m c u ≡ word_count n c u
  count_same u =
      ap (λ xs. sum xs % 2 ^ 64) (map_passed (λ d. at_or_below m.shared.table d c) (λ d. (words_of m d).component c u) (λ d. (words_of n d).component c u)
      (λ d low. ap (λ (x : ClassPart). x.words.component c u) (same.parts d low)) (below (classes m.shared)))
      ∙ ap (λ (s : Shared). sum (map (λ d. (words_of n d).component c u) (components s.table c)) % 2 ^ 64) same.shared

  pub seen_same : seen c m ≡ seen c n
  seen_same =
      ap (λ (s : Shared). seen_by c s (m.part c) (word_count m c)) same.shared
      ∙ ap (λ (x : ClassPart). seen_by c (low_shared c n.shared) x (word_count m c)) part_same
      ∙ ap (λ (f : SegId → ℕ). seen_by c (low_shared c n.shared) (n.part c) f) (λ i u. count_same u i)

-- the same of the low part
pub section_low : (c : ℕ) (m n : Machine) → low_part c m ≡ low_part c n → section c m ≡ section c n
section_low c m n same = ap section_text (seen_same c m n (same_low_part c m n same))
