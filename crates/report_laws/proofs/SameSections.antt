-- Where the machine of words stands for a state, a class's sections of both are equal.
use Rattle.std.proofs.Common.{ℕ, suc, ◌+◌, ◌%◌, ◌^◌, Bool, true, false, not, ◌||◌, List, [], ◌∷◌, ◌++◌, ◌≡◌, inl, inr, refl, sym, ap, ◌∙◌, Option, Some, None, arith, length, map}
use Rattle.std.specs.Fmt.{decimal}
use Rattle.std.specs.Prelude.{codes, nat_lt, slice_index_or, sum, is_some}
use Rattle.std.specs.List.{filter, flat_map, list_any}
use Rattle.lists.specs.Lists.{below, numbers_from}
use Rattle.labels.specs.Label.{class_at}
use Rattle.words_layout.specs.Coding.{home_of, entry_of}
use Rattle.words_layout.specs.Words.{Guard, OfClass, OfSegment, GuardedWords, HomeOf, WritesOf, EntryOf}
use Rattle.words_layout.specs.declared.coding.Alias.{Alias}
use Rattle.words_layout.specs.declared.coding.Home.{Home}
use Rattle.words_layout.specs.declared.coding.Home.TheVariants as H
use Rattle.words_layout.specs.declared.segment.SegId.{SegId}
use Rattle.policy.specs.Known.{in_table}
use Rattle.policy.specs.Outcome.{components, Outcome}
use Rattle.turns.specs.Doing.{Doing, Fresh}
use Rattle.turns.specs.Stage.{inside, stage}
use Rattle.class_model.specs.Config.{Shared, classes, pool_of}
use Rattle.class_model.specs.Process.{Process}
use Rattle.class_model.specs.Report.{Seen, SeenProcess, SeenSegment, some_live, closing_text, line_of, process_text, section_text}
use Rattle.class_model.specs.Section.{seen_segment, seen_processes, seen_entries, home_name, shown_words, never}
use Rattle.class_model.specs.Section.{section as whole_section, seen as whole_seen, is_touched as whole_touched}
use Rattle.class_model.specs.State.{State, Cell, CellHome, entry_at, eventcount, component_at, identities}
use Rattle.process.specs.Running.{Running}
use Rattle.machine.specs.Machine.{Machine, slot_at, words_of}
use Rattle.machine.specs.Stands.{StandsFor, NoTurn, NotInTurn, ClassHolds, SegmentHolds, StoredHolds, HomeHolds}
use Rattle.report.specs.Reported.{section, seen, is_touched, word_segment, word_count, entries_of, home_text, home_words, is_never}
use Rattle.report_laws.specs.Shown.{IsShown}
use Rattle.report_laws.proofs.LiveSections.{class_live, live_is_seen, all_ended}

-- the text of a section before its end, with an end
abbrev ended_by : Seen → List ℕ → List ℕ
ended_by s end =
    line_of (codes "class" ∷ decimal s.class ∷ s.name ∷ []) ++ flat_map (λ v. line_of (codes "line" ∷ decimal v ∷ [])) s.lines ++ flat_map process_text s.processes ++ end

-- ---- homes

never_same : (w : GuardedWords) (h : Home) (home : CellHome) → HomeHolds w h home → is_never h ≡ never home
never_same w H.Never home e = ap never (sym e)
never_same w (H.Stored g size) home e = ap never (sym e)
never_same w (H.Resident f page size) home e = ap never (sym e)
never_same w H.Deleted home e = ap never (sym e)

name_same : (w : GuardedWords) (h : Home) (home : CellHome) → HomeHolds w h home → home_text h ≡ home_name home
name_same w H.Never home e = ap home_name (sym e)
name_same w (H.Stored g size) home e = ap home_name (sym e)
name_same w (H.Resident f page size) home e = ap home_name (sym e)
name_same w H.Deleted home e = ap home_name (sym e)

words_same : (w : GuardedWords) (h : Home) (home : CellHome) (stored : Option (List ℕ)) → HomeHolds w h home → StoredHolds w h stored → home_words w h ≡ shown_words home stored
words_same w H.Never home stored e k = ap (λ z. shown_words z stored) (sym e)
words_same w (H.Stored g size) home stored e k = sym k ∙ ap (λ z. shown_words z stored) (sym e)
words_same w (H.Resident f page size) home stored e k = ap (λ z. shown_words z stored) (sym e)
words_same w H.Deleted home stored e k = ap (λ z. shown_words z stored) (sym e)

-- ---- entries

-- eight entries, read by their numbers
read_entries : (xs : List (Option Alias)) (at : ℕ → Option Alias) (a : ℕ) → ((i : ℕ) → at (a + i) ≡ slice_index_or xs i None) → map at (numbers_from a (length xs)) ≡ xs
read_entries [] at a each = refl
read_entries (x ∷ xs) at a each =
    ap (λ y. y ∷ map at (numbers_from (a + 1) (length xs))) first
    ∙ ap (λ ys. x ∷ ys) (read_entries xs at (a + 1) (λ i. next i ∙ each (suc i)))
  where
    first : at a ≡ x
    first = let z : a ≡ a + 0 = omega arith in ap at z ∙ each 0

    next : (i : ℕ) → at (a + 1 + i) ≡ at (a + suc i)
    next i = let z : a + 1 + i ≡ a + suc i = omega arith in ap at z

module _ (m : Machine) (a : State) (c : ℕ) (stands : StandsFor m a) (shown : IsShown m a c) where
  -- where no process is live none is inside a turn
  quiet : class_live m c ≡ false → (g : Guard) → NoTurn g (m.part c)
  quiet ended g p slot = by_slot (slot_at ((m.part c).vp p) slot) refl
    where
      at_rest : (r : Running) → r.doing ≡ Fresh → inside (stage g r.doing) ≡ false
      at_rest r e = ap (λ (x : Doing Outcome). inside (stage g x)) e

      by_slot : (o : Option Running) → slot_at ((m.part c).vp p) slot ≡ o → NotInTurn g o
      by_slot None e = tt
      by_slot (Some r) e = elim (shown.rests p slot r e) as (λ _. inside (stage g r.doing) ≡ false) [
        | inl f ↦ at_rest r f
        | inr l ↦ absurd (let no : r.process.live ≡ false = all_ended m c ended p l.0 slot r e in let bad : true ≡ false = sym l.1 ∙ no in cc)
      ]

  abbrev w : GuardedWords
  w = (m.part c).words.guarded

  abbrev cell : SegId → Cell
  cell = (a.part c).cell

  count_same : (u : SegId) → word_count m c u ≡ eventcount a c u
  count_same u =
      ap (λ (f : ℕ → ℕ). sum (map f (components m.shared.table c)) % 2 ^ 64) (λ i d. (stands.parts d).components c u i)
      ∙ ap (λ (s : Shared). sum (map (λ d. component_at a d c u) (components s.table c)) % 2 ^ 64) stands.shared

  module _ (ended : class_live m c ≡ false) where
    of_class : ClassHolds (pool_of m.shared c) w (a.part c)
    of_class = (stands.parts c).of_class (quiet ended OfClass)

    of_segment : (u : SegId) → SegmentHolds w u (cell u)
    of_segment u = (stands.parts c).of_segments u (quiet ended (OfSegment u))

    entries_same : (u : SegId) → entries_of m.shared w u ≡ (cell u).entries
    entries_same u =
        ap (λ (f : ℕ → Option Alias). map f (below 8)) (λ i e. entry_same e i)
        ∙ ap (λ n. map (entry_at (cell u)) (below n)) (sym (shown.eight u))
        ∙ read_entries (cell u).entries (entry_at (cell u)) 0 (λ i. let z : 0 + i ≡ i = omega arith in ap (entry_at (cell u)) z)
      where
        entry_same : (e : ℕ) → in_table m.shared.table (entry_of (w (EntryOf u e))) ≡ entry_at (cell u) e
        entry_same e = ap (λ (s : Shared). in_table s.table (entry_of (w (EntryOf u e)))) stands.shared
            ∙ ap (in_table a.shared.table) (of_class.entries u e) ∙ shown.in_table u e

    touched_same : (u : SegId) → is_touched m c u ≡ whole_touched (cell u) (eventcount a c u)
    touched_same u =
        ap (λ b. not b || nat_lt 0 (w (WritesOf u)) || nat_lt 0 (word_count m c u) || nat_lt 0 ((words_of m c).sequencer u) || list_any (λ e. is_some e) (entries_of m.shared w u)) (never_same w (home_of (w (HomeOf u))) (cell u).home (of_segment u).home)
        ∙ ap (λ n. not (never (cell u).home) || nat_lt 0 n || nat_lt 0 (word_count m c u) || nat_lt 0 ((words_of m c).sequencer u) || list_any (λ e. is_some e) (entries_of m.shared w u)) (of_segment u).writes
        ∙ ap (λ n. not (never (cell u).home) || nat_lt 0 (cell u).writes || nat_lt 0 n || nat_lt 0 ((words_of m c).sequencer u) || list_any (λ e. is_some e) (entries_of m.shared w u)) (count_same u)
        ∙ ap (λ n. not (never (cell u).home) || nat_lt 0 (cell u).writes || nat_lt 0 (eventcount a c u) || nat_lt 0 n || list_any (λ e. is_some e) (entries_of m.shared w u)) ((stands.parts c).sequencers u)
        ∙ ap (λ (es : List (Option Alias)). not (never (cell u).home) || nat_lt 0 (cell u).writes || nat_lt 0 (eventcount a c u) || nat_lt 0 (cell u).sequencer || list_any (λ e. is_some e) es) (entries_same u)

    segment_same : (u : SegId) → word_segment m c u ≡ seen_segment u (cell u) (eventcount a c u)
    segment_same u = λ i. record {
      seg = u;
      home = name_same w (home_of (w (HomeOf u))) (cell u).home (of_segment u).home i;
      writes = (of_segment u).writes i;
      count = count_same u i;
      tickets = (stands.parts c).sequencers u i;
      words = words_same w (home_of (w (HomeOf u))) (cell u).home (cell u).stored (of_segment u).home (of_class.stored u) i;
      entries = seen_entries (entries_same u i);
    }

    segments_same : (seen c m).segments ≡ (whole_seen c a).segments
    segments_same =
        ap (λ (f : SegId → SeenSegment). map f (filter (is_touched m c) (identities (classes m.shared)))) (λ i u. segment_same u i)
        ∙ ap (λ (f : SegId → Bool). map (λ u. seen_segment u (cell u) (eventcount a c u)) (filter f (identities (classes m.shared)))) (λ i u. touched_same u i)
        ∙ ap (λ (s : Shared). map (λ u. seen_segment u (cell u) (eventcount a c u)) (filter (λ u. whole_touched (cell u) (eventcount a c u)) (identities (classes s)))) stands.shared

  -- ---- the section

  abbrev seen_of : List ℕ → List ℕ → List SeenProcess → List SeenSegment → Seen
  seen_of name lines processes segments = record { class = c; name = name; lines = lines; processes = processes; segments = segments }

  closing_same : (live : Bool) → class_live m c ≡ live → closing_text live (seen c m).segments ≡ closing_text live (whole_seen c a).segments
  closing_same true e = refl
  closing_same false e = ap (closing_text false) (segments_same e)

  segments_shown : section_text (seen c m) ≡ section_text (seen_of (seen c m).name (seen c m).lines (seen c m).processes (whole_seen c a).segments)
  segments_shown = ap (ended_by (seen c m)) (closing_same (some_live (seen c m).processes) (live_is_seen m c))

  pub section_stands : section c m ≡ whole_section c a
  section_stands = segments_shown
      ∙ ap (λ (s : Shared). section_text (seen_of (class_at s.table c).name (seen c m).lines (seen c m).processes (whole_seen c a).segments)) stands.shared
      ∙ ap (λ (xs : List ℕ). section_text (seen_of (class_at a.shared.table c).name xs (seen c m).processes (whole_seen c a).segments)) (stands.parts c).lines
      ∙ ap (λ (f : ℕ → List (Option Process)). section_text (seen_of (class_at a.shared.table c).name (a.part c).lines (seen_processes f) (whole_seen c a).segments)) (λ i p. (stands.parts c).processes p i)
