-- What the conditions of grants come to along one run: class 0 makes a segment, swaps it in and out, and brings another one into
-- the same frame.
use Rattle.std.specs.Prelude.{ℕ, Bool, List, map, replicate, reverse, Option}
use Rattle.std.specs.Option.{option_map}
use Rattle.words_layout.specs.Segments.{seg}
use Rattle.words_layout.specs.declared.coding.Alias.{Alias}
use Rattle.class_model.specs.Process.{ProcName}
use Rattle.class_model.specs.Run.{Happened, history, opening}
use Rattle.grant_laws.specs.Grants.{is_in_after, has_page_after, ins_after, pages_after, creates_in, stands_in}
use Rattle.worked_runs.specs.Cases.{named, swaps_under_a_reader}

-- the effects of so many steps of the process of class 0, the latest first
abbrev pub past : ℕ → List Happened
past n = reverse (history (opening swaps_under_a_reader) (replicate n (named 0 0 0)))

-- the first segment is in, and has a page, after each of these numbers of steps
unfoldable pub first_is_in : List ℕ → List Bool
first_is_in counts = map (λ n. is_in_after swaps_under_a_reader 0 (seg 0 1) (past n)) counts

unfoldable pub first_has_page : List ℕ → List Bool
first_has_page counts = map (λ n. has_page_after swaps_under_a_reader 0 (seg 0 1) (past n)) counts

-- how many segments are in, and have a page
unfoldable pub segments_in : List ℕ → List ℕ
segments_in counts = map (λ n. ins_after swaps_under_a_reader 0 (past n)) counts

unfoldable pub segments_with_page : List ℕ → List ℕ
segments_with_page counts = map (λ n. pages_after swaps_under_a_reader 0 (past n)) counts

-- how many segments were made, and the serial of what stands in entry 1 of the root
unfoldable pub segments_made : List ℕ → List ℕ
segments_made counts = map (λ n. creates_in 0 (past n)) counts

unfoldable pub serial_in_entry_1 : List ℕ → List (Option ℕ)
serial_in_entry_1 counts = map (λ n. option_map (λ (a : Alias). a.serial) (stands_in swaps_under_a_reader 0 (seg 0 0) 1 (past n))) counts
