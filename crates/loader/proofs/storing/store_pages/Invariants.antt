use Rattle.std.proofs.Common.{◌≡◌, take}
use Rattle.std.specs.Prelude.{count_by}
use Rattle.std.specs.List.{filter}
use Rattle.loader.specs.Records.{is_kept}
use Rattle.loader.specs.Stores.{after_stores, pages_from}
use Rattle.loader.proofs.storing.store_pages.Given as goal

abbrev pub invariant-loop-segment : goal.invariant-loop-segment
invariant-loop-segment l = record {
  page_is : l.page ≡ count_by (is_kept l.class) (take l.segment-index l.records);
  words_are : l.words ≡ after_stores l.initial.words (pages_from l.class 0 (filter (is_kept l.class) (take l.segment-index l.records)));
}
