use Rattle.std.proofs.Common.{◌≡◌, map, take}
use Rattle.std.specs.List.{AllByRecursion}
use Rattle.release_guard.specs.Guard.{released}
use Rattle.release_guard.specs.Working.{HasAll}
use Rattle.release_guard.proofs.guard.release_all.Given as goal

abbrev pub invariant-loop-release : goal.invariant-loop-release
invariant-loop-release l = record {
  right : AllByRecursion (HasAll l.records) (take l.release-index l.releases);
  made : l.working.items ≡ map (released (take l.release-index l.releases) l.records) l.records;
}
