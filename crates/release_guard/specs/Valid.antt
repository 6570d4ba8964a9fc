-- Which release orders are valid.
use Rattle.std.specs.Prelude.{ℕ, ◌≡◌, ◌<◌, ◌≤◌, Bool, true, ◌&&◌, List, nat_lt, length}
use Rattle.std.specs.List.{list_all}
use Rattle.text_lines.specs.Name.{is_name}
use Rattle.labels.specs.Label.{ClassEntry, class_at}
use Rattle.labels.specs.Table.{IsTable}
use Rattle.words_layout.specs.declared.segment.SegId.{SegId}
use Rattle.release_guard.specs.declared.order.Release.{Release}
use Rattle.release_guard.specs.declared.order.Order.{Order}

-- a class of the table with a serial below 64
abbrev pub is_identity : List ClassEntry → SegId → Bool
is_identity table u = nat_lt u.mentor (length table) && nat_lt u.serial 64

-- Both the source and the target are identities.
abbrev pub release_ok : List ClassEntry → Release → Bool
release_ok table x = is_identity table x.from && is_identity table x.to

-- a valid order
pub record IsOrder (k : Order) : Type 0 where
  -- 1 to 16 classes with different names and labels, each label at or above that of class 0
  pub table : IsTable k.table
  pub names : (c : ℕ) → c < length k.table → is_name (class_at k.table c).name ≡ true
  pub few_releases : length k.releases ≤ 64
  pub releases : list_all (release_ok k.table) k.releases ≡ true
  pub export : k.export < length k.table
