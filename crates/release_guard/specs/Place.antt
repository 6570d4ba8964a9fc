-- What the lines so far say.
use Rattle.std.specs.Prelude.{ℕ, List, [], map}
use Rattle.labels.specs.Label.{ClassEntry}
use Rattle.labels.specs.Table.{entry_of}
use Rattle.release_guard.specs.declared.order.Release.{Release}
use Rattle.release_guard.specs.declared.order.Order.{Order}
use Rattle.release_guard.specs.declared.order.Stage.{Stage}
use Rattle.release_guard.specs.declared.order.Stage.TheVariants as stage
use Rattle.release_guard.specs.declared.draft.Draft.{Draft}

-- what the lines so far say, and which line comes next
pub record Place : Type 0 where
  -- which line comes next
  pub stage : Stage
  -- how many class lines are still to come
  pub due : ℕ
  pub table : List ClassEntry
  pub releases : List Release
  pub export : ℕ
  -- the number of the next line
  pub line : ℕ

-- a draft without where it lies in memory
abbrev pub place_of : Draft → Place
place_of d = record {
  stage = d.stage;
  due = d.due;
  table = map entry_of d.entries.items;
  releases = d.releases.items;
  export = d.export;
  line = d.line;
}

-- before the first line
abbrev pub start : Place
start = record { stage = stage.Header; due = 0; table = []; releases = []; export = 0; line = 1 }

-- the order that the lines so far say
abbrev pub order_in : Place → Order
order_in p = record { table = p.table; releases = p.releases; export = p.export }
