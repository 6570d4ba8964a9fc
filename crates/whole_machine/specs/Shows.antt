-- What is said of an effect: the part after it, and what it shows.
use Rattle.std.specs.Prelude.{ℕ, ◌≡◌, ◌<◌, Bool, true, false, None, Some, ◌+◌, unwrap_or, replicate, List, slice_index_or, length}
use Rattle.words_layout.specs.declared.segment.SegId.{SegId}
use Rattle.lists.specs.Lists.{overwrite, put}
use Rattle.rings.specs.Brackets.{Brackets}
use Rattle.policy.specs.Known.{Known, new_alias}
use Rattle.words_layout.specs.Segments.{put_seg}
use Rattle.class_model.specs.State.{Part, Cell, Stored, In, Deleted, live_words, with_cell}
use Rattle.class_model.specs.Step.{Effect, with_entry}
use Rattle.class_model.specs.declared.request.Shown.{Shown}
use Rattle.class_model.specs.Next.{outcome_of}
use Rattle.whole_machine.specs.Parts.{Listed, Counted, ListedPart, is_cell, is_count, part_in, cell_in, count_in}

-- the effect has this part after it, and shows this
pub record Shows (effect : Effect) (after : ListedPart) (shown : Shown) : Type 0 where
  pub part : part_in after ≡ effect.part
  pub outcome : outcome_of shown ≡ effect.outcome

-- the first item that passes the test stands at this place
pub record ListsAt {X : Type 0} (p : X → Bool) (xs : List X) (at : ℕ) : Type 0 where
  pub inside : at < length xs
  pub here : (d : X) → p (slice_index_or xs at d) ≡ true
  pub before : (k : ℕ) (d : X) → k < at → p (slice_index_or xs k d) ≡ false

-- both lists stand for one part
abbrev pub Stands : ListedPart → ListedPart → Type 0
Stands p q = part_in p ≡ part_in q

-- each identity has the same cell
abbrev pub SameCells : List Listed → List Listed → Type 0
SameCells old new = (u : SegId) → cell_in new u ≡ cell_in old u

-- where an identity was listed it is listed
abbrev pub KeepsPlaces : List Listed → List Listed → Type 0
KeepsPlaces old new = (u : SegId) (at : ℕ) → ListsAt (is_cell u) old at → ListsAt (is_cell u) new at

-- the cell of the identity that is listed at this place is changed by f, and no other
abbrev pub ChangesCell : List Listed → List Listed → ℕ → (Cell → Cell) → Type 0
ChangesCell old new at f = (u : SegId) → ListsAt (is_cell u) old at → cell_in new ≡ put_seg (cell_in old) u (f (cell_in old u))

-- each component is the same
abbrev pub SameCounts : List Counted → List Counted → Type 0
SameCounts old new = (x : ℕ) (u : SegId) → count_in new x u ≡ count_in old x u

-- the component that is listed at this place rises by one, and no other changes
abbrev pub RaisesCount : List Counted → List Counted → ℕ → Type 0
RaisesCount old new at = (x : ℕ) (u : SegId) → ListsAt (is_count x u) old at →
    count_in new ≡ put (count_in old) x (put_seg (count_in old x) u (count_in old x u + 1))

-- the cells with that of a child deleted, where it is one's own
abbrev pub lost : Bool → (SegId → Cell) → SegId → SegId → Cell
lost true cells child = put_seg cells child (record (cells child) { home = Deleted; stored = None })
lost false cells child = cells

-- the part with a new segment in an entry
abbrev pub with_child : Part → SegId → ℕ → ℕ → Brackets → ℕ → Part
with_child part u e class b size =
    record (with_cell part u (with_entry (part.cell u) e (Some (new_alias class b size part.next_serial)))) { next_serial = part.next_serial + 1 }

-- the part with words written over the live ones of a cell
abbrev pub with_words : Part → SegId → ℕ → List ℕ → Part
with_words part u offset words =
    with_cell part u (record (part.cell u) { home = In (overwrite (live_words (part.cell u)) offset words); writes = (part.cell u).writes + 1 })

-- the part with the words of a cell live: the stored ones, or zeros
abbrev pub swapped_in : Part → Known → Part
swapped_in part k = with_cell part k.seg (record (part.cell k.seg) { home = In (unwrap_or (part.cell k.seg).stored (replicate k.size 0)) })

-- the part with the live words of a cell stored
abbrev pub swapped_out : Part → Known → Part
swapped_out part k = with_cell part k.seg (record (part.cell k.seg) { home = Stored; stored = Some (live_words (part.cell k.seg)) })

-- only the list of the cells may be another, and each identity has the same cell
pub record SameButCells (old new : ListedPart) : Type 0 where
  pub cells : SameCells old.cells new.cells
  pub others : new ≡ record old { cells = new.cells }
