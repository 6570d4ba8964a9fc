-- The records of a volume after a run.
use Rattle.std.specs.Prelude.{ℕ, zero, suc, ◌+◌, ◌*◌, Bool, not, ◌&&◌, List, [], ◌∷◌, ◌++◌, ◌==◌, if◌then◌else◌, length, Option, Some, None, slice_index}
use Rattle.std.specs.List.{filter, filter_map, flat_map, find}
use Rattle.words_layout.specs.Segments.{seg, same_seg}
use Rattle.words_layout.specs.declared.segment.SegId.{SegId}
use Rattle.words_layout.specs.declared.coding.Alias.{Alias}
use Rattle.policy.specs.Known.{alias_brackets}
use Rattle.class_model.specs.Config.{Config, SegRecord, classes}
use Rattle.class_model.specs.State.{State, cell_at, identities}
use Rattle.class_model.specs.Section.{seen_entries}

-- the volume of a class, 0 for none
abbrev pub volume_of : Config → ℕ → ℕ
volume_of k c = slice_index k.volumes c

-- the record of the child that an entry of the cell of class c and identity u names
abbrev pub child_record : State → ℕ → SegId → ℕ × Alias → SegRecord
child_record a c u (e, x) = record {
  seg = seg c x.serial;
  class = x.class;
  brackets = alias_brackets x;
  size = x.size;
  mentor = u;
  entry = e;
  kept = (cell_at a x.class (seg c x.serial)).stored;
}

-- the children of a cell whose classes have a volume
abbrev pub children : Config → State → ℕ → SegId → List SegRecord
children k a c u =
    filter (λ (r : SegRecord). not (volume_of k r.class == 0))
    (Rattle.std.specs.Prelude.map (child_record a c u) (seen_entries (cell_at a c u).entries))

-- all segments that a path of at most so many entries leads to from a cell, each on it of a class with a volume
abbrev pub reached : Config → State → ℕ → ℕ → SegId → List SegRecord
reached k a zero c u = []
reached k a (suc far) c u = flat_map (λ (r : SegRecord). r ∷ reached k a far r.class r.seg) (children k a c u)

-- VolumeA(K, v, state): the segments that are reached from the root whose class is of volume v, by identity
abbrev pub volume : Config → ℕ → State → List SegRecord
volume k v a =
    let found = filter (λ (r : SegRecord). volume_of k r.class == v) (reached k a (64 * classes a.shared) 0 (seg 0 0)) in
    filter_map (λ u. find (λ (r : SegRecord). same_seg r.seg u) found) (identities (classes a.shared))
