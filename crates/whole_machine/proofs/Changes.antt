-- What a change of a listed cell comes to.
use Rattle.std.proofs.Common.{ℕ, zero, suc, length-set, ◌≡◌, ◌<◌, Bool, true, false, List, [], ◌∷◌, ◌++◌, length, map, get_or, set, refl, sym, ◌∙◌, ap, subst}
use Rattle.std.specs.Prelude.{if◌then◌else◌}
use Rattle.std.proofs.lemmas.List.{get_or_default}
use Rattle.words_layout.specs.Segments.{same_seg, put_seg}
use Rattle.words_layout.specs.declared.segment.SegId.{SegId}
use Rattle.words_layout.proofs.Names.{same_seg-true, same_seg-refl}
use Rattle.class_model.specs.State.{Cell, blank_cell, with_cell}
use Rattle.whole_machine.specs.Parts.{Listed, ListedPart, cell_key, is_cell, cell_in, part_in}
use Rattle.whole_machine.specs.Shows.{ListsAt, SameButCells, KeepsPlaces, ChangesCell}
use Rattle.whole_machine.proofs.KeyPlaces.{keys_kept}
use Rattle.whole_machine.proofs.Lookups.{changed_at, first_at, first_pushed}

-- one more blank cell is listed
pub pushed_cell : (cells : List Listed) (u v : SegId) → cell_in (cells ++ record { seg = u; cell = blank_cell } ∷ []) v ≡ cell_in cells v
pushed_cell cells u v = first_pushed (is_cell v) (λ x. x.cell) blank_cell cells (record { seg = u; cell = blank_cell }) refl

apart : (u v w : SegId) → same_seg v w ≡ true → same_seg u w ≡ true → same_seg u v ≡ true
apart u v w a b = let e : v ≡ w = same_seg-true v w a in let f : u ≡ w = same_seg-true u w b in
    let g : u ≡ v = cc in subst (λ z. same_seg u z ≡ true) g (same_seg-refl u)

not_both : (u v w x : SegId) → w ≡ u → same_seg v w ≡ true → same_seg u x ≡ false → same_seg v x ≡ false
not_both u v w x e a b =
    let f : v ≡ u = same_seg-true v w a ∙ e in subst (λ z. same_seg z x ≡ false) (sym f) b

-- the cell of an identity is changed where it is listed
pub changed_cell : (cells : List Listed) (u : SegId) (at : ℕ) (d : Listed) (c : Cell) → ListsAt (is_cell u) cells at →
    cell_in (set cells at (record { seg = (get_or cells at d).seg; cell = c })) ≡ put_seg (cell_in cells) u c
changed_cell cells u at d c l = λ k v. (each v) k
  where
    y : Listed
    y = record { seg = (get_or cells at d).seg; cell = c }

    key : u ≡ (get_or cells at d).seg
    key = same_seg-true u (get_or cells at d).seg (l.here d)

    each : (v : SegId) → cell_in (set cells at y) v ≡ put_seg (cell_in cells) u c v
    each v = changed_at (is_cell u) (is_cell v) (λ x. x.cell) blank_cell cells at d y l refl (λ x h no. not_both u v y.seg x.seg (sym key) h no) ∙
        ap (λ w. if same_seg v w then c else cell_in cells v) (sym key)

-- the part after it
pub changed_part : (p : ListedPart) (u : SegId) (at : ℕ) (d : Listed) (c : Cell) → ListsAt (is_cell u) p.cells at →
    part_in (record p { cells = set p.cells at (record { seg = (get_or p.cells at d).seg; cell = c }) }) ≡ with_cell (part_in p) u c
changed_part p u at d c l = ap (λ (f : SegId → Cell). record (part_in p) { cell = f }) (changed_cell p.cells u at d c l)

-- what is the same but for cells that stand for the same ones stands for the same part
pub same_part : (p q : ListedPart) → SameButCells p q → part_in q ≡ part_in p
same_part p q s = ap part_in s.others ∙ ap (λ (f : SegId → Cell). record (part_in p) { cell = f }) (λ k u. (s.cells u) k)

read_here : (cells : List Listed) (u : SegId) (at : ℕ) (item read : Listed) → item ≡ read → read ≡ get_or cells at read → ListsAt (is_cell u) cells at → item.cell ≡ cell_in cells u
read_here cells u at item read i g l =
    ap (λ (x : Listed). x.cell) (i ∙ g) ∙ sym (first_at (is_cell u) (λ x. x.cell) blank_cell cells at read l.inside (l.here read) (λ k. l.before k read))

-- what is read at the place is the cell
pub read_cell : (cells now : List Listed) → cells ≡ now → (u : SegId) (at : ℕ) (item read : Listed) → item ≡ read → read ≡ get_or cells at read → ListsAt (is_cell u) now at → item.cell ≡ cell_in now u
read_cell cells now v u at item read i g =
    subst (λ (xs : List Listed). ListsAt (is_cell u) xs at → item.cell ≡ cell_in xs u) v (read_here cells u at item read i g)

changed_here : (cells : List Listed) (at : ℕ) (item read : Listed) (c : Cell) (f : Cell → Cell) → item ≡ read → read ≡ get_or cells at read →
    c ≡ f item.cell → ChangesCell cells (set cells at (record { seg = item.seg; cell = c })) at f
changed_here cells at item read c f i g e u l =
    ap (λ (x : Listed). cell_in (set cells at (record { seg = x.seg; cell = c }))) (i ∙ g) ∙ changed_cell cells u at read c l ∙
    ap (λ (x : Cell). put_seg (cell_in cells) u x) (e ∙ ap f (read_here cells u at item read i g l))

-- the cells after a change of what was read at a place
pub cells_after : (cells now : List Listed) → cells ≡ now → (at : ℕ) (item read : Listed) (c : Cell) (f : Cell → Cell) → item ≡ read → read ≡ get_or cells at read →
    c ≡ f item.cell → ChangesCell now (set cells at (record { seg = item.seg; cell = c })) at f
cells_after cells now v at item read c f i g e =
    subst (λ (xs : List Listed). ChangesCell xs (set cells at (record { seg = item.seg; cell = c })) at f) v (changed_here cells at item read c f i g e)

-- and their keys
pub cell_keys : (keys : List (ℕ × ℕ)) (cells : List Listed) (at : ℕ) (item read : Listed) (c : Cell) → keys ≡ map cell_key cells → item ≡ read → read ≡ get_or cells at read →
    keys ≡ map cell_key (set cells at (record { seg = item.seg; cell = c }))
cell_keys keys cells at item read c k i g =
    k ∙ sym (keys_kept cell_key cells at (record { seg = item.seg; cell = c }) read (ap (λ (x : Listed). cell_key x) (i ∙ g)))

same_key : {X : Type 0} (p : X → Bool) (xs : List X) (at : ℕ) (y : X) (k : ℕ) (d : X) → p y ≡ p (get_or xs at d) → p (get_or (set xs at y) k d) ≡ p (get_or xs k d)
same_key p [] at y k d e = refl
same_key p (x ∷ xs) zero y zero d e = e
same_key p (x ∷ xs) zero y (suc k) d e = refl
same_key p (x ∷ xs) (suc at) y zero d e = refl
same_key p (x ∷ xs) (suc at) y (suc k) d e = same_key p xs at y k d e

kept_here : (cells : List Listed) (at : ℕ) (item read : Listed) (c : Cell) → item ≡ read → read ≡ get_or cells at read → at < length cells →
    KeepsPlaces cells (set cells at (record { seg = item.seg; cell = c }))
kept_here cells at item read c i g lt u place l = record {
  inside = rw length-set l.inside;
  here = λ d. key place d ∙ l.here d;
  before = λ k d h. key k d ∙ l.before k d h;
}
  where
    y : Listed
    y = record { seg = item.seg; cell = c }

    key : (k : ℕ) (d : Listed) → is_cell u (get_or (set cells at y) k d) ≡ is_cell u (get_or cells k d)
    key k d = same_key (is_cell u) cells at y k d (ap (λ (x : Listed). is_cell u x) (i ∙ g ∙ get_or_default cells at read d lt))

-- a change at a place keeps all places
pub places_kept : (cells now : List Listed) → cells ≡ now → (at : ℕ) (item read : Listed) (c : Cell) → item ≡ read → read ≡ get_or cells at read → at < length now →
    KeepsPlaces now (set cells at (record { seg = item.seg; cell = c }))
places_kept cells now v at item read c i g =
    subst (λ (xs : List Listed). at < length xs → KeepsPlaces xs (set cells at (record { seg = item.seg; cell = c }))) v (kept_here cells at item read c i g)
