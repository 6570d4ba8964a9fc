-- What putting a record comes to.
use Rattle.std.proofs.Common.{ℕ, ◌≡◌, ◌<◌, ◌∙◌, Bool, true, false, List, length, get_or, set, refl, sym, ap, subst, Option, Some, None}
use Rattle.std.specs.Prelude.{◌==◌, slice_index_or}
use Rattle.std.specs.Option.{option_map}
use Rattle.std.proofs.lemmas.Bool.{eqb-true, eqb-false}
use Rattle.std.proofs.lemmas.List.{get_or-set_same, get_or-set_other}
use Rattle.rings.specs.Brackets.{in_order}
use Rattle.words_layout.specs.Segments.{seg}
use Rattle.words_layout.specs.declared.segment.SegId.{SegId}
use Rattle.words_layout.specs.declared.coding.Alias.{Alias}
use Rattle.policy.specs.Known.{alias_brackets}
use Rattle.class_model.specs.Config.{Shared, classes}
use Rattle.class_model.specs.State.{State, Part, Cell, with_cell, with_part}
use Rattle.class_model.specs.Step.{with_entry}
use Rattle.whole_machine.specs.Parts.{ListedPart, is_cell, no_part}
use Rattle.whole_machine.specs.Building.{storing, keeping, holding, with_record}
use Rattle.whole_machine.specs.Fits.{IsEntry, PartFits, PartsFit, part_of_class}
use Rattle.whole_machine.specs.Shows.{ListsAt, KeepsPlaces}
use Rattle.whole_machine.specs.Steps.{standing, ChangesPart, SameParts, CellAt, KeepsCells}
use Rattle.whole_machine.proofs.Fitting.{fits_cell, fits_entry}
use Rattle.whole_machine.proofs.Stepped.{read_is, puts_state, puts_fit}

-- the words of what was kept
abbrev pub words_of : {V : Type 0} → Option V → (V → List ℕ) → Option (List ℕ)
words_of kept words = option_map words kept

-- ---- the part of one class in the list is another one

pub listed_in : (parts : List ListedPart) (class : ℕ) (q : ListedPart) (u : SegId) (at : ℕ) → class < length parts → ListsAt (is_cell u) q.cells at → CellAt (set parts class q) class u at
listed_in parts class q u at lt l = subst (λ (z : ListedPart). ListsAt (is_cell u) z.cells at) (sym (get_or-set_same parts class q no_part lt)) l

pub kept_in : (parts : List ListedPart) (class : ℕ) (q read : ListedPart) → class < length parts → read ≡ get_or parts class read → KeepsPlaces read.cells q.cells → KeepsCells parts (set parts class q)
kept_in parts class q read lt value keeps c = by_test (c == class) refl
  where
    here : KeepsPlaces (get_or parts class no_part).cells (get_or (set parts class q) class no_part).cells
    here =
        subst (λ (z : ListedPart). KeepsPlaces (get_or parts class no_part).cells z.cells) (sym (get_or-set_same parts class q no_part lt))
        (subst (λ (z : ListedPart). KeepsPlaces z.cells q.cells) (read_is parts class read lt value) keeps)

    by_test : (t : Bool) → (c == class) ≡ t → KeepsPlaces (get_or parts c no_part).cells (get_or (set parts class q) c no_part).cells
    by_test true h = subst (λ i. KeepsPlaces (get_or parts i no_part).cells (get_or (set parts class q) i no_part).cells) (sym (eqb-true c class h)) here
    by_test false h = subst (λ (z : ListedPart). KeepsPlaces (get_or parts c no_part).cells z.cells) (sym (get_or-set_other parts class c q no_part (eqb-false c class h))) (λ u at l. l)

-- what was read is where the cell stands
pub read_at : (parts : List ListedPart) (class : ℕ) (read : ListedPart) (u : SegId) (at : ℕ) → class < length parts → read ≡ get_or parts class read → CellAt parts class u at → ListsAt (is_cell u) read.cells at
read_at parts class read u at lt value l = subst (λ (z : ListedPart). ListsAt (is_cell u) z.cells at) (sym (read_is parts class read lt value)) l

-- ---- what was listed alone stands for the same

module _ (s : Shared) (old new : List ListedPart) (same : SameParts old new) where
  pub same_state : standing s new ≡ standing s old
  same_state = λ k. record { shared = s; part = λ c. (same.parts c) k }

  pub same_fit : PartsFit s old → PartsFit s new
  same_fit fit = record {
    one_each = same.as_many ∙ fit.one_each;
    fits = λ c. subst (PartFits (classes s)) (sym (same.parts c)) (fit.fits c);
  }

-- ---- what is put fits

module _ (n : ℕ) (part : Part) (u : SegId) (fits : PartFits n part) where
  pub holding_fits : (e : ℕ) (child : Alias) → child.class < n → in_order (alias_brackets child) ≡ true → PartFits n (holding part u e child)
  holding_fits e child lt ordered = record { entries = made.entries; processes = made.processes }
    where
      made : PartFits n (with_cell part u (with_entry (part.cell u) e (Some child)))
      made = fits_entry n part u e (Some child) fits (λ a h. (let same : child ≡ a = cc in subst (IsEntry n) same (record { class = lt; ordered = ordered })))

  same_entries : (kept : Option (List ℕ)) (cell : Cell) → (storing kept cell).entries ≡ cell.entries
  same_entries None cell = refl
  same_entries (Some words) cell = refl

  pub keeping_fits : (kept : Option (List ℕ)) → PartFits n (keeping part u kept)
  keeping_fits kept = fits_cell n part u (storing kept (part.cell u)) fits
      (λ e a h. fits.entries u e a (ap (λ (es : List (Option Alias)). slice_index_or es e None) (sym (same_entries kept (part.cell u))) ∙ h))

-- ---- the whole: both cells are listed, the entry is filled, and the words are stored

module _ (s : Shared) (old one two three four : List ListedPart) (m : ℕ) (u : SegId) (e : ℕ) (child : Alias) (kept : Option (List ℕ))
    (first : SameParts old one) (second : SameParts one two) (held : ChangesPart two three m (holding (part_of_class two m) u e child))
    (stored : ChangesPart three four child.class (keeping (part_of_class three child.class) (seg m child.serial) kept)) where
  with_held : standing s three ≡ with_part (standing s old) m (holding ((standing s old).part m) u e child)
  with_held =
      puts_state s two three m _ held
      ∙ ap (λ (a : State). with_part a m (holding (a.part m) u e child)) (same_state s one two second ∙ same_state s old one first)

  pub recorded_is : standing s four ≡ with_record (standing s old) m u e child kept
  recorded_is =
      puts_state s three four child.class _ stored
      ∙ ap (λ (a : State). with_part a child.class (keeping (a.part child.class) (seg m child.serial) kept)) with_held

  pub recorded_fit : PartsFit s old → child.class < classes s → in_order (alias_brackets child) ≡ true → PartsFit s four
  recorded_fit fit lt ordered =
      let listed : PartsFit s two = same_fit s one two second (same_fit s old one first fit) in
      let filled : PartsFit s three = puts_fit s two three m _ listed held (holding_fits (classes s) (part_of_class two m) u (listed.fits m) e child lt ordered) in
      puts_fit s three four child.class _ filled stored (keeping_fits (classes s) (part_of_class three child.class) (seg m child.serial) (filled.fits child.class) kept)
