-- Where a segment stands is the one entry that names it.
use Rattle.std.proofs.Common.{ℕ, ◌<◌, Bool, true, false, ◌&&◌, List, ◌≡◌, refl, sym, ap, subst, ◌∙◌, Option, Some, None, arith, length}
use Rattle.std.specs.Prelude.{if◌then◌else◌, nat_lt}
use Rattle.std.specs.Option.{option_and_then}
use Rattle.std.proofs.lemmas.Bool.{and_from, lt-ltb}
use Rattle.lists.specs.Lists.{below}
use Rattle.rings.specs.Brackets.{in_order}
use Rattle.labels.specs.Label.{ClassEntry}
use Rattle.words_layout.specs.Segments.{seg, same_seg}
use Rattle.words_layout.specs.declared.segment.SegId.{SegId}
use Rattle.words_layout.specs.declared.coding.Alias.{Alias}
use Rattle.words_layout.proofs.Names.{same_seg-true, same_seg-refl}
use Rattle.policy.specs.Known.{in_table, alias_brackets}
use Rattle.class_model.specs.Config.{classes}
use Rattle.class_model.specs.State.{State, cell_at, entry_at, identities}
use Rattle.end_volumes.specs.declared.origins.Origin.{Origin}
use Rattle.end_volumes.specs.After.{Tree, tree_of_state, origin_at, origin_in, origin}
use Rattle.effect_laws.proofs.Good.{Good}
use Rattle.volume_laws.proofs.Members.{Has, has_below, has_identity, first_some, first_none, entry_within}
use Rattle.volume_laws.proofs.Single.{Placed}

-- the entry where a segment stands
pub record StandsAt (a : State) (u : SegId) (o : Origin) : Type 0 where
  pub there : entry_at (cell_at a u.mentor o.mentor) o.entry ≡ Some o.alias
  pub names : seg u.mentor o.alias.serial ≡ u
  pub mentor : Has o.mentor (identities (classes a.shared))

some_is : {X : Type 0} (x y : X) → Some x ≡ Some y → x ≡ y
some_is x y e = cc

in_table_some : (table : List ClassEntry) (o : Option Alias) (y : Alias) → in_table table o ≡ Some y → o ≡ Some y
in_table_some table None y h = cc
in_table_some table (Some x) y h = by_test (nat_lt x.class (length table) && in_order (alias_brackets x)) h
  where
    by_test : (b : Bool) → (if b then Some x else None) ≡ Some y → Some x ≡ Some y
    by_test true h = h
    by_test false h = cc

-- an entry of that cell, if it names the segment
names_if : (a : State) (u : SegId) (c : ℕ) (x : SegId) (e : ℕ) (o : Origin) (found : Option Alias) → (found ≡ in_table a.shared.table (entry_at (cell_at a c x) e)) →
    option_and_then (λ (y : Alias). if same_seg (seg c y.serial) u then Some (record { mentor = x; entry = e; alias = y }) else None) found ≡ Some o →
    (o.mentor ≡ x) × (o.entry ≡ e) × (entry_at (cell_at a c x) e ≡ Some o.alias) × (seg c o.alias.serial ≡ u)
names_if a u c x e o None is h = cc
names_if a u c x e o (Some y) is h = by_test (same_seg (seg c y.serial) u) refl h
  where
    by_test : (b : Bool) → same_seg (seg c y.serial) u ≡ b → (if b then Some (let z : Origin = record { mentor = x; entry = e; alias = y } in z) else None) ≡ Some o →
        (o.mentor ≡ x) × (o.entry ≡ e) × (entry_at (cell_at a c x) e ≡ Some o.alias) × (seg c o.alias.serial ≡ u)
    by_test true t h =
        let same : record { mentor = x; entry = e; alias = y } ≡ o = some_is (record { mentor = x; entry = e; alias = y }) o h in
        let alias : y ≡ o.alias = ap (λ (z : Origin). z.alias) same in (
          sym (ap (λ (z : Origin). z.mentor) same),
          sym (ap (λ (z : Origin). z.entry) same),
          in_table_some a.shared.table (entry_at (cell_at a c x) e) y (sym is) ∙ ap Some alias,
          ap (λ (z : Alias). seg c z.serial) (sym alias) ∙ same_seg-true (seg c y.serial) u t,
        )
    by_test false t h = cc

module _ (n : ℕ) (a : State) (good : Good n a) (placed : Placed a) where
  abbrev tree : Tree
  tree = tree_of_state a

  pub stands_at : (u : SegId) (o : Origin) → origin (tree_of_state a) u ≡ Some o → StandsAt a u o
  stands_at u o h =
      let under = first_some (origin_in (tree_of_state a) u u.mentor) (identities (classes a.shared)) o h in
      let within = first_some (origin_at (tree_of_state a) u u.mentor under.0) (below 8) o under.2 in
      let is = names_if a u u.mentor under.0 within.0 o (in_table a.shared.table (entry_at (cell_at a u.mentor under.0) within.0)) refl within.2 in
      record {
        there = subst (λ e. entry_at (cell_at a u.mentor o.mentor) e ≡ Some o.alias) (sym is.1) (subst (λ x. entry_at (cell_at a u.mentor x) within.0 ≡ Some o.alias) (sym is.0) is.2);
        names = is.3;
        mentor = subst (λ x. Has x (identities (classes a.shared))) (sym is.0) under.1;
      }

  -- the entry is within the table
  in_table_good : (c : ℕ) (x : SegId) (e : ℕ) (y : Alias) → entry_at (cell_at a c x) e ≡ Some y → in_table a.shared.table (entry_at (cell_at a c x) e) ≡ Some y
  in_table_good c x e y h =
      let ok = (good.cells c x).entries e y h in
      let t : (nat_lt y.class (length a.shared.table) && in_order (alias_brackets y)) ≡ true = and_from _ _ (lt-ltb y.class (length a.shared.table) ok.class) ok.in_order in
      ap (in_table a.shared.table) h ∙ ap (λ (b : Bool). if b then Some y else None) t

  -- a segment that an entry names stands there
  pub stands_there : (c : ℕ) (x : SegId) (e : ℕ) (y : Alias) → Has x (identities (classes a.shared)) → entry_at (cell_at a c x) e ≡ Some y →
      origin (tree_of_state a) (seg c y.serial) ≡ Some (record { mentor = x; entry = e; alias = y })
  stands_there c x e y at h = by_answer (origin (tree_of_state a) (seg c y.serial)) refl
    where
      answers : origin_at (tree_of_state a) (seg c y.serial) c x e ≡ Some (record { mentor = x; entry = e; alias = y })
      answers =
          ap (option_and_then (λ (z : Alias). if same_seg (seg c z.serial) (seg c y.serial) then Some (record { mentor = x; entry = e; alias = z }) else None)) (in_table_good c x e y h)
          ∙ ap (λ (b : Bool). if b then Some (let z : Origin = record { mentor = x; entry = e; alias = y } in z) else None) (same_seg-refl (seg c y.serial))

      within : e < 8
      within = let lt = entry_within (cell_at a c x).entries e y h in subst (λ m. e < m) (good.cells c x).eight lt

      by_answer : (o : Option Origin) → origin (tree_of_state a) (seg c y.serial) ≡ o → o ≡ Some (record { mentor = x; entry = e; alias = y })
      by_answer None none =
          let in_cell = first_none (origin_in (tree_of_state a) (seg c y.serial) c) (identities (classes a.shared)) x none at in
          let nothing = first_none (origin_at (tree_of_state a) (seg c y.serial) c x) (below 8) e in_cell (has_below e 8 within) in
          absurd (none_some _ (sym nothing ∙ answers))
        where
          none_some : (o : Origin) → (let z : Option Origin = None in z) ≡ Some o → ⊥
          none_some o e = cc
      by_answer (Some o) is =
          let s = stands_at (seg c y.serial) o is in
          let serial : o.alias.serial ≡ y.serial = ap (λ (z : SegId). z.serial) s.names in
          let same = placed.one c o.mentor x o.entry e o.alias y s.there h serial in
          let alias : o.alias ≡ y = some_is o.alias y (sym s.there ∙ (λ i. entry_at (cell_at a c (same.0 i)) (same.1 i)) ∙ h) in
          λ i. Some (record { mentor = same.0 i; entry = same.1 i; alias = alias i })

  -- a segment that an entry names is an identity
  pub named_identity : (c : ℕ) (x : SegId) (e : ℕ) (y : Alias) → entry_at (cell_at a c x) e ≡ Some y → Has (seg c y.serial) (identities (classes a.shared))
  named_identity c x e y h =
      let used = ((good.cells c x).entries e y h).in_use in
      has_identity (seg c y.serial) (classes a.shared) used.mentor (let s = used.serial in let m = good.serials c in omega (arith, s, m))

  pub root_identity : Has (seg 0 0) (identities (classes a.shared))
  root_identity = has_identity (seg 0 0) (classes a.shared) good.root.in_use.mentor (omega arith)
