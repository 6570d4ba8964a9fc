-- A path leads down to a segment where it leads up from it, in as many entries.
use Rattle.std.proofs.Common.{ℕ, zero, suc, ◌+◌, ◌≤◌, Bool, true, false, not, ◌&&◌, ◌||◌, ◌∷◌, ◌≡◌, ◌⊎◌, inl, inr, refl, sym, ap, subst, ◌∙◌, Option, Some, None, arith, map}
use Rattle.std.specs.Prelude.{◌==◌, if◌then◌else◌}
use Rattle.std.specs.Option.{option_map_or}
use Rattle.std.proofs.lemmas.Bool.{and_from, and_parts, eqb-true, eq-eqb, or_left, or_right}
use Rattle.words_layout.specs.Segments.{seg}
use Rattle.words_layout.specs.declared.segment.SegId.{SegId}
use Rattle.words_layout.specs.declared.coding.Alias.{Alias}
use Rattle.words_layout.proofs.Names.{same_seg-true}
use Rattle.class_model.specs.Config.{Config, SegRecord, classes}
use Rattle.class_model.specs.Section.{seen_entries}
use Rattle.class_model.specs.State.{State, cell_at, entry_at, identities}
use Rattle.class_model.specs.Valid.{is_root}
use Rattle.class_model.specs.Volume.{volume_of, child_record, children, reached}
use Rattle.end_volumes.specs.declared.origins.Origin.{Origin}
use Rattle.end_volumes.specs.After.{tree_of_state, origin, mentor_of, is_root_cell, is_led, record_of}
use Rattle.effect_laws.proofs.Good.{Good}
use Rattle.volume_laws.proofs.Members.{Has, has_flat, of_flat, has_map, of_map, has_filter, of_filter, has_entry_seen, of_entry_seen}
use Rattle.volume_laws.proofs.Single.{Placed}
use Rattle.volume_laws.proofs.Origins.{stands_at, stands_there, named_identity}

-- ---- paths upwards

or_either : (x y : Bool) → (x || y) ≡ true → (x ≡ true) ⊎ (y ≡ true)
or_either true y h = inl refl
or_either false y h = inr h

-- one entry upwards
pub record IsStep (k : Config) (from : SegId → Option Origin) (far c : ℕ) (u : SegId) (o : Origin) : Type 0 where
  pub there : from u ≡ Some o
  pub in_volume : not (volume_of k c == 0) ≡ true
  pub class : o.alias.class ≡ c
  pub led : is_led k from far u.mentor o.mentor ≡ true

module _ (k : Config) (from : SegId → Option Origin) where
  pub led_root : (far c : ℕ) (u : SegId) → is_root_cell c u ≡ true → is_led k from far c u ≡ true
  led_root zero c u h = h
  led_root (suc far) c u h = or_left _ _ h

  pub led_step : (far c : ℕ) (u : SegId) (o : Origin) → IsStep k from far c u o → is_led k from (suc far) c u ≡ true
  led_step far c u o s = or_right (is_root_cell c u) _ (
      ap (λ (p : Option Origin). option_map_or (λ (x : SegId). is_led k from far u.mentor x) (mentor_of k c p) false) s.there
      ∙ ap (λ (b : Bool). option_map_or (λ (x : SegId). is_led k from far u.mentor x) (if b then Some o.mentor else None) false) (and_from _ _ s.in_volume (eq-eqb o.alias.class c s.class))
      ∙ s.led)

  pub led_cases : (far c : ℕ) (u : SegId) → is_led k from (suc far) c u ≡ true → (is_root_cell c u ≡ true) ⊎ ((o : Origin) × IsStep k from far c u o)
  led_cases far c u h = by_or (or_either (is_root_cell c u) _ h)
    where
      by_origin : (p : Option Origin) → from u ≡ p → option_map_or (λ (x : SegId). is_led k from far u.mentor x) (mentor_of k c p) false ≡ true → (o : Origin) × IsStep k from far c u o
      by_origin None e g = cc
      by_origin (Some o) e g = by_test (not (volume_of k c == 0) && o.alias.class == c) refl g
        where
          by_test : (b : Bool) → (not (volume_of k c == 0) && o.alias.class == c) ≡ b → option_map_or (λ (x : SegId). is_led k from far u.mentor x) (if b then Some o.mentor else None) false ≡ true → (o : Origin) × IsStep k from far c u o
          by_test true t g = let parts = and_parts (not (volume_of k c == 0)) (o.alias.class == c) t in (o, record { there = e; in_volume = parts.0; class = eqb-true o.alias.class c parts.1; led = g })
          by_test false t g = cc

      by_or : (is_root_cell c u ≡ true) ⊎ (option_map_or (λ (x : SegId). is_led k from far u.mentor x) (mentor_of k c (from u)) false ≡ true) → (is_root_cell c u ≡ true) ⊎ ((o : Origin) × IsStep k from far c u o)
      by_or (inl r) = inl r
      by_or (inr g) = inr (by_origin (from u) refl g)

-- ---- paths downwards

module _ (k : Config) (n : ℕ) (a : State) (good : Good n a) (placed : Placed a) where
  abbrev from : SegId → Option Origin
  from = origin (tree_of_state a)

  -- a record where it stands
  pub record IsFound (r : SegRecord) : Type 0 where
    pub at : Origin
    pub there : origin (tree_of_state a) r.seg ≡ Some at
    pub is : r ≡ record_of (tree_of_state a) r.seg at
    pub in_volume : not (volume_of k r.class == 0) ≡ true
    pub known : Has r.seg (identities (classes a.shared))

  -- a child is found in its entry
  child_found : (c : ℕ) (x : SegId) (r : SegRecord) → Has x (identities (classes a.shared)) → Has r (children k a c x) → IsFound r × (r.seg.mentor ≡ c) × (r.mentor ≡ x)
  child_found c x r at h =
      let passed = of_filter (λ (r : SegRecord). not (volume_of k r.class == 0)) (map (child_record a c x) (seen_entries (cell_at a c x).entries)) r h in
      let made = of_map (child_record a c x) (seen_entries (cell_at a c x).entries) r passed.0 in
      subst (λ (z : SegRecord). IsFound z × (z.seg.mentor ≡ c) × (z.mentor ≡ x)) made.2 (of_entry made.0.0 made.0.1
      (of_entry_seen (cell_at a c x).entries made.0.0 made.0.1 made.1) (subst (λ (z : SegRecord). not (volume_of k z.class == 0) ≡ true) (sym made.2) passed.1))
    where
      of_entry : (e : ℕ) (y : Alias) → entry_at (cell_at a c x) e ≡ Some y → not (volume_of k y.class == 0) ≡ true →
          IsFound (child_record a c x (e, y)) × ((child_record a c x (e, y)).seg.mentor ≡ c) × ((child_record a c x (e, y)).mentor ≡ x)
      of_entry e y h v = (record { at = record { mentor = x; entry = e; alias = y }; there = stands_there n a good placed c x e y at h; is = refl; in_volume = v; known = named_identity n a good placed c x e y h }, refl, refl)

  -- what stands in an entry is a child
  found_child : (u : SegId) (o : Origin) → origin (tree_of_state a) u ≡ Some o → not (volume_of k o.alias.class == 0) ≡ true → Has (record_of (tree_of_state a) u o) (children k a u.mentor o.mentor)
  found_child u o h v =
      let s = stands_at n a good placed u o h in
      let same : child_record a u.mentor o.mentor (o.entry, o.alias) ≡ record_of (tree_of_state a) u o = λ i. record {
        seg = s.names i;
        class = o.alias.class;
        brackets = Rattle.policy.specs.Known.alias_brackets o.alias;
        size = o.alias.size;
        mentor = o.mentor;
        entry = o.entry;
        kept = (cell_at a o.alias.class (s.names i)).stored;
      } in
      has_filter (λ (r : SegRecord). not (volume_of k r.class == 0)) (map (child_record a u.mentor o.mentor) (seen_entries (cell_at a u.mentor o.mentor).entries)) (record_of (tree_of_state a) u o)
      (subst (λ r. Has r (map (child_record a u.mentor o.mentor) (seen_entries (cell_at a u.mentor o.mentor).entries))) same
      (has_map (child_record a u.mentor o.mentor) (seen_entries (cell_at a u.mentor o.mentor).entries) (o.entry, o.alias) (has_entry_seen (cell_at a u.mentor o.mentor).entries o.entry o.alias s.there)))
      v

  -- whatever is reached is found, and a path leads up from it
  pub reached_led : (far near c : ℕ) (x : SegId) (r : SegRecord) → Has x (identities (classes a.shared)) → is_led k from near c x ≡ true → Has r (reached k a far c x) →
      IsFound r × ((m : ℕ) × (m ≤ near + far) × (is_led k from m r.class r.seg ≡ true))
  reached_led zero near c x r at led h = absurd h
  reached_led (suc far) near c x r at led h =
      let split = of_flat (λ (r : SegRecord). r ∷ reached k a far r.class r.seg) (children k a c x) r h in
      let child = child_found c x split.0 at split.1 in
      let step : IsStep k from near split.0.class split.0.seg child.0.at = record {
        there = child.0.there;
        in_volume = child.0.in_volume;
        class = sym (ap (λ (z : SegRecord). z.class) child.0.is);
        led = subst (λ y. is_led k from near split.0.seg.mentor y ≡ true) (sym child.2 ∙ ap (λ (z : SegRecord). z.mentor) child.0.is) (subst (λ m. is_led k from near m x ≡ true) (sym child.1) led);
      } in
      onward split.0 child.0 (led_step k from near split.0.class split.0.seg child.0.at step)
      (reached_led far (suc near) split.0.class split.0.seg r child.0.known) split.2
    where
      onward : (q : SegRecord) → IsFound q → is_led k from (suc near) q.class q.seg ≡ true →
          (is_led k from (suc near) q.class q.seg ≡ true → Has r (reached k a far q.class q.seg) → IsFound r × ((m : ℕ) × (m ≤ suc near + far) × (is_led k from m r.class r.seg ≡ true))) →
          Has r (q ∷ reached k a far q.class q.seg) → IsFound r × ((m : ℕ) × (m ≤ near + suc far) × (is_led k from m r.class r.seg ≡ true))
      onward q f led rest (inl same) = (subst IsFound same f, (suc near, omega arith, subst (λ (z : SegRecord). is_led k from (suc near) z.class z.seg ≡ true) same led))
      onward q f led rest (inr there) = let g = rest led there in let le = g.1.1 in (g.0, (g.1.0, omega (arith, le), g.1.2))

  -- children, and children of what is reached, are reached
  reached_first : (far c : ℕ) (x : SegId) (r : SegRecord) → Has r (children k a c x) → Has r (reached k a (suc far) c x)
  reached_first far c x r h = has_flat (λ (r : SegRecord). r ∷ reached k a far r.class r.seg) (children k a c x) r r h (inl refl)

  reached_more : (far c : ℕ) (x : SegId) (r s : SegRecord) → Has r (reached k a far c x) → Has s (children k a r.class r.seg) → Has s (reached k a (suc far) c x)
  reached_more zero c x r s h g = absurd h
  reached_more (suc far) c x r s h g =
      let split = of_flat (λ (r : SegRecord). r ∷ reached k a far r.class r.seg) (children k a c x) r h in
      has_flat (λ (r : SegRecord). r ∷ reached k a (suc far) r.class r.seg) (children k a c x) split.0 s split.1
      (onward split.0 (λ there. reached_more far split.0.class split.0.seg r s there g) split.2)
    where
      onward : (q : SegRecord) → (Has r (reached k a far q.class q.seg) → Has s (reached k a (suc far) q.class q.seg)) → Has r (q ∷ reached k a far q.class q.seg) → Has s (q ∷ reached k a (suc far) q.class q.seg)
      onward q rest (inl same) = inr (reached_first far q.class q.seg s (subst (λ (z : SegRecord). Has s (children k a z.class z.seg)) (sym same) g))
      onward q rest (inr there) = inr (rest there)

  -- where a path leads up from a cell, it is the root's, or that of what is reached
  pub led_reached : (far c : ℕ) (u : SegId) → is_led k from far c u ≡ true →
      (is_root_cell c u ≡ true) ⊎ ((o : Origin) × (from u ≡ Some o) × (o.alias.class ≡ c) × Has (record_of (tree_of_state a) u o) (reached k a far 0 (seg 0 0)))
  led_reached zero c u h = inl h
  led_reached (suc far) c u h = by_cases (λ (o : Origin). led_reached far u.mentor o.mentor) (led_cases k from far c u h)
    where
      under : (o : Origin) → IsStep k from far c u o →
          (is_root_cell u.mentor o.mentor ≡ true) ⊎ ((p : Origin) × (from o.mentor ≡ Some p) × (p.alias.class ≡ u.mentor) × Has (record_of (tree_of_state a) o.mentor p) (reached k a far 0 (seg 0 0))) →
          Has (record_of (tree_of_state a) u o) (reached k a (suc far) 0 (seg 0 0))
      under o s (inl root) =
          let parts = and_parts (u.mentor == 0) (is_root o.mentor) root in
          let m : u.mentor ≡ 0 = eqb-true u.mentor 0 parts.0 in
          let x : o.mentor ≡ seg 0 0 = same_seg-true o.mentor (seg 0 0) parts.1 in
          reached_first far 0 (seg 0 0) (record_of (tree_of_state a) u o) (subst (λ y. Has (record_of (tree_of_state a) u o) (children k a 0 y)) x
          (subst (λ d. Has (record_of (tree_of_state a) u o) (children k a d o.mentor)) m (found_child u o s.there (subst (λ d. not (volume_of k d == 0) ≡ true) (sym s.class) s.in_volume))))
      under o s (inr q) = reached_more far 0 (seg 0 0) (record_of (tree_of_state a) o.mentor q.0) (record_of (tree_of_state a) u o) q.3
          (subst (λ d. Has (record_of (tree_of_state a) u o) (children k a d o.mentor)) (sym q.2) (found_child u o s.there (subst (λ d. not (volume_of k d == 0) ≡ true) (sym s.class) s.in_volume)))

      by_cases : ((o : Origin) → is_led k from far u.mentor o.mentor ≡ true →
          (is_root_cell u.mentor o.mentor ≡ true) ⊎ ((p : Origin) × (from o.mentor ≡ Some p) × (p.alias.class ≡ u.mentor) × Has (record_of (tree_of_state a) o.mentor p) (reached k a far 0 (seg 0 0)))) →
          (is_root_cell c u ≡ true) ⊎ ((o : Origin) × IsStep k from far c u o) →
          (is_root_cell c u ≡ true) ⊎ ((o : Origin) × (from u ≡ Some o) × (o.alias.class ≡ c) × Has (record_of (tree_of_state a) u o) (reached k a (suc far) 0 (seg 0 0)))
      by_cases rest (inl root) = inl root
      by_cases rest (inr s) = inr (s.0, s.1.there, s.1.class, under s.0 s.1 (rest s.0 s.1.led))

  -- a longer path may be asked for
  pub led_more : (near far c : ℕ) (u : SegId) → near ≤ far → is_led k from near c u ≡ true → is_led k from far c u ≡ true
  led_more zero far c u le h = led_root k from far c u h
  led_more (suc near) zero c u le h = absurd (omega (arith, le))
  led_more (suc near) (suc far) c u le h = by_cases (λ (o : Origin). led_more near far u.mentor o.mentor (omega (arith, le))) (led_cases k from near c u h)
    where
      by_cases : ((o : Origin) → is_led k from near u.mentor o.mentor ≡ true → is_led k from far u.mentor o.mentor ≡ true) → (is_root_cell c u ≡ true) ⊎ ((o : Origin) × IsStep k from near c u o) → is_led k from (suc far) c u ≡ true
      by_cases rest (inl root) = led_root k from (suc far) c u root
      by_cases rest (inr s) = led_step k from far c u s.0 (record { there = s.1.there; in_volume = s.1.in_volume; class = s.1.class; led = rest s.0 s.1.led })
