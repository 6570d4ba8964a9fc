-- The two definitions of the records of a volume agree on reached states.
use Rattle.std.proofs.Common.{ℕ, ◌*◌, Bool, true, false, ◌&&◌, List, ◌≡◌, ◌⊎◌, inl, inr, refl, sym, ap, subst, ◌∙◌, Option, Some, None, arith}
use Rattle.std.specs.Prelude.{◌==◌, if◌then◌else◌}
use Rattle.std.specs.List.{filter, filter_map, find}
use Rattle.std.specs.Option.{option_map, option_and_then}
use Rattle.std.proofs.lemmas.Bool.{and_from, and_parts}
use Rattle.words_layout.specs.Segments.{seg, same_seg}
use Rattle.words_layout.specs.declared.segment.SegId.{SegId}
use Rattle.words_layout.proofs.Names.{same_seg-true, same_seg-refl}
use Rattle.class_model.specs.Config.{Config, SegRecord, classes}
use Rattle.class_model.specs.State.{State, identities}
use Rattle.class_model.specs.Valid.{is_root}
use Rattle.class_model.specs.Volume.{volume_of, reached, volume}
use Rattle.end_volumes.specs.declared.origins.Origin.{Origin}
use Rattle.end_volumes.specs.After.{tree_of_state, origin, is_led, is_root_cell, record_of, record_after, records_after}
use Rattle.effect_laws.proofs.Good.{Good}
use Rattle.effect_laws.proofs.StandsAfter.{good_run}
use Rattle.volume_laws.specs.Agree.{VolumesAgree}
use Rattle.volume_laws.proofs.Members.{Has, has_filter, of_filter, find_some, find_none}
use Rattle.volume_laws.proofs.Single.{Placed}
use Rattle.volume_laws.proofs.Steps.{placed_run}
use Rattle.volume_laws.proofs.Origins.{stands_at, root_identity}
use Rattle.volume_laws.proofs.Paths.{reached_led, led_reached, led_more}

module _ (k : Config) (v n : ℕ) (a : State) (good : Good n a) (placed : Placed a) where
  abbrev far : ℕ
  far = 64 * classes a.shared

  abbrev all : List SegRecord
  all = reached k a (64 * classes a.shared) 0 (seg 0 0)

  abbrev of_volume : List SegRecord
  of_volume = filter (λ (r : SegRecord). volume_of k r.class == v) (reached k a (64 * classes a.shared) 0 (seg 0 0))

  -- no entry names the root
  pub not_the_root : (u : SegId) (o : Origin) → origin (tree_of_state a) u ≡ Some o → is_root u ≡ false
  not_the_root u o h = let s = stands_at n a good placed u o h in subst (λ z. is_root z ≡ false) s.names (placed.no_root u.mentor o.mentor o.entry o.alias s.there)

  -- the record of u, by what stands there
  abbrev taken : SegId → Option Origin → Option SegRecord
  taken u p = option_map (record_of (tree_of_state a) u) (option_and_then (λ (o : Origin).
      if volume_of k o.alias.class == v && is_led k (origin (tree_of_state a)) (64 * classes a.shared) o.alias.class u then Some o else None) p)

  one_record : (u : SegId) → record_after k v (tree_of_state a) u ≡ find (λ (r : SegRecord). same_seg r.seg u) of_volume
  one_record u = by_find (find (λ (r : SegRecord). same_seg r.seg u) of_volume) refl
    where
      up : (r : SegRecord) → Has r of_volume → r.seg ≡ u → record_after k v (tree_of_state a) u ≡ Some r
      up r h same =
          let passed = of_filter (λ (r : SegRecord). volume_of k r.class == v) (reached k a (64 * classes a.shared) 0 (seg 0 0)) r h in
          let led = reached_led k n a good placed (64 * classes a.shared) 0 0 (seg 0 0) r (root_identity n a good placed) refl passed.0 in
          let le = led.1.1 in
          let more : is_led k (origin (tree_of_state a)) (64 * classes a.shared) r.class r.seg ≡ true = led_more k n a good placed led.1.0 (64 * classes a.shared) r.class r.seg (omega (arith, le)) led.1.2 in
          let test : (volume_of k r.class == v && is_led k (origin (tree_of_state a)) (64 * classes a.shared) r.class r.seg) ≡ true = and_from _ _ passed.1 more in
          let class : r.class ≡ led.0.at.alias.class = ap (λ (z : SegRecord). z.class) led.0.is in
          let test_at : (volume_of k led.0.at.alias.class == v && is_led k (origin (tree_of_state a)) (64 * classes a.shared) led.0.at.alias.class r.seg) ≡ true =
          subst (λ c. (volume_of k c == v && is_led k (origin (tree_of_state a)) (64 * classes a.shared) c r.seg) ≡ true) class test in
          let own : taken r.seg (origin (tree_of_state a) r.seg) ≡ Some r =
          ap (taken r.seg) led.0.there
          ∙ ap (λ (b : Bool). option_map (record_of (tree_of_state a) r.seg) (if b then Some led.0.at else None)) test_at
          ∙ ap Some (sym led.0.is) in
          subst (λ z. taken z (origin (tree_of_state a) z) ≡ Some r) same own

      nothing : find (λ (r : SegRecord). same_seg r.seg u) of_volume ≡ None → (p : Option Origin) → origin (tree_of_state a) u ≡ p → taken u p ≡ None
      nothing none None e = refl
      nothing none (Some o) e = by_test (volume_of k o.alias.class == v && is_led k (origin (tree_of_state a)) (64 * classes a.shared) o.alias.class u) refl
        where
          true_false : (b : Bool) → b ≡ true → b ≡ false → ⊥
          true_false true x y = cc
          true_false false x y = cc

          some_is : (x y : Origin) → Some x ≡ Some y → x ≡ y
          some_is x y e = cc

          by_led : (volume_of k o.alias.class == v) ≡ true →
              (is_root_cell o.alias.class u ≡ true) ⊎ ((p : Origin) × (origin (tree_of_state a) u ≡ Some p) × (p.alias.class ≡ o.alias.class) × Has (record_of (tree_of_state a) u p) (reached k a (64 * classes a.shared) 0 (seg 0 0))) → ⊥
          by_led vol (inl root) = true_false (is_root u) (and_parts (o.alias.class == 0) (is_root u) root).1 (not_the_root u o e)
          by_led vol (inr q) =
              let member : Has (record_of (tree_of_state a) u q.0) of_volume = has_filter (λ (r : SegRecord). volume_of k r.class == v) (reached k a (64 * classes a.shared) 0 (seg 0 0)) (record_of (tree_of_state a) u q.0) q.3
              (subst (λ c. (volume_of k c == v) ≡ true) (sym q.2) vol) in
              true_false (same_seg u u) (same_seg-refl u) (find_none (λ (r : SegRecord). same_seg r.seg u) of_volume (record_of (tree_of_state a) u q.0) none member)

          by_test : (b : Bool) → (volume_of k o.alias.class == v && is_led k (origin (tree_of_state a)) (64 * classes a.shared) o.alias.class u) ≡ b →
              option_map (record_of (tree_of_state a) u) (if b then Some o else None) ≡ None
          by_test false t = refl
          by_test true t = let parts = and_parts (volume_of k o.alias.class == v) _ t in absurd (by_led parts.0 (led_reached k n a good placed (64 * classes a.shared) o.alias.class u parts.1))

      by_find : (f : Option SegRecord) → find (λ (r : SegRecord). same_seg r.seg u) of_volume ≡ f → record_after k v (tree_of_state a) u ≡ f
      by_find (Some r) e = let at = find_some (λ (r : SegRecord). same_seg r.seg u) of_volume r e in up r at.0 (same_seg-true r.seg u at.1)
      by_find None e = nothing e (origin (tree_of_state a) u) refl

  pub same_volume : records_after k v (tree_of_state a) ≡ volume k v a
  same_volume = λ i. filter_map (λ u. one_record u i) (identities (classes a.shared))

pub volumes_agree : VolumesAgree
volumes_agree k names v valid some = same_volume k v _ _ (good_run k valid names) (placed_run k valid names)
