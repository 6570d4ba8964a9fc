-- Paths upwards, step by step, and records found the same way by the same places.
use Rattle.std.proofs.Common.{◌≡◌, ℕ, zero, suc, ◌+◌, ◌-◌, ◌<◌, ◌≤◌, Bool, true, false, not, ◌&&◌, ◌||◌, List, length, map, get_or, inl, inr, refl, sym, ap, ◌∙◌, Option, Some, None, arith}
use Rattle.std.proofs.lemmas.Bool.{cases_lt}
use Rattle.std.proofs.lemmas.List.{length-map, get_or-map, get_or_past}
use Rattle.std.specs.Prelude.{◌==◌, if◌then◌else◌, slice_index, IfSome}
use Rattle.std.specs.Option.{option_map_or, option_and_then}
use Rattle.words_layout.specs.declared.segment.SegId.{SegId}
use Rattle.config_text.specs.declared.config.Pool.{Pool as PoolText}
use Rattle.class_model.specs.Config.{Config}
use Rattle.class_model.specs.Volume.{volume_of}
use Rattle.end_volumes.specs.declared.origins.Origin.{Origin}
use Rattle.end_volumes.specs.After.{mentor_of, is_root_cell, is_led, found}

-- ---- the volume of a class

module _ (pools : List PoolText) (c : ℕ) where
  pub volume_there : (p : PoolText) → c < length pools → p ≡ get_or pools c p → p.volume ≡ slice_index (map (λ (x : PoolText). x.volume) pools) c
  volume_there p lt is = ap (λ (x : PoolText). x.volume) is ∙ sym (get_or-map (λ (x : PoolText). x.volume) pools c p 0 lt)

  pub no_volume_there : length pools ≤ c → 0 ≡ slice_index (map (λ (x : PoolText). x.volume) pools) c
  no_volume_there le = sym (get_or_past (map (λ (x : PoolText). x.volume) pools) c 0 (omega (arith, le, length-map pools (λ (x : PoolText). x.volume))))

  -- a class with a volume is one of the pools'
  pub there_with_volume : (v : ℕ) → slice_index (map (λ (x : PoolText). x.volume) pools) c ≡ v → 1 ≤ v → c < length pools
  there_with_volume v is some = elim (cases_lt c (length pools)) [
    | inl lt ↦ lt
    | inr le ↦ absurd (omega (arith, is, some, no_volume_there le))
  ]

-- ---- a path

module _ (k : Config) (from : SegId → Option Origin) where
  pub led_at_root : (far c : ℕ) (u : SegId) → is_root_cell c u ≡ true → is_led k from far c u ≡ true
  led_at_root zero c u h = h
  led_at_root (suc far) c u h = ap (λ b. b || option_map_or (λ (x : SegId). is_led k from far u.mentor x) (mentor_of k c (from u)) false) h

  pub led_further : (far c : ℕ) (u x : SegId) → is_root_cell c u ≡ false → mentor_of k c (from u) ≡ Some x → is_led k from (suc far) c u ≡ is_led k from far u.mentor x
  led_further far c u x h is = λ j. h j || option_map_or (λ (y : SegId). is_led k from far u.mentor y) (is j) false

  pub led_nowhere : (far c : ℕ) (u : SegId) → is_root_cell c u ≡ false → mentor_of k c (from u) ≡ None → is_led k from (suc far) c u ≡ false
  led_nowhere far c u h is = λ j. h j || option_map_or (λ (y : SegId). is_led k from far u.mentor y) (is j) false

-- ---- a path, walked from the cell of class c and identity u: after i steps it stands at the cell of class d and identity x

module _ (k : Config) (from : SegId → Option Origin) (n c : ℕ) (u : SegId) (i d : ℕ) (x : SegId) (so_far : is_led k from (n - i) d x ≡ is_led k from n c u) where
  pub at_root : (b : Bool) → b ≡ is_root_cell d x → b ≡ true → true ≡ is_led k from n c u
  at_root b is holds = sym (led_at_root k from (n - i) d x (sym is ∙ holds)) ∙ so_far

  pub at_end : (b : Bool) → b ≡ is_root_cell d x → n ≤ i → b ≡ is_led k from n c u
  at_end b is past = let z : 0 ≡ n - i = omega (arith, past) in is ∙ (ap (λ m. is_led k from m d x) z ∙ so_far)

  module _ (b : Bool) (is : b ≡ is_root_cell d x) (fails : b ≡ false) (lt : i < n) where
    left : n - i ≡ suc (n - (i + 1))
    left = omega (arith, lt)

    pub one_up : (y : SegId) → mentor_of k d (from x) ≡ Some y → is_led k from (n - (i + 1)) x.mentor y ≡ is_led k from n c u
    one_up y there = sym (ap (λ m. is_led k from m d x) left ∙ led_further k from (n - (i + 1)) d x y (sym is ∙ fails) there) ∙ so_far

    pub no_way_up : mentor_of k d (from x) ≡ None → false ≡ is_led k from n c u
    no_way_up there = sym (ap (λ m. is_led k from m d x) left ∙ led_nowhere k from (n - (i + 1)) d x (sym is ∙ fails) there) ∙ so_far

-- ---- the same places

module _ (k : Config) (f g : SegId → Option Origin) where
  -- one step, given the rest of the path
  led_step : (far c : ℕ) (u : SegId) (P : SegId → Type 0) → ((x : SegId) → P x → is_led k f far u.mentor x ≡ is_led k g far u.mentor x) → (o : Option Origin) → IfSome o (λ (y : Origin). P y.mentor) → f u ≡ o → g u ≡ o →
      is_led k f (suc far) c u ≡ is_led k g (suc far) c u
  led_step far c u P rest None ok a b =
      (λ j. is_root_cell c u || option_map_or (λ (x : SegId). is_led k f far u.mentor x) (mentor_of k c (a j)) false) ∙ sym (λ j. is_root_cell c u || option_map_or (λ (x : SegId). is_led k g far u.mentor x) (mentor_of k c (b j)) false)
  led_step far c u P rest (Some y) ok a b =
      (λ j. is_root_cell c u || option_map_or (λ (x : SegId). is_led k f far u.mentor x) (mentor_of k c (a j)) false)
      ∙ (either (not (volume_of k c == 0) && y.alias.class == c) ∙ sym (λ j. is_root_cell c u || option_map_or (λ (x : SegId). is_led k g far u.mentor x) (mentor_of k c (b j)) false))
    where
      either : (z : Bool) → (is_root_cell c u || option_map_or (λ (x : SegId). is_led k f far u.mentor x) (if z then Some y.mentor else None) false) ≡ (is_root_cell c u || option_map_or (λ (x : SegId). is_led k g far u.mentor x) (if z then Some y.mentor else None) false)
      either true = ap (λ r. is_root_cell c u || r) (rest y.mentor ok)
      either false = refl

  module _ (P : SegId → Type 0) (same : (u : SegId) → P u → f u ≡ g u) (closed : (u : SegId) → P u → IfSome (g u) (λ (y : Origin). P y.mentor)) where
    led_same : (far c : ℕ) (u : SegId) → P u → is_led k f far c u ≡ is_led k g far c u
    led_same zero c u h = refl
    led_same (suc far) c u h = led_step far c u P (λ x ok. led_same far u.mentor x ok) (g u) (closed u h) (same u h) refl

    pub found_same : (v far : ℕ) (u : SegId) → P u → found k v f far u ≡ found k v g far u
    found_same v far u h =
        ap (option_and_then (λ (o : Origin). if volume_of k o.alias.class == v && is_led k f far o.alias.class u then Some o else None)) (same u h)
        ∙ ap (λ (t : ℕ → Bool). option_and_then (λ (o : Origin). if volume_of k o.alias.class == v && t o.alias.class then Some o else None) (g u)) (λ j c. led_same far c u h j)
