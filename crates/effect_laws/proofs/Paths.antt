-- What a body has done so far, at one go, from the words that were committed; and that its words are guarded.
use Rattle.std.proofs.Common.{ℕ, ◌+◌, ◌%◌, ◌^◌, true, false, ◌≡◌, refl, sym, ap, subst, ◌∙◌, ◌⊎◌, inl, inr}
use Rattle.std.specs.Prelude.{if◌then◌else◌}
use Rattle.words_layout.specs.Words.{OfClass, GuardedWord, GuardedWords, same_word, set_guarded}
use Rattle.words_layout.proofs.Names.{same_word-true}
use Rattle.policy.specs.Outcome.{Outcome}
use Rattle.turns.specs.Bodies.{Loads, Inner, Outer}
use Rattle.turns.specs.AtOnce.{run_loads, run_inner, run_outer}
use Rattle.effect_laws.proofs.Guards.{Hold, just, both, covers, may_store, store_covers, Changed, over, ext, set_over, over-covered}

-- from words g a body b comes to rest and words v; c says which words the guards h cover
pub data LoadsPath (c : GuardedWords) (h : Hold) (b : Loads Outcome) : Loads Outcome → Type 0 where
  start : LoadsPath c h b b
  loaded : (w : GuardedWord) (f : ℕ → Loads Outcome) → covers c h w ≡ true → LoadsPath c h b (Loads.Load w f) → LoadsPath c h b (f (c w))

pub data InnerPath (c : GuardedWords) (h : Hold) (b : Inner Outcome) (g : GuardedWords) : Inner Outcome → GuardedWords → Type 0 where
  start : InnerPath c h b g b g
  loaded : (w : GuardedWord) (f : ℕ → Inner Outcome) (v : GuardedWords) → covers c h w ≡ true →
      InnerPath c h b g (Inner.Load w f) v → InnerPath c h b g (f (v w)) v
  stored : (w : GuardedWord) (x : ℕ) (rest : Inner Outcome) (v : GuardedWords) → may_store c h w x ≡ true →
      InnerPath c h b g (Inner.Store w x rest) v → InnerPath c h b g rest (set_guarded v w x)
  added : (w : GuardedWord) (x : ℕ) (f : ℕ → Inner Outcome) (v : GuardedWords) → may_store c h w ((v w + x) % 2 ^ 64) ≡ true →
      InnerPath c h b g (Inner.Add w x f) v → InnerPath c h b g (f (v w)) (set_guarded v w ((v w + x) % 2 ^ 64))

pub data OuterPath (c : GuardedWords) (h : Hold) (b : Outer Outcome) (g : GuardedWords) : Outer Outcome → GuardedWords → Type 0 where
  start : OuterPath c h b g b g
  loaded : (w : GuardedWord) (f : ℕ → Outer Outcome) (v : GuardedWords) → covers c h w ≡ true →
      OuterPath c h b g (Outer.Load w f) v → OuterPath c h b g (f (v w)) v
  stored : (w : GuardedWord) (x : ℕ) (rest : Outer Outcome) (v : GuardedWords) → may_store c h w x ≡ true →
      OuterPath c h b g (Outer.Store w x rest) v → OuterPath c h b g rest (set_guarded v w x)

-- the words that a body has still to load and store, run at one go from words v, are guarded
abbrev pub LoadsWithin : GuardedWords → Hold → Loads Outcome → Type 0
LoadsWithin c h (Loads.Load w f) = (covers c h w ≡ true) × LoadsWithin c h (f (c w))
LoadsWithin c h (Loads.Shows o) = Unit {0}

abbrev pub InnerWithin : GuardedWords → Hold → Inner Outcome → GuardedWords → Type 0
InnerWithin c h (Inner.Load w f) v = (covers c h w ≡ true) × InnerWithin c h (f (v w)) v
InnerWithin c h (Inner.Store w x rest) v = (may_store c h w x ≡ true) × InnerWithin c h rest (set_guarded v w x)
InnerWithin c h (Inner.Add w x f) v =
    (may_store c h w ((v w + x) % 2 ^ 64) ≡ true) × InnerWithin c h (f (v w)) (set_guarded v w ((v w + x) % 2 ^ 64))
InnerWithin c h (Inner.Shows o) v = Unit {0}

abbrev pub OuterWithin : GuardedWords → Outer Outcome → GuardedWords → Type 0
OuterWithin c (Outer.Load w f) v = (covers c (just OfClass) w ≡ true) × OuterWithin c (f (v w)) v
OuterWithin c (Outer.Store w x rest) v = (may_store c (just OfClass) w x ≡ true) × OuterWithin c rest (set_guarded v w x)
OuterWithin c (Outer.Enter u body) v = InnerWithin c (both u) body v
OuterWithin c (Outer.Shows o) v = Unit {0}

-- it stays so along a path
pub loads_along : (c : GuardedWords) (h : Hold) (b r : Loads Outcome) → LoadsPath c h b r → LoadsWithin c h b → LoadsWithin c h r
loads_along c h b _ start k = k
loads_along c h b _ (loaded w f e p) k = (loads_along c h b (Loads.Load w f) p k).1

pub inner_along : (c : GuardedWords) (h : Hold) (b : Inner Outcome) (g : GuardedWords) (r : Inner Outcome) (v : GuardedWords) →
    InnerPath c h b g r v → InnerWithin c h b g → InnerWithin c h r v
inner_along c h b g _ _ start k = k
inner_along c h b g _ _ (loaded w f v e p) k = (inner_along c h b g (Inner.Load w f) v p k).1
inner_along c h b g _ _ (stored w x rest v e p) k = (inner_along c h b g (Inner.Store w x rest) v p k).1
inner_along c h b g _ _ (added w x f v e p) k = (inner_along c h b g (Inner.Add w x f) v p k).1

pub outer_along : (c : GuardedWords) (b : Outer Outcome) (g : GuardedWords) (r : Outer Outcome) (v : GuardedWords) →
    OuterPath c (just OfClass) b g r v → OuterWithin c b g → OuterWithin c r v
outer_along c b g _ _ start k = k
outer_along c b g _ _ (loaded w f v e p) k = (outer_along c b g (Outer.Load w f) v p k).1
outer_along c b g _ _ (stored w x rest v e p) k = (outer_along c b g (Outer.Store w x rest) v p k).1

-- the whole body at one go comes to what its rest comes to
pub loads_run : (c : GuardedWords) (h : Hold) (b r : Loads Outcome) → LoadsPath c h b r → run_loads b c ≡ run_loads r c
loads_run c h b _ start = refl
loads_run c h b _ (loaded w f e p) = loads_run c h b (Loads.Load w f) p

pub inner_run : (c : GuardedWords) (h : Hold) (b : Inner Outcome) (g : GuardedWords) (r : Inner Outcome) (v : GuardedWords) →
    InnerPath c h b g r v → run_inner b g ≡ run_inner r v
inner_run c h b g _ _ start = refl
inner_run c h b g _ _ (loaded w f v e p) = inner_run c h b g (Inner.Load w f) v p
inner_run c h b g _ _ (stored w x rest v e p) = inner_run c h b g (Inner.Store w x rest) v p
inner_run c h b g _ _ (added w x f v e p) = inner_run c h b g (Inner.Add w x f) v p

pub outer_run : (c : GuardedWords) (h : Hold) (b : Outer Outcome) (g : GuardedWords) (r : Outer Outcome) (v : GuardedWords) →
    OuterPath c h b g r v → run_outer b g ≡ run_outer r v
outer_run c h b g _ _ start = refl
outer_run c h b g _ _ (loaded w f v e p) = outer_run c h b g (Outer.Load w f) v p
outer_run c h b g _ _ (stored w x rest v e p) = outer_run c h b g (Outer.Store w x rest) v p

-- a word that a path stored was its holder's to store
changed_set : (c : GuardedWords) (h : Hold) (g v : GuardedWords) (w : GuardedWord) (x : ℕ) → may_store c h w x ≡ true →
    Changed c h g v → Changed c h g (set_guarded v w x)
changed_set c h g v w x k known q = elim (same_word q w) as
    (λ b. same_word q w ≡ b → ((if b then x else v q) ≡ g q) ⊎ (may_store c h q (if b then x else v q) ≡ true)) [
      | true ↦ λ e. inr (ap (λ z. may_store c h z x) (same_word-true q w e) ∙ k)
      | false ↦ λ e. known q
    ] refl

pub inner_changed : (c : GuardedWords) (h : Hold) (b : Inner Outcome) (g : GuardedWords) (r : Inner Outcome) (v : GuardedWords) →
    InnerPath c h b g r v → Changed c h g v
inner_changed c h b g _ _ start q = inl refl
inner_changed c h b g _ _ (loaded w f v e p) q = (inner_changed c h b g (Inner.Load w f) v p) q
inner_changed c h b g _ _ (stored w x rest v e p) q = (changed_set c h g v w x e (inner_changed c h b g (Inner.Store w x rest) v p)) q
inner_changed c h b g _ _ (added w x f v e p) q = (changed_set c h g v w ((v w + x) % 2 ^ 64) e (inner_changed c h b g (Inner.Add w x f) v p)) q

pub outer_changed : (c : GuardedWords) (h : Hold) (b : Outer Outcome) (g : GuardedWords) (r : Outer Outcome) (v : GuardedWords) →
    OuterPath c h b g r v → Changed c h g v
outer_changed c h b g _ _ start q = inl refl
outer_changed c h b g _ _ (loaded w f v e p) q = (outer_changed c h b g (Outer.Load w f) v p) q
outer_changed c h b g _ _ (stored w x rest v e p) q = (changed_set c h g v w x e (outer_changed c h b g (Outer.Store w x rest) v p)) q

-- a path is the same from other committed words, where what its guards cover is the same
module _ (c c' : GuardedWords) (h : Hold) (cover : (w : GuardedWord) → covers c' h w ≡ covers c h w)
    (store : (w : GuardedWord) (x : ℕ) → may_store c' h w x ≡ may_store c h w x) where
  pub loads_move : (same : (w : GuardedWord) → covers c h w ≡ true → c' w ≡ c w) (b r : Loads Outcome) → LoadsPath c h b r → LoadsPath c' h b r
  loads_move same b _ start = start
  loads_move same b _ (loaded w f e p) = subst (λ x. LoadsPath c' h b (f x)) (same w e) (loaded w f (cover w ∙ e) (loads_move same b (Loads.Load w f) p))

  module _ (g g' : GuardedWords) (same : (w : GuardedWord) → covers c h w ≡ true → g' w ≡ g w) where
    start_over : over c h g g' ≡ g'
    start_over = ext _ _ each
      where
        each : (q : GuardedWord) → over c h g g' q ≡ g' q
        each q = elim (covers c h q) as (λ b. covers c h q ≡ b → (if b then g q else g' q) ≡ g' q) [ true ↦ λ e. sym (same q e) | false ↦ λ e. refl ] refl

    pub inner_move : (b r : Inner Outcome) (v : GuardedWords) → InnerPath c h b g r v → InnerPath c' h b g' r (over c h v g')
    inner_move b _ _ start = subst (InnerPath c' h b g' b) (sym start_over) start
    inner_move b _ _ (loaded w f v e p) = subst (λ x. InnerPath c' h b g' (f x) (over c h v g')) (over-covered c h v g' w e)
        (loaded w f (over c h v g') (cover w ∙ e) (inner_move b (Inner.Load w f) v p))
    inner_move b _ _ (stored w x rest v e p) = subst (InnerPath c' h b g' rest) (set_over c h v g' w x (store_covers c h w x e))
        (stored w x rest (over c h v g') (store w x ∙ e) (inner_move b (Inner.Store w x rest) v p))
    inner_move b _ _ (added w x f v e p) =
        let here : over c h v g' w ≡ v w = over-covered c h v g' w (store_covers c h w ((v w + x) % 2 ^ 64) e) in
        subst (InnerPath c' h b g' (f (v w))) (set_over c h v g' w ((v w + x) % 2 ^ 64) (store_covers c h w ((v w + x) % 2 ^ 64) e))
        (subst (λ y. InnerPath c' h b g' (f y) (set_guarded (over c h v g') w ((y + x) % 2 ^ 64))) here
        (added w x f (over c h v g') (store w _ ∙ ap (λ y. may_store c h w ((y + x) % 2 ^ 64)) here ∙ e) (inner_move b (Inner.Add w x f) v p)))

    pub outer_move : (b r : Outer Outcome) (v : GuardedWords) → OuterPath c h b g r v → OuterPath c' h b g' r (over c h v g')
    outer_move b _ _ start = subst (OuterPath c' h b g' b) (sym start_over) start
    outer_move b _ _ (loaded w f v e p) = subst (λ x. OuterPath c' h b g' (f x) (over c h v g')) (over-covered c h v g' w e)
        (loaded w f (over c h v g') (cover w ∙ e) (outer_move b (Outer.Load w f) v p))
    outer_move b _ _ (stored w x rest v e p) = subst (OuterPath c' h b g' rest) (set_over c h v g' w x (store_covers c h w x e))
        (stored w x rest (over c h v g') (store w x ∙ e) (outer_move b (Outer.Store w x rest) v p))
