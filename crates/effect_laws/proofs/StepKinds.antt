-- What a step does to the guarded words of its class and to those that are committed; and what it leaves of other processes.
use Rattle.std.proofs.Common.{ℕ, Bool, true, false, ◌≡◌, refl, sym, ap, subst, ◌∙◌, Option, Some, None, ◌⊎◌, inl, inr}
use Rattle.std.specs.Prelude.{if◌then◌else◌}
use Rattle.std.proofs.lemmas.Bool.{both_ways, false_from_ne_true}
use Rattle.words_layout.specs.Words.{Guard, OfClass, GuardedWord, GuardedWords, same_word, set_guarded}
use Rattle.words_layout.specs.declared.segment.SegId.{SegId}
use Rattle.words_layout.proofs.Names.{same_word-true}
use Rattle.policy.specs.Outcome.{Outcome}
use Rattle.turns.specs.Bodies.{Loads, Inner, Outer}
use Rattle.turns.specs.Doing.{Doing, OuterBody, InnerSecond, InnerThird, InnerBody}
use Rattle.effect_laws.proofs.Guards.{Hold, just, both, inner_hold, covers, may_store, store_apart, Apart, Changed, covers_same, store_same, covered_same, over, mix, ext, over_set, cover_more, store_more, cover_back, apart_just, just_in, class_in_both, uncovered_same}
use Rattle.effect_laws.proofs.Paths.{LoadsPath, InnerPath, OuterPath, loads_move, inner_move, outer_move, inner_changed, outer_changed}

-- the guards of whose words a process may have changed some that aren't committed
abbrev pub outer_hold : Option ℕ → Hold
outer_hold None g = false
outer_hold (Some t) g = just OfClass g

abbrev pub writing : Doing Outcome → Hold
writing (OuterBody t rest) g = just OfClass g
writing (InnerSecond within u body) g = outer_hold within g
writing (InnerThird within u t body) g = outer_hold within g
writing (InnerBody within u t rest) g = inner_hold within u g
writing _ g = false

-- From committed words c and words n to c' and n': it changes neither; it stores a word that is its holder's to store; or
-- what its holder has changed is committed.
pub data Kind (c n : GuardedWords) (x y : Hold) : GuardedWords → GuardedWords → Type 0 where
  calm : ((g : Guard) → y g ≡ false → x g ≡ false) → Kind c n x y c n
  store : (w : GuardedWord) (v : ℕ) → may_store c x w v ≡ true → ((g : Guard) → y g ≡ false → x g ≡ false) → Kind c n x y c (set_guarded n w v)
  commit : Changed c x c (mix c x n) → Kind c n x y (mix c x n) n

module _ (c n : GuardedWords) (x y : Hold) where
  -- the words that others guard, with their own changes
  mix_moves : (c' : GuardedWords) (h : Hold) → ((w : GuardedWord) → covers c' h w ≡ covers c h w) → over c h (mix c h n) c' ≡ mix c' h n
  mix_moves c' h same = ext _ _ each
    where
      each : (q : GuardedWord) → over c h (mix c h n) c' q ≡ mix c' h n q
      each q = elim (covers c h q) as (λ b. covers c h q ≡ b → (if b then (if b then n q else c q) else c' q) ≡ (if covers c' h q then n q else c' q)) [
        | true ↦ λ e. rw (same q ∙ e) refl
        | false ↦ λ e. rw (same q ∙ e) refl
      ] refl

  module _ (h : Hold) (apart : Apart x h) where
    pub outer_kept : (b r : Outer Outcome) (c' n' : GuardedWords) → Kind c n x y c' n' → OuterPath c h b c r (mix c h n) → OuterPath c' h b c' r (mix c' h n')
    outer_kept b r _ _ (calm grows) p = p
    outer_kept b r _ _ (store w v k grows) p = subst (OuterPath c h b c r) (sym (over_set c h n c w v (store_apart c x h apart w v k))) p
    outer_kept b r _ _ (commit changed) p =
        subst (OuterPath (mix c x n) h b (mix c x n) r) (mix_moves (mix c x n) h (covers_same c (mix c x n) x h apart changed))
        (outer_move c (mix c x n) h (covers_same c (mix c x n) x h apart changed) (store_same c (mix c x n) x h apart changed) c (mix c x n)
        (covered_same c (mix c x n) x h apart changed) b r (mix c h n) p)

    pub inner_kept : (b r : Inner Outcome) (c' n' : GuardedWords) → Kind c n x y c' n' → InnerPath c h b c r (mix c h n) → InnerPath c' h b c' r (mix c' h n')
    inner_kept b r _ _ (calm grows) p = p
    inner_kept b r _ _ (store w v k grows) p = subst (InnerPath c h b c r) (sym (over_set c h n c w v (store_apart c x h apart w v k))) p
    inner_kept b r _ _ (commit changed) p =
        subst (InnerPath (mix c x n) h b (mix c x n) r) (mix_moves (mix c x n) h (covers_same c (mix c x n) x h apart changed))
        (inner_move c (mix c x n) h (covers_same c (mix c x n) x h apart changed) (store_same c (mix c x n) x h apart changed) c (mix c x n)
        (covered_same c (mix c x n) x h apart changed) b r (mix c h n) p)

    pub loads_kept : (b r : Loads Outcome) (c' n' : GuardedWords) → Kind c n x y c' n' → LoadsPath c h b r → LoadsPath c' h b r
    loads_kept b r _ _ (calm grows) p = p
    loads_kept b r _ _ (store w v k grows) p = p
    loads_kept b r _ _ (commit changed) p =
        loads_move c (mix c x n) h (covers_same c (mix c x n) x h apart changed) (store_same c (mix c x n) x h apart changed)
        (covered_same c (mix c x n) x h apart changed) b r p

-- a turn of the class that has come to the turn of a segment within it, and that turn's body so far
abbrev pub Nested : (c n : GuardedWords) → SegId → Outer Outcome → Inner Outcome → Type 0
Nested c n u body rest =
    (inner : Inner Outcome) × (v : GuardedWords) × OuterPath c (just OfClass) body c (Outer.Enter u inner) v × InnerPath c (both u) inner v rest (mix c (both u) n)

module _ (c n : GuardedWords) (x y : Hold) (u : SegId) (apart : Apart x (both u)) (body : Outer Outcome) (rest : Inner Outcome) where
  apart_class : Apart x (just OfClass)
  apart_class g k = false_from_ne_true (just OfClass g) (λ e. both_ways (both u g) (apart g k) (class_in_both u g e))

  pub nested_kept : (c' n' : GuardedWords) → Kind c n x y c' n' → Nested c n u body rest → Nested c' n' u body rest
  nested_kept _ _ (calm grows) p = p
  nested_kept _ _ (store w v k grows) p =
      (p.0, p.1, p.2, subst (InnerPath c (both u) p.0 p.1 rest) (sym (over_set c (both u) n c w v (store_apart c x (both u) apart w v k))) p.3)
  nested_kept _ _ (commit changed) p = (
    p.0,
    over c (just OfClass) p.1 c',
    outer_move c c' (just OfClass) (covers_same c c' x (just OfClass) apart_class changed) (store_same c c' x (just OfClass) apart_class changed) c c'
        (covered_same c c' x (just OfClass) apart_class changed) body (Outer.Enter u p.0) p.1 p.2,
    subst (InnerPath c' (both u) p.0 (over c (just OfClass) p.1 c') rest) ends
        (inner_move c c' (both u) cover (store_same c c' x (both u) apart changed) p.1 (over c (just OfClass) p.1 c') begins p.0 rest (mix c (both u) n) p.3),
  )
    where
      c' : GuardedWords
      c' = mix c x n

      cover : (w : GuardedWord) → covers c' (both u) w ≡ covers c (both u) w
      cover = covers_same c c' x (both u) apart changed

      begins : (w : GuardedWord) → covers c (both u) w ≡ true → over c (just OfClass) p.1 c' w ≡ p.1 w
      begins w k = elim (covers c (just OfClass) w) as (λ b. covers c (just OfClass) w ≡ b → (if b then p.1 w else c' w) ≡ p.1 w) [
        | true ↦ λ e. refl
        | false ↦ λ e. covered_same c c' x (both u) apart changed w k ∙ sym (uncovered_same c (just OfClass) c p.1 (outer_changed c (just OfClass) body c (Outer.Enter u p.0) p.1 p.2) w e)
      ] refl

      ends : over c (both u) (mix c (both u) n) (over c (just OfClass) p.1 c') ≡ mix c' (both u) n
      ends = ext _ _ each
        where
          each : (q : GuardedWord) → over c (both u) (mix c (both u) n) (over c (just OfClass) p.1 c') q ≡ mix c' (both u) n q
          each q = elim (covers c (both u) q) as
              (λ b. covers c (both u) q ≡ b → (if b then (if b then n q else c q) else over c (just OfClass) p.1 c' q) ≡ (if covers c' (both u) q then n q else c' q)) [
                | true ↦ λ e. rw (cover q ∙ e) refl
                | false ↦ λ e. rw (cover q ∙ e, false_from_ne_true (covers c (just OfClass) q) (λ k. both_ways (covers c (both u) q) e (cover_more c (just OfClass) (both u) (class_in_both u) q k))) refl
              ] refl

-- where no process may have changed the words of a guard, they are the committed ones
pub idle_kept : (c n : GuardedWords) (x y : Hold) (g : Guard) (c' n' : GuardedWords) → Kind c n x y c' n' → y g ≡ false →
    (x g ≡ false → (w : GuardedWord) → covers c (just g) w ≡ true → n w ≡ c w) →
    (w : GuardedWord) → covers c' (just g) w ≡ true → n' w ≡ c' w
idle_kept c n x y g _ _ (calm grows) out known w k = known (grows g out) w k
idle_kept c n x y g _ _ (store w0 v s grows) out known w k =
    elim (same_word w w0) as (λ b. same_word w w0 ≡ b → (if b then v else n w) ≡ c w) [
      | true ↦ λ e. absurd (both_ways (covers c (just g) w0) (store_apart c x (just g) (apart_just x g (grows g out)) w0 v s) (ap (covers c (just g)) (sym (same_word-true w w0 e)) ∙ k))
      | false ↦ λ e. known (grows g out) w k
    ] refl
idle_kept c n x y g _ _ (commit changed) out known w k = by_hold (x g) refl
  where
    by_hold : (b : Bool) → x g ≡ b → n w ≡ mix c x n w
    by_hold true e =
        let all : covers (mix c x n) x w ≡ true = cover_more (mix c x n) (just g) x (just_in x g e) w k in
        let was : covers c x w ≡ true = cover_back c (mix c x n) x changed w all in rw was refl
    by_hold false e =
        let apart : Apart x (just g) = apart_just x g e in
        let was : covers c (just g) w ≡ true = sym (covers_same c (mix c x n) x (just g) apart changed w) ∙ k in
        known e w was ∙ sym (covered_same c (mix c x n) x (just g) apart changed w was)

-- what a turn within a turn has changed in all
pub nested_changed : (c n : GuardedWords) (u : SegId) (body : Outer Outcome) (rest : Inner Outcome) → Nested c n u body rest → Changed c (both u) c (mix c (both u) n)
nested_changed c n u body rest p w = by_inner (inner_changed c (both u) p.0 p.1 rest (mix c (both u) n) p.3 w)
  where
    by_outer : (mix c (both u) n w ≡ p.1 w) → (p.1 w ≡ c w) ⊎ (may_store c (just OfClass) w (p.1 w) ≡ true) →
        (mix c (both u) n w ≡ c w) ⊎ (may_store c (both u) w (mix c (both u) n w) ≡ true)
    by_outer e (inl f) = inl (e ∙ f)
    by_outer e (inr k) = inr (ap (may_store c (both u) w) e ∙ store_more c (just OfClass) (both u) (class_in_both u) w (p.1 w) k)

    by_inner : (mix c (both u) n w ≡ p.1 w) ⊎ (may_store c (both u) w (mix c (both u) n w) ≡ true) →
        (mix c (both u) n w ≡ c w) ⊎ (may_store c (both u) w (mix c (both u) n w) ≡ true)
    by_inner (inr k) = inr k
    by_inner (inl e) = by_outer e (outer_changed c (just OfClass) body c (Outer.Enter u p.0) p.1 p.2 w)
