-- The words of a line, written one after the other.
use Rattle.std.proofs.Common.{ℕ, List, [], ◌∷◌, ◌++◌, ◌≡◌, ap, ◌∙◌, append_assoc}
use Rattle.std.specs.Prelude.{codes}
use Rattle.std.specs.List.{join_with_byte}

behind : (a b c : List ℕ) → (a ++ 32 ∷ b) ++ 32 ∷ c ≡ a ++ 32 ∷ (b ++ 32 ∷ c)
behind a b c = append_assoc a (32 ∷ b) (32 ∷ c)

pub access_text : (l0 l1 l2 l3 l4 l5 l6 p q s m k x y z : List ℕ) → l0 ≡ [] → l1 ≡ l0 ++ codes "access" → l2 ≡ l1 ++ 32 ∷ (p ++ 32 ∷ (q ++ 32 ∷ (s ++ 32 ∷ m))) → l3 ≡ l2 ++ 32 ∷ k →
    l4 ≡ l3 ++ 32 ∷ x → l5 ≡ l4 ++ 32 ∷ y → l6 ≡ l5 ++ 32 ∷ z → l6 ≡ join_with_byte 32 (codes "access" ∷ p ∷ q ∷ s ∷ m ∷ k ∷ x ∷ y ∷ z ∷ [])
access_text l0 l1 l2 l3 l4 l5 l6 p q s m k x y z e0 e1 e2 e3 e4 e5 e6 =
    e6 ∙ ap (λ (t : List ℕ). t ++ 32 ∷ z) (e5 ∙ ap (λ (t : List ℕ). t ++ 32 ∷ y) (e4 ∙ ap (λ (t : List ℕ). t ++ 32 ∷ x) (e3 ∙ ap (λ (t : List ℕ). t ++ 32 ∷ k)
    (e2 ∙ ap (λ (t : List ℕ). t ++ 32 ∷ (p ++ 32 ∷ (q ++ 32 ∷ (s ++ 32 ∷ m)))) (e1 ∙ ap (λ (t : List ℕ). t ++ codes "access") e0)))))
    ∙ all
  where
    all : ((((codes "access" ++ 32 ∷ (p ++ 32 ∷ (q ++ 32 ∷ (s ++ 32 ∷ m)))) ++ 32 ∷ k) ++ 32 ∷ x) ++ 32 ∷ y) ++ 32 ∷ z ≡ join_with_byte 32 (codes "access" ∷ p ∷ q ∷ s ∷ m ∷ k ∷ x ∷ y ∷ z ∷ [])
    all = simp behind
