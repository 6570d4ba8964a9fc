-- Pushing the report, and then the image of each volume that the configuration names.
use Rattle.std.proofs.Common.{◌≡◌, ◌≢◌, ℕ, ◌+◌, ◌<◌, ◌≤◌, ◌⊎◌, inl, inr, List, refl, sym, ap, subst, ◌∙◌, arith}
use Rattle.std.proofs.lemmas.Bool.{cases_eq}
use Rattle.std.specs.Prelude.{Contains}
use Rattle.host_ports.specs.Ports.{Port, PushKeeps, IsPrefixTaken, Rose, with_bytes}
use Rattle.config_text.specs.declared.config.Config.{Config as ConfigText}
use Rattle.loader.specs.Records.{named_by}
use Rattle.command_input.specs.Input.{Ports}
use Rattle.command_input.proofs.Failures.{none_on, push_none}
use Rattle.command_input.proofs.Reading.{lt_of_ne}
use Rattle.command_run.specs.Printed.{ImagesPushed, ImageTorn}

pub images_none : (k : ConfigText) (images : ℕ → List ℕ) (before : Ports) → ImagesPushed 1 k images before before
images_none k images before = record {
  taken = λ p some lt named. absurd (omega (arith, some, lt));
  left = λ p. refl;
  others = λ p none. refl;
  none = record { pulls = λ p. refl; pushes = λ p. refl };
}

module _ (n : ℕ) (k : ConfigText) (images : ℕ → List ℕ) (before now after : Ports) where
  pub images_skip : ImagesPushed n k images before now → (Contains (named_by k) n → ⊥) → ImagesPushed (n + 1) k images before now
  images_skip f none = record {
    taken = λ p some lt named. by p some lt named (cases_eq p n);
    left = f.left;
    others = λ p free. f.others p (λ h. (let lt = h.1 in free (h.0, omega arith, h.2)));
    none = f.none;
  }
    where
      by : (p : ℕ) → 1 ≤ p → p < n + 1 → Contains (named_by k) p → (p ≡ n) ⊎ (p ≢ n) → (now p).taken ≡ with_bytes (before p).taken (images p)
      by p some lt named (inl e) = absurd (none (subst (Contains (named_by k)) e named))
      by p some lt named (inr other) = f.taken p some (lt_of_ne p n lt other) named

  -- the port that is next is as it was
  next_same : ImagesPushed n k images before now → now n ≡ before n
  next_same f = f.others n (λ h. (let lt = h.1 in absurd (omega arith)))

  pub images_more : 1 ≤ n → ImagesPushed n k images before now → Contains (named_by k) n → (after n).taken ≡ with_bytes (now n).taken (images n) → PushKeeps n now after → (after n).pushes ≡ (now n).pushes →
      ImagesPushed (n + 1) k images before after
  images_more some f named taken keeps stays = record {
    taken = λ p least lt named_p. by p least lt named_p (cases_eq p n);
    left = λ p. lefts p (cases_eq p n);
    others = λ p free. keeps.others p (λ e. free (omega (arith, e, some), omega (arith, e), subst (Contains (named_by k)) (sym e) named)) ∙
        f.others p (λ h. (let lt = h.1 in free (h.0, omega arith, h.2)));
    none = none_on before now after f.none (push_none n now after keeps stays);
  }
    where
      by : (p : ℕ) → 1 ≤ p → p < n + 1 → Contains (named_by k) p → (p ≡ n) ⊎ (p ≢ n) → (after p).taken ≡ with_bytes (before p).taken (images p)
      by p least lt named_p (inl e) = subst (λ q. (after q).taken ≡ with_bytes (before q).taken (images q)) (sym e) (taken ∙ ap (λ (x : Port). with_bytes x.taken (images n)) (next_same f))
      by p least lt named_p (inr other) = ap (λ (x : Port). x.taken) (keeps.others p other) ∙ f.taken p least (lt_of_ne p n lt other) named_p

      lefts : (p : ℕ) → (p ≡ n) ⊎ (p ≢ n) → (after p).left ≡ (before p).left
      lefts p (inl e) = subst (λ q. (after q).left ≡ (now q).left) (sym e) keeps.left ∙ f.left p
      lefts p (inr other) = ap (λ (x : Port). x.left) (keeps.others p other) ∙ f.left p

  pub image_torn : 1 ≤ n → n < 5 → Contains (named_by k) n → ImagesPushed n k images before now → IsPrefixTaken (now n).taken (after n).taken (images n) →
      Rose (now n).pushes (after n).pushes → PushKeeps n now after → ImageTorn n k images before after
  image_torn some most named f torn rose keeps = record { some = some; most = most; named = named; middle = now; pushed = f; torn = torn; rose = rose; keeps = keeps }

-- with equal images
pub images_as : (n : ℕ) (k : ConfigText) (images others : ℕ → List ℕ) (before after : Ports) → ((p : ℕ) → 1 ≤ p → images p ≡ others p) → ImagesPushed n k images before after →
    ImagesPushed n k others before after
images_as n k images others before after same f = record {
  taken = λ p some lt named. f.taken p some lt named ∙ ap (with_bytes (before p).taken) (same p some);
  left = f.left;
  others = f.others;
  none = f.none;
}

pub image_torn_as : (n : ℕ) (k : ConfigText) (images others : ℕ → List ℕ) (before after : Ports) → ((p : ℕ) → 1 ≤ p → images p ≡ others p) → ImageTorn n k images before after →
    ImageTorn n k others before after
image_torn_as n k images others before after same f = record {
  some = f.some;
  most = f.most;
  named = f.named;
  middle = f.middle;
  pushed = images_as n k images others before f.middle same f.pushed;
  torn = subst (λ (bytes : List ℕ). IsPrefixTaken (f.middle n).taken (after n).taken bytes) (same n f.some) f.torn;
  rose = f.rose;
  keeps = f.keeps;
}
