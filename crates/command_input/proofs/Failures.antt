-- Which calls of the host have failed, from one state of the ports to the next.
use Rattle.std.proofs.Common.{◌≡◌, ◌≢◌, ℕ, inl, inr, sym, ap, subst, ◌∙◌}
use Rattle.std.proofs.lemmas.Bool.{cases_eq}
use Rattle.host_ports.specs.Ports.{Port, Rose, PullKeeps, PushKeeps}
use Rattle.command_input.specs.Input.{Ports, NoneFailed, OnePullFailed, OnePushFailed}

-- what holds of the port that was called, and of each other one, holds of all
at_all : (P : ℕ → Type 0) (port : ℕ) → P port → ((p : ℕ) → p ≢ port → P p) → (p : ℕ) → P p
at_all P port here others p = elim (cases_eq p port) [ inl e ↦ subst P (sym e) here | inr other ↦ others p other ]

pub untouched_none : (before after : Ports) → ((p : ℕ) → after p ≡ before p) → NoneFailed before after
untouched_none before after same = record { pulls = λ p. ap (λ (x : Port). x.pulls) (same p); pushes = λ p. ap (λ (x : Port). x.pushes) (same p) }

pub none_on : (before middle after : Ports) → NoneFailed before middle → NoneFailed middle after → NoneFailed before after
none_on before middle after f g = record { pulls = λ p. g.pulls p ∙ f.pulls p; pushes = λ p. g.pushes p ∙ f.pushes p }

pub none_pull : (port : ℕ) (before middle after : Ports) → NoneFailed before middle → OnePullFailed port middle after → OnePullFailed port before after
none_pull port before middle after f g = record {
  rose = subst (λ n. Rose n (after port).pulls) (f.pulls port) g.rose;
  pulls = λ p other. g.pulls p other ∙ f.pulls p;
  pushes = λ p. g.pushes p ∙ f.pushes p;
}

pub none_push : (port : ℕ) (before middle after : Ports) → NoneFailed before middle → OnePushFailed port middle after → OnePushFailed port before after
none_push port before middle after f g = record {
  rose = subst (λ n. Rose n (after port).pushes) (f.pushes port) g.rose;
  pulls = λ p. g.pulls p ∙ f.pulls p;
  pushes = λ p other. g.pushes p other ∙ f.pushes p;
}

pub pull_none : (port : ℕ) (before after : Ports) → PullKeeps port before after → (after port).pulls ≡ (before port).pulls → NoneFailed before after
pull_none port before after keeps stays = record {
  pulls = at_all (λ p. (after p).pulls ≡ (before p).pulls) port stays (λ p other. ap (λ (x : Port). x.pulls) (keeps.others p other));
  pushes = at_all (λ p. (after p).pushes ≡ (before p).pushes) port keeps.pushes (λ p other. ap (λ (x : Port). x.pushes) (keeps.others p other));
}

pub pull_one : (port : ℕ) (before after : Ports) → PullKeeps port before after → Rose (before port).pulls (after port).pulls → OnePullFailed port before after
pull_one port before after keeps rose = record {
  rose = rose;
  pulls = λ p other. ap (λ (x : Port). x.pulls) (keeps.others p other);
  pushes = at_all (λ p. (after p).pushes ≡ (before p).pushes) port keeps.pushes (λ p other. ap (λ (x : Port). x.pushes) (keeps.others p other));
}

pub push_none : (port : ℕ) (before after : Ports) → PushKeeps port before after → (after port).pushes ≡ (before port).pushes → NoneFailed before after
push_none port before after keeps stays = record {
  pulls = at_all (λ p. (after p).pulls ≡ (before p).pulls) port keeps.pulls (λ p other. ap (λ (x : Port). x.pulls) (keeps.others p other));
  pushes = at_all (λ p. (after p).pushes ≡ (before p).pushes) port stays (λ p other. ap (λ (x : Port). x.pushes) (keeps.others p other));
}

pub push_one : (port : ℕ) (before after : Ports) → PushKeeps port before after → Rose (before port).pushes (after port).pushes → OnePushFailed port before after
push_one port before after keeps rose = record {
  rose = rose;
  pulls = at_all (λ p. (after p).pulls ≡ (before p).pulls) port keeps.pulls (λ p other. ap (λ (x : Port). x.pulls) (keeps.others p other));
  pushes = λ p other. ap (λ (x : Port). x.pushes) (keeps.others p other);
}
