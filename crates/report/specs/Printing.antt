-- What a part of the report does to the ports: all of it is pushed to port 0, or at a fault a proper prefix of it.
use Rattle.std.specs.Prelude.{◌≡◌, ℕ, List, Result, MatchResult}
use Rattle.host_ports.specs.Ports.{Port, PushKeeps, IsPrefixTaken, Rose, with_bytes}
use Rattle.report.specs.declared.printing.WriteFault.{WriteFault}

-- how many bytes a line has at most
abbrev pub line_bytes : ℕ
line_bytes = 1408

-- port 0 has taken this text, and nothing else has changed: no call failed
pub record Pushed (before after : ℕ → Port) (text : List ℕ) : Type 0 where
  pub taken : (after 0).taken ≡ with_bytes (before 0).taken text
  pub keeps : PushKeeps 0 before after
  pub stays : (after 0).pushes ≡ (before 0).pushes

-- one push to port 0 failed, which has taken a proper prefix of this text; nothing else has changed
pub record Torn (before after : ℕ → Port) (text : List ℕ) : Type 0 where
  pub taken : IsPrefixTaken (before 0).taken (after 0).taken text
  pub keeps : PushKeeps 0 before after
  pub rose : Rose (before 0).pushes (after 0).pushes

-- the bytes were taken whole, or a proper prefix of them at a fault
abbrev pub Prints : (ℕ → Port) → (ℕ → Port) → List ℕ → Result (Unit {0}) WriteFault → Type 0
Prints before after text result = MatchResult result (λ x. Pushed before after text) (λ x. Torn before after text)
