-- From one round to the next.
use Rattle.std.proofs.Common.{◌≡◌, ℕ, ◌+◌, ◌*◌, ◌≤◌, length, sym, ap, subst, ◌∙◌, arith}
use Rattle.std.specs.Prelude.{Option, Some, None}
use Rattle.class_model.specs.Config.{Shared, classes}
use Rattle.shared_words.specs.Ports.{Opened, Port}
use Rattle.shared_words.specs.declared.seats.Seats.{Seats}
use Rattle.processors.specs.declared.team.Team.{Team}
use Rattle.processors.specs.Turns.{ProcessorState, IsReady}
use Rattle.processors.specs.Teams.{IfThere, Follows, Quantum, QuantumAt, QuantaTaken, TeamReady, HasWidth}
use Rattle.round_laws.specs.Rounds.{Plan}
use Rattle.processors.specs.Rounds.{HasTaken, TeamHasTaken}

ready_of : (s : Shared) (words : Opened) (plan : Plan) (n : ℕ) (p : ProcessorState) → n ≤ 4096 → HasTaken s words plan n p → IsReady s p words
ready_of s words plan n p few r = record { bank = r.bank; layout = r.layout; room = let q = r.quantum in let t = r.few in omega arith }

ready_if : (s : Shared) (words : Opened) (plan : Plan) (n : ℕ) (p : Option ProcessorState) → n ≤ 4096 → IfThere p (HasTaken s words plan n) → IfThere p (λ r. IsReady s r words)
ready_if s words plan n None few r = tt
ready_if s words plan n (Some p) few r = ready_of s words plan n p few r

pub team_ready : (s : Shared) (words : Opened) (plan : Plan) (n : ℕ) (team : Team) → n ≤ 4096 → TeamHasTaken s words plan n team → TeamReady s team words
team_ready s words plan n team few t = record {
  first = ready_of s words plan n team.first few t.first;
  second = ready_if s words plan n team.second few t.second;
  third = ready_if s words plan n team.third few t.third;
  fourth = ready_if s words plan n team.fourth few t.fourth;
  third_follows = t.third_follows;
  fourth_follows = t.fourth_follows;
}

runs_on : (s : Shared) (words : Opened) (plan : Plan) (n : ℕ) (p p' : ProcessorState) (port port' : Port) → Quantum s p port p' port' → HasTaken s words plan n p → HasTaken s words plan (n + 1) p'
runs_on s words plan n p p' port port' q r = record {
  bank = q.bank;
  layout = r.layout;
  plan_is = (λ i. record { cycle = q.takes.cycle i; quantum = q.takes.quantum i }) ∙ r.plan_is;
  quantum = let e = q.takes.quantum in let h = r.quantum in omega arith;
  steps = let e = q.takes.taken in let h = r.steps in let m : (n + 1) * p'.quantum ≡ (n + 1) * p.quantum = ap (λ (k : ℕ). (n + 1) * k) q.takes.quantum in omega arith;
  few = let e = q.takes.taken in let h = r.quantum in let t = r.few in omega arith;
}

runs_if : (s : Shared) (words : Opened) (plan : Plan) (n : ℕ) (p p' : Option ProcessorState) (port port' : Option Port) → QuantumAt s p port p' port' → IfThere p (HasTaken s words plan n) → IfThere p' (HasTaken s words plan (n + 1))
runs_if s words plan n None p' port port' q r = subst (λ (x : Option ProcessorState). IfThere x (HasTaken s words plan (n + 1))) (sym q.0) tt
runs_if s words plan n (Some p) p' None port' q r = absurd q
runs_if s words plan n (Some p) p' (Some port) port' q r = subst (λ (x : Option ProcessorState). IfThere x (HasTaken s words plan (n + 1))) (sym q.2) (runs_on s words plan n p q.0 port q.1 q.4 r)

follows_on : (s : Shared) (a b a' b' : Option ProcessorState) (u t u' t' : Option Port) → QuantumAt s a u a' u' → QuantumAt s b t b' t' → Follows a b → Follows a' b'
follows_on s None None a' b' u t u' t' q r f = subst (λ (x : Option ProcessorState). Follows x b') (sym q.0) (subst (Follows None) (sym r.0) tt)
follows_on s None (Some b) a' b' u t u' t' q r f = absurd f
follows_on s (Some a) b a' b' None t u' t' q r f = absurd q
follows_on s (Some a) b a' b' (Some u) t u' t' q r f = subst (λ (x : Option ProcessorState). Follows x b') (sym q.2) tt

pub team_runs_on : (s : Shared) (words : Opened) (plan : Plan) (n : ℕ) (team team' : Team) (seats seats' : Seats) → QuantaTaken s team seats team' seats' → TeamHasTaken s words plan n team → TeamHasTaken s words plan (n + 1) team'
team_runs_on s words plan n team team' seats seats' q t = record {
  first = runs_on s words plan n team.first team'.first seats.first seats'.first q.first t.first;
  second = runs_if s words plan n team.second team'.second seats.second seats'.second q.second t.second;
  third = runs_if s words plan n team.third team'.third seats.third seats'.third q.third t.third;
  fourth = runs_if s words plan n team.fourth team'.fourth seats.fourth seats'.fourth q.fourth t.fourth;
  third_follows = follows_on s team.second team.third team'.second team'.third seats.second seats.third seats'.second seats'.third q.second q.third t.third_follows;
  fourth_follows = follows_on s team.third team.fourth team'.third team'.fourth seats.third seats.fourth seats'.third seats'.fourth q.third q.fourth t.fourth_follows;
}

width_if : (s : Shared) (words : Opened) (plan : Plan) (n : ℕ) (p : Option ProcessorState) → IfThere p (HasTaken s words plan n) → IfThere p (λ r. length r.bank ≡ classes s)
width_if s words plan n None h = tt
width_if s words plan n (Some p) h = h.bank.width

pub team_width : (s : Shared) (words : Opened) (plan : Plan) (n : ℕ) (team : Team) → TeamHasTaken s words plan n team → HasWidth s team
team_width s words plan n team t = record {
  first = t.first.bank.width;
  second = width_if s words plan n team.second t.second;
  third = width_if s words plan n team.third t.third;
  fourth = width_if s words plan n team.fourth t.fourth;
}
