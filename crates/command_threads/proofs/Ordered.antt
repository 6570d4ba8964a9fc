-- The rounds that were taken are an order of word steps.
use Rattle.std.proofs.Common.{◌≡◌, ℕ, ◌*◌, ◌<◌, ◌≤◌, List, length, take, refl, sym, ap, subst, ◌∙◌, arith}
use Rattle.std.proofs.lemmas.Nat.{mul-le}
use Rattle.class_model.specs.Config.{Shared}
use Rattle.command_input.specs.Input.{loaded}
use Rattle.config_text.specs.declared.config.Config.{Config}
use Rattle.words_layout.specs.Sizes.{max_events}
use Rattle.config_text.specs.Valid.{IsValid}
use Rattle.loader.specs.Records.{Volumes}
use Rattle.machine.specs.Banks.{State, machine_of}
use Rattle.machine.specs.Machine.{Machine, run}
use Rattle.machine.specs.Opening.{machine, opening}
use Rattle.round_laws.specs.Live.{SomeLive, NoneLive}
use Rattle.round_laws.specs.Rounds.{IsRoundList, joined}
use Rattle.schedule.proofs.Ranges.{header}
use Rattle.words_layout.specs.declared.op.Event.{Event}
use Rattle.command_run.proofs.Reports.{run_shared}
use Rattle.command_threads.specs.Rounds.{plan_for, RanRounds}
use Rattle.command_threads.specs.Orders.{IsRoundOrder, LeftByRounds}
use Rattle.command_threads.proofs.Ranges.{few_rounds}

module _ (k : Config) (vs : Volumes) (valid : IsValid k) (m n : State (List ℕ)) (taken : ℕ) (opens : machine_of m ≡ opening (loaded k vs)) (banks : length m.banks ≡ k.processors)
    (r : RanRounds k m n taken) where
  -- the machine after some of the events
  after : (events : List Event) → run (machine_of m) events ≡ machine (loaded k vs) events
  after events = ap (λ (x : Machine). run x events) opens

  abbrev events : List Event
  events = joined r.parts

  ends_at : machine_of n ≡ machine (loaded k vs) events
  ends_at = r.machine ∙ after events

  counted : length r.parts ≡ taken
  counted = r.rounds.count

  round_list : IsRoundList (plan_for k) k.processors (length r.parts) r.parts
  round_list = subst (λ (t : ℕ). IsRoundList (plan_for k) k.processors t r.parts) (sym counted) (subst (λ (p : ℕ). IsRoundList (plan_for k) p taken r.parts) banks r.rounds)

  order : IsRoundOrder k vs events
  order = record {
    rounds = r.parts;
    events_are = refl;
    round_list = round_list;
    most = subst (λ (t : ℕ). t ≤ k.rounds) (sym counted) r.most;
    live = λ q low. subst SomeLive (after (joined (take q r.parts))) (r.live q (subst (λ (t : ℕ). q < t) counted low));
    ends = λ low. subst NoneLive ends_at (r.ends (subst (λ (t : ℕ). t < k.rounds) counted low));
  }

  few : length events ≤ max_events
  few =
      let h = header k valid in
      let some : taken ≤ 4096 = (let a = r.most in let b = few_rounds k valid in omega arith) in
      let width : length m.banks ≤ 4 = subst (λ (p : ℕ). p ≤ 4) (sym banks) h.few_processors in
      let round : length m.banks * k.quantum ≤ 4 * 256 = mul-le (length m.banks) k.quantum 4 256 width h.short_quantum in
      let all : taken * (length m.banks * k.quantum) ≤ 4096 * 1024 = mul-le taken (length m.banks * k.quantum) 4096 1024 some round in
      subst (λ (l : ℕ). l ≤ max_events) (sym r.rounds.long) all

  table : n.shared.table ≡ k.table
  table = ap (λ (x : Machine). x.shared.table) r.machine ∙ (ap (λ (s : Shared). s.table) (run_shared events (machine_of m)) ∙ ap (λ (x : Machine). x.shared.table) opens)

  pub left_by_rounds : LeftByRounds k vs n
  left_by_rounds = record { events = events; order = order; few = few; machine_is = ends_at; table = table }
