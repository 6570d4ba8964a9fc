-- A step machine that stands for a state tells the same summary.
use Rattle.std.proofs.Common.{◌≡◌, ℕ, Bool, true, false, List, ◌++◌, length, ap, ◌∙◌, Option, None}
use Rattle.std.specs.Prelude.{count_by, slice_index_or}
use Rattle.std.specs.List.{sum_by}
use Rattle.lists.specs.Lists.{below}
use Rattle.words_layout.specs.declared.segment.SegId.{SegId}
use Rattle.class_model.specs.Config.{Shared, classes}
use Rattle.class_model.specs.Process.{Process}
use Rattle.class_model.specs.Run.{run}
use Rattle.class_model.specs.State.{State, identities}
use Rattle.machine.specs.Machine.{Machine}
use Rattle.machine.specs.Opening.{machine, effects}
use Rattle.machine.specs.Reading.{buffered, processes_of}
use Rattle.machine.specs.Stands.{StandsFor}
use Rattle.effect_laws.specs.Laws.{RunsStand}
use Rattle.effect_laws.specs.Lines.{LinesStand}
use Rattle.report.proofs.Numbers.{flat_same}
use Rattle.summary.specs.Laws.{SummariesAgree}
use Rattle.summary.specs.Summary.{is_in_state, processes_in, totals, machine_totals, totals_line, heading, summary_text, summary, machine_summary}
use Rattle.summary.proofs.Counts.{sum_same}

processes_same : (live : Bool) (f g : ℕ → List (Option Process)) → ((p : ℕ) → f p ≡ g p) → processes_in live f ≡ processes_in live g
processes_same live f g same =
    sum_same (λ (p : ℕ). count_by (λ i. is_in_state live (slice_index_or (f p) i None)) (below 4)) (λ (p : ℕ). count_by (λ i. is_in_state live (slice_index_or (g p) i None)) (below 4))
    (λ p. ap (λ (slots : List (Option Process)). count_by (λ i. is_in_state live (slice_index_or slots i None)) (below 4)) (same p)) (below 4)

module _ (m : Machine) (a : State) (stands : StandsFor m a) (lines : (c : ℕ) → length (buffered (m.part c)) ≡ length (a.part c).lines) where
  totals_same : (c : ℕ) → machine_totals m c ≡ totals a c
  totals_same c =
      let part = stands.parts c in
      let ended = processes_same false (λ (p : ℕ). processes_of ((m.part c).vp p)) (a.part c).slots part.processes in
      let live = processes_same true (λ (p : ℕ). processes_of ((m.part c).vp p)) (a.part c).slots part.processes in
      let tickets = sum_same (m.part c).words.sequencer (λ (u : SegId). ((a.part c).cell u).sequencer) part.sequencers (identities (classes m.shared)) ∙ ap (λ (s : Shared). sum_by (λ u. ((a.part c).cell u).sequencer) (identities (classes s))) stands.shared in
      λ i. record { lines = lines c i; ended = ended i; live = live i; tickets = tickets i }

  pub summary_same : (number : ℕ) → machine_summary number m ≡ summary number a
  summary_same number =
      ap (λ (text : List ℕ). heading number ++ text) (flat_same (λ (c : ℕ). totals_line c (machine_totals m c)) (λ (c : ℕ). totals_line c (totals a c)) (λ c. ap (totals_line c) (totals_same c)) (below (classes m.shared)))
      ∙ ap (λ (s : Shared). summary_text number (classes s) (totals a)) stands.shared

pub summaries_agree : RunsStand → LinesStand → SummariesAgree
summaries_agree stand lines k events number valid few =
    summary_same (machine k events) (run k (effects k events)) (stand k events valid few) (λ c. (lines k events c valid few).count) number
