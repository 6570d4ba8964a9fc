-- The report of a machine of words after events, and whether a process is live then.
use Rattle.std.proofs.Common.{◌≡◌, ℕ, zero, suc, ◌≤◌, arith, Bool, false, List, [], ◌∷◌, length, refl, sym, ap, ◌∙◌}
use Rattle.std.specs.List.{flat_map, list_any}
use Rattle.lists.specs.Lists.{below}
use Rattle.config_text.specs.declared.config.Config.{Config as ConfigText}
use Rattle.words_layout.specs.declared.op.Event.{Event}
use Rattle.class_model.specs.Config.{Config, SegRecord, Shared, classes}
use Rattle.class_model.specs.Valid.{IsConfig}
use Rattle.machine.specs.Machine.{Machine, step, run}
use Rattle.machine.specs.Opening.{machine, opening}
use Rattle.report.specs.Reported.{section}
use Rattle.volume_image.specs.Written.{written}
use Rattle.loader.specs.Records.{Volumes}
use Rattle.command_input.specs.Input.{loaded}
use Rattle.effect_laws.specs.Laws.{ReportsAreLow}
use Rattle.volume_laws.specs.Ended.{WordsAgree}
use Rattle.command_run.specs.Headline.{report_of, machine_report_of, image_in, class_live, live_after}
use Rattle.command_run.specs.Shows.{due}
use Rattle.command_run.specs.Printed.{RunEnds}

-- no event changes what is shared
pub run_shared : (events : List Event) (m : Machine) → (run m events).shared ≡ m.shared
run_shared [] m = refl
run_shared (e ∷ events) m = run_shared events (step m e)

module _ (k : Config) (events : List Event) (m : Machine) (same : m ≡ machine k events) where
  -- the machine has the classes of the configuration
  pub count : classes m.shared ≡ length k.table
  count = ap (λ (x : Machine). classes x.shared) same ∙ ap classes (run_shared events (opening k))

  -- who is live in the machine after the events is live after them
  pub machine_live : list_any (class_live m) (below (classes m.shared)) ≡ live_after k events
  machine_live = ap (λ n. list_any (class_live m) (below n)) count ∙ ap (λ (x : Machine). list_any (class_live x) (below (length k.table))) same

module _ (k : ConfigText) (vs : Volumes) (events : List Event) (m : Machine) (same : m ≡ machine (loaded k vs) events) where
  -- the machine's table is the configuration's
  pub table_same : m.shared.table ≡ k.table
  table_same = ap (λ (x : Machine). x.shared.table) same ∙ ap (λ (s : Shared). s.table) (run_shared events (opening (loaded k vs)))

  -- what is pushed is what the machine of words shows
  pub machine_report : flat_map (λ c. section c m) (below (classes m.shared)) ≡ machine_report_of (loaded k vs) events
  machine_report = ap (λ n. flat_map (λ c. section c m) (below n)) (count (loaded k vs) events m same) ∙ ap (λ (x : Machine). flat_map (λ c. section c x) (below (length k.table))) same

  -- Where no process is live, the images that are pushed are those that are due.
  pub images_due : WordsAgree → IsConfig (loaded k vs) → length events ≤ 4194304 → live_after (loaded k vs) events ≡ false → (p : ℕ) → 1 ≤ p → image_in (loaded k vs) m p ≡ due k vs events p
  images_due agree valid few none (suc p) some =
      ap (λ (x : Machine). image_in (loaded k vs) x (suc p)) same ∙ ap (λ (rs : List SegRecord). written k.table rs) (agree (loaded k vs) events (suc p) valid few none)
  images_due agree valid few none zero some = absurd (omega arith)

-- ---- a run to its end

module _ (low : ReportsAreLow) (k : ConfigText) (vs : Volumes) (events : List Event) (valid : IsConfig (loaded k vs)) (few : length events ≤ 4194304) (m : Machine) (same : m ≡ machine (loaded k vs) events) where
  -- both reports are the same
  reports_same : machine_report_of (loaded k vs) events ≡ report_of (loaded k vs) events
  reports_same = low (loaded k vs) events valid few

  pub report_is : flat_map (λ c. section c m) (below (classes m.shared)) ≡ report_of (loaded k vs) events
  report_is = machine_report k vs events m same ∙ reports_same

  pub run_ends : (live : Bool) → list_any (class_live m) (below (classes m.shared)) ≡ live → RunEnds k vs events live
  run_ends live e = record { live_is = sym (machine_live (loaded k vs) events m same) ∙ e; report = reports_same }
