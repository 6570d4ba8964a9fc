-- What the end of a run shows, seen from where its input was read.
use Rattle.std.proofs.Common.{◌≡◌, ◌≢◌, ℕ, zero, suc, ◌<◌, ◌≤◌, ◌⊎◌, inl, inr, true, false, List, Option, None, Err, refl, sym, ap, subst, ◌∙◌, arith, length}
use Rattle.std.proofs.lemmas.Bool.{cases_eq}
use Rattle.std.specs.Prelude.{Contains}
use Rattle.host_ports.specs.Ports.{Port, Told, IsPrefixTaken, with_bytes}
use Rattle.config_text.specs.declared.config.Config.{Config as ConfigText}
use Rattle.words_layout.specs.Sizes.{max_events}
use Rattle.words_layout.specs.declared.op.Event.{Event}
use Rattle.command_input.specs.declared.status.Status.{Status}
use Rattle.command_input.specs.declared.status.Status.TheVariants.{Done, HostFault, Unfinished}
use Rattle.command_input.specs.declared.status.PortFault.TheVariants.{Write}
use Rattle.loader.specs.declared.loading.LoadError.{LoadError}
use Rattle.loader.specs.declared.loading.LoadError.TheVariants as error
use Rattle.loader.specs.Records.{Volumes, Loads, IsLoadFault, named_by}
use Rattle.loader.specs.Refusals.{IsRefusedRightly}
use Rattle.report.specs.Printing.{Pushed}
use Rattle.loader.proofs.Records.{loaded_config}
use Rattle.whole_runs.proofs.Right.{run_is_right}
use Rattle.command_input.specs.Answer.{InputFails, PortsShow}
use Rattle.command_input.specs.Input.{Ports, IsUnpushed, NoneFailed, OnePushFailed, InputHad, loaded}
use Rattle.command_input.proofs.Failing.{no_load, no_memory}
use Rattle.command_input.proofs.Failures.{none_on, none_push, push_one}
use Rattle.command_run.specs.Headline.{report_of}
use Rattle.command_run.specs.Shows.{RunOf, Ran, RanUpTo, RunShows, BreaksAt, IsDue, OthersStay, due}
use Rattle.command_run.specs.Printed.{ImageTorn, AllPushed, SomeTorn, RunEnds, Ends, answer_of}
use Rattle.command_run.proofs.SinceRead.{push_left, input_read, others_stay, taken_in_all, torn_in_all, unpushed, kept, none_failed, one_failed}

-- ---- what printing leaves as it was

-- the bytes left, and the ports of volumes that the configuration doesn't name
record Keeps (k : ConfigText) (before after : Ports) : Type 0 where
  left : (p : ℕ) → (after p).left ≡ (before p).left
  others : OthersStay k before after

report_keeps : (k : ConfigText) (before after : Ports) (text : List ℕ) → Pushed before after text → Keeps k before after
report_keeps k before after text f = record { left = push_left before after f.keeps; others = λ p some none. f.keeps.others p some }

image_left : (n : ℕ) (k : ConfigText) (images : ℕ → List ℕ) (before after : Ports) → ImageTorn n k images before after → (p : ℕ) → (after p).left ≡ (before p).left
image_left n k images before after f p = by p (cases_eq p n)
  where
    by : (p : ℕ) → (p ≡ n) ⊎ (p ≢ n) → (after p).left ≡ (before p).left
    by p (inl e) = subst (λ q. (after q).left ≡ (f.middle q).left) (sym e) f.keeps.left ∙ f.pushed.left p
    by p (inr other) = ap (λ (x : Port). x.left) (f.keeps.others p other) ∙ f.pushed.left p

keeps_on : (k : ConfigText) (before middle after : Ports) → Keeps k before middle → Keeps k middle after → Keeps k before after
keeps_on k before middle after f g = record { left = λ p. g.left p ∙ f.left p; others = λ p some none. g.others p some none ∙ f.others p some none }

module _ (k : ConfigText) (vs : Volumes) (events : List Event) (before after : Ports) where
  torn_keeps : (n : ℕ) → SomeTorn n k vs events before after → Keeps k before after
  torn_keeps n (inl (z, f)) = record { left = push_left before after f.keeps; others = λ p some none. f.keeps.others p some }
  torn_keeps n (inr (middle, f, g, e)) = keeps_on k before middle after (report_keeps k before middle (report_of (loaded k vs) events) f) (record {
    left = image_left n k (due k vs events) middle after g;
    others = λ p some none. g.keeps.others p (λ e. none (subst (Contains (named_by k)) (sym e) g.named)) ∙ g.pushed.others p (λ h. none h.2);
  })

  all_keeps : AllPushed k vs events before after → Keeps k before after
  all_keeps o = keeps_on k before o.middle after (report_keeps k before o.middle (report_of (loaded k vs) events) o.report)
      (record { left = o.images.left; others = λ p some none. o.images.others p (λ h. none h.2) })

-- ---- from the input on

module _ (IsOrder : ConfigText → Volumes → List Event → Type 0) (before now after : Ports) (k : ConfigText) (vs : Volumes) (events : List Event) (had : InputHad None before now k vs)
    (loads : Loads k vs) (order : IsOrder k vs events) (few : length events ≤ max_events) where
  run_of : Keeps k now after → RunOf IsOrder before after
  run_of keeps = record {
    config = k;
    volumes = vs;
    input = input_read None before now after k vs had loads keeps.left;
    events = events;
    order = order;
    few = few;
    right = run_is_right (loaded k vs) events (loaded_config k had.valid vs had.volumes loads) few;
  }

  stay : Keeps k now after → OthersStay k before after
  stay keeps = others_stay None before now after k vs had keeps.others

  in_all : (p : ℕ) (bytes : List ℕ) → (after p).taken ≡ with_bytes (now p).taken bytes → (after p).taken ≡ with_bytes (before p).taken bytes
  in_all = taken_in_all None before now after k vs had

  stays : (p : ℕ) → after p ≡ now p → IsUnpushed (before p) (after p)
  stays = unpushed None before now after k vs had

  abbrev report : List ℕ
  report = report_of (loaded k vs) events

  report_taken : AllPushed k vs events now after → (after 0).taken ≡ with_bytes (before 0).taken report
  report_taken f = in_all 0 report (ap (λ (x : Port). x.taken) (f.images.others 0 (λ h. (let some = h.0 in absurd (omega arith)))) ∙ f.report.taken)

  image_taken : AllPushed k vs events now after → (p : ℕ) → 1 ≤ p → p < 5 → Contains (named_by k) p → (after p).taken ≡ with_bytes (before p).taken (due k vs events p)
  image_taken f p some lt named = in_all p (due k vs events p)
      (f.images.taken p some lt named ∙ ap (λ (x : Port). with_bytes x.taken (due k vs events p)) (f.report.keeps.others p (λ e. absurd (omega (arith, e, some)))))

  pushed_none : (middle : Ports) (text : List ℕ) → Pushed now middle text → NoneFailed before middle
  pushed_none middle = none_failed None before now middle k vs had

  -- ---- printed whole

  all_printed : AllPushed k vs events now after → RunEnds k vs events false → Ran IsOrder false before after
  unfolding run_of
  all_printed f e = record {
    run = run_of (all_keeps k vs events now after f);
    report = report_taken f;
    machine = e.report;
    ended = e.live_is;
    images = image_taken f;
    others = stay (all_keeps k vs events now after f);
    none = none_on before f.middle after (pushed_none f.middle report f.report) f.images.none;
  }

  report_printed : Pushed now after report → RunEnds k vs events true → Ran IsOrder true before after
  unfolding run_of
  report_printed f e = record {
    run = run_of (report_keeps k now after report f);
    report = in_all 0 report f.taken;
    machine = e.report;
    ended = e.live_is;
    images = (kept None before now after k vs had loads f.keeps).images;
    others = stay (report_keeps k now after report f);
    none = pushed_none after report f;
  }

  -- ---- a push failed

  -- an image is torn
  module _ (port : ℕ) (reported : Ports) (f : Pushed now reported report) (g : ImageTorn port k (due k vs events) reported after) (end : RunEnds k vs events false) where
    report_whole : (after 0).taken ≡ with_bytes (before 0).taken report
    report_whole = in_all 0 report
        (ap (λ (x : Port). x.taken) (g.keeps.others 0 (λ e. (let some = g.some in absurd (omega (arith, e, some)))) ∙ g.pushed.others 0 (λ h. (let some = h.0 in absurd (omega arith)))) ∙ f.taken)

    -- a port other than port 0 was as it was when the input was read
    was : (p : ℕ) → 1 ≤ p → reported p ≡ now p
    was p some = f.keeps.others p (λ e. absurd (omega (arith, e, some)))

    whole_named : (p : ℕ) → 1 ≤ p → p < port → Contains (named_by k) p → (after p).taken ≡ with_bytes (before p).taken (due k vs events p)
    whole_named p some lt named = in_all p (due k vs events p)
        (ap (λ (x : Port). x.taken) (g.keeps.others p (λ e. absurd (omega (arith, e, lt)))) ∙
        (g.pushed.taken p some lt named ∙ ap (λ (x : Port). with_bytes x.taken (due k vs events p)) (was p some)))

    whole_due : (p : ℕ) → p < port → IsDue k p → (after p).taken ≡ with_bytes (before p).taken (due k vs events p)
    whole_due zero lt h = report_whole
    whole_due (suc p) lt (inl e) = absurd (omega (arith, e))
    whole_due (suc p) lt (inr named) = whole_named (suc p) (omega arith) lt named

    torn_at : BreaksAt port before after k vs events
    torn_at = record {
      whole = whole_due;
      torn = subst (λ (t : Told). IsPrefixTaken t (after port).taken (due k vs events port))
          (ap (λ (x : Port). x.taken) (g.pushed.others port (λ h. (let lt = h.1 in absurd (omega arith))) ∙ was port g.some) ∙ had.silent.taken port) g.torn;
      behind = λ p lt. (let some : 1 ≤ p = (let a = g.some in omega (arith, a, lt)) in
          stays p (g.keeps.others p (λ e. absurd (omega (arith, e, lt))) ∙ (g.pushed.others p (λ h. (let less = h.1 in absurd (omega (arith, lt)))) ∙ was p some)));
      is_due = inr g.named;
      ended = λ some. end.live_is;
    }

    torn_one : OnePushFailed port before after
    torn_one = none_push port before g.middle after (none_on before reported g.middle (pushed_none reported report f) g.pushed.none) (push_one port g.middle after g.keeps g.rose)

  printed_up_to : (port : ℕ) → SomeTorn port k vs events now after → RanUpTo IsOrder port before after
  unfolding run_of
  printed_up_to port (inl (z, f)) = subst (λ q. RanUpTo IsOrder q before after) (sym z) (record {
    run = run_of (torn_keeps k vs events now after 0 (inl (refl, f)));
    port = omega arith;
    breaks = record {
      whole = λ p lt h. absurd (omega (arith, lt));
      torn = torn_in_all None before now after k vs had 0 report f.taken;
      behind = (kept None before now after k vs had loads f.keeps).images;
      is_due = inl refl;
      ended = λ some. absurd (omega (arith, some));
    };
    others = stay (torn_keeps k vs events now after 0 (inl (refl, f)));
    one = one_failed None before now after k vs had report f;
  })
  printed_up_to port (inr (reported, f, g, e)) = record {
    run = run_of (torn_keeps k vs events now after port (inr (reported, f, g, e)));
    port = g.most;
    breaks = torn_at port reported f g e;
    others = stay (torn_keeps k vs events now after port (inr (reported, f, g, e)));
    one = torn_one port reported f g e;
  }

  -- what the end of a run prints is what a run of this order shows
  pub run_shows : (s : Status) → Ends k vs events now after s → RunShows IsOrder before after s
  run_shows Done o = all_printed o.0 o.1
  run_shows Unfinished o = report_printed o.0 o.1
  run_shows (HostFault (Write port)) o = printed_up_to port o
  run_shows _ o = absurd o

-- what the answer shows where the state can't be made
pub load_fails : (M : Type 0) (wanted : Option ℕ) (before now : Ports) (k : ConfigText) (vs ws : Volumes) (error : LoadError) → InputHad wanted before now k vs → ws ≡ vs →
    IsRefusedRightly {M = M} k ws (Err error) → InputFails wanted before now (answer_of error)
load_fails M wanted before now k vs ws (error.Fault volume item code) had same f =
    no_load wanted before now now k vs had (λ p. refl) volume item code (subst (λ (x : Volumes). IsLoadFault k x volume item code) same f)
load_fails M wanted before now k vs ws error.NoMemory had same f = no_memory wanted before now now k vs had (λ p. refl)

pub load_shows : (M : Type 0) (IsOrder : ConfigText → Volumes → List Event → Type 0) (before now : Ports) (k : ConfigText) (vs ws : Volumes) (error : LoadError) → InputHad None before now k vs → ws ≡ vs →
    IsRefusedRightly {M = M} k ws (Err error) → RunShows IsOrder before now (answer_of error)
load_shows M IsOrder before now k vs ws (error.Fault volume item code) had same f = load_fails M None before now k vs ws (error.Fault volume item code) had same f
load_shows M IsOrder before now k vs ws error.NoMemory had same f = load_fails M None before now k vs ws error.NoMemory had same f

-- what holds of the ports at every answer of a run
pub run_ports : (IsOrder : ConfigText → Volumes → List Event → Type 0) (before after : Ports) (s : Status) → RunShows IsOrder before after s → PortsShow before after s
run_ports IsOrder before after Done f = record { silence = tt; faults = f.none; unread = tt }
run_ports IsOrder before after Unfinished f = record { silence = tt; faults = f.none; unread = tt }
run_ports IsOrder before after (HostFault (Write port)) f = record { silence = tt; faults = f.one; unread = tt }
run_ports IsOrder before after _ f = f.ports
