-- The four parts of a section.
use Rattle.std.proofs.Common.{◌≡◌, ℕ, ◌≤◌, Bool, List, [], ◌∷◌, ◌++◌, length, sym, ap, ◌∙◌}
use Rattle.std.specs.Prelude.{codes, Result}
use Rattle.std.specs.List.{flat_map}
use Rattle.std.specs.Fmt.{decimal}
use Rattle.labels.specs.Label.{ClassEntry, class_at}
use Rattle.host_ports.specs.Ports.{Port}
use Rattle.class_model.specs.Report.{line_of, process_text, closing_text, some_live}
use Rattle.machine.specs.Banks.{State, machine_of}
use Rattle.machine.specs.Steps.{HasEnded}
use Rattle.report.specs.Reported.{section, seen}
use Rattle.report.specs.Parts.{console_text, segments_text}
use Rattle.report.specs.Printing.{Pushed, Torn, Prints}
use Rattle.report.specs.declared.printing.WriteFault.{WriteFault}
use Rattle.report.proofs.Texts.{torn_more, torn_first, torn_second, prints_then, pushed_then, pushed_torn}
use Rattle.report.proofs.SlotTexts.{none_lives, some_lives}
use Rattle.report.proofs.SegmentTexts.{segments_are}

module _ (m : State (List ℕ)) (c : ℕ) where
  abbrev pub closing_of : List ℕ
  closing_of = closing_text (some_live (seen c (machine_of m)).processes) (seen c (machine_of m)).segments

  -- where no process is live
  pub closed_text : HasEnded m c → line_of (codes "closed" ∷ []) ++ segments_text (machine_of m) c ≡ closing_of
  closed_text h =
      ap (λ (t : List ℕ). line_of (codes "closed" ∷ []) ++ t) (segments_are (machine_of m) c) ∙ sym (ap (λ (b : Bool). closing_text b (seen c (machine_of m)).segments) (none_lives m c h))

  -- where some process is live
  pub open_text : length m.banks ≤ 4 → (HasEnded m c → ⊥) → line_of (codes "open" ∷ []) ≡ closing_of
  open_text most h = sym (ap (λ (b : Bool). closing_text b (seen c (machine_of m)).segments) (some_lives m c most h))

  abbrev pub head_of : List ℕ
  head_of = line_of (codes "class" ∷ decimal c ∷ (class_at m.shared.table c).name ∷ [])

  abbrev pub lines_of : List ℕ
  lines_of = flat_map console_text (seen c (machine_of m)).lines

  abbrev pub processes_of : List ℕ
  processes_of = flat_map process_text (seen c (machine_of m)).processes

  pub head_is : (text name : List ℕ) (table : List ClassEntry) → text ≡ line_of (codes "class" ∷ decimal c ∷ name ∷ []) → name ≡ (class_at table c).name → table ≡ m.shared.table → text ≡ head_of
  head_is text name table e n t =
      e ∙ ap (λ (x : List ℕ). line_of (codes "class" ∷ decimal c ∷ x ∷ [])) (n ∙ ap (λ (x : List ClassEntry). (class_at x c).name) t)

  module _ (before : ℕ → Port) where
    pub torn_head : (after : ℕ → Port) → Torn before after head_of → Torn before after (section c (machine_of m))
    torn_head after t = torn_more before after (head_of ++ lines_of ++ processes_of) closing_of (torn_first before after head_of lines_of processes_of t)

    pub torn_lines : (one after : ℕ → Port) → Pushed before one head_of → Torn one after lines_of → Torn before after (section c (machine_of m))
    torn_lines one after p t = torn_more before after (head_of ++ lines_of ++ processes_of) closing_of (torn_second before one after head_of lines_of processes_of p t)

    pub torn_processes : (one two after : ℕ → Port) → Pushed before one head_of → Pushed one two lines_of → Torn two after processes_of → Torn before after (section c (machine_of m))
    torn_processes one two after p q t =
        torn_more before after (head_of ++ lines_of ++ processes_of) closing_of (pushed_torn before two after (head_of ++ lines_of) processes_of (pushed_then before one two head_of lines_of p q) t)

    pub prints_closing : (one two three after : ℕ → Port) (r : Result (Unit {0}) WriteFault) → Pushed before one head_of → Pushed one two lines_of → Pushed two three processes_of → Prints three after closing_of r
        → Prints before after (section c (machine_of m)) r
    prints_closing one two three after r p q s l =
        prints_then before three after (head_of ++ lines_of ++ processes_of) closing_of r
        (pushed_then before two three (head_of ++ lines_of) processes_of (pushed_then before one two head_of lines_of p q) s) l
