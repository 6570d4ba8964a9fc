use Rattle.std.proofs.Common.{◌∷◌, [], List, ℕ, ap, ◌∙◌}
use Rattle.std.specs.Prelude.{codes}
use Rattle.std.specs.Fmt.{decimal}
use Rattle.words_layout.specs.Named.{words_in}
use Rattle.words_layout.specs.declared.segment.SegId.{SegId}
use Rattle.class_model.specs.Report.{line_of, words_text}
use Rattle.report.specs.Reported.{home_text, home_words}
use Rattle.report.specs.declared.reading.Found.{Found}
use Rattle.report.proofs.Texts.{torn_first, torn_second, err_prints, prints_last, pushed_as, torn_as, prints_as}
use Rattle.report.proofs.SegmentTexts.{entries_are}
use Rattle.report.proofs.segments.print_segment.Goals as goal

abbrev first_line : SegId → Found → List ℕ
first_line u f = line_of (codes "segment" ∷ decimal u.mentor ∷ decimal u.serial ∷ home_text f.home ∷ codes "writes" ∷ decimal f.writes ∷ codes "count" ∷ decimal f.count ∷ codes "tickets" ∷ decimal f.tickets ∷ [])

abbrev words_of : List ℕ → ℕ → Found → List ℕ
words_of words class f = words_text (home_words (words_in words class).guarded f.home)

pub returns-in_err-push_line : goal.returns-in_err-push_line
returns-in_err-push_line g c =
    let e = c.segment_line.ensures ∙ ap (first_line c.args.seg) c.requires.found in
    err_prints _ _ _ _ c.from_residual.ensures.0 (torn_first _ _ _ _ _ (torn_as _ _ _ _ e c.in_err-push_line.ensures))

pub returns-in_err-print_words : goal.returns-in_err-print_words
returns-in_err-print_words g c =
    let e = c.segment_line.ensures ∙ ap (first_line c.args.seg) c.requires.found in
    let w = ap (λ (ws : List ℕ). words_of ws c.args.class c.args.found.now) c.words.ensures ∙ ap (words_of c.args.machine.now.words c.args.class) c.requires.found in
    err_prints _ _ _ _ c.from_residual-in_err-print_words.ensures.0
    (torn_second _ _ _ _ _ _ (pushed_as _ _ _ _ e c.in_ok-push_line.ensures) (torn_as _ _ _ _ w c.in_err-print_words.ensures))

pub returns : goal.returns
returns g c =
    let e = c.segment_line.ensures ∙ ap (first_line c.args.seg) c.requires.found in
    let w = ap (λ (ws : List ℕ). words_of ws c.args.class c.args.found.now) c.words.ensures ∙ ap (words_of c.args.machine.now.words c.args.class) c.requires.found in
    prints_last _ _ _ _ _ _ _ _ (pushed_as _ _ _ _ e c.in_ok-push_line.ensures) (pushed_as _ _ _ _ w c.in_ok-print_words.ensures)
    (prints_as _ _ _ _ _ (entries_are c.args.machine.now c.args.class c.args.seg) c.print_entries.ensures)
