use Rattle.std.proofs.Common.{List, ℕ, ap, ◌∙◌, sym}
use Rattle.words_layout.specs.Named.{words_in}
use Rattle.words_layout.specs.declared.coding.Home.{Home}
use Rattle.class_model.specs.Report.{words_text}
use Rattle.report.specs.Reported.{home_words}
use Rattle.report.proofs.Texts.{prints_as}
use Rattle.report.proofs.segments.print_words.Goals as goal

abbrev shown : List ℕ → ℕ → Home → List ℕ
shown words class home = words_text (home_words (words_in words class).guarded home)

pub returns-in-Resident : goal.returns-in-Resident
returns-in-Resident g c = prints_as _ _ _ _ _ (c.frame_line.ensures ∙ ap (shown c.args.words.now c.args.class) (sym c.in-Resident.is)) c.push_line.ensures

pub returns-in-Stored : goal.returns-in-Stored
returns-in-Stored g c = prints_as _ _ _ _ _ (c.page_line.ensures ∙ ap (shown c.args.words.now c.args.class) (sym c.in-Stored.is)) c.push_line-in-Stored.ensures
