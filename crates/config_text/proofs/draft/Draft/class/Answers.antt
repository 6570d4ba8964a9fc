use Rattle.std.proofs.Common.{◌∙◌, refl, sym, ap}
use Rattle.std.specs.Prelude.{map}
use Rattle.std.proofs.lemmas.List.{map_push}
use Rattle.text_lines.specs.Lines.{views}
use Rattle.labels.specs.Table.{entry_of}
use Rattle.config_text.specs.Place.{Place, place_of}
use Rattle.config_text.specs.Rules.{class_next}
use Rattle.config_text.specs.Views.{class_view}
use Rattle.config_text.proofs.ClassLine.{class_refused, class_refused_later, class_taken}
use Rattle.config_text.proofs.draft.Draft.class.Goals as goal

pub returns-in-Err : goal.returns-in-Err
returns-in-Err c =
    let p = place_of c.args.self.now in
    let ws = views c.args.words.now in
    class_refused p.table (class_next p ws) ws (class_view c.in-Some.line) c.in-Err.code (c.in-Some.ensures.some p.table) c.in-Err.ensures.code

pub returns-in-Err-new_entry : goal.returns-in-Err-new_entry
returns-in-Err-new_entry c =
    let p = place_of c.args.self.now in
    let ws = views c.args.words.now in
    let later = rw c.as_slice.ensures.value at c.in-Err-new_entry.ensures.code in
    class_refused_later p.table (class_next p ws) ws (class_view c.in-Some.line) c.in-Err-new_entry.code (c.in-Some.ensures.some p.table) c.in-Ok.ensures.code later

pub returns : goal.returns
returns c =
    let p = place_of c.args.self.now in
    let ws = views c.args.words.now in
    let later = rw c.as_slice.ensures.value at c.in-Ok-new_entry.ensures.code in
    class_taken p.table (class_next p ws) ws (class_view c.in-Some.line) (c.in-Some.ensures.some p.table) c.in-Ok.ensures.code later
    ∙ rw (c.in-Some.ensures.next p, c.in-Ok-new_entry.ensures.entry.0, c.after_class-self.ensures, c.saturating_sub-self.ensures, c.in_ok-push.ensures.items, c.in_ok-push-2.ensures.items, map_push, c.in-Ok.ensures.pool, c.in-Ok-new_entry.ensures.entry.1) refl
