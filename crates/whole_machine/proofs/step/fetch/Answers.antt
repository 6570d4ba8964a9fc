use Rattle.std.proofs.Common.{◌∙◌, [], ◌∷◌, List, ap, sym, get_or, Option}
use Rattle.std.specs.Prelude.{not}
use Rattle.lists.specs.Lists.{part_of}
use Rattle.policy.specs.Known.{Known}
use Rattle.policy.specs.Outcome.{Words, Refused}
use Rattle.policy.specs.Verdict.{first_broken, ◌⇒◌}
use Rattle.policy.specs.declared.rule.Rule.{Rule}
use Rattle.policy.specs.declared.rule.Rule.TheVariants.{Gone, NotIn}
use Rattle.class_model.specs.State.{Cell, is_deleted, is_in, live_words}
use Rattle.class_model.specs.declared.request.Request.TheVariants as A
use Rattle.whole_machine.specs.Parts.{ListedPart, cell_in, no_part}
use Rattle.whole_machine.specs.Fits.{part_of_class}
use Rattle.whole_machine.proofs.Stepped.{look_done, fetch_refused, fetch_taken, fetch_part}
use Rattle.whole_machine.proofs.step.fetch.Goals as goal

pub returns-in-Some-clause-ok : goal.returns-in-Some-clause-ok
returns-in-Some-clause-ok c =
    let s = c.args.shared.now in
    let old = c.args.parts.now.items in
    let n = c.args.name.now in
    let k = c.args.known.now in
    let inside = c.known.inside in
    let part = part_of_class old n.class in
    let cell = cell_in (get_or old k.class no_part).cells k.seg in
    let T : Cell → Option Rule = λ x. first_broken ((is_deleted x ⇒ Gone) ∷ (not (is_in x) ⇒ NotIn) ∷ []) in
    let found = ap (λ (z : ListedPart). cell_in z.cells inside.seg) (c.part_at-part.ensures ∙ ap (λ (xs : List ListedPart). get_or xs inside.class no_part) c.as_slice.ensures.value) ∙
    ap (λ (x : Known). cell_in (get_or old x.class no_part).cells x.seg) c.known.view_is in
    look_done s old c.settle.new.parts.items n c.requires.fits (A.Fetch k c.args.offset c.args.count c.args.pad) (Refused c.in-Some.rule) c.requires.due
    (fetch_refused part cell c.args.offset c.args.count c.args.pad c.in-Some.rule (sym c.in-Some.is ∙ c.words_refusal.ensures ∙ ap T found))
    (fetch_part part cell c.args.offset c.args.count c.args.pad) c.settle.ensures

pub returns-clause-ok : goal.returns-clause-ok
returns-clause-ok c =
    let s = c.args.shared.now in
    let old = c.args.parts.now.items in
    let n = c.args.name.now in
    let k = c.args.known.now in
    let inside = c.known.inside in
    let part = part_of_class old n.class in
    let cell = cell_in (get_or old k.class no_part).cells k.seg in
    let T : Cell → Option Rule = λ x. first_broken ((is_deleted x ⇒ Gone) ∷ (not (is_in x) ⇒ NotIn) ∷ []) in
    let found = ap (λ (z : ListedPart). cell_in z.cells inside.seg) (c.part_at-part.ensures ∙ ap (λ (xs : List ListedPart). get_or xs inside.class no_part) c.as_slice.ensures.value) ∙
    ap (λ (x : Known). cell_in (get_or old x.class no_part).cells x.seg) c.known.view_is in
    let words = c.as_slice-words.ensures.value ∙ c.in_ok-copy.ensures ∙ ap (λ (x : Cell). part_of (live_words x) c.args.offset c.args.count) (c.cell.ensures ∙ found) in
    look_done s old c.settle-2.new.parts.items n c.requires.fits (A.Fetch k c.args.offset c.args.count c.args.pad) (Words c.args.pad c.as_slice-words.result.now) c.requires.due
    (ap (Words c.args.pad) words ∙ fetch_taken part cell c.args.offset c.args.count c.args.pad (sym c.in_default.is ∙ c.words_refusal.ensures ∙ ap T found))
    (fetch_part part cell c.args.offset c.args.count c.args.pad) c.settle-2.ensures
