use Rattle.std.proofs.Common.{◌≡◌, ◌≤◌, ◌-◌, ◌∙◌, refl, sym, ap, subst, rules, arith, length, drop, take}
use Rattle.std.proofs.lemmas.List.{length-take-le, length-map}
use Rattle.text_lines.specs.Lines.{views}
use Rattle.config_text.specs.Place.{place_of}
use Rattle.config_text.specs.Rules.{body_of}
use Rattle.config_text.proofs.ScriptSteps.{body_views, few_views, here_at, past_all, script_faulty, script_open, script_end_bad, script_taken}
use Rattle.config_text.proofs.draft.Draft.script.Goals as goal

pub slice_bounds-read_lines-end : goal.slice_bounds-read_lines-end
slice_bounds-read_lines-end c =
    sym (length-take-le c.body_length-count.result c.args.more.now (few_views c.args.more.now c.body_length-count.result c.body_length-count.ensures))

pub overflow_add-result : goal.overflow_add-result
overflow_add-result c = omega (arith, c.requires, few_views c.args.more.now c.body_length-count.result c.body_length-count.ensures)

pub returns-in-Err-Fault : goal.returns-in-Err-Fault
returns-in-Err-Fault c =
    let body = body_views c.args.more.now c.body_length-count.result c.body_length-count.ensures in
    let fault = rw c.in-Err-Fault.field-0-is at c.in-Err-Fault.ensures.right in
    let h = script_faulty (place_of c.args.self.now) c.args.class (views c.args.more.now) (views (take c.body_length-count.result c.args.more.now)) c.in-Err-Fault.line c.in-Err-Fault.code body fault in
    (h.0, h.1 c.line_code.result c.line_code.ensures)

pub returns-in_default : goal.returns-in_default
returns-in_default c =
    let body = body_views c.args.more.now c.body_length-count.result c.body_length-count.ensures in
    let none = past_all c.args.more.now c.body_length-count.result c.in_default.ensures.lookup.3 in
    script_open (place_of c.args.self.now) c.args.class c.body_length-count.result (views c.args.more.now) (views (take c.body_length-count.result c.args.more.now)) c.in-Ok.program body c.body_length-count.ensures c.in-Ok.ensures.right none

pub returns-then-not-is_allowed_line : goal.returns-then-not-is_allowed_line
returns-then-not-is_allowed_line c =
    let found = c.in-Some.ensures.lookup in
    let here = here_at c.args.more.now c.body_length-count.result c.in-Some.end.now c.in-Some.end.now found.3.0 found.1 in
    let body = body_views c.args.more.now c.body_length-count.result c.body_length-count.ensures in
    script_end_bad (place_of c.args.self.now) c.args.class c.body_length-count.result (views c.args.more.now) (views (take c.body_length-count.result c.args.more.now)) c.in-Ok.program c.in-Some.end.now.now body c.body_length-count.ensures c.in-Ok.ensures.right here (sym c.is_allowed_line.ensures ∙ c.if-not-is_allowed_line.true)

pub returns : goal.returns
returns c =
    let found = c.in-Some.ensures.lookup in
    let here = here_at c.args.more.now c.body_length-count.result c.in-Some.end.now c.in-Some.end.now found.3.0 found.1 in
    let body = body_views c.args.more.now c.body_length-count.result c.body_length-count.ensures in
    let s = script_taken (place_of c.args.self.now) c.args.class c.body_length-count.result (views c.args.more.now) (views (take c.body_length-count.result c.args.more.now)) c.in-Ok.program c.in-Some.end.now.now body c.body_length-count.ensures c.in-Ok.ensures.right here (sym c.is_allowed_line.ensures ∙ c.if-not-is_allowed_line.false) in
    (s.0, λ n. s.1 n ∙ rw c.in_ok-push.ensures.items refl)
