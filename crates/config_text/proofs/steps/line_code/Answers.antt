use Rattle.std.proofs.Common.{◌≡◌, ◌-◌, ◌∙◌, ◌∷◌, ◌+◌, refl, sym, ap, subst, rules, arith, drop}
use Rattle.text_lines.specs.Lines.{views}
use Rattle.config_text.specs.Reading.{next_code}
use Rattle.config_text.proofs.ScriptSteps.{here_at, past_all}
use Rattle.config_text.proofs.steps.line_code.Goals as goal

pub returns-then-is_allowed_line : goal.returns-then-is_allowed_line
returns-then-is_allowed_line c =
    let found = c.in-Some.ensures.lookup in
    let here = here_at c.args.lines.now c.saturating_sub.result c.in-Some.line.now c.in-Some.line.now found.3.0 found.1 in
    let at : c.saturating_sub.result ≡ c.args.number - 1 = search rules in
    rw (← at, here, ← c.is_allowed_line.ensures, c.if-is_allowed_line.true) c.script_code.ensures

pub returns-else-is_allowed_line : goal.returns-else-is_allowed_line
returns-else-is_allowed_line c =
    let found = c.in-Some.ensures.lookup in
    let here = here_at c.args.lines.now c.saturating_sub.result c.in-Some.line.now c.in-Some.line.now found.3.0 found.1 in
    let at : c.saturating_sub.result ≡ c.args.number - 1 = search rules in
    rw (← at, here, ← c.is_allowed_line.ensures, c.if-is_allowed_line.false) refl
