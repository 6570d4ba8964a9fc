use Rattle.std.proofs.Common.{◌≡◌, ℕ, ◌/◌, List, length, sym, ap, subst, ◌∙◌}
use Rattle.std.specs.List.{All}
use Rattle.class_model.specs.Config.{Shared, classes}
use Rattle.config_text.specs.declared.config.Config.{Config}
use Rattle.machine.specs.Banks.{State}
use Rattle.machine.specs.Processing.{Processing}
use Rattle.machine.specs.Steps.{IsMachine}
use Rattle.processors.specs.Lists.{plan_of, banks_of, machine_with}
use Rattle.schedule.proofs.Ranges.{header}
use Rattle.command_threads.specs.Rounds.{plan_for}
use Rattle.command_threads.specs.Teams.{HasClassesOf}
use Rattle.command_threads.proofs.Beginning.{team_begins, first_plan, all_wide, banks_are, ran_as}
use Rattle.command_threads.proofs.rounds.run_rounds.Goals as goal

pub team_of-requires-clause-width : goal.team_of-requires-clause-width
team_of-requires-clause-width g c =
    let k : Config = c.args.config.now in
    let banks : c.reserve.new.self.items ≡ c.into_parts-words.result.banks = c.reserve.ensures.items ∙ c.into_items-banks.ensures in
    let table : c.into_parts-words.result.shared.table ≡ k.table = sym (ap (λ (m : State (List ℕ)). m.shared.table) c.into_parts-words.ensures.same) ∙ c.requires.table in
    subst (All (HasClassesOf k)) (sym banks) (all_wide k c.into_parts-words.result.shared _ c.into_parts-words.result.banks c.into_parts-words.ensures.fits table)

pub rounds-left-requires-clause-processors : goal.rounds-left-requires-clause-processors
rounds-left-requires-clause-processors g c κs within =
    let k : Config = c.args.config.now in
    let s : Shared = c.into_parts-words.result.shared in
    let banks : c.reserve.new.self.items ≡ c.into_parts-words.result.banks = c.reserve.ensures.items ∙ c.into_items-banks.ensures in
    let fits : IsMachine (length c.into_parts-words.result.words / 34869) c.reserve.new.self.items s = subst (λ (bs : List (List Processing)). IsMachine (length c.into_parts-words.result.words / 34869) bs s) (sym banks) c.into_parts-words.ensures.fits in
    let laid : length c.in_ok-begun.begun.words / 34869 ≡ classes s = ap (λ (ws : List ℕ). length ws / 34869) c.in_ok-begun.ensures.words ∙ fits.layout_is in
    team_begins k s c.in_ok-begun.begun _ c.reserve.new.self.items c.team_of.result fits laid (header k c.requires.valid).short_quantum c.team_of.ensures.team

pub returns : goal.returns
returns g c =
    let k : Config = c.args.config.now in
    let s : Shared = c.into_parts-words.result.shared in
    let banks : banks_of c.team_of.result ≡ c.into_parts-words.result.banks = banks_are k _ _ c.team_of.ensures.team ∙ (c.reserve.ensures.items ∙ c.into_items-banks.ensures) in
    let plan : plan_of c.team_of.result.first ≡ plan_for k = first_plan k _ _ c.team_of.ensures.team in
    let before : machine_with c.in_ok-begun.begun.words c.team_of.result s ≡ c.args.machine = (λ i. record { words = c.in_ok-begun.ensures.words i; banks = banks i; shared = s }) ∙ sym c.into_parts-words.ensures.same in
    let back = c.of.ensures ∙ c.put_back.ensures in
    let after : c.from_parts.result ≡ machine_with c.rounds-left.new.into c.rounds-left.result.processors c.rounds-left.result.shared =
    c.from_parts.ensures ∙ (λ i. record { words = c.rounds-left.new.into; banks = back i; shared = c.rounds-left.result.shared }) in
    ran_as k _ _ _ _ _ _ _ plan before after c.rounds-left.ensures.runs
