use Rattle.std.proofs.Common.{ℕ, List, length, ap, ◌∙◌}
use Rattle.words_layout.specs.Named.{words_in}
use Rattle.machine.specs.Banks.{State}
use Rattle.loader.specs.Configuration.{configuration}
use Rattle.loader.specs.Seen.{seen}
use Rattle.loader.proofs.Banks.{banks_length}
use Rattle.loader.proofs.Loaded.{machine_is, parts_fit}
use Rattle.loader.proofs.opening.machine_seen.Goals as goal

pub from_parts-requires : goal.from_parts-requires
from_parts-requires c = parts_fit c.args.config.now c.requires.valid c.args.view _ c.in_ok-banks.banks c.in_ok-shared.shared (c.in_ok-words.ensures.layout ∙ c.count.ensures) c.in_ok-banks.ensures c.in_ok-shared.ensures

pub returns-clause-opening : goal.returns-clause-opening
returns-clause-opening c = λ all same. machine_is c.args.config.now c.requires.valid c.args.view c.from_parts.result
    (ap (λ (m : State (List ℕ)). m.banks) c.from_parts.ensures ∙ c.in_ok-banks.ensures)
    (ap (λ (m : State (List ℕ)). m.shared) c.from_parts.ensures ∙ c.in_ok-shared.ensures)
    all (λ d. ap (λ (m : State (List ℕ)). words_in m.words d) c.from_parts.ensures ∙ c.in_ok-words.ensures.words (seen (configuration c.args.config.now all) c.args.view) same d)

pub returns-clause-processors : goal.returns-clause-processors
returns-clause-processors c = ap (λ (m : State (List ℕ)). length m.banks) c.from_parts.ensures ∙ ap length c.in_ok-banks.ensures ∙ banks_length c.args.config.now c.requires.valid c.args.view
