use Rattle.std.proofs.Common.{◌≡◌, ℕ, List, map, string_bytes, Bor, inr, sym, subst, ap, ◌∙◌}
use Rattle.command_words.specs.declared.asked.Plan.TheVariants.{Sim, Run}
use Rattle.command_words.specs.Words.{Accepts}
use Rattle.kernel.proofs.run.Goals as goal

-- the words that are handed on are those of the process
pub returns-in-Ok-clause-sim : goal.returns-in-Ok-clause-sim
returns-in-Ok-clause-sim g c = inr (λ h. (c.store_main.ensures.shows Sim (ap (map (λ (w : Bor (List ℕ)). w.now)) c.as_slice.ensures.value ∙ c.in-Ok.ensures ∙ h)).0)

pub returns-in-Ok-clause-run : goal.returns-in-Ok-clause-run
returns-in-Ok-clause-run g c = inr (λ h. (c.store_main.ensures.shows Run (ap (map (λ (w : Bor (List ℕ)). w.now)) c.as_slice.ensures.value ∙ c.in-Ok.ensures ∙ h)).0)
