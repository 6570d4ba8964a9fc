use Rattle.std.proofs.Common.{◌≡◌, ℕ, List, slice_index_or, refl, ap, subst, ◌∙◌}
use Rattle.std.specs.declared.option.Option.TheVariants.{None}
use Rattle.host_ports.specs.Ports.{HasCause, Port}
use Rattle.host_ports.proofs.files.FileHostHost.push.Goals as goal

abbrev counted : ℕ → ℕ → Port
counted pulls pushes = record { left = None; taken = None; pulls = pulls; pushes = pushes }

counted_as : (a b c d : ℕ) → a ≡ b → c ≡ d → counted a c ≡ counted b d
counted_as a b c d e f = ap (λ (n : ℕ). counted n c) e ∙ ap (counted b) f

pub returns-clause-cause : goal.returns-clause-cause
returns-clause-cause g c = subst (λ (counts : List ℕ). HasCause {T = ℕ} (slice_index_or counts c.args.port 0) (slice_index_or c.answer.new.counts c.args.port 0) c.answer.result) c.write.ensures.pushes c.answer.ensures.cause

pub returns-clause-keeps : goal.returns-clause-keeps
returns-clause-keeps g c = record {
  left = refl;
  pulls = ap (λ (counts : List ℕ). slice_index_or counts c.args.port 0) c.write.ensures.pulls;
  others = λ p n. counted_as _ _ _ _ (ap (λ (counts : List ℕ). slice_index_or counts p 0) c.write.ensures.pulls) (c.answer.ensures.others p n ∙ ap (λ (counts : List ℕ). slice_index_or counts p 0) c.write.ensures.pushes);
}
