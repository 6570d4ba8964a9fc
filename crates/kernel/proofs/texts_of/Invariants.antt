use Rattle.std.proofs.Common.{◌≡◌, List, ℕ, take, map, string_bytes, Bor}
use Rattle.kernel.proofs.texts_of.Given as goal

abbrev pub invariant-loop-word : goal.invariant-loop-word
invariant-loop-word l = map (λ (w : Bor (List ℕ)). w.now) l.texts.items ≡ map string_bytes (take l.word-index l.words)
