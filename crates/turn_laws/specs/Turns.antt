-- What the started, ticket and finished words of a guard count: those of a class, or of one of its segments.
use Rattle.std.specs.Prelude.{ℕ, ◌+◌, ◌<◌, ◌≤◌, ◌≡◌, List, length}
use Rattle.words_layout.specs.Sizes.{max_events}
use Rattle.words_layout.specs.Words.{Guard}
use Rattle.words_layout.specs.declared.op.Event.{Event}
use Rattle.class_model.specs.Config.{Config}
use Rattle.class_model.specs.Valid.{IsConfig}
use Rattle.turns.specs.Stage.{Has}
use Rattle.machine.specs.Machine.{ClassPart, slot_at}
use Rattle.machine.specs.Opening.{machine}
use Rattle.effect_laws.specs.Turns.{stage_of, Held, between, holding}

-- The turns of a guard: those started are those finished, those between and those holding; the tickets drawn are those finished and
-- those held. A ticket that is held is one of those drawn and not yet served, no two processes hold the same one, and who is past its
-- third step holds the next to be served.
pub record AreCounted (g : Guard) (part : ClassPart) : Type 0 where
  pub started : part.words.started g ≡ part.words.finished g + between g part + holding g part
  pub drawn : part.words.tickets g ≡ part.words.finished g + holding g part
  pub range : (p i t : ℕ) → Held (stage_of g (slot_at (part.vp p) i)) t → (part.words.finished g ≤ t) × (t < part.words.tickets g)
  pub distinct : (p i q j t : ℕ) → Held (stage_of g (slot_at (part.vp p) i)) t → Held (stage_of g (slot_at (part.vp q) j)) t → (p ≡ q) × (i ≡ j)
  pub inside : (p i t : ℕ) → stage_of g (slot_at (part.vp p) i) ≡ Has t → t ≡ part.words.finished g

-- so it is of each guard of each class, after any events
abbrev pub TurnsAreCounted : Type 0
TurnsAreCounted = (k : Config) (events : List Event) (d : ℕ) (g : Guard) → IsConfig k → length events ≤ max_events → AreCounted g ((machine k events).part d)
