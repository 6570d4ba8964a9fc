-- What holds of the scripts and gates that are there.
use Rattle.std.proofs.Common.{ℕ, ◌≡◌, ◌<◌, Option, Some, None, Bor, sym}
use Rattle.std.specs.Prelude.{IfSome}
use Rattle.std.specs.Option.{option_map}
use Rattle.class_model.specs.Config.{Shared, Script, Gate, classes}
use Rattle.class_model.specs.Shared.{IsShared, script_at, gate_at}

-- the class of a script is in the table
pub script_class : (s : Shared) (place : ℕ) (o : Option (Bor Script)) → IsShared s →
    option_map (λ (b : Bor Script). b.now) o ≡ script_at s place → IfSome o (λ b. b.now.class < classes s)
script_class s place None h e = tt
script_class s place (Some b) h e = (h.script place b.now (sym e)).class

-- the class of a gate is in the table
pub gate_class : (s : Shared) (place : ℕ) (o : Option Gate) → IsShared s → o ≡ gate_at s place → IfSome o (λ g. g.class < classes s)
gate_class s place None h e = tt
gate_class s place (Some g) h e = (h.gate place g (sym e)).class
