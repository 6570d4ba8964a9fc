-- What a class's turn at its part, with a segment's turn in it, asks for outside the bodies.
use Rattle.std.proofs.Common.{ℕ, ◌≡◌, false, refl}
use Rattle.std.specs.Prelude.{◌||◌}
use Rattle.words_layout.specs.declared.segment.SegId.{SegId}
use Rattle.turns.specs.Bodies.{Inner, Outer}
use Rattle.turns.specs.Doing.{ClassTurn}
use Rattle.turns.specs.Nest.{in_outer, in_inner, nested_asks}
use Rattle.turns.specs.Stands.{step_op, nesting}
use Rattle.turns.specs.declared.turn.TurnPart.TheVariants as T
use Rattle.turns.specs.declared.nested.NestedPart.{NestedPart}
use Rattle.turns.specs.declared.nested.NestedPart.TheVariants as N

-- outside the bodies the turns ask what the instruction asks
pub nesting_asks : {R : Type 0} (d : ℕ) (u : SegId) (p : NestedPart) (whole rest : Outer R) (inner left : Inner R) (shown : R) → (in_outer p || in_inner p) ≡ false →
    step_op d (ClassTurn whole) (nesting u p whole rest inner left shown) ≡ nested_asks d u p
nesting_asks d u (N.Outer T.First) whole rest inner left shown out = refl
nesting_asks d u (N.Outer T.Second) whole rest inner left shown out = refl
nesting_asks d u (N.Outer (T.Third t)) whole rest inner left shown out = refl
nesting_asks d u (N.Outer (T.Held t)) whole rest inner left shown out = cc
nesting_asks d u (N.Outer (T.Last t)) whole rest inner left shown out = refl
nesting_asks d u (N.Inner n T.First) whole rest inner left shown out = refl
nesting_asks d u (N.Inner n T.Second) whole rest inner left shown out = refl
nesting_asks d u (N.Inner n (T.Third t)) whole rest inner left shown out = refl
nesting_asks d u (N.Inner n (T.Held t)) whole rest inner left shown out = cc
nesting_asks d u (N.Inner n (T.Last t)) whole rest inner left shown out = refl
nesting_asks d u (N.Leaving t) whole rest inner left shown out = refl
