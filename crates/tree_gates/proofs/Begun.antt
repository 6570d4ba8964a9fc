-- A known segment that may be used is within the limits.
use Rattle.std.proofs.Common.{ℕ, ◌≡◌, subst, Option, Some}
use Rattle.policy.specs.Known.{Known, usable}
use Rattle.policy.proofs.Passed.{usable_known}
use Rattle.gate_parts.specs.Replies.{IsKnown, KnownTo}

pub usable_within : (d : ℕ) (known : Option Known) (k : Known) → KnownTo d known → usable known ≡ Some k → IsKnown k
usable_within d known k within e = (subst (KnownTo d) (usable_known known k e) within).0
