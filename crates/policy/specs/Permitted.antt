-- What the policy asks, in the words of its sources: Bell-LaPadula for secrecy, Biba for integrity, and the ring brackets.
use Rattle.std.specs.Prelude.{◌≡◌, ℕ, ◌≤◌, true}
use Rattle.labels.specs.Label.{Label}
use Rattle.labels.specs.Order.{SecrecyDominates, IntegrityDominates}
use Rattle.rings.specs.Brackets.{Brackets}
use Rattle.policy.specs.Known.{observes, modifies}

-- a subject in a ring may observe an object
pub record MayObserve (subject : Label) (ring : ℕ) (object : Label) (brackets : Brackets) : Type 0 where
  pub no_read_up : SecrecyDominates subject object
  pub no_read_down : IntegrityDominates object subject
  pub ring_reads : ring ≤ brackets.r2

-- a subject in a ring may modify an object
pub record MayModify (subject : Label) (ring : ℕ) (object : Label) (brackets : Brackets) : Type 0 where
  pub no_write_down : SecrecyDominates object subject
  pub no_write_up : IntegrityDominates subject object
  pub ring_writes : ring ≤ brackets.r1

-- what is wanted is permitted
pub record IsPermitted (subject : Label) (ring : ℕ) (object : Label) (brackets : Brackets) (want : ℕ) : Type 0 where
  pub observing : observes want ≡ true → MayObserve subject ring object brackets
  pub modifying : modifies want ≡ true → MayModify subject ring object brackets
