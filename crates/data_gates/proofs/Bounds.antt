-- What the test of the bounds gives where it is passed.
pub use Rattle.policy.proofs.Passed.{fetch_bounds, update_bounds}
