pub mod Own
pub mod Following
pub mod Exact
pub mod Quiet
pub mod First
pub mod Crossed
pub mod Segments
pub mod Resting
