pub mod Ranges
pub mod Draws
pub mod Remainders
pub mod Sweeps
pub mod InOrder
pub mod Counts
pub mod InRange
