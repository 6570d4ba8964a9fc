pub mod Bits
pub mod Verdicts
pub mod Passed
