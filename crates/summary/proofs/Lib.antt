pub mod Counts
pub mod Off
pub mod Agreeing
