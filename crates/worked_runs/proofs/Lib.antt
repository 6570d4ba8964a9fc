pub mod LongRuns
pub mod TwoLooks
