pub mod Flags
pub mod LowRuns
