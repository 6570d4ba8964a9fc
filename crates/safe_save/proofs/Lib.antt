pub mod Moments
pub mod Images
pub mod Halves
pub mod Runs
pub mod Drawing
pub mod Syncs
pub mod Views
pub mod MemoryCalls
