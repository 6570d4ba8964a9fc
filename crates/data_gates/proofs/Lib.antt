pub mod Fetched
pub mod Updated
pub mod Bounds
pub mod Counted
