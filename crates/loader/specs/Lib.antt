pub mod Configuration
pub mod Seen
pub mod Loading
pub mod Records
pub mod Refusals
pub mod Stores
pub mod Building
