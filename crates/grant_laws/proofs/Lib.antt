pub mod Kept
pub mod Effects
pub mod Grants
pub mod History
pub mod LastLooks
pub mod Owners
pub mod Scripts
