pub mod Kept
pub mod Far
