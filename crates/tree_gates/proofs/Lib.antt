pub mod Entries
pub mod Begun
pub mod Created
pub mod Deleted
pub mod Counted
