pub mod Disk
pub mod Kept
pub mod Memory
pub mod Entries
pub mod Writing
pub mod MemoryLaws
