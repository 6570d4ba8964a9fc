pub mod Shown
pub mod Guarded
