pub mod Images
pub mod Reading
pub mod Saves
pub mod Restores
