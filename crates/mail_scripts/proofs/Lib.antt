pub mod Spelled
pub mod Post
pub mod Collect
