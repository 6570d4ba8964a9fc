pub mod Valid
pub mod Written
pub mod Steps
pub mod Fields
pub mod Volumes
pub mod Puts
pub mod Images
