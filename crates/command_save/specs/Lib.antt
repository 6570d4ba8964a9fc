pub mod Disks
pub mod Keeping
pub mod Images
pub mod Read
pub mod Shows
pub mod Input
