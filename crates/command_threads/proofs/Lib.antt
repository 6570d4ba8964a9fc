pub mod Ranges
pub mod Popping
pub mod Beginning
pub mod Ordered
