pub mod Slots
pub mod Idle
pub mod Absorbing
pub mod Stepping
pub mod Events
pub mod Ended
pub mod Plain
pub mod Fitting
