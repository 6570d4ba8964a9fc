pub mod Teams
pub mod Rounds
pub mod Orders
