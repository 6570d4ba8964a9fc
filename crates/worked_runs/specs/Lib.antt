pub mod Cases
pub mod TwoLooks
pub mod Granting
pub mod Refusing
pub mod TurnNumbers
