pub mod Turns
pub mod Logs
pub mod Live
pub mod Rounds
