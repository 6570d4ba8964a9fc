pub mod Flagging
pub mod Idle
pub mod Picked
pub mod Runs
