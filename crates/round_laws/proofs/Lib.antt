pub mod Ports
pub mod Idle
pub mod Merge
pub mod Cut
pub mod Rounds
pub mod Live
