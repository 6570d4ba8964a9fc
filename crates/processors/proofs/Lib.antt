pub mod Banks
pub mod Living
pub mod Taking
pub mod Gathering
pub mod Between
pub mod Turning
