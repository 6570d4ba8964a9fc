pub mod Replies
pub mod Taken
pub mod WholeLists
pub mod Bodies
pub mod InTurns
