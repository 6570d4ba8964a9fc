pub mod Pieces
pub mod Joined
pub mod PlainLines
pub mod PrintedConfig
