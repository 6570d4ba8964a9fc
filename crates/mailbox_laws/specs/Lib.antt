pub mod Mail
pub mod Protocol
pub mod Places
