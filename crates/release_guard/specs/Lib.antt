pub mod Codes
pub mod Valid
pub mod Place
pub mod Rules
pub mod Text
pub mod Reading
pub mod Guard
pub mod Working
