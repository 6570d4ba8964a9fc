pub mod Written
pub mod Valid
pub mod Codes
pub mod Place
pub mod Rules
pub mod Views
pub mod Reading
pub mod Text
