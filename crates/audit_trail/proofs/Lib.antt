pub mod Read
pub mod Asking
pub mod Small
pub mod Written
pub mod Trails
pub mod Lined
pub mod LineText
