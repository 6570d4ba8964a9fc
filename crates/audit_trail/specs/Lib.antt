pub mod Instructions
pub mod Trail
pub mod Lines
pub mod Dues
