pub mod Answers
pub mod Completing
