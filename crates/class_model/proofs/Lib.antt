pub mod Overwrites
pub mod SharedLaws
pub mod Plans
pub mod Programs
pub mod Passed
pub mod Passes
