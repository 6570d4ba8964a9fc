pub mod Living
pub mod Pushing
pub mod Reports
pub mod SinceRead
pub mod Ran
pub mod Shown
