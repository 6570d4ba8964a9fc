pub mod StatusNumber
pub mod Input
pub mod Answer
pub mod Reading
