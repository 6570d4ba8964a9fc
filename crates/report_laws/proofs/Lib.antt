pub mod Printing
pub mod Paged
pub mod Recorded
pub mod OpeningHolds
pub mod LiveSections
pub mod SameSections
pub mod LowSections
pub mod ShownLaws
