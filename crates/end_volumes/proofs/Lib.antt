pub mod FirstAnswers
pub mod AfterCells
pub mod AfterOrigins
pub mod AfterPaths
pub mod AfterVolume
pub mod AfterLaws
