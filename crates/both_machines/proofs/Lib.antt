pub mod OneVolume
pub mod TwoVolumes
