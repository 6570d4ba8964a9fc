pub mod NoVolume
