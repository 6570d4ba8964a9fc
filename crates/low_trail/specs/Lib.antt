pub mod LowTrail
