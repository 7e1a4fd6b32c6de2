pub mod Wiring
pub mod Sound
pub mod Counts
pub mod Nets
pub mod Ports
