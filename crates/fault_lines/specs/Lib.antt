pub mod FaultLines
pub mod GridLines
pub mod Clash
