pub mod Bends
pub mod Jogs
pub mod Nets
pub mod Building
