pub mod Order
pub mod Begins
pub mod Stretches
pub mod Levels
pub mod Groups
pub mod Lanes
pub mod Lines
pub mod Scan
