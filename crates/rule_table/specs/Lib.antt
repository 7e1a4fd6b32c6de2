pub mod Keys
pub mod Spacing
pub mod Faults
pub mod Bounds
pub mod Technology
