pub mod Names
pub mod Begun
pub mod Faults
pub mod Together
