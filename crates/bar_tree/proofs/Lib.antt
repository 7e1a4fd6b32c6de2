pub mod Ends
pub mod Levels
