pub mod Stopping
pub mod Coming
pub mod Once
pub mod Readers
mod Scripts
