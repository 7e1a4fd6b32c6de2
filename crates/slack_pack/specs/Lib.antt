pub mod Most
pub mod Slacks
