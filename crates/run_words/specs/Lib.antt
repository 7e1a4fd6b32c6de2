pub mod Values
pub mod Lines
pub mod Words
pub mod Commands
pub mod Names
pub mod Faults
pub mod PlainLines
