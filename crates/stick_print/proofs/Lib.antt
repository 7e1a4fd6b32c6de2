pub mod Split
pub mod Spelled
pub mod Statements
pub mod Whole
pub mod Taken
pub mod Growing
