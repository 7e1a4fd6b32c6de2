pub mod Blocks
pub mod Answers
pub mod Taken
pub mod Ranges
