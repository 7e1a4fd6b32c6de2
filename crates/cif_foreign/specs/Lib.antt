pub mod Meaning
pub mod Files
pub mod Counts
